-- What is proved of specs' Matching. Matching: the least rule whose right side is the given string.
--
-- Main statements: matching-least and matching-none (what an answer says), matching_of (without twins it is the one rule).
use Rattle.std.specs.Prelude.{◌≡◌, refl, Bool, true, false, ◌↔◌, ℕ, zero, suc, ◌<◌, length}
use mathlib.Core.List.Memᴰ
use mathlib.Core.List.{List, ◌∷◌, Memᴰ}
use Rattle.std.proofs.Common.{⊎_elim, arith}
use Rattle.std.proofs.Math.Option.{Option, none, some}
use Rattle.laws.specs.Tests.{not-both, up_to-below}
use Rattle.laws.specs.Least.{Least, Nowhere, Finds, nowhere, least, finds-some, finds-none}
use Rattle.language.specs.Symbols.{Symbol}
use Rattle.language.proofs.Symbols.{same_string-eq, same_string-refl}
use Rattle.language.specs.Grammar.{Grammar, rule_at, up_to, in_play, Spells, spells}
use Rattle.language.specs.Pairwise.{Pairwise, nil, cons}
use Rattle.language.proofs.Pairwise.{pairwise_append}
use Rattle.language.specs.Matching.{NoTwins, first_spelling, matching}

up_to-rising : (n : ℕ) → Pairwise ◌<◌ (up_to n)
up_to-rising zero = nil
up_to-rising (suc n) =
    pairwise_append (up_to-rising n) (cons (λ q m. absurd (Memᴰ.not-nil m)) nil)
    (λ q r m k. rw (Memᴰ.eq_of_singleton k) (up_to-below n q m))

-- the rules in play stand in rising order
pub in-play-rising : (g : Grammar) → Pairwise ◌<◌ (in_play g)
unfolding in_play
in-play-rising g = up_to-rising (length g.rules)

module _ (g : Grammar) (w : List Symbol) where
  -- rule r is on the list and passes the test
  abbrev Passes : List ℕ → ℕ → Type 0
  Passes rules r = Memᴰ r rules × (spells g r w ≡ true)

  later : {r q : ℕ} {rules : List ℕ} → spells g r w ≡ false → Passes (r ∷ rules) q → Passes rules q
  later {r} {q} e (Memᴰ.head p, t) = absurd (not-both (spells g r w) (rw p at t) e)
  later e (Memᴰ.tail m, t) = (m, t)

  search-on : {r : ℕ} {rules : List ℕ} {o : Option ℕ} (b : Bool) → spells g r w ≡ b → ((q : ℕ) → Memᴰ q rules → r < q)
      → Finds (Passes rules) o → Finds (Passes (r ∷ rules)) (elim b [ true ↦ some r | false ↦ o ])
  search-on true e a s =
      least (record {
        holds = (Memᴰ.head refl, e);
        least = λ q l p. ⊎_elim (λ k. omega arith) (λ k. omega (arith, a q k)) (Memᴰ.cases_cons p.0);
      })
  search-on false e a (nowhere h) = nowhere (λ q p. h q (later e p))
  search-on false e a (least l) =
      least (record { holds = (Memᴰ.tail l.holds.0, l.holds.1); least = λ q h p. l.least q h (later e p) })

  searched : {rules : List ℕ} → Pairwise ◌<◌ rules → Finds (Passes rules) (first_spelling g w rules)
  searched nil = nowhere (λ q p. Memᴰ.not-nil p.0)
  searched (cons {x = r} a i) = search-on (spells g r w) refl a (searched i)

  spells-of : {r : ℕ} → Spells g r w → Passes (in_play g) r
  spells-of s = (s.plays, rw s.spelling (same_string-refl w))

  of-spells : (r : ℕ) → Passes (in_play g) r → Spells g r w
  of-spells r p = record { plays = p.0; spelling = same_string-eq (rule_at g r).right w p.1 }

  spelled : {o : Option ℕ} → Finds (Passes (in_play g)) o → Finds (λ r. Spells g r w) o
  spelled (nowhere h) = nowhere (λ q s. h q (spells-of s))
  spelled (least {v = r} l) = least (record { holds = of-spells r l.holds; least = λ q h s. l.least q h (spells-of s) })

  -- matching finds the least rule that spells w
  pub matching-finds : Finds (λ r. Spells g r w) (matching g w)
  matching-finds = spelled (searched (in-play-rising g))

  -- it answers r exactly when r spells w and no smaller rule does
  pub matching-least : (r : ℕ) → (matching g w ≡ some r) ↔ Least (λ q. Spells g q w) r
  matching-least = finds-some matching-finds

  -- it answers none exactly when no rule spells w
  pub matching-none : (matching g w ≡ none) ↔ Nowhere (λ q. Spells g q w)
  matching-none = finds-none matching-finds

pub spelled_by : {g : Grammar} {r : ℕ} (w : List Symbol) → matching g w ≡ some r → Spells g r w
spelled_by {g} {r} w e = ((matching-least g w r).0 e).holds

-- then matching finds the one rule that spells a string
pub matching_of : {g : Grammar} {r : ℕ} {w : List Symbol} → NoTwins g → Spells g r w → matching g w ≡ some r
matching_of {g} {r} {w} one s = (matching-least g w r).1 (record { holds = s; least = λ q l t. omega (arith, one q r w t s) })
