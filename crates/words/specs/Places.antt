-- The body in which a word place lies, and that check 3 asks a place of that body alone.
-- Document 01, "The grammar words" and 3 SYMBOL: "a body word is no nonterminal (left) or no symbol".
-- Rests on Laid and on language's CheckSymbols.
--
-- Main definitions: Lies, wrong_word. Main statements: lies-first, lies-on, lies-next, asked_here, asked-word, asked-before.
use Rattle.std.specs.Prelude.{◌≡◌, refl, Bool, true, false, List, ℕ, suc, ◌+◌, ◌≤◌, ◌<◌, leb, eqb, length}
use Rattle.std.proofs.Math.Bool.{or-false}
use Rattle.std.proofs.Common.{sym, ◌∙◌, arith, add-one}
use Rattle.std.proofs.Math.Decide.{dec_lt, ℕ_discrete}
use Rattle.laws.specs.Tests.{eq-eqb, ne_eqb, lt-ltb, le-ltb, any_below-iff, same_test, false-unless, not-both}
use Rattle.language.specs.Words.{word, count_n, count_r, entry, body_end}
use Rattle.language.specs.CheckSymbols.{no_symbol, wrong_in, bad_symbol}
use Rattle.words.specs.Laid.{Laid, ends_next, ends_last, rises}

-- the word w, as a left side or in a right side, is a wrong one
abbrev pub wrong_word : List ℕ → Bool → ℕ → Bool
wrong_word words true w = leb (count_n words) w
wrong_word words false w = no_symbol words w

-- place p lies in the body of rule r
pub record Lies (words : List ℕ) (p r : ℕ) : Type 0 where
  pub rule : r < count_r words
  pub starts : entry words r ≤ p
  pub ends : p < body_end words r

module _ (words : List ℕ) (p r : ℕ) where
  -- the left side is asked to be a nonterminal
  pub wrong-left : entry words r ≡ p → wrong_in words p r ≡ leb (count_n words) (word words p)
  wrong-left e = rw (e, eq-eqb p p refl, le-ltb p p (omega arith)) (or-false (leb (count_n words) (word words p)))

  -- the right side is asked for symbols
  pub wrong-right : entry words r < p → p < body_end words r → wrong_in words p r ≡ no_symbol words (word words p)
  wrong-right h k = let d : p ≡ entry words r → ⊥ = omega arith in rw (ne_eqb p (entry words r) d, lt-ltb (entry words r) p h, lt-ltb p (body_end words r) k)

  -- a place outside a body is not asked there
  not-before : p < entry words r → wrong_in words p r ≡ false
  not-before h = let d : p ≡ entry words r → ⊥ = omega arith in rw (ne_eqb p (entry words r) d, le-ltb (entry words r) p (omega arith))

  not_after : entry words r < p → body_end words r ≤ p → wrong_in words p r ≡ false
  not_after h k =
      let d : p ≡ entry words r → ⊥ = omega arith in
      rw (ne_eqb p (entry words r) d, lt-ltb (entry words r) p h, le-ltb p (body_end words r) k)

-- before its end the body goes on
pub lies-on : {words : List ℕ} {p r : ℕ} → Lies words p r → p + 1 < body_end words r → Lies words (p + 1) r
lies-on here h = record { rule = here.rule; starts = omega (arith, here.starts); ends = h }

module _ (words : List ℕ) (l : Laid words) where
  -- the first body starts after the entries
  pub lies-first : Lies words (4 + count_r words) 0
  lies-first = let some : 0 < count_r words = l.headed.some_rule in record { rule = some; starts = omega (arith, l.first); ends = omega (arith, l.first, l.least 0 some) }

  -- just past a body the next one starts
  pub lies-next : {p r : ℕ} → Lies words p r → body_end words r ≤ p + 1 → p + 1 < length words → Lies words (p + 1) (r + 1)
  lies-next {p} {r} here e k = go (dec_lt (suc r) (count_r words))
    where
      go : Dec (suc r < count_r words) → Lies words (p + 1) (r + 1)
      go (yes i) =
          let q = ends_next words r i in
          rw (add-one r) (record { rule = i; starts = omega arith; ends = omega (arith, here.ends, l.least (suc r) i) })
      go (no i) = absurd (omega (arith, ends_last words r (omega arith)))

  -- a place of rule r's body is asked there and nowhere else
  pub asked_here : (p r : ℕ) → Lies words p r → bad_symbol words p ≡ wrong_in words p r
  asked_here p r h = same_test (bad_symbol words p) (wrong_in words p r) to (λ e. (any_below-iff (wrong_in words p) (count_r words)).1 (r, h.rule, e))
    where
      other : (q : ℕ) → q < count_r words → Dec (q < r) → Dec (r < q) → wrong_in words p q ≡ true → wrong_in words p r ≡ true
      other q k (yes i) j e =
          let b = rises words l q r i h.rule in
          absurd (not-both (wrong_in words p q) e (not_after words p q (omega (arith, h.starts, l.least q k)) (omega (arith, h.starts))))
      other q k (no i) (yes j) e =
          let b = rises words l r q j k in
          absurd (not-both (wrong_in words p q) e (not-before words p q (omega (arith, h.ends))))
      other q k (no i) (no j) e = let z : r ≡ q = omega arith in rw z e

      to : bad_symbol words p ≡ true → wrong_in words p r ≡ true
      to e = let k = (any_below-iff (wrong_in words p) (count_r words)).0 e in other k.0 k.1 (dec_lt k.0 r) (dec_lt r k.0) k.2

  -- and what is asked there
  pub asked-word : (p r : ℕ) → Lies words p r → bad_symbol words p ≡ wrong_word words (eqb p (entry words r)) (word words p)
  asked-word p r h = asked_here p r h ∙ go (ℕ_discrete p (entry words r))
    where
      go : Dec (p ≡ entry words r) → wrong_in words p r ≡ wrong_word words (eqb p (entry words r)) (word words p)
      go (yes e) = wrong-left words p r (sym e) ∙ rw (eq-eqb p (entry words r) e)
      go (no n) = wrong-right words p r (omega (arith, h.starts)) h.ends ∙ rw (ne_eqb p (entry words r) n)

  -- a place before the bodies is not asked
  pub asked-before : (p : ℕ) → p < 4 + count_r words → bad_symbol words p ≡ false
  asked-before p h = false-unless (bad_symbol words p) (λ e. let k = (any_below-iff (wrong_in words p) (count_r words)).0 e in out k.0 k.1 k.2)
    where
      start : (r : ℕ) → r < count_r words → Dec (0 < r) → 4 + count_r words ≤ entry words r
      start r k (yes i) = omega (arith, l.first, l.least 0 (omega arith), rises words l 0 r i k)
      start r k (no i) = let z : r ≡ 0 = omega arith in rw z (omega (arith, l.first))

      out : (r : ℕ) → r < count_r words → wrong_in words p r ≡ true → ⊥
      out r k e = not-both (wrong_in words p r) e (not-before words p r (omega (arith, start r k (dec_lt 0 r))))
