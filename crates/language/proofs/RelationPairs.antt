-- What is proved of specs' RelationPairs. Which numbers stand in a relation, # among them, and what an answer of relation_of says of its pair.
--
-- Main statements: equal-pair, yields-pair, takes-pair; relation-told, relation-says; end-relations, end-equal, unused-blank.
use Rattle.std.specs.Prelude.{◌≡◌, refl, Bool, true, false, [], ◌∷◌, ◌⊎◌, ℕ, ◌<◌, ◌≤◌, leb}
use Rattle.std.proofs.Math.Bool.{and-false}
use Rattle.std.proofs.Common.{inl, inr, arith}
use Rattle.laws.specs.Tests.{le-leb, lt-leb, not-both, both-and}
use Rattle.language.specs.Symbols.{terminal, nonterminal, Relation, blank, equal}
use Rattle.language.specs.Grammar.{Grammar}
use Rattle.language.specs.Relations.{Equal, equal_then, equal_around, equal_ends, Yields, yields_within, yields_first, Takes, takes_within, takes_last}
use Rattle.language.proofs.RightSides.{has_part}
use Rattle.language.specs.SetMasks.{InRange}
use Rattle.language.proofs.SetMasks.{terminal-in, left-within, right-within}
use Rattle.language.specs.RelationTests.{equal_test, yields_test, takes_test, in_use, first_of, relation_of}
use Rattle.language.proofs.RelationTests.{equal-exactly, yields-exactly, takes-exactly}
use Rattle.language.specs.RelationPairs.{EndRelations, EqualPair, Says, TakesPair, Told, YieldsPair, told_blank, told_equal, told_takes, told_yields}

module _ {g : Grammar} (range : InRange g) {a b : ℕ} where
  pub equal-pair : Equal g a b → EqualPair g a b
  equal-pair (equal_then s h) =
      let p = terminal-in range s (has_part [] (terminal a ∷ []) (terminal b ∷ []) h) in
      let q = terminal-in range s (has_part (terminal a ∷ []) (terminal b ∷ []) [] h) in
      omega arith
  equal-pair (equal_around {k = k} s h) =
      let p = terminal-in range s (has_part [] (terminal a ∷ []) (nonterminal k ∷ terminal b ∷ []) h) in
      let q = terminal-in range s (has_part (terminal a ∷ nonterminal k ∷ []) (terminal b ∷ []) [] h) in
      omega arith
  equal-pair (equal_ends p q) = omega arith

  pub yields-pair : Yields g a b → YieldsPair g a b
  yields-pair (yields_within {d = d} s h l) =
      let p = terminal-in range s (has_part [] (terminal a ∷ []) (nonterminal d ∷ []) h) in
      let q = left-within range l in
      omega arith
  yields-pair (yields_first e i l) = let q = left-within range l in omega arith

  pub takes-pair : Takes g a b → TakesPair g a b
  takes-pair (takes_within {d = d} s h l) =
      let p = terminal-in range s (has_part (nonterminal d ∷ []) (terminal b ∷ []) [] h) in
      let q = right-within range l in
      omega arith
  takes-pair (takes_last e i l) = let q = right-within range l in omega arith

pub in-use : (g : Grammar) (a b : ℕ) → a ≤ g.terminals → b ≤ g.terminals → in_use g a b ≡ true
in-use g a b p q = both-and (leb a g.terminals) (leb b g.terminals) (le-leb a g.terminals p) (le-leb b g.terminals q)

pub relation-told : {g : Grammar} → InRange g → (a b : ℕ) → Told g a b (relation_of g a b)
unfolding relation_of
relation-told {g} range a b = go (in_use g a b) (equal_test g a b) (yields_test g a b) (takes_test g a b) refl refl refl refl
  where
    not_equal : equal_test g a b ≡ false → Equal g a b → ⊥
    not_equal e h = not-both (equal_test g a b) ((equal-exactly g a b).1 h) e

    not-yields : yields_test g a b ≡ false → Yields g a b → ⊥
    not-yields y h = not-both (yields_test g a b) ((yields-exactly range a b).1 h) y

    not-takes : takes_test g a b ≡ false → Takes g a b → ⊥
    not-takes t h = not-both (takes_test g a b) ((takes-exactly range a b).1 h) t

    unused : in_use g a b ≡ false → a ≤ g.terminals → b ≤ g.terminals → ⊥
    unused u p q = not-both (in_use g a b) (in-use g a b p q) u

    go : (u e y t : Bool) → in_use g a b ≡ u → equal_test g a b ≡ e → yields_test g a b ≡ y → takes_test g a b ≡ t
        → Told g a b (elim u as (λ v. Relation) [ false ↦ blank | true ↦ first_of e y t ])
    go false e y t pu pe py pt =
        told_blank (λ h. let p = equal-pair range h in unused pu p.left_used p.right_used)
        (λ h. let p = yields-pair range h in unused pu p.left_used p.right_used)
        (λ h. let p = takes-pair range h in unused pu p.left_used p.right_used)
    go true true y t pu pe py pt = told_equal ((equal-exactly g a b).0 pe)
    go true false true t pu pe py pt = told_yields (not_equal pe) ((yields-exactly range a b).0 py)
    go true false false true pu pe py pt = told_takes (not_equal pe) (not-yields py) ((takes-exactly range a b).0 pt)
    go true false false false pu pe py pt = told_blank (not_equal pe) (not-yields py) (not-takes pt)

pub relation-says : {g : Grammar} → InRange g → (a b : ℕ) → Says g a b (relation_of g a b)
relation-says {g} range a b = go (relation-told range a b)
  where
    go : {r : Relation} → Told g a b r → Says g a b r
    go (told_equal e) = e
    go (told_yields ne y) = y
    go (told_takes ne ny t) = t
    go (told_blank ne ny nt) = tt

pub end-relations : {g : Grammar} → InRange g → EndRelations g
end-relations {g} range = record {
  nothing_yields = λ a q. let y : Yields g a 0 = rw q at (relation-says range a 0) in omega (arith, (yields-pair range y).right_terminal);
  never_takes = λ b q. let t : Takes g 0 b = rw q at (relation-says range 0 b) in omega (arith, (takes-pair range t).left_terminal);
  equal_after = λ b q. let e : Equal g 0 b = rw q at (relation-says range 0 b) in (equal-pair range e).end_after refl;
  equal_before = λ a q. let e : Equal g a 0 = rw q at (relation-says range a 0) in (equal-pair range e).end_before refl;
}

-- # equals #, in every grammar
pub end-equal : (g : Grammar) → relation_of g 0 0 ≡ equal
unfolding relation_of
end-equal g = rw (in-use g 0 0 (omega arith) (omega arith), relation_of) (rw ((equal-exactly g 0 0).1 (equal_ends refl refl)))

-- a pair with a number past T is blank
pub unused-blank : (g : Grammar) (a b : ℕ) → (g.terminals < a) ⊎ (g.terminals < b) → relation_of g a b ≡ blank
unfolding relation_of
unused-blank g a b (inl h) = rw (lt-leb a g.terminals h, relation_of)
unused-blank g a b (inr h) =
    let u : in_use g a b ≡ false = rw (lt-leb b g.terminals h) (and-false (leb a g.terminals)) in
    rw (u, relation_of)
