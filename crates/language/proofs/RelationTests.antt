-- What is proved of specs' RelationTests. Equal, yields and takes worked out for one pair, with # and the axioms; each proved equal to the proposition.
--
-- Main statements: equal-exactly, yields-exactly, takes-exactly.
use Rattle.std.specs.Prelude.{◌≡◌, true, ◌&&◌, ◌||◌, ◌↔◌, ◌⊎◌, ℕ, eqb}
use Rattle.std.proofs.Common.{inl, inr}
use Rattle.laws.specs.Tests.{eqb-true, eq-eqb, and_both, both-and, or_cases, or-first, or-second, any_below-some, some-any_below}
use Rattle.language.specs.Grammar.{Grammar}
use Rattle.language.specs.Sets.{InLeft, InRight}
use Rattle.language.specs.Relations.{Equal, equal_then, equal_around, equal_ends, Yields, yields_within, yields_first, Takes, takes_within, takes_last}
use Rattle.language.specs.RightSides.{has_then, has_around, has_before, has_after}
use Rattle.language.proofs.RightSides.{has-then-exactly, has-around-exactly, has-before-exactly, has-after-exactly}
use Rattle.language.specs.SetMasks.{InRange, left_member}
use Rattle.language.proofs.SetMasks.{in-range-mirrored, any-rule-exactly, left-member-exactly}
use Rattle.language.specs.RelationTests.{any_after, any_around, any_before, any_then, ends_axiom, equal_test, right_member, starts_axiom, takes_test, yields_test}

pub equal-exactly : (g : Grammar) (a b : ℕ) → equal_test g a b ≡ true ↔ Equal g a b
unfolding equal_test
equal-exactly g a b = (λ t. out (or_cases (any_then g a b || any_around g a b) (eqb a 0 && eqb b 0) t), back)
  where
    side : (any_then g a b ≡ true) ⊎ (any_around g a b ≡ true) → Equal g a b
    side (inl t) = let m = (any-rule-exactly g (λ r w. has_then a b w)).0 t in equal_then m.spelled (has-then-exactly.0 m.holds)
    side (inr t) = let m = (any-rule-exactly g (λ r w. has_around a b w)).0 t in
        let h = has-around-exactly.0 m.holds in equal_around m.spelled h.has

    out : ((any_then g a b || any_around g a b) ≡ true) ⊎ ((eqb a 0 && eqb b 0) ≡ true) → Equal g a b
    out (inl t) = side (or_cases (any_then g a b) (any_around g a b) t)
    out (inr t) = let e = and_both (eqb a 0) (eqb b 0) t in equal_ends (eqb-true a 0 e.0) (eqb-true b 0 e.1)

    inside : (any_then g a b || any_around g a b) ≡ true → (any_then g a b || any_around g a b || (eqb a 0 && eqb b 0)) ≡ true
    inside = or-first (any_then g a b || any_around g a b) (eqb a 0 && eqb b 0)

    back : Equal g a b → (any_then g a b || any_around g a b || (eqb a 0 && eqb b 0)) ≡ true
    back (equal_then {r = r} {w = w} s h) =
        inside (or-first (any_then g a b) (any_around g a b)
        ((any-rule-exactly g (λ r w. has_then a b w)).1 (record { rule = r; right = w; spelled = s; holds = has-then-exactly.1 h })))
    back (equal_around {r = r} {k = k} {w = w} s h) =
        inside (or-second (any_then g a b) (any_around g a b)
        ((any-rule-exactly g (λ r w. has_around a b w)).1 (record { rule = r; right = w; spelled = s; holds = has-around-exactly.1 (record { number = k; has = h }) })))
    back (equal_ends p q) = or-second (any_then g a b || any_around g a b) (eqb a 0 && eqb b 0) (both-and (eqb a 0) (eqb b 0) (eq-eqb a 0 p) (eq-eqb b 0 q))

pub yields-exactly : {g : Grammar} → InRange g → (a b : ℕ) → yields_test g a b ≡ true ↔ Yields g a b
unfolding yields_test
yields-exactly {g} range a b = (λ t. out (or_cases (any_before g a b) (eqb a 0 && starts_axiom g b) t), back)
  where
    member : (x : ℕ) → left_member g x b ≡ true ↔ InLeft g x b
    member x = left-member-exactly range x b

    out : (any_before g a b ≡ true) ⊎ ((eqb a 0 && starts_axiom g b) ≡ true) → Yields g a b
    out (inl t) =
        let m = (any-rule-exactly g (λ r w. has_before a (λ d. left_member g d b) w)).0 t in
        let h = has-before-exactly.0 m.holds in
        yields_within m.spelled h.is ((member h.number).0 h.holds)
    out (inr t) =
        let e = and_both (eqb a 0) (starts_axiom g b) t in
        let x = any_below-some (λ x. left_member g x b) g.axioms e.1 in
        yields_first (eqb-true a 0 e.0) x.1 ((member x.0).0 x.2)

    back : Yields g a b → (any_before g a b || (eqb a 0 && starts_axiom g b)) ≡ true
    back (yields_within {r = r} {d = d} {w = w} s h l) =
        or-first (any_before g a b) (eqb a 0 && starts_axiom g b) ((any-rule-exactly g (λ r w. has_before a (λ d. left_member g d b) w)).1
        (record { rule = r; right = w; spelled = s; holds = has-before-exactly.1 (record { number = d; is = h; holds = (member d).1 l }) }))
    back (yields_first {x = x} e i l) =
        or-second (any_before g a b) (eqb a 0 && starts_axiom g b)
        (both-and (eqb a 0) (starts_axiom g b) (eq-eqb a 0 e) (some-any_below (λ x. left_member g x b) g.axioms x i ((member x).1 l)))

pub takes-exactly : {g : Grammar} → InRange g → (a b : ℕ) → takes_test g a b ≡ true ↔ Takes g a b
unfolding takes_test
takes-exactly {g} range a b = (λ t. out (or_cases (any_after g a b) (eqb b 0 && ends_axiom g a) t), back)
  where
    member : (x : ℕ) → right_member g x a ≡ true ↔ InRight g x a
    member x = left-member-exactly (in-range-mirrored range) x a

    out : (any_after g a b ≡ true) ⊎ ((eqb b 0 && ends_axiom g a) ≡ true) → Takes g a b
    out (inl t) =
        let m = (any-rule-exactly g (λ r w. has_after (λ d. right_member g d a) b w)).0 t in
        let h = has-after-exactly.0 m.holds in
        takes_within m.spelled h.is ((member h.number).0 h.holds)
    out (inr t) =
        let e = and_both (eqb b 0) (ends_axiom g a) t in
        let x = any_below-some (λ x. right_member g x a) g.axioms e.1 in
        takes_last (eqb-true b 0 e.0) x.1 ((member x.0).0 x.2)

    back : Takes g a b → (any_after g a b || (eqb b 0 && ends_axiom g a)) ≡ true
    back (takes_within {r = r} {d = d} {w = w} s h l) =
        or-first (any_after g a b) (eqb b 0 && ends_axiom g a) ((any-rule-exactly g (λ r w. has_after (λ d. right_member g d a) b w)).1
        (record { rule = r; right = w; spelled = s; holds = has-after-exactly.1 (record { number = d; is = h; holds = (member d).1 l }) }))
    back (takes_last {x = x} e i l) =
        or-second (any_after g a b) (eqb b 0 && ends_axiom g a)
        (both-and (eqb b 0) (ends_axiom g a) (eq-eqb b 0 e) (some-any_below (λ x. right_member g x a) g.axioms x i ((member x).1 l)))
