-- What is proved of specs' Conflicts. The conflict check: a pair with two relations, the least of them as a number, and what relation_of says where there is none.
--
-- Main statements: clash-exactly, conflict-finds, conflict-at, conflict-none; relation-exactly.
use Rattle.std.specs.Prelude.{◌≡◌, refl, Bool, true, false, ◌↔◌, ℕ, ◌+◌, ◌*◌, ◌/◌, ◌%◌, ◌<◌, ◌≤◌}
use Rattle.std.proofs.Common.{ap, ◌∙◌, arith}
use Rattle.std.proofs.lemmas.Bool.{false≢true}
use Rattle.std.proofs.Math.Option.{none}
use Rattle.laws.specs.Least.{Finds, first_finds, finds-none}
use Rattle.language.specs.Symbols.{Relation, relation_number}
use Rattle.language.specs.Grammar.{Grammar}
use Rattle.language.specs.SetMasks.{InRange}
use Rattle.language.specs.RelationTests.{equal_test, yields_test, takes_test, in_use, relation_of}
use Rattle.language.proofs.RelationTests.{equal-exactly, yields-exactly, takes-exactly}
use Rattle.language.specs.RelationPairs.{Told, told_equal, told_yields, told_takes, told_blank}
use Rattle.language.proofs.RelationPairs.{in-use, equal-pair, yields-pair, relation-told}
use Rattle.language.specs.Conflicts.{ConflictAt, ConflictFree, Exactly, TwoRelations, clash, clash_at, conflict_stage, equal_and_takes, equal_and_yields, two_of, yields_and_takes}

pub clash-exactly : {g : Grammar} → InRange g → (a b : ℕ) → clash g a b ≡ true ↔ TwoRelations g a b
unfolding clash
clash-exactly {g} range a b = (out (in_use g a b) (equal_test g a b) (yields_test g a b) (takes_test g a b) refl refl refl, back)
  where
    out : (u e y t : Bool) → equal_test g a b ≡ e → yields_test g a b ≡ y → takes_test g a b ≡ t
        → (elim u as (λ v. Bool) [ false ↦ false | true ↦ two_of e y t ]) ≡ true → TwoRelations g a b
    out false e y t pe py pt q = absurd (false≢true q)
    out true true true t pe py pt q = equal_and_yields ((equal-exactly g a b).0 pe) ((yields-exactly range a b).0 py)
    out true true false t pe py pt q = equal_and_takes ((equal-exactly g a b).0 pe) ((takes-exactly range a b).0 (pt ∙ q))
    out true false true t pe py pt q = yields_and_takes ((yields-exactly range a b).0 py) ((takes-exactly range a b).0 (pt ∙ q))
    out true false false t pe py pt q = absurd (false≢true q)

    used : a ≤ g.terminals → b ≤ g.terminals → two_of (equal_test g a b) (yields_test g a b) (takes_test g a b) ≡ true → clash g a b ≡ true
    used p q t = rw (in-use g a b p q, clash) t

    first-and-last : (y : Bool) → two_of true y true ≡ true
    first-and-last true = refl
    first-and-last false = refl

    last-two : (e : Bool) → two_of e true true ≡ true
    last-two true = refl
    last-two false = refl

    back : TwoRelations g a b → clash g a b ≡ true
    back (equal_and_yields e y) =
        let p = equal-pair range e in
        used p.left_used p.right_used (rw ((equal-exactly g a b).1 e, (yields-exactly range a b).1 y))
    back (equal_and_takes e t) =
        let p = equal-pair range e in
        used p.left_used p.right_used (rw ((equal-exactly g a b).1 e, (takes-exactly range a b).1 t) (first-and-last (yields_test g a b)))
    back (yields_and_takes y t) =
        let p = yields-pair range y in
        used p.left_used p.right_used (rw ((yields-exactly range a b).1 y, (takes-exactly range a b).1 t) (last-two (equal_test g a b)))

pub conflict-finds : {g : Grammar} → InRange g → Finds (ConflictAt g) (conflict_stage g)
unfolding conflict_stage
conflict-finds {g} range =
    first_finds (clash_at g) 4096 (ConflictAt g) (λ v h t. (h, (clash-exactly range (v / 64) (v % 64)).0 t))
    (λ v c. (c.0, (clash-exactly range (v / 64) (v % 64)).1 c.1))

-- where terminals are at most 63 every pair with two relations has its number there
two-used : {g : Grammar} → InRange g → {a b : ℕ} → TwoRelations g a b → (a ≤ g.terminals) × (b ≤ g.terminals)
two-used range (equal_and_yields e y) = let p = equal-pair range e in (p.left_used, p.right_used)
two-used range (equal_and_takes e t) = let p = equal-pair range e in (p.left_used, p.right_used)
two-used range (yields_and_takes y t) = let p = yields-pair range y in (p.left_used, p.right_used)

pub conflict-at : {g : Grammar} → InRange g → g.terminals < 64 → {a b : ℕ} → TwoRelations g a b → ConflictAt g (64 * a + b)
conflict-at {g} range few {a} {b} two =
    let u = two-used range two in
    let p : (64 * a + b) / 64 ≡ a = omega arith in
    let q : (64 * a + b) % 64 ≡ b = omega arith in
    (omega arith, rw (p, q) two)

pub conflict-none : {g : Grammar} → InRange g → g.terminals < 64 → (conflict_stage g ≡ none) ↔ ConflictFree g
conflict-none {g} range few =
    let f = finds-none (conflict-finds range) in
    (λ e a b two. f.0 e (64 * a + b) (conflict-at range few two), λ free. f.1 (λ v c. free (v / 64) (v % 64) c.1))

-- two relations are told apart by their numbers
apart : {A : Type 0} {r s : Relation} → r ≡ s → (relation_number r ≡ relation_number s → ⊥) → A
apart e n = absurd (n (ap relation_number e))

told-exactly : {g : Grammar} {a b : ℕ} → (TwoRelations g a b → ⊥) → {r : Relation} → Told g a b r → Exactly g a b r
told-exactly free (told_equal e) = record {
  is_equal = (λ q. e, λ h. refl);
  is_yields = (λ q. apart q (omega arith), λ y. absurd (free (equal_and_yields e y)));
  is_takes = (λ q. apart q (omega arith), λ t. absurd (free (equal_and_takes e t)));
  is_blank = (λ q. apart q (omega arith), λ n. absurd (n.0 e));
}
told-exactly free (told_yields ne y) = record {
  is_equal = (λ q. apart q (omega arith), λ e. absurd (ne e));
  is_yields = (λ q. y, λ h. refl);
  is_takes = (λ q. apart q (omega arith), λ t. absurd (free (yields_and_takes y t)));
  is_blank = (λ q. apart q (omega arith), λ n. absurd (n.1 y));
}
told-exactly free (told_takes ne ny t) = record {
  is_equal = (λ q. apart q (omega arith), λ e. absurd (ne e));
  is_yields = (λ q. apart q (omega arith), λ y. absurd (ny y));
  is_takes = (λ q. t, λ h. refl);
  is_blank = (λ q. apart q (omega arith), λ n. absurd (n.2 t));
}
told-exactly free (told_blank ne ny nt) = record {
  is_equal = (λ q. apart q (omega arith), λ e. absurd (ne e));
  is_yields = (λ q. apart q (omega arith), λ y. absurd (ny y));
  is_takes = (λ q. apart q (omega arith), λ t. absurd (nt t));
  is_blank = (λ q. (ne, ny, nt), λ n. refl);
}

-- without a conflict relation_of is the pair's one relation
pub relation-exactly : {g : Grammar} → InRange g → ConflictFree g → (a b : ℕ) → Exactly g a b (relation_of g a b)
relation-exactly range free a b = told-exactly (free a b) (relation-told range a b)
