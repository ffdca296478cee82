-- What is proved of specs' Matrix. The matrix as 4,096 numbers.
--
-- Main statements: matrix-length, matrix-at, matrix-unused, number_small, matrix-small, matrix-end, matrix-end-left, matrix-end-right.
use Rattle.std.specs.Prelude.{◌≡◌, refl, ◌⊎◌, ℕ, ◌+◌, ◌*◌, ◌/◌, ◌%◌, ◌<◌, ◌≤◌, length, get_or}
use Rattle.std.proofs.Common.{ap, ◌∙◌, inl, inr, arith}
use Rattle.laws.specs.Tabulate.{length-tabulate, get_d_tabulate}
use Rattle.language.specs.Symbols.{Relation, blank, yields, equal, takes, relation_number}
use Rattle.language.specs.Grammar.{Grammar}
use Rattle.language.specs.SetMasks.{InRange}
use Rattle.language.specs.RelationTests.{relation_of}
use Rattle.language.specs.RelationPairs.{Told, told_equal, told_yields, told_takes, told_blank}
use Rattle.language.proofs.RelationPairs.{relation-told, equal-pair, takes-pair, yields-pair, end-equal, unused-blank}
use Rattle.language.specs.Matrix.{entry_at, matrix_of}

pub matrix-length : (g : Grammar) → length (matrix_of g) ≡ 4096
unfolding matrix_of
matrix-length g = length-tabulate (entry_at g) 4096

pub matrix-at : (g : Grammar) (a b : ℕ) → a < 64 → b < 64 → get_or (matrix_of g) (64 * a + b) 0 ≡ relation_number (relation_of g a b)
unfolding matrix_of
matrix-at g a b ha hb =
    let p : (64 * a + b) / 64 ≡ a = omega arith in
    let q : (64 * a + b) % 64 ≡ b = omega arith in
    get_d_tabulate (entry_at g) 4096 (64 * a + b) 0 (omega arith) ∙ rw (p, q)

-- "unused ones are 0"
pub matrix-unused : (g : Grammar) (a b : ℕ) → a < 64 → b < 64 → (g.terminals < a) ⊎ (g.terminals < b) → get_or (matrix_of g) (64 * a + b) 0 ≡ 0
matrix-unused g a b ha hb u = matrix-at g a b ha hb ∙ ap relation_number (unused-blank g a b u)

-- every entry is 0 to 3
pub number_small : (r : Relation) → relation_number r ≤ 3
number_small blank = omega arith
number_small yields = omega arith
number_small equal = omega arith
number_small takes = omega arith

pub matrix-small : (g : Grammar) (v : ℕ) → v < 4096 → get_or (matrix_of g) v 0 ≤ 3
unfolding matrix_of
matrix-small g v h = rw (get_d_tabulate (entry_at g) 4096 v 0 h) (number_small (relation_of g (v / 64) (v % 64)))

-- # over #, # over b, a over #
pub matrix-end : (g : Grammar) → get_or (matrix_of g) 0 0 ≡ 2
matrix-end g = matrix-at g 0 0 (omega arith) (omega arith) ∙ ap relation_number (end-equal g)

module _ {g : Grammar} (range : InRange g) where
  pub matrix-end-left : (b : ℕ) → 1 ≤ b → b < 64 → get_or (matrix_of g) b 0 ≤ 1
  matrix-end-left b pos h =
      let e : 64 * 0 + b ≡ b = omega arith in
      let p : get_or (matrix_of g) b 0 ≡ relation_number (relation_of g 0 b) = rw e at (matrix-at g 0 b (omega arith) h) in
      rw p (go (relation-told range 0 b))
    where
      go : {r : Relation} → Told g 0 b r → relation_number r ≤ 1
      go (told_equal e) = omega (arith, (equal-pair range e).end_after refl)
      go (told_yields ne y) = omega arith
      go (told_takes ne ny t) = omega (arith, (takes-pair range t).left_terminal)
      go (told_blank ne ny nt) = omega arith

  pub matrix-end-right : (a : ℕ) → 1 ≤ a → a < 64 → (get_or (matrix_of g) (64 * a) 0 ≡ 0) ⊎ (get_or (matrix_of g) (64 * a) 0 ≡ 3)
  matrix-end-right a pos h =
      let e : 64 * a + 0 ≡ 64 * a = omega arith in
      let p : get_or (matrix_of g) (64 * a) 0 ≡ relation_number (relation_of g a 0) = rw e at (matrix-at g a 0 h (omega arith)) in
      rw p (go (relation-told range a 0))
    where
      go : {r : Relation} → Told g a 0 r → (relation_number r ≡ 0) ⊎ (relation_number r ≡ 3)
      go (told_equal e) = absurd (omega (arith, (equal-pair range e).end_before refl))
      go (told_yields ne y) = absurd (omega (arith, (yields-pair range y).right_terminal))
      go (told_takes ne ny t) = inr refl
      go (told_blank ne ny nt) = inl refl
