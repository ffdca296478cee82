-- The fold is over all bytes up to t, each of which `byte_fits` tells of; those past t are a part of the matrix, which `all_are` looks at.
use Rattle.std.proofs.Common.{◌&&◌, true, Bool, List, ℕ, ◌+◌, ◌*◌, ◌≤◌, get_or, eqb, refl, ◌∙◌, arith, rules}
use Rattle.std.specs.List.{range_with_len}
use Rattle.std.proofs.lemmas.Iterator.{YieldsList-from_range}
use Rattle.std.proofs.lemmas.Iterator.Consumers.{fold_from_yields_List}
use Rattle.matrix.specs.GrammarShape.{byte_fits}
use Rattle.matrix.proofs.MatrixLaw.{all-fold, part-told, row-told, row-tests, row-fit, row-lacks}
use Rattle.matrix.proofs.row_fits.Goals as goal

-- what `byte_fits` tells of byte b of row a
abbrev test : List ℕ → ℕ → ℕ → Bool
test matrix a b = byte_fits (a + b) a b (get_or matrix (64 * a + b) 0)

pub returns-then-fold : goal.returns-then-fold
returns-then-fold c =
    let a = c.args in
    let matrix = a.matrix.now in
    let tells = row-tests a.t matrix a.a c.requires.1 c.requires.0
    (fold_from_yields_List _ (λ all b. all && test matrix a.a b) true _ c.fold.ensures.ran (YieldsList-from_range 0 (a.t + 1) (a.t + 1) refl (omega arith))
    (λ all b r q k. let low : a.a ≤ a.a + b = omega arith in let high : b ≤ a.a + b = omega arith in search (rules, low, high))
    ∙ all-fold (test matrix a.a) true (range_with_len 0 (a.t + 1))) in
    row-told a.t matrix a.a c.all_are.result c.requires.1 (row-fit a.t matrix a.a (λ b h. tells.0 c.if-fold.true b (omega arith) h))
    (rw c.all_are.ensures (part-told (λ x. eqb x 0) matrix (64 * a.a + (a.t + 1)) (64 * a.a + 64) (omega arith)))

pub returns-else-fold : goal.returns-else-fold
returns-else-fold c =
    let a = c.args in
    let matrix = a.matrix.now in
    let tells = row-tests a.t matrix a.a c.requires.1 c.requires.0
    (fold_from_yields_List _ (λ all b. all && test matrix a.a b) true _ c.fold.ensures.ran (YieldsList-from_range 0 (a.t + 1) (a.t + 1) refl (omega arith))
    (λ all b r q k. let low : a.a ≤ a.a + b = omega arith in let high : b ≤ a.a + b = omega arith in search (rules, low, high))
    ∙ all-fold (test matrix a.a) true (range_with_len 0 (a.t + 1))) in
    row-lacks a.t matrix a.a c.fold.result c.requires.1 tells c.if-fold.false
