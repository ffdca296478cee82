-- A turn joins once and moves to rest, and after the last join nothing is left.
use Rattle.std.proofs.Common.{List, ℕ, ◌+◌, ◌-◌, sym, ap, ◌∙◌, arith}
use Rattle.rows.specs.Schedule.{rest_area, join_rightwards, joins-more, joins-none}
use Rattle.rows.proofs.schedule.join_rightwards.Goals as goal

pub loop-preserved : goal.loop-preserved
loop-preserved c =
    let a = c.args in
    let l = c.loop in
    l.invariant
    ∙ joins-more a.words.now a.matrix.now l.area l.counter a.chunks (omega arith)
    ∙ ap (λ (joined : List ℕ). join_rightwards a.words.now a.matrix.now (a.chunks - (l.counter + 1)) (rest_area a.words.now a.matrix.now joined 0))
    (sym c.join.ensures.leaves)
    ∙ ap (λ (next : List ℕ). join_rightwards a.words.now a.matrix.now (a.chunks - (l.counter + 1)) next) (sym c.to_rest.ensures)

pub returns : goal.returns
returns c =
    let a = c.args in
    let l = c.loop in
    sym (l.invariant ∙ joins-none a.words.now a.matrix.now l.area l.counter a.chunks (omega arith))
