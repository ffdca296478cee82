-- `calls::make_move`: the words call for a move, that move is made, and it is counted.
use Rattle.std.proofs.Common.{ℕ, List, sym, ap, subst, ◌∙◌, arith}
use Rattle.moving.specs.MoveWords.{tick_words}
use Rattle.moving.specs.Moved.{Moved, counted}
use Rattle.moving.specs.OneMove.{can-stick}
use Rattle.moving.specs.Settled.{settled, settles, settled-counted}
use Rattle.reader.proofs.calls.make_move.Goals as goal

pub overflow_add-after : goal.overflow_add-after
overflow_add-after c =
    let whole = settles c.requires.1 in
    omega (arith, (can-stick c.requires.0).few, whole.low, whole.hand.moves, c.moved-after.ensures.result_after.2)

pub returns-clause-moved : goal.returns-clause-moved
returns-clause-moved c =
    let a = c.args in
    let e = c.moved-after.ensures.result_after in
    let r = settled-counted e.1 in
    subst (λ (l : List ℕ). Moved a.words.now a.matrix.now (settled a.area.now a.c a.hand) a.c l)
    (sym (r.0 ∙ ap tick_words e.0 ∙ counted (settled a.area.now a.c a.hand) a.c c.next_move-next.result))
    c.next_move-next.ensures.leaves
