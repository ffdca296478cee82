-- The mark stored, and the boundary and the marks at hand, are `put_words`.
use Rattle.std.proofs.Common.{refl, arith, add-zero}
use Rattle.moving.specs.Settled.{push-fits, settled-pushed, top-pushed}
use Rattle.reader.proofs.moves.push.Goals as goal

pub bounds-area-slot : goal.bounds-area-slot
bounds-area-slot c = let fits = push-fits c.requires.1 _ c.requires.0 in omega (arith, c.requires.1.base, fits)

pub bounds-area-slot-2 : goal.bounds-area-slot-2
bounds-area-slot-2 c = let fits = push-fits c.requires.1 _ c.requires.0 in omega (arith, c.requires.1.base, fits)

pub overflow_add-hand-2 : goal.overflow_add-hand-2
overflow_add-hand-2 c = let fits = rw (← c.requires.1.base) at (push-fits c.requires.1 _ c.requires.0).1 in omega (arith, fits)

pub bounds-area-slot-3 : goal.bounds-area-slot-3
bounds-area-slot-3 c = let fits = push-fits c.requires.1 _ c.requires.0 in omega (arith, c.requires.1.base, fits)

pub returns-clause-result_after : goal.returns-clause-result_after
returns-clause-result_after c =
    let p = c.requires in
    let k = rw (← p.1.base, add-zero) at (settled-pushed p.1 _ p.0) in
    rw (c.mark_word-mark.ensures, c.top_after.ensures) (k.0, k.1, refl)

pub returns-clause-topped : goal.returns-clause-topped
returns-clause-topped c =
    let p = c.requires in
    let t = rw (← p.1.base, add-zero) at (top-pushed p.1 _ p.0 p.2) in
    rw (c.mark_word-mark.ensures, c.top_after.ensures) t
