-- The slot put to 0, and the `end` at hand, are `ended_words`.
use Rattle.std.proofs.Common.{refl, arith}
use Rattle.moving.specs.Settled.{accept-fits, settled-accepted, top-ended}
use Rattle.reader.proofs.moves.accept.Goals as goal

pub overflow_sub-hand : goal.overflow_sub-hand
overflow_sub-hand c = let fits = accept-fits c.requires.1 c.requires.0 in omega (arith, fits)

pub zero-requires : goal.zero-requires
zero-requires c = let fits = accept-fits c.requires.1 c.requires.0 in omega (arith, c.requires.1.base, fits)

pub returns-clause-result_after : goal.returns-clause-result_after
returns-clause-result_after c =
    let p = c.requires in
    let k = rw (← p.1.base) at (settled-accepted p.1 p.0) in
    rw c.zero.ensures (k.0, k.1, refl)

pub returns-clause-topped : goal.returns-clause-topped
returns-clause-topped c =
    let p = c.requires in
    let t = rw (← p.1.base) at (top-ended p.1 p.0 p.2) in
    rw c.zero.ensures t
