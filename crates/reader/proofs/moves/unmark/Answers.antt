-- `moves::unmark`: one mark less is left to clear.
use Rattle.std.proofs.Common.{◌≡◌, suc, ◌+◌, ◌*◌, ◌-◌, arith}
use Rattle.reader.proofs.moves.unmark.Goals as goal

pub loop-i-preserved : goal.loop-i-preserved
loop-i-preserved c =
    let l = c.loop-i in
    let e : c.args.count - l.i ≡ suc (c.args.count - (l.i + 1)) = omega arith in
    let next : c.args.first + 4 * l.i + 4 ≡ c.args.first + 4 * (l.i + 1) = omega arith in
    rw (← next) (rw e at l.invariant)
