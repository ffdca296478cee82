-- One more mask at each turn.
use Rattle.std.proofs.Common.{◌<◌, arith, get_or-take, length-take-le}
use Rattle.table.specs.MaskRows.{union_more}
use Rattle.table.proofs.relations.union_of.Goals as goal

pub loop-mask-preserved : goal.loop-mask-preserved
loop-mask-preserved c =
    let l = c.loop-mask in
    let below : l.mask-index < c.args.count = omega (arith, length-take-le c.args.count c.args.masks.now (omega arith)) in
    rw (get_or-take c.args.count c.args.masks.now l.mask-index 0 below) (union_more c.args.masks.now l.all l.mask-index l.invariant)
