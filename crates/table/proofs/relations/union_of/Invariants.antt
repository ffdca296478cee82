-- The union of the masks so far.
use Rattle.table.specs.RelationRows.{Union}
use Rattle.table.proofs.relations.union_of.Given as goal

abbrev pub invariant-loop-mask : goal.invariant-loop-mask
invariant-loop-mask l = Union l.masks l.mask-index l.all
