-- The blocks from `at` on are cleared (`Clearing`). The measure is `at`.
use Rattle.moving.specs.Clearing.{Clearing}
use Rattle.reader.proofs.moves.clear.Given as goal

abbrev pub invariant-loop-at : goal.invariant-loop-at
invariant-loop-at l = Clearing l.fn.area l.from l.to l.area l.at

abbrev pub decreases-loop-at : goal.decreases-loop-at
decreases-loop-at l = l.at
