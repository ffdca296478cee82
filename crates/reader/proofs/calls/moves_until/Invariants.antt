-- `calls::moves_until`: so many moves of the run are made (`Underway`) in the area with the hand's words put in, and the topmost terminal at hand is the
-- stack's.
use Rattle.std.proofs.Common.{◌≡◌, ◌+◌}
use Rattle.moving.specs.RunMoves.{Runnable, Underway}
use Rattle.moving.specs.Settled.{settled, Holding, Topped}
use Rattle.reader.proofs.calls.moves_until.Given as goal

abbrev pub invariant-loop : goal.invariant-loop
invariant-loop l =
    ((m : Runnable l.words l.matrix (settled l.fn.area l.c l.fn.hand) l.c) → Underway l.words l.matrix m l.budget l.counter (settled l.area l.c l.hand))
    × Holding l.area l.c l.hand × (l.hand.moves ≡ l.fn.hand.moves + l.counter) × Topped l.area l.hand
