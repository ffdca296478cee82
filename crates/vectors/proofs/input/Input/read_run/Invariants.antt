-- `input::Input::read_run`: what is filled of the run lies within it.
use Rattle.std.proofs.Common.{length, ◌≤◌}
use Rattle.vectors.proofs.input.Input.read_run.Given as goal

abbrev pub invariant-loop : goal.invariant-loop
invariant-loop g l = l.at ≤ length l.run
