-- `Streams::run_cases`: the words of the grammar under which cases stand are within their array.
use Rattle.std.proofs.Common.{◌≤◌}
use Rattle.vectors.proofs.Streams.run_cases.Given as goal

abbrev pub invariant-loop : goal.invariant-loop
invariant-loop g l = l.count ≤ 4096
