-- The entries so far have been put, and the place after each line is within the bytes.
use Rattle.std.proofs.Common.{length, ◌≡◌, ◌≤◌}
use Rattle.rows.proofs.Writing.{LinesPut}
use Rattle.rows.proofs.output.put_entries.Given as goal

abbrev pub invariant-loop-rule : goal.invariant-loop-rule
invariant-loop-rule l =
    record {
      within : l.end ≤ length l.out;
      same_length : length l.out ≡ length l.initial.out;
      put : LinesPut l.initial.out l.at l.fn.entries l.count l.rule-index l.end l.out;
    }
