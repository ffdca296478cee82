-- What has been put, and what is left after it, is the line.
use Rattle.std.proofs.Common.{length, take, drop, ◌+◌, ◌++◌, ◌≡◌}
use Rattle.lines.specs.AnswerLines.{spaced}
use Rattle.lines.proofs.writing.Line.write.Given as goal

abbrev pub invariant-loop-i : goal.invariant-loop-i
invariant-loop-i l =
    record {
      same_length : length l.out ≡ length l.self;
      ends : l.end + length (spaced (drop l.i l.number-items)) ≡ length l.self;
      put : take l.end l.out ++ spaced (drop l.i l.number-items) ≡ l.self;
    }
