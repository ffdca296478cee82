-- What is counted so far and what is left make the whole length.
use Rattle.std.proofs.Common.{length, drop, ◌+◌, ◌*◌, ◌≡◌, ◌≤◌}
use Rattle.lines.specs.AnswerLines.{spaced}
use Rattle.lines.proofs.writing.Line.len.Given as goal

abbrev pub invariant-loop-number : goal.invariant-loop-number
invariant-loop-number l =
    record {
      counted : l.length + length (spaced (drop l.number-index l.number-items)) ≡ length l.self;
      small : l.length ≤ 8 + 11 * l.number-index;
    }
