-- What is left to clear, from here, gives what all of it gives from the start.
use Rattle.std.proofs.Common.{◌-◌, ◌≡◌, ◌+◌, ◌*◌}
use Rattle.moving.specs.MoveWords.{unmark_words}
use Rattle.reader.proofs.moves.unmark.Given as goal

abbrev pub invariant-loop-i : goal.invariant-loop-i
invariant-loop-i l = unmark_words l.area (l.first + 4 * l.i) (l.count - l.i) ≡ unmark_words l.fn.area l.first l.count
