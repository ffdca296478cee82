-- From piece to piece what has been read is what has been fed, the counts keep their limits, and the number of turns left falls.
use Rattle.std.proofs.Common.{length, ◌≡◌, ◌-◌, ◌^◌}
use Rattle.text.specs.FedLimits.{InLimits}
use Rattle.rows.proofs.Reading.{ReadSoFar}
use Rattle.rows.proofs.input.read_lines.Given as goal

abbrev pub invariant-loop : goal.invariant-loop
invariant-loop g l =
    record {
      so_far :
          ReadSoFar l.fn.held.words l.fn.held.tokens l.fn.held.cuts (g.R.Read.remaining l.fn.input) (g.R.Read.remaining l.input) l.held
          (2 ^ 64 - 1 - l.counter);
      in_limits : InLimits l.held.state;
      piece_length : length l.piece ≡ length l.fn.piece;
    }
