-- What is left of the piece, fed from here, is the whole piece fed from the start.
use Rattle.std.proofs.Common.{drop, ◌≡◌}
use Rattle.text.specs.Feeding.{held, fed_all}
use Rattle.text.proofs.reading.feed_piece.Given as goal

abbrev pub invariant-loop-byte : goal.invariant-loop-byte
invariant-loop-byte l =
    fed_all (held l.initial.read l.initial.words l.initial.tokens l.initial.cuts) l.piece ≡ fed_all (held l.read l.words l.tokens l.cuts) (drop l.byte-index l.piece)
