-- A turn feeds the piece's next byte, and at the piece's end nothing is left.
use Rattle.std.proofs.Common.{sym, ◌∙◌, arith}
use Rattle.text.specs.Feeding.{held, fed-more, fed-none}
use Rattle.text.proofs.reading.feed_piece.Goals as goal

pub loop-byte-preserved : goal.loop-byte-preserved
loop-byte-preserved c =
    let l = c.loop-byte in
    let n = c.take in
    l.invariant
    ∙ fed-more (held l.read l.words l.tokens l.cuts) (held n.new.state n.new.words n.new.tokens n.new.cuts) c.args.piece.now l.byte-index (omega arith) n.ensures

pub returns : goal.returns
returns c = let l = c.loop-byte in sym (l.invariant ∙ fed-none (held l.read l.words l.tokens l.cuts) c.args.piece.now l.byte-index (omega arith))
