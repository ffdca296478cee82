-- A whole text is fed from the start, and then nothing more comes: the answer is the one to what the text says.
use Rattle.std.proofs.Common.{◌∙◌}
use Rattle.text.proofs.TextFed.{text-answered}
use Rattle.text.proofs.reading.Held.read_text.Goals as goal

pub returns-clause-value : goal.returns-clause-value
returns-clause-value c =
    let h = c.args.self.now in
    let f = c.feed_piece.new.self in
    c.finish.ensures ∙ (text-answered h.words h.tokens h.cuts c.args.text.now c.start-self.result f.state f.words f.tokens f.cuts c.start-self.ensures c.feed_piece.ensures).0
