-- A whole text is fed from the start, and then nothing more comes: the answer is the one to what the text says.
use Rattle.std.proofs.Common.{◌∙◌}
use Rattle.text.proofs.TextFed.{text-answered}
use Rattle.text.proofs.reading.read_text.Goals as goal

pub returns-clause-value : goal.returns-clause-value
returns-clause-value c =
    let f = c.feed_piece in
    c.finish.ensures
    ∙ (text-answered c.args.words.now c.args.tokens.now c.args.cuts.now c.args.text.now c.start.result f.result f.new.words f.new.tokens f.new.cuts
    c.start.ensures f.ensures).0
