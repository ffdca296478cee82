-- The text of the whole input is read, and what is written for it is written.
use Rattle.std.specs.Prelude.{List, ℕ, OnOk}
use Rattle.std.proofs.Common.{arith}
use Rattle.std.specs.Io.KnownBytes.{Appends}
use Rattle.rows.proofs.Whole.{whole-written}
use Rattle.rows.proofs.answer_input.Goals as goal

pub returns : goal.returns
returns g c =
    let r = c.read_lines.new.held in
    whole-written (g.R.Read.remaining c.args.input.now) c.in_ok-said.said _ _ _ r.words r.tokens r.cuts
    (λ (bytes : List ℕ). OnOk c.answer_text.result (Appends (g.W.Write.contents c.args.output.now) (g.W.Write.contents c.answer_text.new.output) bytes))
    (omega arith)
    (omega arith)
    (omega arith)
    (c.in_ok-said.ensures.reads (omega arith))
    c.answer_text.ensures
