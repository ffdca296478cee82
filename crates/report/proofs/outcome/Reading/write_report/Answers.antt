-- The reductions copied to the front of the run, and put in order there.
use Rattle.std.proofs.Common.{◌++◌, ◌*◌, ap, drop, arith}
use Rattle.layout.specs.Layout.{made_at_word}
use Rattle.report.proofs.OutcomeLaw.{report-written}
use Rattle.report.proofs.outcome.Reading.write_report.Goals as goal

pub returns : goal.returns
returns c =
    ap (λ l. l ++ drop (3 * c.args.count) c.args.out.now)
    (report-written c.args.self.area.now (made_at_word c.args.self.area.now) c.args.count (omega arith) c.put_words.ensures c.put_in_order.ensures)
