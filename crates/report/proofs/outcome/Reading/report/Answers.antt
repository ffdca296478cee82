-- No room, or the report written (OutcomeTests).
use Rattle.std.proofs.Common.{refl}
use Rattle.outcomes.specs.OutcomeTests.{no_room, room}
use Rattle.report.proofs.outcome.Reading.report.Goals as goal

pub returns-then-out-count : goal.returns-then-out-count
returns-then-out-count c =
    let p = no_room c.args.self.area.now c.args.out.now refl c.if-out-count.true in
    record { value = p.0; out_after = p.1 }

pub returns : goal.returns
returns c =
    let p = room c.args.self.area.now c.args.out.now refl c.if-out-count.false refl c.write_report.ensures in
    record { value = p.0; out_after = p.1 }
