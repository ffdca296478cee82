-- Each return by the tests that led there (OutcomeTests).
use Rattle.outcomes.specs.OutcomeTests.{several, is_stuck, still-moves, at_rest, refuses, passed_on}
use Rattle.report.proofs.outcome.Reading.outcome.Goals as goal

pub returns-then-not-alone : goal.returns-then-not-alone
returns-then-not-alone c =
    let p = refuses c.args.out.now (several c.args.self.area.now c.alone.ensures c.if-not-alone.true) in
    record { value = p.0; out_after = p.1 }

pub returns-then-status-ge17 : goal.returns-then-status-ge17
returns-then-status-ge17 c =
    let p = refuses c.args.out.now (is_stuck c.args.self.area.now c.alone.ensures c.if-not-alone.false c.if-status-ge17.true c.stuck_refusal.ensures) in
    record { value = p.0; out_after = p.1 }

pub returns-then-head-self : goal.returns-then-head-self
returns-then-head-self c =
    let p = refuses c.args.out.now (still-moves c.args.self.area.now c.alone.ensures c.if-not-alone.false c.if-status-ge17.false c.if-head-self.true) in
    record { value = p.0; out_after = p.1 }

pub returns : goal.returns
returns c =
    let e = at_rest c.args.self.area.now c.alone.ensures c.if-not-alone.false c.if-status-ge17.false c.if-head-self.false in
    let p = passed_on c.args.out.now e (c.report.ensures.value, c.report.ensures.out_after) in
    record { value = p.0; out_after = p.1 }
