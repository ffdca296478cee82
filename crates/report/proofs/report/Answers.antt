-- By ReportLaw. Word 2 of the area is one of 16 bits.
use Rattle.std.proofs.Common.{arith}
use Rattle.report.proofs.ReportLaw.{refused-state, ready, reported-state}
use Rattle.report.proofs.report.Goals as goal

pub returns-then-not-in_shape : goal.returns-then-not-in_shape
returns-then-not-in_shape c =
    let p = refused-state c.args.words.now c.args.matrix.now c.args.area.now c.args.out.now c.in_shape.ensures c.if-not-in_shape.true in
    record { value = p.0; out_after = p.1 }

pub invariant_of-outcome : goal.invariant_of-outcome
invariant_of-outcome c = record { reportable = ready c.args.words.now c.args.matrix.now c.args.area.now (omega (arith, c.type_inv.area 2)) c.in_shape.ensures c.if-not-in_shape.false }

pub returns : goal.returns
returns c =
    let p = reported-state c.args.words.now c.args.matrix.now c.args.area.now (omega (arith, c.type_inv.area 2)) c.in_shape.ensures c.if-not-in_shape.false
    c.args.out.now (c.outcome.ensures.value, c.outcome.ensures.out_after) in
    record { value = p.0; out_after = p.1 }
