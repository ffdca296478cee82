-- Each return by EntryLaw: no such entry, an entry that does not fit, and one that does.
use Rattle.report.proofs.EntryLaw.{beyond, unfit, fit}
use Rattle.report.proofs.entry_range.Goals as goal

pub returns-in_default : goal.returns-in_default
returns-in_default c =
    let p = beyond c.args.report.now c.args.entry c.args.count c.as_chunks.ensures.front c.as_chunks.ensures.front_len c.in_default.ensures.lookup.3 in
    record { start = p.0; end = p.1 }

pub returns-then-after-first : goal.returns-then-after-first
returns-then-after-first c =
    let found = c.in-Some.ensures.lookup in
    let p =
    unfit c.args.report.now c.args.entry c.args.count c.as_chunks.ensures.front c.as_chunks.ensures.front_len c.in-Some.field-0.now found.3.0 found.1
    c.if-after-first.true in
    record { start = p.0; end = p.1 }

pub returns : goal.returns
returns c =
    let found = c.in-Some.ensures.lookup in
    let p =
    fit c.args.report.now c.args.entry c.args.count c.as_chunks.ensures.front c.as_chunks.ensures.front_len c.in-Some.field-0.now found.3.0 found.1
    c.if-after-first.false in
    record { start = p.0; end = p.1 }
