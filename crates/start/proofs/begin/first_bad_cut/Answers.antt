-- The test of a cut against the one that is kept is that of `bad_cut_at`.
use Rattle.std.proofs.Common.{sym, ◌∙◌, length}
use Rattle.start.specs.Start.{bad_cut_at}
use Rattle.start.specs.StartChecks.{clear-more, stopped, passed, cut_by, falls-next, few-cuts-by}
use Rattle.start.proofs.begin.first_bad_cut.Goals as goal

pub returns-then-n-cut-clause-bad : goal.returns-then-n-cut-clause-bad
returns-then-n-cut-clause-bad c =
    let n = c.args.n in
    let cuts = c.args.cuts.now in
    let l = c.loop-i in
    let bad = cut_by n cuts l.i l.before l.invariant.last ∙ c.if-n-cut.true in
    sym (few-cuts-by n cuts c.if-cuts-gt63.false (stopped (bad_cut_at n cuts) (length cuts) l.i l.invariant.clear c.loop-i-test.true bad))

pub loop-i-preserved : goal.loop-i-preserved
loop-i-preserved c =
    let n = c.args.n in
    let cuts = c.args.cuts.now in
    let l = c.loop-i in
    let right = cut_by n cuts l.i l.before l.invariant.last ∙ c.if-n-cut.false in
    record { clear = clear-more (bad_cut_at n cuts) l.i l.invariant.clear right; last = falls-next n cuts l.i }

pub returns-clause-bad : goal.returns-clause-bad
returns-clause-bad c =
    let n = c.args.n in
    let cuts = c.args.cuts.now in
    let l = c.loop-i in
    sym (few-cuts-by n cuts c.if-cuts-gt63.false (passed (bad_cut_at n cuts) (length cuts) l.i l.invariant.clear c.loop-i-test.false))
