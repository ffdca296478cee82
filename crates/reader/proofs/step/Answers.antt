-- `step`: it is a run of one move.
use Rattle.std.proofs.Common.{ap, ◌∙◌, Err}
use Rattle.std.proofs.lemmas.Result.{err_from_is_err_and}
use Rattle.moving.specs.RunMoves.{step-by-run}
use Rattle.reader.proofs.step.Goals as goal

pub returns-in_err-run-clause-answers : goal.returns-in_err-run-clause-answers
returns-in_err-run-clause-answers c =
    let a = c.args in
    let r = c.run.ensures in
    let made = rw c.in_err-run.was at (step-by-run a.words.now a.matrix.now a.area.now a.chunk r.answers r.leaves) in
    let p = err_from_is_err_and c.from_residual.result c.from_residual.ensures.1 in
    p.1 ∙ ap Err p.2 ∙ made.0

pub returns-in_err-run-clause-leaves : goal.returns-in_err-run-clause-leaves
returns-in_err-run-clause-leaves c =
    let a = c.args in
    let r = c.run.ensures in
    let made = rw c.in_err-run.was at (step-by-run a.words.now a.matrix.now a.area.now a.chunk r.answers r.leaves) in
    made.1

pub returns : goal.returns
returns c =
    let a = c.args in
    let r = c.run.ensures in
    let made = rw c.in_ok-run.was at (step-by-run a.words.now a.matrix.now a.area.now a.chunk r.answers r.leaves) in
    record { answers = made.0; leaves = made.1 }
