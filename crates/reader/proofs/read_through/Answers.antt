-- `read_through`: start's answer, and then the moves of chunk 0.
use Rattle.std.proofs.Common.{sym, ap, ◌∙◌, Err, arith}
use Rattle.std.proofs.lemmas.Result.{err_from_is_err_and}
use Rattle.moving.specs.ReadCall.{not-read, read-few, read-runs, read-moved}
use Rattle.reader.proofs.read_through.Goals as goal

pub overflow_cast-n : goal.overflow_cast-n
overflow_cast-n c =
    let a = c.args in
    let e = c.start.ensures in
    omega (arith, read-few a.words.now a.matrix.now a.tokens.now a.area.now e.answers e.leaves c.in_ok-start.was)

pub overflow_mul-n : goal.overflow_mul-n
overflow_mul-n c =
    let a = c.args in
    let e = c.start.ensures in
    omega (arith, read-few a.words.now a.matrix.now a.tokens.now a.area.now e.answers e.leaves c.in_ok-start.was)

pub overflow_add-n : goal.overflow_add-n
overflow_add-n c =
    let a = c.args in
    let e = c.start.ensures in
    omega (arith, read-few a.words.now a.matrix.now a.tokens.now a.area.now e.answers e.leaves c.in_ok-start.was)

pub make_moves-requires : goal.make_moves-requires
make_moves-requires c =
    let a = c.args in
    let e = c.start.ensures in
    read-runs a.words.now a.matrix.now a.tokens.now a.area.now e.answers e.leaves c.in_ok-start.was

pub returns-clause-answers : goal.returns-clause-answers
returns-clause-answers c =
    let a = c.args in
    let e = c.start.ensures in
    sym c.in_ok-start.was ∙ (read-moved a.words.now a.matrix.now a.tokens.now a.area.now e.answers e.leaves c.in_ok-start.was c.make_moves.ensures).0

pub returns-clause-leaves : goal.returns-clause-leaves
returns-clause-leaves c =
    let a = c.args in
    let e = c.start.ensures in
    (read-moved a.words.now a.matrix.now a.tokens.now a.area.now e.answers e.leaves c.in_ok-start.was c.make_moves.ensures).1

pub returns-in_err-start-clause-answers : goal.returns-in_err-start-clause-answers
returns-in_err-start-clause-answers c =
    let a = c.args in
    let e = c.start.ensures in
    let p = err_from_is_err_and c.from_residual.result c.from_residual.ensures.1 in
    p.1 ∙ ap Err p.2 ∙ sym c.in_err-start.was ∙ (not-read a.words.now a.matrix.now a.tokens.now a.area.now e.answers e.leaves c.in_err-start.was).0

pub returns-in_err-start-clause-leaves : goal.returns-in_err-start-clause-leaves
returns-in_err-start-clause-leaves c =
    let a = c.args in
    let e = c.start.ensures in
    (not-read a.words.now a.matrix.now a.tokens.now a.area.now e.answers e.leaves c.in_err-start.was).1
