-- The three ways in which a row ends, with what each call left.
use Rattle.std.proofs.Common.{sym, ap, ◌∙◌, Err}
use Rattle.std.proofs.lemmas.Result.{err_from_is_err_and}
use Rattle.rows.specs.Schedule.{row-not-loaded, row-not-started, row-reported}
use Rattle.rows.proofs.schedule.read_row.Goals as goal

pub returns-in_err-load : goal.returns-in_err-load
returns-in_err-load c =
    let a = c.args in
    let is =
    row-not-loaded a.words.now a.tokens.now a.cuts.now a.matrix.now a.area.now a.entries.now _ (sym c.load.ensures.answer ∙ c.in_err-load.was)
    in
    let p = err_from_is_err_and c.from_residual.result c.from_residual.ensures.1 in
    record { value = p.1 ∙ ap Err p.2 ∙ is.0; entries_after = is.1 }

pub returns-in_err-start : goal.returns-in_err-start
returns-in_err-start c =
    let a = c.args in
    let is =
    row-not-started a.words.now a.tokens.now a.cuts.now a.matrix.now a.area.now a.entries.now _ c.load.new.matrix
    (sym c.load.ensures.answer ∙ c.in_ok-load.was)
    c.load.ensures.bytes
    (sym c.start.ensures.answers ∙ c.in_err-start.was)
    in
    let p = err_from_is_err_and c.from_residual-in_err-start.result c.from_residual-in_err-start.ensures.1 in
    record { value = p.1 ∙ ap Err p.2 ∙ is.0; entries_after = is.1 }

pub returns : goal.returns
returns c =
    let a = c.args in
    let is =
    row-reported a.words.now a.tokens.now a.cuts.now a.matrix.now a.area.now a.entries.now c.report.result c.load.new.matrix c.start.new.area
    c.each_to_rest.new.area
    c.join_rightwards.new.area
    c.report.new.out
    (sym c.load.ensures.answer ∙ c.in_ok-load.was)
    c.load.ensures.bytes
    (sym c.start.ensures.answers ∙ c.in_ok-start.was)
    c.start.ensures.leaves
    c.each_to_rest.ensures
    c.join_rightwards.ensures
    c.report.ensures.value
    c.report.ensures.out_after
    in
    record { value = is.0; entries_after = is.1 }
