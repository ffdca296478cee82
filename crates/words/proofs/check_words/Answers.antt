-- 1 and 2 by `new`, and then 3, 4 and 5.
use Rattle.std.proofs.Common.{sym, ap, ◌∙◌, Err}
use Rattle.std.proofs.lemmas.Result.{err_from_is_err_and}
use Rattle.words.specs.Answered.{laid-refuses, symbol-refuses, form-refuses, twins-decide}
use Rattle.words.proofs.check_words.Goals as goal

pub returns-in_err-grammar : goal.returns-in_err-grammar
returns-in_err-grammar c =
    let p = err_from_is_err_and c.from_residual.result c.from_residual.ensures.1 in
    p.1 ∙ ap Err p.2 ∙ laid-refuses c.args.words.now c.in_err-grammar.ensures

pub returns-in_err-symbols : goal.returns-in_err-symbols
returns-in_err-symbols c =
    let g = c.in_ok-grammar.ensures in
    let p = err_from_is_err_and c.from_residual-in_err-symbols.result c.from_residual-in_err-symbols.ensures.1 in
    p.1 ∙ ap Err p.2 ∙ symbol-refuses c.args.words.now g.1 (rw g.0 at (sym c.in_err-symbols.was ∙ c.symbols.ensures))

pub returns-in_err-forms : goal.returns-in_err-forms
returns-in_err-forms c =
    let g = c.in_ok-grammar.ensures in
    let p = err_from_is_err_and c.from_residual-in_err-forms.result c.from_residual-in_err-forms.ensures.1 in
    p.1 ∙ ap Err p.2 ∙ form-refuses c.args.words.now g.1 (rw g.0 at (sym c.in_ok-symbols.was ∙ c.symbols.ensures)) (rw g.0 at (sym c.in_err-forms.was ∙ c.forms.ensures))

pub returns : goal.returns
returns c =
    let g = c.in_ok-grammar.ensures in
    (rw g.0 at c.twins.ensures)
    ∙ twins-decide c.args.words.now g.1 (rw g.0 at (sym c.in_ok-symbols.was ∙ c.symbols.ensures)) (rw g.0 at (sym c.in_ok-forms.was ∙ c.forms.ensures))
