-- 1 and 2 by `new`, and then 3.
use Rattle.std.proofs.Common.{[], ◌∷◌, ap, ◌∙◌, Err}
use Rattle.std.proofs.lemmas.Result.{err_from_is_err_and}
use Rattle.language.specs.CheckHead.{head_stage}
use Rattle.language.specs.CheckContents.{contents_stage}
use Rattle.language.specs.CheckSymbols.{symbol_stage}
use Rattle.language.specs.Checks.{check_symbols}
use Rattle.words.specs.Answered.{refusing, going_on}
use Rattle.words.proofs.check_symbols.Goals as goal

pub returns-in_err-new : goal.returns-in_err-new
unfolding check_symbols
returns-in_err-new c =
    let p = err_from_is_err_and c.from_residual.result c.from_residual.ensures.1 in
    p.1 ∙ ap Err p.2 ∙ refusing c.args.words.now (head_stage ∷ contents_stage ∷ []) (symbol_stage ∷ []) c.in_err-new.ensures

pub returns : goal.returns
unfolding check_symbols
returns c =
    let g = c.in_ok-new.ensures in
    (rw g.0 at c.symbols.ensures) ∙ going_on c.args.words.now (head_stage ∷ contents_stage ∷ []) (symbol_stage ∷ []) g.1
