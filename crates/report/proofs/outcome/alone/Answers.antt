-- Each chunk from 1 on is looked at.
use Rattle.std.proofs.Common.{rules, tests, ◌∙◌, ◌+◌, ◌*◌, ◌-◌, get_or, eqb, refl}
use Rattle.std.proofs.lemmas.Iterator.{YieldsList-from_range}
use Rattle.std.proofs.lemmas.Iterator.Search.{all_from_yields_List}
use Rattle.report.proofs.OutcomeLaw.{none-alive}
use Rattle.report.proofs.outcome.alone.Goals as goal

pub returns : goal.returns
returns c =
    let words = c.args.area.now in
    let others = c.args.count - 1 in
    all_from_yields_List (λ chunk. eqb (get_or words (5 + 5 * chunk) 0) 0) _ _ c.all.result c.all.ensures.ran (YieldsList-from_range 1 c.args.count others refl refl) (λ x b q k. search (rules, tests))
    ∙ none-alive words others 1 10 refl
