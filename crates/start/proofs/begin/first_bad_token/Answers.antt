-- Where every token fits, the search has no place to find.
use Rattle.std.proofs.Common.{sym, ◌∙◌}
use Rattle.language.specs.Words.{outside}
use Rattle.start.proofs.StartLaw.{none-found}
use Rattle.start.proofs.begin.first_bad_token.Goals as goal

pub returns-then-tokens_fit : goal.returns-then-tokens_fit
returns-then-tokens_fit c = none-found (outside 1 c.args.t) c.args.tokens.now (sym c.tokens_fit.ensures ∙ c.if-tokens_fit.true)
