-- The fold is over all tokens.
use Rattle.std.proofs.Common.{◌&&◌, not, true, ◌∙◌, rules}
use Rattle.std.proofs.lemmas.Iterator.{YieldsList-from_slice}
use Rattle.std.proofs.lemmas.Iterator.Consumers.{fold_from_yields_List}
use Rattle.language.specs.Words.{outside}
use Rattle.matrix.proofs.MatrixLaw.{all-fold}
use Rattle.start.proofs.begin.tokens_fit.Goals as goal

pub returns : goal.returns
returns c =
    let tokens = c.args.tokens.now in
    fold_from_yields_List _ (λ b x. b && not (outside 1 c.args.t x)) true _ c.fold.ensures.ran (YieldsList-from_slice tokens cc) (λ a x b q k. search rules)
    ∙ all-fold (λ x. not (outside 1 c.args.t x)) true tokens
