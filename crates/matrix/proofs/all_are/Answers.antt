-- The fold is over all elements.
use Rattle.std.proofs.Common.{◌&&◌, true, ◌∙◌, rules}
use Rattle.std.proofs.lemmas.Iterator.{YieldsList-from_slice}
use Rattle.std.proofs.lemmas.Iterator.Consumers.{fold_from_yields_List}
use Rattle.matrix.proofs.MatrixLaw.{all-fold}
use Rattle.matrix.proofs.all_are.Goals as goal

pub returns : goal.returns
returns g c =
    let run = c.args.run.now in
    fold_from_yields_List _ (λ b x. b && g.T.PartialEq.eq x c.args.wanted.now) true _ c.fold.ensures.ran (YieldsList-from_slice run cc) (λ a x b q k. search rules)
    ∙ all-fold (λ x. g.T.PartialEq.eq x c.args.wanted.now) true run
