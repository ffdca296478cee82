-- The right set is asked from the end of right sides.
use Rattle.language.specs.Loads.{right_set_answer}
use Rattle.table.proofs.right_set.Goals as goal

pub returns : goal.returns
unfolding right_set_answer
returns c = c.set_of.ensures
