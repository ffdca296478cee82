-- The left set is asked from the start of right sides.
use Rattle.language.specs.Loads.{left_set_answer}
use Rattle.table.proofs.left_set.Goals as goal

pub returns : goal.returns
unfolding left_set_answer
returns c = c.set_of.ensures
