-- `moves::zero`: the words between are put to 0.
use Rattle.std.proofs.Common.{arith}
use Rattle.std.proofs.lemmas.Grind.{common_steps}
use Rattle.moving.specs.MoveWords.{cleared_words}
use Rattle.reader.proofs.moves.zero.Goals as goal

pub returns : goal.returns
unfolding cleared_words
returns c = grind (arith, common_steps)
