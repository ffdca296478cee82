-- The count fits, since its high word is below 65,535.
use Rattle.moving.specs.MoveWords.{tick_words}
use Rattle.reader.proofs.moves.tick.Goals as goal

pub returns : goal.returns
unfolding tick_words
returns c = rw (c.store_moves.ensures, c.requires.count)
