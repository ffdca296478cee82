-- The count of moves in its two words, and six stores.
use Rattle.std.proofs.Common.{refl, ◌+◌, ◌*◌, add-zero}
use Rattle.moving.specs.Settled.{settled}
use Rattle.reader.proofs.moves.settle.Goals as goal

pub returns : goal.returns
unfolding settled
returns c = rw (c.store_moves.ensures, add-zero (5 + 5 * c.args.c)) refl
