-- The blocks cleared, and one laid by three stores.
use Rattle.std.proofs.Common.{◌≡◌, ◌+◌, ◌*◌, ◌-◌, arith}
use Rattle.moving.specs.MoveWords.{slot_at, laid_words}
use Rattle.reader.proofs.moves.lay.Goals as goal

pub returns : goal.returns
unfolding laid_words
returns c =
    let a = c.args in
    let last : slot_at a.area.now a.head - 1 ≡ slot_at a.area.now a.from + 4 * (a.head - a.from) - 1 = omega arith in
    rw (c.clear.ensures, c.requires.0, last)
