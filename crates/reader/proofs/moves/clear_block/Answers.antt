-- `moves::clear_block`: the size stored, and three words filled.
use Rattle.std.proofs.Common.{refl, ◌-◌, arith, rules, set, length-set}
use Rattle.moving.specs.MoveWords.{cleared_one}
use Rattle.reader.proofs.Stored.{filled-three}
use Rattle.reader.proofs.moves.clear_block.Goals as goal

pub returns : goal.returns
unfolding cleared_one
returns c =
    let p = c.requires in
    (filled-three (set c.args.area.now (c.args.end - 1) 0) _ c.fill.new.self (simp length-set (omega (arith, p.some, p.fits, p.within))) (c.fill.ensures.after (λ y k. search rules)), refl)
