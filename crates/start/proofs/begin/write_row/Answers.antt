-- The five words are a part of the area.
use Rattle.std.proofs.Common.{◌≡◌, ◌+◌, ◌-◌, refl, arith}
use Rattle.start.specs.StartWords.{start_row}
use Rattle.start.proofs.StartLaw.{part-stored}
use Rattle.start.proofs.begin.write_row.Goals as goal

pub returns : goal.returns
returns c =
    let a = c.args in
    let five : a.at + 5 - a.at ≡ 5 = omega arith in
    rw (c.copy_from_slice.ensures.after, five) (part-stored a.area.now (start_row a.from a.head a.end) a.at 5 refl c.requires)
