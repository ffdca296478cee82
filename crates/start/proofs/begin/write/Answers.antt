-- The front, the table, and the slots with the zeros of the reductions are stored one after the other.
use Rattle.std.proofs.Common.{◌≡◌, ◌++◌, ◌+◌, drop, length, refl, arith}
use Rattle.std.proofs.lemmas.List.Edits.{sets}
use Rattle.start.specs.StartWords.{start_front}
use Rattle.start.proofs.StartLaw.{part-stored, start-stored}
use Rattle.start.proofs.begin.write.Goals as goal

pub returns : goal.returns
returns c =
    let area = c.args.area.now in
    let tokens = c.args.tokens.now in
    let cuts = c.args.cuts.now in
    let front : start_front (length tokens) (length cuts + 1) ++ drop 5 area ≡ sets area 0 (start_front (length tokens) (length cuts + 1)) =
    part-stored area (start_front (length tokens) (length cuts + 1)) 0 5 refl (omega (arith, c.requires.enough)) in
    rw (c.write_slots.ensures, c.write_table.ensures, c.copy_from_slice.ensures.after, front) (start-stored area tokens cuts)
