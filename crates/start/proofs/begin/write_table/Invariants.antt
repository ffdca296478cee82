-- After i cuts the rows of the chunks from i on are left to store.
use Rattle.std.proofs.Common.{◌≡◌, ◌+◌, ◌*◌, length, drop}
use Rattle.std.proofs.lemmas.List.Edits.{sets}
use Rattle.start.specs.StartWords.{start_rows}
use Rattle.start.proofs.begin.write_table.Given as goal

abbrev pub invariant-loop-i : goal.invariant-loop-i
invariant-loop-i l = record {
  long : length l.area ≡ length l.initial.area;
  left : sets l.area (5 + 5 * l.i) (start_rows l.n l.from l.head (drop l.i l.cuts)) ≡ sets l.initial.area 5 (start_rows l.n 0 1 l.cuts);
}
