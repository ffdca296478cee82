-- After i tokens the slots of the others, and of the # of the end, are left to store.
use Rattle.std.proofs.Common.{◌≡◌, ◌+◌, ◌*◌, length, drop}
use Rattle.std.proofs.lemmas.List.Edits.{sets}
use Rattle.start.specs.StartWords.{unread_slots}
use Rattle.start.proofs.begin.write_slots.Given as goal

abbrev pub invariant-loop-i : goal.invariant-loop-i
invariant-loop-i l = record {
  long : length l.area ≡ length l.initial.area;
  left : sets l.area (l.base + 4 + 4 * l.i) (unread_slots (drop l.i l.tokens)) ≡ sets l.initial.area (l.base + 4) (unread_slots l.tokens);
}
