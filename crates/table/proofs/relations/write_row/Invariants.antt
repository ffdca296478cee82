-- The row is filled from its start: after b entries those from b on are left to put, and none of the b pairs has two relations.
use Rattle.std.proofs.Common.{◌≡◌, ◌+◌, ◌*◌, ◌-◌, ◌<◌, ℕ, false}
use Rattle.std.proofs.lemmas.List.Edits.{sets}
use Rattle.laws.specs.Tabulate.{tabulate_from}
use Rattle.table.specs.RelationRows.{byte_in, clash_in}
use Rattle.table.proofs.relations.write_row.Given as goal

abbrev pub invariant-loop-b : goal.invariant-loop-b
invariant-loop-b l = record {
  left : sets l.matrix (64 * l.a + l.b) (tabulate_from (byte_in l.rows) (l.t + 1 - l.b) (64 * l.a + l.b)) ≡ sets l.fn.matrix (64 * l.a) (tabulate_from (byte_in l.rows) (l.t + 1) (64 * l.a));
  free : (k : ℕ) → k < l.b → clash_in l.rows (64 * l.a + k) ≡ false;
}
