-- What is left of the walk, from where the loop stands, is the whole walk; no count is more than the rows or the slots passed.
use Rattle.std.proofs.Common.{◌≡◌, ◌+◌, ◌*◌, ◌-◌, get_or}
use Rattle.area.specs.Shape.{walked, walk_of}
use Rattle.area.specs.ShapeCode.{Within}
use Rattle.area.proofs.shape.Lent.walk_table.Given as goal

abbrev pub invariant-loop-c : goal.invariant-loop-c
invariant-loop-c l = record {
  within : Within l.c l.walk;
  rest : walked l.self.terminals l.self.nonterminals l.self.area.now (get_or l.self.area.now 1 0 - l.c) (5 + 5 * l.c) l.walk ≡ walk_of l.self.terminals l.self.nonterminals l.self.area.now;
}
