-- What is left of the scan, from where the loop stands, is the whole scan; no count is more than the slots passed.
use Rattle.std.proofs.Common.{◌≡◌, ◌+◌, ◌*◌, ◌-◌, drop}
use Rattle.layout.specs.Layout.{slots_at}
use Rattle.area.specs.Shape.{scanned, side}
use Rattle.area.specs.ShapeCode.{Few}
use Rattle.area.proofs.shape.Lent.side.Given as goal

abbrev pub invariant-loop-at : goal.invariant-loop-at
invariant-loop-at l = record {
  few : Few (l.at - l.from) l.scan;
  rest :
      scanned l.self.terminals l.self.nonterminals l.self.tokens (l.to - l.at) l.at (drop (slots_at l.self.area.now + 4 * l.at) l.self.area.now) l.scan
      ≡ side l.self.terminals l.self.nonterminals l.self.area.now l.from l.to;
}
