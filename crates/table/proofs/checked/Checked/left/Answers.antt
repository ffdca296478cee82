-- The body is in the run, and its first word is a nonterminal.
use Rattle.std.proofs.Common.{arith, false}
use Rattle.words.specs.Bodies.{at_start}
use Rattle.table.specs.Sided.{passed-body, side-rules}
use Rattle.table.specs.SetPasses.{left-low}
use Rattle.table.proofs.checked.Checked.left.Goals as goal

pub offset_bounds-self-body_of : goal.offset_bounds-self-body_of
offset_bounds-self-body_of c =
    omega (arith, at_start c.body_of.ensures, passed-body c.args.self.now.words.now c.args.self.now.passed c.args.r c.requires)

pub bounds-self-body_of : goal.bounds-self-body_of
bounds-self-body_of c =
    omega (arith, at_start c.body_of.ensures, passed-body c.args.self.now.words.now c.args.self.now.passed c.args.r c.requires)

pub returns-clause-low : goal.returns-clause-low
returns-clause-low c =
    let words = c.args.self.now.words.now in
    rw (at_start c.body_of.ensures) (left-low (side-rules words c.args.self.now.passed false) c.args.r c.requires)
