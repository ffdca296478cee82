-- The four head words are there.
use Rattle.std.proofs.Common.{arith}
use Rattle.table.specs.Sided.{passed-long}
use Rattle.table.proofs.checked.Checked.nonterminals.Goals as goal

pub bounds-self-1 : goal.bounds-self-1
bounds-self-1 c = omega (arith, passed-long c.args.self.now.words.now c.args.self.now.passed)
