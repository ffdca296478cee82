-- The four head words are there.
use Rattle.std.proofs.Common.{arith}
use Rattle.table.specs.Sided.{passed-long}
use Rattle.table.proofs.checked.Checked.rules.Goals as goal

pub bounds-self-3 : goal.bounds-self-3
bounds-self-3 c = omega (arith, passed-long c.args.self.now.words.now c.args.self.now.passed)
