-- The four head words are there; the first is T.
use Rattle.std.proofs.Common.{arith, refl}
use Rattle.language.specs.Words.{grammar_of}
use Rattle.table.specs.Sided.{passed-long}
use Rattle.table.proofs.checked.Checked.terminals.Goals as goal

pub bounds-self-0 : goal.bounds-self-0
bounds-self-0 c = omega (arith, passed-long c.args.self.now.words.now c.args.self.now.passed)

pub returns-clause-is : goal.returns-clause-is
unfolding grammar_of
returns-clause-is c = refl
