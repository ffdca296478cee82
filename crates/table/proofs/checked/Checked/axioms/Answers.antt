-- The four head words are there; the third is A.
use Rattle.std.proofs.Common.{arith, refl}
use Rattle.language.specs.Words.{grammar_of}
use Rattle.table.specs.Sided.{passed-long}
use Rattle.table.proofs.checked.Checked.axioms.Goals as goal

pub bounds-self-2 : goal.bounds-self-2
bounds-self-2 c = omega (arith, passed-long c.args.self.now.words.now c.args.self.now.passed)

pub returns-clause-is : goal.returns-clause-is
unfolding grammar_of
returns-clause-is c = refl
