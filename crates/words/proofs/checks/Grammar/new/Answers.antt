-- Words that pass 1 and 2 are laid; the answer of each is that of both.
use Rattle.std.proofs.Common.{sym, ◌∙◌}
use Rattle.words.specs.Answered.{laid-passed}
use Rattle.words.proofs.checks.Grammar.new.Goals as goal

pub invariant_of-result : goal.invariant_of-result
invariant_of-result c = record { laid = laid-passed c.args.words.now (sym c.in_ok-head.was ∙ c.head.ensures) (sym c.in_ok-contents.was ∙ c.contents.ensures) }
