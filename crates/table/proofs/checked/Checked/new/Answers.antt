-- Words that the checks pass meet none of their conditions.
use Rattle.std.proofs.Common.{sym, ◌∙◌}
use Rattle.language.proofs.Checks.{words-pass}
use Rattle.table.proofs.checked.Checked.new.Goals as goal

pub invariant_of-result : goal.invariant_of-result
invariant_of-result c = record { passed = (words-pass c.args.words.now).0 (sym c.check_words.ensures ∙ c.in_ok-check_words.was) }
