-- The test is whether there is a next number.
use Rattle.std.proofs.Common.{sym}
use Rattle.lines.specs.AnswerLines.{separator-space}
use Rattle.lines.proofs.writing.separator.Goals as goal

pub returns-then-next-numbers : goal.returns-then-next-numbers
returns-then-next-numbers c = sym (separator-space c.args.numbers.now c.args.next c.if-next-numbers.true)
