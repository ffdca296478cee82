-- `Stack::end_and_axiom`: two blocks, the lower one #, the upper one an axiom's, whatever stack stands there.
use Rattle.std.proofs.Common.{sym, ◌∙◌}
use Rattle.laws.specs.Tests.{leb-true, leb-false}
use Rattle.moving.specs.WholeStack.{not-one, end-and-axiom}
use Rattle.reader.proofs.stack.Stack.end_and_axiom.Goals as goal

pub returns-then-is_empty-2 : goal.returns-then-is_empty-2
returns-then-is_empty-2 c =
    let u = c.under-lower.ensures in
    let some = leb-false _ _ (sym c.is_empty.ensures ∙ c.if-is_empty.false) in
    let one = rw (u.1, u.2) at (leb-true _ _ (sym c.is_empty-2.ensures ∙ c.if-is_empty-2.true)) in
    record { found = λ stack h table ax. not-one table some stack h one }

pub returns : goal.returns
returns c =
    let u = c.under-lower.ensures in
    let v = c.under.ensures in
    let some = leb-false _ _ (sym c.is_empty.ensures ∙ c.if-is_empty.false) in
    let two = rw (u.1, u.2) at (leb-false _ _ (sym c.is_empty-2.ensures ∙ c.if-is_empty-2.false)) in
    record {
      found = λ stack h table ax.
          rw (c.is_empty-3.ensures, c.top_word.ensures, c.top_word-word.ensures, v.1, v.2, u.0, u.1, u.2) (end-and-axiom table some stack h two _ ax);
    }
