-- `Stack::nonterminal_on_top`: the topmost block's word tells, whatever stack stands there.
use Rattle.std.proofs.Common.{sym, ◌∙◌}
use Rattle.laws.specs.Tests.{leb-false}
use Rattle.moving.specs.Walks.{nonterminal-top}
use Rattle.reader.proofs.stack.Stack.nonterminal_on_top.Goals as goal

pub returns : goal.returns
returns c =
    let some = leb-false _ _ (sym c.is_empty.ensures ∙ c.if-is_empty.false) in
    record { found = λ stack h. rw c.top_word.ensures (nonterminal-top stack h some) }
