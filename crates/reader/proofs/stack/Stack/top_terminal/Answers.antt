-- `Stack::top_terminal`: a block whose word is a terminal's is the topmost one; past a nonterminal's the search goes on; with no block left there is none.
use Rattle.std.proofs.Common.{sym, ap, ◌∙◌, arith}
use Rattle.laws.specs.Tests.{leb-true, leb-false}
use Rattle.machine.specs.Entries.{top_terminal}
use Rattle.moving.specs.OnStack.{stack-ends}
use Rattle.moving.specs.Searches.{found_of}
use Rattle.moving.specs.Walks.{down-none, top-found, top-more}
use Rattle.reader.proofs.stack.Stack.top_terminal.Goals as goal

pub returns-then-word-lt256-clause-top : goal.returns-then-word-lt256-clause-top
returns-then-word-lt256-clause-top c =
    let i = c.loop-rest.invariant in
    let some = rw i.1 at (leb-false _ _ (sym c.is_empty.ensures ∙ c.loop-rest-test.true)) in
    let w = rw (c.top_word-word.ensures, i.0) at c.if-word-lt256.true in
    record { found = λ stack h. rw (c.top_word-word.ensures, i.0) (top-found (i.2 stack h) some w) }

pub loop-rest-smaller : goal.loop-rest-smaller
loop-rest-smaller c =
    let e = stack-ends c.loop-rest.rest.stands.1 (leb-false _ _ (sym c.is_empty.ensures ∙ c.loop-rest-test.true)) in
    omega (arith, c.under-rest.ensures.2, e.some, e.fits)

pub loop-rest-preserved : goal.loop-rest-preserved
loop-rest-preserved c =
    let i = c.loop-rest.invariant in
    let u = c.under-rest.ensures in
    let some = rw i.1 at (leb-false _ _ (sym c.is_empty.ensures ∙ c.loop-rest-test.true)) in
    let w = rw (c.top_word-word.ensures, i.0) at c.if-word-lt256.false in
    (u.0 ∙ i.0, u.1 ∙ i.1, λ stack h. rw (u.2, i.0) (top-more (i.2 stack h) some w))

pub returns-clause-top : goal.returns-clause-top
returns-clause-top c =
    let i = c.loop-rest.invariant in
    let none = rw i.1 at (leb-true _ _ (sym c.is_empty.ensures ∙ c.loop-rest-test.false)) in
    record { found = λ stack h. sym (ap found_of (down-none _ top_terminal (i.2 stack h) none)) }
