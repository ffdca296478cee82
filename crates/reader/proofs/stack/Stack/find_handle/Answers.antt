-- `Stack::find_handle`: the topmost mark is found, or is in what is left, whatever stack stands there.
use Rattle.std.proofs.Common.{sym, ◌∙◌, refl, arith}
use Rattle.laws.specs.Tests.{leb-true, leb-false}
use Rattle.moving.specs.ReadWords.{handle_below}
use Rattle.moving.specs.OnStack.{stack-ends, nonterminal-some}
use Rattle.moving.specs.Walks.{counted-begins, counted_none, down-none, below-start, below-here, mark-found, mark-counted, mark-more}
use Rattle.reader.proofs.stack.Stack.find_handle.Goals as goal

pub loop-rest-init : goal.loop-rest-init
loop-rest-init c = (refl, refl, omega arith, λ stack h. counted-begins h)

pub top_slot-requires : goal.top_slot-requires
top_slot-requires c = nonterminal-some c.under-rest.result.stands.1 (rw c.if-nonterminal_on_top.true at c.nonterminal_on_top.ensures)

pub overflow_add-result : goal.overflow_add-result
overflow_add-result c =
    let e = stack-ends c.loop-rest.rest.stands.1 (leb-false _ _ (sym c.is_empty.ensures ∙ c.loop-rest-test.true)) in
    let some = nonterminal-some c.under-rest.result.stands.1 (rw c.if-nonterminal_on_top.true at c.nonterminal_on_top.ensures) in
    omega (arith, c.loop-rest.invariant.2, c.under-rest.ensures.2, e.some, e.fits, some)

pub returns-then-nonterminal_on_top : goal.returns-then-nonterminal_on_top
returns-then-nonterminal_on_top c =
    let i = c.loop-rest.invariant in
    let u = c.under-rest.ensures in
    let some = rw i.1 at (leb-false _ _ (sym c.is_empty.ensures ∙ c.loop-rest-test.true)) in
    let w = rw (c.top_word-mark.ensures, i.0) at c.if-mark-gt0.true in
    let b = below-start (rw (u.2, u.0, u.1, i.0, i.1) at c.nonterminal_on_top.ensures) c.if-nonterminal_on_top.true in
    record {
      starts = record { found = λ stack h. rw (c.top_slot.ensures, u.2, u.0, i.0) (mark-found (i.3 stack h) some w b) };
      counted = λ stack h. mark-counted (i.3 stack h) some w b;
    }

pub returns-then-mark-gt0 : goal.returns-then-mark-gt0
returns-then-mark-gt0 c =
    let i = c.loop-rest.invariant in
    let u = c.under-rest.ensures in
    let some = rw i.1 at (leb-false _ _ (sym c.is_empty.ensures ∙ c.loop-rest-test.true)) in
    let w = rw (c.top_word-mark.ensures, i.0) at c.if-mark-gt0.true in
    let b = below-here (rw (u.2, u.0, u.1, i.0, i.1) at c.nonterminal_on_top.ensures) c.if-nonterminal_on_top.false in
    record {
      starts = record { found = λ stack h. rw (u.2, i.0) (mark-found (i.3 stack h) some w b) };
      counted = λ stack h. omega (arith, mark-counted (i.3 stack h) some w b);
    }

pub loop-rest-smaller : goal.loop-rest-smaller
loop-rest-smaller c =
    let e = stack-ends c.loop-rest.rest.stands.1 (leb-false _ _ (sym c.is_empty.ensures ∙ c.loop-rest-test.true)) in
    omega (arith, c.under-rest.ensures.2, e.some, e.fits)

pub loop-rest-preserved : goal.loop-rest-preserved
loop-rest-preserved c =
    let i = c.loop-rest.invariant in
    let u = c.under-rest.ensures in
    let e = stack-ends c.loop-rest.rest.stands.1 (leb-false _ _ (sym c.is_empty.ensures ∙ c.loop-rest-test.true)) in
    let some = rw i.1 at (leb-false _ _ (sym c.is_empty.ensures ∙ c.loop-rest-test.true)) in
    let w = rw (c.top_word-mark.ensures, i.0) at c.if-mark-gt0.false in
    (u.0 ∙ i.0, u.1 ∙ i.1, omega (arith, i.2, u.2, e.some, e.fits), λ stack h. rw (u.2, i.0) (mark-more (i.3 stack h) some w))

pub returns : goal.returns
returns c =
    let i = c.loop-rest.invariant in
    let none = rw i.1 at (leb-true _ _ (sym c.is_empty.ensures ∙ c.loop-rest-test.false)) in
    record {
      starts = record { found = λ stack h. rw (down-none _ handle_below (i.3 stack h).down none) (omega arith) };
      counted = λ stack h. counted_none (i.3 stack h) none;
    }
