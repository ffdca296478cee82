-- Each word is one step of what is still to be found.
use Rattle.std.proofs.Common.{map, sym, ◌∙◌}
use Rattle.language.specs.Symbols.{symbol_of}
use Rattle.words.specs.Forms.{bad-all, bad-here, bad-past, bad-end}
use Rattle.words.proofs.checks.bad_form.Goals as goal

pub loop-w-init : goal.loop-w-init
loop-w-init c = bad-all (map symbol_of c.args.right.now)

pub returns-then-after-nonterminal : goal.returns-then-after-nonterminal
returns-then-after-nonterminal c =
    let l = c.loop-w in
    sym (l.invariant ∙ bad-here c.args.right.now l.w-index c.loop-w-test.true l.bare l.after c.if-after-nonterminal.true)

pub loop-w-preserved : goal.loop-w-preserved
loop-w-preserved c =
    let l = c.loop-w in
    l.invariant ∙ bad-past c.args.right.now l.w-index c.loop-w-test.true l.bare l.after c.if-after-nonterminal.false

pub returns : goal.returns
returns c =
    let l = c.loop-w in
    sym (l.invariant ∙ bad-end c.args.right.now l.w-index c.loop-w-test.false l.bare l.after)
