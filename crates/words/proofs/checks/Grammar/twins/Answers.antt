-- A rule with the right side of the rule at hand is a twin of it; where none is found the rule has no twin before it.
use Rattle.std.proofs.Common.{length, sym, ◌∙◌, arith, Ok}
use Rattle.refusals.specs.declared.Refusal.TheVariants.{Twin}
use Rattle.language.specs.CheckTwins.{bad_twin}
use Rattle.language.specs.Words.{grammar_of}
use Rattle.language.proofs.WordsInRange.{rules-count}
use Rattle.words.specs.Search.{clear-more, found_at, found_nowhere, fails-below, clear-below}
use Rattle.words.specs.Twins.{twin_of}
use Rattle.words.proofs.checks.Grammar.twins.Goals as goal

pub returns-then-same_right : goal.returns-then-same_right
returns-then-same_right c =
    let words = c.args.self.now.words.now in
    let later = c.loop-later.later in
    let earlier = c.loop-earlier.earlier in
    let twin = sym c.same_right.ensures ∙ c.if-same_right.true in
    found_at (bad_twin (grammar_of words)) Twin (Ok tt) (length (grammar_of words).rules) later (omega (arith, rules-count words)) c.loop-later.invariant
    (sym (fails-below (twin_of words later) later earlier c.loop-earlier-test.true twin))

pub loop-earlier-preserved : goal.loop-earlier-preserved
loop-earlier-preserved c =
    let words = c.args.self.now.words.now in
    let later = c.loop-later.later in
    let earlier = c.loop-earlier.earlier in
    clear-more (twin_of words later) earlier c.loop-earlier.invariant
    (sym c.same_right.ensures ∙ c.if-same_right.false)

pub loop-later-preserved : goal.loop-later-preserved
loop-later-preserved c =
    let words = c.args.self.now.words.now in
    let later = c.loop-later.later in
    let none = clear-below (twin_of words later) later c.loop-earlier.earlier c.loop-earlier-test.false c.loop-earlier.invariant in
    clear-more (bad_twin (grammar_of words)) later c.loop-later.invariant (sym none)

pub returns : goal.returns
returns c =
    let words = c.args.self.now.words.now in
    found_nowhere (bad_twin (grammar_of words)) Twin (Ok tt) (length (grammar_of words).rules) c.loop-later.later (omega (arith, rules-count words)) c.loop-later.invariant
