-- `calls::moves_until`: a run under way that rests, or whose budget is spent, has ended; one more move otherwise.
use Rattle.std.proofs.Common.{◌≡◌, ◌-◌, sym, ◌∙◌, arith}
use Rattle.moving.specs.Hands.{hand-rests}
use Rattle.moving.specs.RunMoves.{runnable-stack, underway, underway-movable, underway-more, underway-rests, underway-spent}
use Rattle.moving.specs.Settled.{settled, settles}
use Rattle.moving.specs.SettledReadings.{hand-stack}
use Rattle.moving.specs.StackTops.{at-hand}
use Rattle.reader.proofs.calls.moves_until.Goals as goal

pub new-requires : goal.new-requires
new-requires c = hand-stack c.requires.1 (settles c.requires.1) (runnable-stack c.requires.0)

pub loop-init : goal.loop-init
unfolding settled
loop-init c =
    let k = c.requires.1 in
    let n = c.new.ensures in (
      (λ m. underway m c.args.budget),
      record { chunk = k.chunk; room = k.room; base = k.base; marks = k.marks; reductions = k.reductions },
      omega arith,
      at-hand _ c.top_terminal.ensures.small c.top_word.ensures (rw (n.0, n.1, n.2) at c.top_terminal.ensures.top),
    )

pub returns-then-resting-clause-ran_words : goal.returns-then-resting-clause-ran_words
unfolding settled
returns-then-resting-clause-ran_words c =
    let l = c.loop in
    let i = l.invariant in
    let rests = sym (hand-rests (settles i.1).hand) ∙ sym c.resting.ensures ∙ c.if-resting.true in
    let e : l.hand.moves - c.args.hand.moves ≡ l.counter = omega (arith, i.2) in
    record { found = λ m. rw e (underway-rests (i.0 m) rests) }

pub make_move-hand-requires : goal.make_move-hand-requires
unfolding settled
make_move-hand-requires c =
    let i = c.loop.invariant in
    let rests = sym (hand-rests (settles i.1).hand) ∙ sym c.resting.ensures ∙ c.if-resting.false in
    (underway-movable (i.0 c.requires.0) rests, i.1, i.3)

pub loop-preserved : goal.loop-preserved
loop-preserved c =
    let i = c.loop.invariant in
    let rests = sym (hand-rests (settles i.1).hand) ∙ sym c.resting.ensures ∙ c.if-resting.false in
    let e = c.make_move-hand.ensures in (
      (λ m. underway-more (i.0 m) c.loop-test.true rests e.moved),
      e.holding.0,
      omega (arith, e.holding.1, i.2),
      e.holding.2,
    )

pub returns-clause-ran_words : goal.returns-clause-ran_words
unfolding settled
returns-clause-ran_words c =
    let l = c.loop in
    let i = l.invariant in
    let e : l.hand.moves - c.args.hand.moves ≡ l.counter = omega (arith, i.2) in
    record { found = λ m. rw e (underway-spent (i.0 m) c.loop-test.false) }
