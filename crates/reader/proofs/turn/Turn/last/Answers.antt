-- `Turn::last`: # over # is the row's end, where the stack is # and an axiom.
use Rattle.std.proofs.Common.{arith}
use Rattle.moving.specs.Moved.{words-readable, accepted, stuck-end}
use Rattle.moving.specs.OneMove.{can-stick, can-accept, can-read}
use Rattle.moving.specs.Settled.{settles}
use Rattle.moving.specs.SettledReadings.{of_axiom}
use Rattle.reader.proofs.turn.Turn.last.Goals as goal

pub bounds-self-2 : goal.bounds-self-2
bounds-self-2 c = omega (arith, (words-readable c.requires.facing.movable.held).long)

pub stack-requires : goal.stack-requires
stack-requires c = can-read c.requires.facing.movable

pub returns-then-end_and_axiom : goal.returns-then-end_and_axiom
returns-then-end_and_axiom c =
    let k = c.args.self.holding in
    let n = c.stack.ensures in
    let ends = of_axiom k (settles k) (rw (c.if-end_and_axiom.true, n.0, n.1, n.2) at c.end_and_axiom.ensures) in
    record { possible = can-accept c.requires.facing.movable; leaves = accepted c.requires ends }

pub returns-else-end_and_axiom : goal.returns-else-end_and_axiom
returns-else-end_and_axiom c =
    let k = c.args.self.holding in
    let n = c.stack.ensures in
    let ends = of_axiom k (settles k) (rw (c.if-end_and_axiom.false, n.0, n.1, n.2) at c.end_and_axiom.ensures) in
    record { possible = can-stick c.requires.facing.movable; leaves = stuck-end c.requires ends }
