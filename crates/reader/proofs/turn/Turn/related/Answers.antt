-- `Turn::related`: the four relations; of two equal ones, # over # is the row's end.
use Rattle.std.proofs.Common.{arith}
use Rattle.moving.specs.Moved.{matrix-long, top-fits, next_fits, put_marked, put_equal, stuck-blank, blank-other}
use Rattle.moving.specs.OneMove.{can-push, can-stick}
use Rattle.reader.proofs.turn.Turn.related.Goals as goal

pub bounds-self-a : goal.bounds-self-a
bounds-self-a c = let f = c.requires in omega (arith, matrix-long f.movable.held, top-fits f, next_fits f)

pub returns-in-1 : goal.returns-in-1
returns-in-1 c = let f = c.requires in record { possible = can-push f.movable 1 (omega arith); leaves = put_marked f c.in-1.is }

pub returns-in-2-2 : goal.returns-in-2-2
returns-in-2-2 c = let f = c.requires in record { possible = can-push f.movable 0 (omega arith); leaves = put_equal f c.in-2.is (λ p q. c.if-b-eq0.false q) }

pub returns-in-2-2-2 : goal.returns-in-2-2-2
returns-in-2-2-2 c = let f = c.requires in record { possible = can-push f.movable 0 (omega arith); leaves = put_equal f c.in-2.is (λ p q. c.if-a-eq0.false p) }

pub returns-in_default : goal.returns-in_default
returns-in_default c =
    let f = c.requires in
    record { possible = can-stick f.movable; leaves = stuck-blank f (blank-other _ (λ e. omega arith) (λ e. omega arith) (λ e. omega arith)) }
