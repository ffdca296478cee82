-- `run`: the checks in their order, and then the moves.
use Rattle.std.proofs.Common.{◌≡◌, true, false, ◌<◌, get_or, sym, ◌∙◌, rules}
use Rattle.area.specs.Shape.{in_shape}
use Rattle.moving.specs.CallLaws.{there, table-there}
use Rattle.moving.specs.Moved.{live_in, rests_in}
use Rattle.moving.specs.RunMoves.{runnable, run-bad, run-gone, run-rests, run_moved}
use Rattle.reader.proofs.run.Goals as goal

pub returns-then-not-in_shape : goal.returns-then-not-in_shape
returns-then-not-in_shape c =
    let a = c.args in
    let bad : in_shape a.words.now a.matrix.now a.area.now ≡ false = sym c.in_shape.ensures ∙ c.if-not-in_shape.true in
    let made = run-bad a.words.now a.matrix.now a.area.now a.chunk a.budget bad in
    record { answers = made.0; leaves = made.1 }

pub live-requires : goal.live-requires
live-requires c =
    let a = c.args in
    let low : get_or a.area.now 2 0 < 65536 = search rules in
    let shape : in_shape a.words.now a.matrix.now a.area.now ≡ true = sym c.in_shape.ensures ∙ c.if-not-in_shape.false in
    table-there (there a.words.now a.matrix.now a.area.now a.chunk low shape)

pub returns-in_default : goal.returns-in_default
returns-in_default c =
    let a = c.args in
    let low : get_or a.area.now 2 0 < 65536 = search rules in
    let shape : in_shape a.words.now a.matrix.now a.area.now ≡ true = sym c.in_shape.ensures ∙ c.if-not-in_shape.false in
    let gone : live_in a.area.now a.chunk ≡ false = rw c.in_default.is at c.live.ensures in
    let made = run-gone a.words.now a.matrix.now a.area.now a.chunk a.budget low shape gone in
    record { answers = made.0; leaves = made.1 }

pub returns-then-at_rest : goal.returns-then-at_rest
returns-then-at_rest c =
    let a = c.args in
    let low : get_or a.area.now 2 0 < 65536 = search rules in
    let shape : in_shape a.words.now a.matrix.now a.area.now ≡ true = sym c.in_shape.ensures ∙ c.if-not-in_shape.false in
    let k = c.in-Some.ensures in
    let alive : live_in a.area.now a.chunk ≡ true = k.2 in
    let resting : rests_in a.area.now a.chunk ≡ true = rw (k.0, k.1) at (sym c.at_rest.ensures ∙ c.if-at_rest.true) in
    let made = run-rests a.words.now a.matrix.now a.area.now a.chunk a.budget low shape alive resting in
    record { answers = made.0; leaves = made.1 }

pub make_moves-requires : goal.make_moves-requires
make_moves-requires c =
    let a = c.args in
    let low : get_or a.area.now 2 0 < 65536 = search rules in
    let shape : in_shape a.words.now a.matrix.now a.area.now ≡ true = sym c.in_shape.ensures ∙ c.if-not-in_shape.false in
    let k = c.in-Some.ensures in
    let alive : live_in a.area.now a.chunk ≡ true = k.2 in
    runnable a.words.now a.matrix.now a.area.now a.chunk a.budget low shape alive

pub returns : goal.returns
returns c =
    let a = c.args in
    let low : get_or a.area.now 2 0 < 65536 = search rules in
    let shape : in_shape a.words.now a.matrix.now a.area.now ≡ true = sym c.in_shape.ensures ∙ c.if-not-in_shape.false in
    let k = c.in-Some.ensures in
    let alive : live_in a.area.now a.chunk ≡ true = k.2 in
    let runs : rests_in a.area.now a.chunk ≡ false = rw (k.0, k.1) at (sym c.at_rest.ensures ∙ c.if-at_rest.false) in
    let made = run_moved a.words.now a.matrix.now a.area.now a.chunk a.budget low shape alive runs c.make_moves.ensures in
    record { answers = made.0; leaves = made.1 }
