-- `join`: the checks in their order, and then the join.
use Rattle.std.proofs.Common.{◌≡◌, true, false, ◌<◌, get_or, sym, ◌∙◌, rules}
use Rattle.laws.specs.Tests.{and_both}
use Rattle.area.specs.Shape.{in_shape}
use Rattle.std.specs.Prelude.{Some, None}
use Rattle.moving.specs.CallLaws.{there, table-there}
use Rattle.moving.specs.JoinCalls.{join-bad, join-gone, join-alone, join-moving, join-can, join-made}
use Rattle.moving.specs.Moved.{live_in, rests_in}
use Rattle.moving.specs.ReadWords.{live_after}
use Rattle.moving.specs.Searches.{found_of}
use Rattle.reader.proofs.join.Goals as goal

pub returns-then-not-in_shape : goal.returns-then-not-in_shape
returns-then-not-in_shape c =
    let a = c.args in
    let bad : in_shape a.words.now a.matrix.now a.area.now ≡ false = sym c.in_shape.ensures ∙ c.if-not-in_shape.true in
    let made = join-bad a.words.now a.matrix.now a.area.now a.chunk bad in
    record { answers = made.0; leaves = made.1 }

pub live-requires : goal.live-requires
live-requires c =
    let a = c.args in
    let low : get_or a.area.now 2 0 < 65536 = search rules in
    let shape : in_shape a.words.now a.matrix.now a.area.now ≡ true = sym c.in_shape.ensures ∙ c.if-not-in_shape.false in
    table-there (there a.words.now a.matrix.now a.area.now a.chunk low shape)

pub returns-in_default : goal.returns-in_default
returns-in_default c =
    let a = c.args in
    let low : get_or a.area.now 2 0 < 65536 = search rules in
    let shape : in_shape a.words.now a.matrix.now a.area.now ≡ true = sym c.in_shape.ensures ∙ c.if-not-in_shape.false in
    let gone : live_in a.area.now a.chunk ≡ false = rw c.in_default.is at c.live.ensures in
    let made = join-gone a.words.now a.matrix.now a.area.now a.chunk low shape gone in
    record { answers = made.0; leaves = made.1 }

pub join_chunks-requires : goal.join_chunks-requires
join_chunks-requires c =
    let a = c.args in
    let low : get_or a.area.now 2 0 < 65536 = search rules in
    let shape : in_shape a.words.now a.matrix.now a.area.now ≡ true = sym c.in_shape.ensures ∙ c.if-not-in_shape.false in
    let k = c.in-Some.ensures in
    let alive : live_in a.area.now a.chunk ≡ true = k.2 in
    let n = c.in-Some-next_live.ensures in
    let d = c.in-Some-next_live.right.c in
    let follow : Some d ≡ found_of (live_after a.area.now a.chunk) = rw (k.0, k.1) at n.1 in
    let both = and_both (rests_in a.area.now a.chunk) (rests_in a.area.now d) (rw (c.at_rest.ensures, c.at_rest-in-Some-next_live.ensures, n.0, k.0, k.1) at c.if-at_rest.true) in
    join-can a.words.now a.matrix.now a.area.now a.chunk low shape alive d follow both.0 both.1

pub returns-then-at_rest : goal.returns-then-at_rest
returns-then-at_rest c =
    let a = c.args in
    let low : get_or a.area.now 2 0 < 65536 = search rules in
    let shape : in_shape a.words.now a.matrix.now a.area.now ≡ true = sym c.in_shape.ensures ∙ c.if-not-in_shape.false in
    let k = c.in-Some.ensures in
    let alive : live_in a.area.now a.chunk ≡ true = k.2 in
    let n = c.in-Some-next_live.ensures in
    let d = c.in-Some-next_live.right.c in
    let follow : Some d ≡ found_of (live_after a.area.now a.chunk) = rw (k.0, k.1) at n.1 in
    let both = and_both (rests_in a.area.now a.chunk) (rests_in a.area.now d) (rw (c.at_rest.ensures, c.at_rest-in-Some-next_live.ensures, n.0, k.0, k.1) at c.if-at_rest.true) in
    let made = join-made a.words.now a.matrix.now a.area.now a.chunk low shape alive d follow both.0 both.1 in
    record { answers = made.0; leaves = c.join_chunks.ensures ∙ made.1 }

pub returns-else-at_rest : goal.returns-else-at_rest
returns-else-at_rest c =
    let a = c.args in
    let low : get_or a.area.now 2 0 < 65536 = search rules in
    let shape : in_shape a.words.now a.matrix.now a.area.now ≡ true = sym c.in_shape.ensures ∙ c.if-not-in_shape.false in
    let k = c.in-Some.ensures in
    let alive : live_in a.area.now a.chunk ≡ true = k.2 in
    let n = c.in-Some-next_live.ensures in
    let d = c.in-Some-next_live.right.c in
    let follow : Some d ≡ found_of (live_after a.area.now a.chunk) = rw (k.0, k.1) at n.1 in
    let moving = rw (c.at_rest.ensures, c.at_rest-in-Some-next_live.ensures, n.0, k.0, k.1) at c.if-at_rest.false in
    let made = join-moving a.words.now a.matrix.now a.area.now a.chunk low shape alive d follow moving in
    record { answers = made.0; leaves = made.1 }

pub returns-in_default-next_live : goal.returns-in_default-next_live
returns-in_default-next_live c =
    let a = c.args in
    let low : get_or a.area.now 2 0 < 65536 = search rules in
    let shape : in_shape a.words.now a.matrix.now a.area.now ≡ true = sym c.in_shape.ensures ∙ c.if-not-in_shape.false in
    let k = c.in-Some.ensures in
    let alive : live_in a.area.now a.chunk ≡ true = k.2 in
    let alone : None ≡ found_of (live_after a.area.now a.chunk) = rw (c.in_default-next_live.is, k.0, k.1) at c.next_live.ensures in
    let made = join-alone a.words.now a.matrix.now a.area.now a.chunk low shape alive alone in
    record { answers = made.0; leaves = made.1 }
