-- The joins that are left, from this area on, are all of them from the first area on.
use Rattle.std.proofs.Common.{◌-◌, ◌≡◌}
use Rattle.rows.specs.Schedule.{join_rightwards}
use Rattle.rows.proofs.schedule.join_rightwards.Given as goal

abbrev pub invariant-loop : goal.invariant-loop
invariant-loop l =
    join_rightwards l.words l.matrix (l.chunks - 1) l.initial.area ≡ join_rightwards l.words l.matrix (l.chunks - l.counter) l.area
