-- What is left, from this chunk on, is all of it from chunk 0 on.
use Rattle.std.proofs.Common.{◌-◌, ◌≡◌}
use Rattle.rows.specs.Schedule.{each_to_rest}
use Rattle.rows.proofs.schedule.each_to_rest.Given as goal

abbrev pub invariant-loop-chunk : goal.invariant-loop-chunk
invariant-loop-chunk l =
    each_to_rest l.words l.matrix 0 l.chunks l.initial.area ≡ each_to_rest l.words l.matrix l.chunk (l.chunks - l.chunk) l.area
