-- `Chunk::next_live`: the search from the number after c is the search from d.
use Rattle.std.proofs.Common.{◌≡◌, ◌-◌}
use Rattle.laws.specs.Least.{first_from}
use Rattle.moving.specs.ReadWords.{live_at, live_after}
use Rattle.reader.proofs.chunk.Chunk.next_live.Given as goal

abbrev pub invariant-loop-d : goal.invariant-loop-d
invariant-loop-d l = live_after l.fn.self.area.now l.fn.self.c ≡ first_from (live_at l.fn.self.area.now) (l.d-end - l.d) l.d
