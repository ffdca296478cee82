-- `Chunk::next_live`: number d is not live, so the search goes on after it.
use Rattle.std.proofs.Common.{◌∙◌, arith}
use Rattle.laws.specs.Tests.{le-ltb}
use Rattle.moving.specs.ReadWords.{live_at}
use Rattle.moving.specs.Searches.{first_past}
use Rattle.reader.proofs.chunk.Chunk.next_live.Goals as goal

pub loop-d-preserved : goal.loop-d-preserved
loop-d-preserved c =
    c.loop-d.invariant ∙ first_past (live_at c.args.self.area.now) _ c.loop-d.d (omega arith) (le-ltb _ _ (rw c.row_word.ensures at c.if-row_word-gt0.false))
