-- `moves::clear`: the block that ends below `at` is there, as its size says, and clearing its words clears it whole.
use Rattle.std.proofs.Common.{arith}
use Rattle.moving.specs.Clearing.{clearing, clearing-tagged, clearing-more, clearing-done}
use Rattle.reader.proofs.moves.clear.Goals as goal

pub loop-at-init : goal.loop-at-init
loop-at-init c = clearing c.requires

pub clear_block-at-requires : goal.clear_block-at-requires
clear_block-at-requires c = clearing-tagged c.loop-at.invariant c.loop-at-test.true

pub loop-at-smaller : goal.loop-at-smaller
loop-at-smaller c = let t = clearing-tagged c.loop-at.invariant c.loop-at-test.true in omega (arith, c.clear_block-at.ensures.1, t)

pub loop-at-preserved : goal.loop-at-preserved
loop-at-preserved c = let e = c.clear_block-at.ensures in rw (e.0, e.1) (clearing-more c.loop-at.invariant c.loop-at-test.true)

pub returns : goal.returns
returns c = clearing-done c.loop-at.invariant c.loop-at-test.false
