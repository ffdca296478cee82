-- The right side starts as it must, seen from that side; a store that changes a mask adds a member.
use Rattle.table.specs.Sided.{from_end, side-rules}
use Rattle.table.specs.SetPasses.{front_of, gained-changed}
use Rattle.table.proofs.sets.View.gain.Goals as goal

pub brought-requires : goal.brought-requires
brought-requires c =
    let g = c.args.self.now.grammar in
    rw c.right.ensures (front_of (side-rules g.words.now g.passed (from_end c.args.self.now.side)) c.args.r c.requires.0)

pub returns-clause-changed : goal.returns-clause-changed
returns-clause-changed c =
    let g = c.args.self.now.grammar in
    rw (c.left-left.ensures.is, c.brought.ensures, c.right.ensures)
    (gained-changed (side-rules g.words.now g.passed (from_end c.args.self.now.side)) c.args.masks.now c.args.r c.requires.0 c.requires.1)
