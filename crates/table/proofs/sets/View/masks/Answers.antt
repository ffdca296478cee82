-- A pass that changes something adds a member, and there are no more than 64 times 64; sound masks that no rule changes are the sets.
use Rattle.std.proofs.Common.{arith}
use Rattle.language.specs.Words.{grammar_of}
use Rattle.table.specs.Sided.{from_end, sided, side-rules}
use Rattle.table.specs.SetPasses.{none-sound, has-grown, has-rested, sound-most, rests-members}
use Rattle.table.proofs.sets.View.masks.Goals as goal

pub loop-init : goal.loop-init
loop-init c = none-sound (sided (from_end c.args.self.now.side) (grammar_of c.args.self.now.grammar.words.now))

pub loop-smaller : goal.loop-smaller
loop-smaller c =
    let v = c.args.self.now in
    let p = c.pass in
    omega (arith, has-grown p.ensures.grown c.loop-test.true, sound-most (side-rules v.grammar.words.now v.grammar.passed (from_end v.side)) p.new.masks p.ensures.sound)

pub returns : goal.returns
returns c =
    let v = c.args.self.now in
    let p = c.pass in
    rests-members (side-rules v.grammar.words.now v.grammar.passed (from_end v.side)) p.new.masks p.ensures.sound (has-rested p.ensures.grown c.loop-test.false)
