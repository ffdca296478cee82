-- `Stack::top_word`: that block's words are there.
use Rattle.std.proofs.Common.{arith}
use Rattle.moving.specs.OnStack.{stack-ends}
use Rattle.reader.proofs.stack.Stack.top_word.Goals as goal

pub slot_word-requires : goal.slot_word-requires
slot_word-requires c =
    let s = c.args.self.stands in
    let e = stack-ends s.1 c.requires.0 in
    (s.0, omega (arith, c.top_slot.ensures, e.some, e.fits, e.within, c.requires.1))
