-- `Stack::under`: a stack stands there.
use Rattle.moving.specs.OnStack.{stack-under}
use Rattle.reader.proofs.stack.Stack.under.Goals as goal

pub invariant_of-result : goal.invariant_of-result
invariant_of-result c = let s = c.args.self.stands in record { stands = (s.0, rw c.top_slot.ensures (stack-under s.1 c.requires)) }
