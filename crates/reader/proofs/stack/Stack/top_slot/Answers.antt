-- `Stack::top_slot`: a block ends before slot `head`.
use Rattle.moving.specs.OnStack.{stack-ends}
use Rattle.reader.proofs.stack.Stack.top_slot.Goals as goal

pub overflow_sub-result-2 : goal.overflow_sub-result-2
overflow_sub-result-2 c = let s = c.args.self.stands in let e = stack-ends s.1 c.requires in rw s.0 e.fits
