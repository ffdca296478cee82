-- The state is the start's.
use Rattle.text.proofs.reading.Held.new.Goals as goal

pub returns : goal.returns
returns c = rw c.start.ensures
