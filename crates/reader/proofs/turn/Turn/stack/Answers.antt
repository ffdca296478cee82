-- `Turn::stack`: the stack that the words with the hand's put in have stands in the lent ones.
use Rattle.moving.specs.Settled.{settles}
use Rattle.moving.specs.SettledReadings.{hand-stack}
use Rattle.reader.proofs.turn.Turn.stack.Goals as goal

pub new-requires : goal.new-requires
new-requires c = let k = c.args.self.holding in hand-stack k (settles k) c.requires
