-- Each run of words is a part of the area.
use Rattle.area.proofs.ShapeLaw.{both-blank}
use Rattle.area.proofs.shape.Lent.rule_k.Goals as goal

pub returns : goal.returns
returns c =
    let lent = c.args.self.now in
    both-blank lent.area.now c.args.walk lent.sized lent.tokens_are c.slot_at-made.ensures c.slot_at.ensures c.all_are.ensures c.all_are-2.ensures
