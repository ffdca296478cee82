-- `calls::moved`: a stuck chunk's status is at hand.
use Rattle.std.proofs.Common.{refl}
use Rattle.moving.specs.Settled.{settled-stuck}
use Rattle.reader.proofs.calls.moved.Goals as goal

pub returns-in-Stick-clause-result_after : goal.returns-in-Stick-clause-result_after
returns-in-Stick-clause-result_after c =
    let r = settled-stuck c.requires.1 _ (rw c.in-Stick.is at c.requires.0) in
    rw (c.in-Stick.is, c.status_word.ensures) (r.0, r.1, refl)
