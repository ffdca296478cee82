-- `calls::make_moves`: before the first move the area holds what is at hand, and after the last it is stored.
use Rattle.std.proofs.Common.{◌<◌, ℕ, List, get_or, sym, subst, arith, rules}
use Rattle.layout.specs.Layout.{table_at}
use Rattle.moving.specs.RunMoves.{Runnable, underway, underway-listed}
use Rattle.moving.specs.Settled.{holding, settled-now}
use Rattle.reader.proofs.calls.make_moves.Goals as goal

pub invariant_of-hand : goal.invariant_of-hand
invariant_of-hand c = record { listed = underway-listed (underway c.requires c.args.budget) }

pub moves_until-after-requires : goal.moves_until-after-requires
moves_until-after-requires c =
    let a = c.args in
    let at-hand = c.hand-hand.ensures in
    let listed = underway-listed (underway c.requires a.budget) in
    let marks : get_or a.area.now (table_at a.c 4) 0 < 65536 = search rules in
    let made : get_or a.area.now 4 0 < 65536 = search rules in
    let low : get_or a.area.now 2 0 < 65536 = search rules in
    let k = holding at-hand listed.0 listed.1 (omega arith) (omega arith) in
    let same = settled-now k (omega arith) at-hand in
    (subst (λ (l : List ℕ). Runnable a.words.now a.matrix.now l a.c) (sym same) c.requires, k)

pub returns : goal.returns
returns c =
    let a = c.args in
    let at-hand = c.hand-hand.ensures in
    let listed = underway-listed (underway c.requires a.budget) in
    let marks : get_or a.area.now (table_at a.c 4) 0 < 65536 = search rules in
    let made : get_or a.area.now 4 0 < 65536 = search rules in
    let low : get_or a.area.now 2 0 < 65536 = search rules in
    let k = holding at-hand listed.0 listed.1 (omega arith) (omega arith) in
    let same = settled-now k (omega arith) at-hand in
    rw c.settle.ensures (rw same at c.moves_until-after.ensures.ran_words)
