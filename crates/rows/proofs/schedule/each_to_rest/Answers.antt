-- A turn takes the next chunk to rest, and after the last chunk nothing is left.
use Rattle.std.proofs.Common.{List, ℕ, ◌+◌, ◌-◌, sym, ap, ◌∙◌, arith}
use Rattle.rows.specs.Schedule.{each_to_rest, each-more, each-none}
use Rattle.rows.proofs.schedule.each_to_rest.Goals as goal

pub loop-chunk-preserved : goal.loop-chunk-preserved
loop-chunk-preserved c =
    let a = c.args in
    let l = c.loop-chunk in
    l.invariant
    ∙ each-more a.words.now a.matrix.now l.area l.chunk a.chunks (omega arith)
    ∙ ap (λ (next : List ℕ). each_to_rest a.words.now a.matrix.now (l.chunk + 1) (a.chunks - (l.chunk + 1)) next) (sym c.to_rest.ensures)

pub returns : goal.returns
returns c =
    let a = c.args in
    let l = c.loop-chunk in
    sym (l.invariant ∙ each-none a.words.now a.matrix.now l.area l.chunk a.chunks (omega arith))
