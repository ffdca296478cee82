-- `parse`: the row read, and then its outcome and the clearing, by ParseLaws.
use Rattle.std.proofs.Common.{ap, ◌∙◌, Err}
use Rattle.std.proofs.lemmas.Result.{err_from_is_err_and}
use Rattle.parse.specs.ParseLaws.{not-read, row-parses}
use Rattle.parse.proofs.parse.Goals as goal

pub returns-in_err-read : goal.returns-in_err-read
returns-in_err-read c =
    let p = err_from_is_err_and c.from_residual.result c.from_residual.ensures.1 in
    let q = not-read c.args.out.now c.read.ensures c.in_err-read.was in
    record { answers = p.1 ∙ ap Err p.2 ∙ q.0; clears = q.1.0; writes = q.1.1 }

pub returns : goal.returns
returns c =
    let f = c.finish.ensures in
    let q = row-parses c.args.out.now c.read.ensures c.in_ok-read.was f.value f.out_after f.area_after in
    record { answers = q.0; clears = q.1.0; writes = q.1.1 }
