-- `parsing::read`: load's answer, and then the row read through, by ParseLaws.
use Rattle.std.proofs.Common.{refl}
use Rattle.std.proofs.lemmas.Result.{err_from_is_err_and}
use Rattle.parse.specs.ParseLaws.{not-loaded, loaded, loaded-read}
use Rattle.parse.proofs.parsing.read.Goals as goal

pub returns-in_err-load : goal.returns-in_err-load
returns-in_err-load c =
    let a = c.args in
    let p = err_from_is_err_and c.from_residual.result c.from_residual.ensures.1 in
    rw (p.1, p.2) (not-loaded a.words.now a.tokens.now a.area.now c.load.ensures.answer c.in_err-load.was)

pub returns : goal.returns
returns c =
    let a = c.args in
    let l = loaded a.words.now _ refl c.load.ensures.answer c.in_ok-load.was c.load.ensures.bytes in
    let e = c.read_through.ensures in
    loaded-read l a.tokens.now a.area.now e.answers e.leaves
