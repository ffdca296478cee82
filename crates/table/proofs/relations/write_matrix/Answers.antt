-- Row by row the matrix; a row that is refused has the first conflict.
use Rattle.std.proofs.lemmas.Result.{err_from_is_err_and}
use Rattle.std.proofs.Common.{arith}
use Rattle.language.specs.Words.{grammar_of}
use Rattle.table.specs.RelationRows.{rows-none, rows-more, rows-refused, rows-whole}
use Rattle.table.proofs.relations.write_matrix.Goals as goal

pub loop-a-init : goal.loop-a-init
loop-a-init c = rw c.requires (rows-none (grammar_of c.args.grammar.words.now))

pub returns-in_err-write_row : goal.returns-in_err-write_row
returns-in_err-write_row c =
    let g = grammar_of c.args.grammar.words.now in
    let t = c.terminals-t.ensures in
    let rows = c.relations-rows in
    let p = err_from_is_err_and c.from_residual.result c.from_residual.ensures.1 in
    rw (p.1, p.2) (rows-refused g t.is t.low c.loop-a.invariant rows.result (rw c.new.ensures at rows.ensures) (omega arith) c.in_err-write_row.ensures)

pub loop-a-preserved : goal.loop-a-preserved
loop-a-preserved c =
    let g = grammar_of c.args.grammar.words.now in
    let t = c.terminals-t.ensures in
    let rows = c.relations-rows in
    rows-more g t.is t.low c.loop-a.invariant rows.result (rw c.new.ensures at rows.ensures) (omega arith) c.in_ok-write_row.ensures

pub returns-in_ok-write_row : goal.returns-in_ok-write_row
returns-in_ok-write_row c =
    let g = grammar_of c.args.grammar.words.now in
    let t = c.terminals-t.ensures in
    let rows = c.relations-rows in
    rows-whole g t.is t.low (rows-more g t.is t.low c.loop-a.invariant rows.result (rw c.new.ensures at rows.ensures) (omega arith) c.in_ok-write_row.ensures) (omega arith)
