-- 1 to 5 by `Checked::new`, then 6 by `write_matrix`, and then 11; the lent bytes are written after all of them.
use Rattle.std.proofs.Common.{◌≡◌, ◌++◌, List, ℕ, length, drop, sym, ap, ◌∙◌, Ok, Err, length-take-le}
use Rattle.std.proofs.lemmas.Result.{err_from_is_err_and}
use Rattle.refusals.specs.Answers.{Answer}
use Rattle.refusals.specs.declared.Refusal.TheVariants.{NoRoom}
use Rattle.language.specs.Checks.{Passed, check_words}
use Rattle.language.proofs.Checks.{words-pass}
use Rattle.table.specs.Loaded.{refused-load, first-conflict, room-load, done-load, refuses, loads}
use Rattle.table.proofs.load.Goals as goal

pub returns-in_err-grammar-clause-answer : goal.returns-in_err-grammar-clause-answer
returns-in_err-grammar-clause-answer c =
    let p = err_from_is_err_and c.from_residual.result c.from_residual.ensures.1 in
    p.1 ∙ ap Err p.2 ∙ refused-load c.args.words.now (length c.args.matrix.now) _ c.in_err-grammar.ensures

pub returns-in_err-grammar-clause-bytes : goal.returns-in_err-grammar-clause-bytes
returns-in_err-grammar-clause-bytes c =
    let words = c.args.words.now in
    let bytes = c.args.matrix.now in
    (refuses words bytes _ (refused-load words (length bytes) _ c.in_err-grammar.ensures)).1

-- words that the checks pass
passed : (words : List ℕ) → ◌≡◌ {A = Answer} (Ok tt) (check_words words) → Passed words
passed words e = (words-pass words).0 (sym e)

pub returns-in_err-write_matrix-clause-answer : goal.returns-in_err-write_matrix-clause-answer
returns-in_err-write_matrix-clause-answer c =
    let words = c.args.words.now in
    let g = c.in_ok-grammar.ensures in
    let p = err_from_is_err_and c.from_residual-in_err-write_matrix.result c.from_residual-in_err-write_matrix.ensures.1 in
    p.1 ∙ ap Err p.2 ∙ first-conflict words (length c.args.matrix.now) (passed words g.1) (rw g.0 at c.in_err-write_matrix.ensures)

pub returns-in_err-write_matrix-clause-bytes : goal.returns-in_err-write_matrix-clause-bytes
returns-in_err-write_matrix-clause-bytes c =
    let words = c.args.words.now in
    let bytes = c.args.matrix.now in
    let g = c.in_ok-grammar.ensures in
    (refuses words bytes _ (first-conflict words (length bytes) (passed words g.1) (rw g.0 at c.in_err-write_matrix.ensures))).1

pub returns-then-matrix-lt4096-clause-answer : goal.returns-then-matrix-lt4096-clause-answer
returns-then-matrix-lt4096-clause-answer c =
    let words = c.args.words.now in
    let g = c.in_ok-grammar.ensures in
    let filled = rw g.0 at c.in_ok-write_matrix.ensures in
    room-load words (length c.args.matrix.now) (passed words g.1) filled.free c.if-matrix-lt4096.true

pub returns-then-matrix-lt4096-clause-bytes : goal.returns-then-matrix-lt4096-clause-bytes
returns-then-matrix-lt4096-clause-bytes c =
    let words = c.args.words.now in
    let bytes = c.args.matrix.now in
    let g = c.in_ok-grammar.ensures in
    let filled = rw g.0 at c.in_ok-write_matrix.ensures in
    (refuses words bytes (NoRoom 4096) (room-load words (length bytes) (passed words g.1) filled.free c.if-matrix-lt4096.true)).1

pub copy_from_slice-requires : goal.copy_from_slice-requires
copy_from_slice-requires c = length-take-le 4096 c.args.matrix.now c.if-matrix-lt4096.false ∙ sym c.write_matrix.array_long

pub returns-clause-answer : goal.returns-clause-answer
returns-clause-answer c =
    let words = c.args.words.now in
    let g = c.in_ok-grammar.ensures in
    let filled = rw g.0 at c.in_ok-write_matrix.ensures in
    done-load words (length c.args.matrix.now) (passed words g.1) filled.free c.if-matrix-lt4096.false

pub returns-clause-bytes : goal.returns-clause-bytes
returns-clause-bytes c =
    let words = c.args.words.now in
    let bytes = c.args.matrix.now in
    let g = c.in_ok-grammar.ensures in
    let filled = rw g.0 at c.in_ok-write_matrix.ensures in
    let copied = ap (λ (l : List ℕ). l ++ drop 4096 bytes) c.copy_from_slice.ensures.after in
    (loads words bytes _ c.write_matrix.new.matrix (done-load words (length bytes) (passed words g.1) filled.free c.if-matrix-lt4096.false) copied filled.is).1
