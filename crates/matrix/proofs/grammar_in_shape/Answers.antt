-- Words that pass 1 to 3 have a head, whose first word is T; the rows that have been passed fit; after row T the rest of the matrix decides.
use Rattle.std.specs.Prelude.{Ok}
use Rattle.std.proofs.Common.{Bool, true, false, refl, rules, eqb, ◌≡◌, ◌+◌, ◌*◌, ◌≤◌, ◌<◌, List, ℕ, length, sym, ap, ◌∙◌, arith}
use Rattle.std.proofs.lemmas.Iterator.{YieldsList-from_range, cases_from_all, serves_from_Range}
use Rattle.laws.specs.Looks.{TellsAll}
use Rattle.language.specs.Checks.{check_symbols}
use Rattle.language.specs.Words.{count_t}
use Rattle.matrix.specs.GrammarShape.{is_done}
use Rattle.matrix.specs.ByteTests.{byte_at}
use Rattle.matrix.specs.WordsOfShape.{headed}
use Rattle.matrix.proofs.MatrixLaw.{passed, refused, short-fails, part-fails, part-told, range-passes, range-fails, rows-fit, whole-told}
use Rattle.matrix.proofs.grammar_in_shape.Goals as goal

-- words that pass 1 to 3 have a head
head : (words : List ℕ) → check_symbols words ≡ Ok tt → (4 ≤ length words) × (count_t words < 64)
head words e = let h = headed words (ap is_done e) in (h.0, omega arith)

pub returns-in-Err : goal.returns-in-Err
returns-in-Err c = sym (refused c.args.words.now c.args.matrix.now (sym c.check_symbols.ensures ∙ c.in-Err.is))

pub returns-then-matrix-lt4096 : goal.returns-then-matrix-lt4096
returns-then-matrix-lt4096 c =
    let words = c.args.words.now in
    let matrix = c.args.matrix.now in
    sym (passed words matrix (sym c.check_symbols.ensures ∙ c.in_default.is) ∙ short-fails (count_t words) matrix c.if-matrix-lt4096.true)

pub bounds-words-0 : goal.bounds-words-0
bounds-words-0 c = omega (arith, head c.args.words.now (sym c.check_symbols.ensures ∙ c.in_default.is))

pub all-requires-clause-callable : goal.all-requires-clause-callable
all-requires-clause-callable c =
    let few = (head c.args.words.now (sym c.check_symbols.ensures ∙ c.in_default.is)).1 in
    let long = c.if-matrix-lt4096.false in
    serves_from_Range (λ x q k. search rules) (λ x low high. let h : x ≤ count_t c.args.words.now = omega (arith, high) in search (rules, few, long))

-- row T + 1 starts within the matrix
rest : (words : List ℕ) → check_symbols words ≡ Ok tt → 64 * (count_t words + 1) ≤ 4096
rest words e = let t = (head words e).1 in omega arith

pub slice_bounds-all_are-count : goal.slice_bounds-all_are-count
slice_bounds-all_are-count c = rest c.args.words.now (sym c.check_symbols.ensures ∙ c.in_default.is)

pub slice_bounds-all_are-start : goal.slice_bounds-all_are-start
slice_bounds-all_are-start c = rest c.args.words.now (sym c.check_symbols.ensures ∙ c.in_default.is)

-- what `row_fits` told of row a
abbrev Fits : ℕ → List ℕ → Bool → ℕ → Type 0
Fits t matrix fits a = TellsAll (byte_at t matrix) (64 * a) (64 * a + 64) fits

pub returns-then-all : goal.returns-then-all
returns-then-all c =
    let words = c.args.words.now in
    let matrix = c.args.matrix.now in
    let t = count_t words in
    let told = cases_from_all _ _ c.all.result (Fits t matrix true) (Fits t matrix false) c.all.ensures.ran
    (YieldsList-from_range 0 (t + 1) (t + 1) refl (omega arith)) (λ x q k. (search rules, search rules)) (λ x q k. search rules) in
    whole-told t matrix (t + 1) c.all_are.result c.if-matrix-lt4096.false (omega arith) (rows-fit t matrix (t + 1) (range-passes (Fits t matrix true) (Fits t matrix false) (t + 1) c.all.result told c.if-all.true))
    (rw c.all_are.ensures (part-told (λ x. eqb x 0) matrix (64 * (t + 1)) 4096 c.if-matrix-lt4096.false))
    ∙ sym (passed words matrix (sym c.check_symbols.ensures ∙ c.in_default.is))

pub returns-else-all : goal.returns-else-all
returns-else-all c =
    let words = c.args.words.now in
    let matrix = c.args.matrix.now in
    let t = count_t words in
    let done = sym c.check_symbols.ensures ∙ c.in_default.is in
    let room = (head words done).1 in
    let told = cases_from_all _ _ c.all.result (Fits t matrix true) (Fits t matrix false) c.all.ensures.ran
    (YieldsList-from_range 0 (t + 1) (t + 1) refl (omega arith)) (λ x q k. (search rules, search rules)) (λ x q k. search rules) in
    let one = range-fails (Fits t matrix true) (Fits t matrix false) (t + 1) c.all.result told c.if-all.false in
    let from = 64 * one.0 in
    c.if-all.false ∙ sym (passed words matrix done ∙ part-fails t matrix from (from + 64) false (omega (arith, one.1)) one.2 refl)
