-- Words that pass 1 to 3 have a head, with T at most 63 and N at most 64; the walk reads within sized words only.
use Rattle.std.proofs.Common.{◌≡◌, refl, sym, ℕ, ◌≤◌, Bool, true, ◌&&◌, List, length, ap, ◌∙◌, arith}
use Rattle.std.proofs.lemmas.Bool.{and_parts}
use Rattle.language.specs.Words.{count_t, count_n}
use Rattle.matrix.specs.GrammarShape.{grammar_in_shape}
use Rattle.matrix.specs.WordsOfShape.{headed}
use Rattle.matrix.specs.EndMarkOfShape.{grammar-in-shape}
use Rattle.area.specs.Shape.{rule_c, walk_fits}
use Rattle.area.proofs.ShapeLaw.{sized_of, shape-left, shape-kept}
use Rattle.area.proofs.in_shape.Goals as goal

-- past the tests of grammar, matrix and sizes
readable : (words matrix area : List ℕ) {a b : Bool} → a ≡ grammar_in_shape words matrix → b ≡ rule_c area → (a && b) ≡ true
    → (grammar_in_shape words matrix ≡ true) × (rule_c area ≡ true)
readable words matrix area d e h = and_parts _ _ (rw (d, e) at h)

head : (words matrix : List ℕ) → grammar_in_shape words matrix ≡ true → (4 ≤ length words) × (count_t words ≤ 63) × (count_n words ≤ 64)
head words matrix h = headed words (grammar-in-shape words matrix h).0

pub returns-then-not-readable : goal.returns-then-not-readable
returns-then-not-readable c =
    let a = c.args in
    shape-left a.words.now a.matrix.now a.area.now (rw (c.grammar_in_shape.ensures, c.sized.ensures) at c.if-not-readable.true)

pub bounds-words-0 : goal.bounds-words-0
bounds-words-0 c =
    let a = c.args in
    let read = readable a.words.now a.matrix.now a.area.now c.grammar_in_shape.ensures c.sized.ensures c.if-not-readable.false in
    omega (arith, head a.words.now a.matrix.now read.0)

pub bounds-words-1 : goal.bounds-words-1
bounds-words-1 c =
    let a = c.args in
    let read = readable a.words.now a.matrix.now a.area.now c.grammar_in_shape.ensures c.sized.ensures c.if-not-readable.false in
    omega (arith, head a.words.now a.matrix.now read.0)

pub invariant_of-lent : goal.invariant_of-lent
invariant_of-lent c =
    let a = c.args in
    let read = readable a.words.now a.matrix.now a.area.now c.grammar_in_shape.ensures c.sized.ensures c.if-not-readable.false in
    record { sized = sized_of a.area.now read.1; tokens_are = refl; few = (head a.words.now a.matrix.now read.0).2 }

pub returns-in-Some : goal.returns-in-Some
returns-in-Some c =
    let a = c.args in
    let read = readable a.words.now a.matrix.now a.area.now c.grammar_in_shape.ensures c.sized.ensures c.if-not-readable.false in
    c.walk_fits.ensures
    ∙ ap (walk_fits a.area.now) (sym c.in-Some.is ∙ c.walk_table.ensures)
    ∙ shape-kept a.words.now a.matrix.now a.area.now read.0 read.1

pub returns-in-None : goal.returns-in-None
returns-in-None c =
    let a = c.args in
    let read = readable a.words.now a.matrix.now a.area.now c.grammar_in_shape.ensures c.sized.ensures c.if-not-readable.false in
    ap (walk_fits a.area.now) (sym c.in-None.is ∙ c.walk_table.ensures) ∙ shape-kept a.words.now a.matrix.now a.area.now read.0 read.1
