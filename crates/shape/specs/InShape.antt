-- All the shape rules together, in the form in which calls on a lent area use them: words, matrix and area that keep them hold a state,
-- the one that the area decodes to; and every state that keeps the rules of a state is in shape.
-- Document 01, 15 BAD STATE: "grammar, matrix or work area breaks the shape rules listed in docs/".
-- Rests on Decode, and on matrix's WordsOfShape for the number of terminals.
--
-- Main statements: in-shape-parts, in-shape-holds, holds-in-shape, in-shape-exactly.
use Rattle.std.specs.Prelude.{◌≡◌, true, ◌↔◌, List, ◌++◌, ℕ, ◌<◌, get_or}
use Rattle.std.proofs.Common.{arith}
use Rattle.laws.specs.Passed.{both}
use Rattle.language.specs.Trees.{Span}
use Rattle.language.specs.Words.{count_t, count_n}
use Rattle.machine.specs.States.{State}
use Rattle.layout.specs.Layout.{encode, decode}
use Rattle.layout.specs.Kept.{Kept}
use Rattle.matrix.specs.GrammarShape.{grammar_in_shape}
use Rattle.area.specs.Shape.{area_in_shape, in_shape}
use Rattle.matrix.specs.WordsOfShape.{terminals-fit}
use Rattle.matrix.specs.EndMarkOfShape.{grammar-in-shape}
use Rattle.shape.specs.ShapeOfKept.{shape-complete}
use Rattle.shape.specs.ShapeExactly.{HoldsState, Stated, shape-exactly}
use Rattle.shape.specs.Decode.{decoded}

module _ (words matrix : List ℕ) where
  few-terminals : grammar_in_shape words matrix ≡ true → count_t words < 256
  few-terminals h = omega (arith, (terminals-fit words (grammar-in-shape words matrix h).0).1)

  -- the rules of grammar and matrix, and those of the area
  pub in-shape-parts : (area : List ℕ) → in_shape words matrix area ≡ true → (grammar_in_shape words matrix ≡ true) × (area_in_shape (count_t words) (count_n words) area ≡ true)
  unfolding in_shape
  in-shape-parts area h = let p = both (grammar_in_shape words matrix) (area_in_shape (count_t words) (count_n words) area) h in (p.passes, p.good)

  parts-in-shape : (area : List ℕ) → grammar_in_shape words matrix ≡ true → area_in_shape (count_t words) (count_n words) area ≡ true → in_shape words matrix area ≡ true
  unfolding in_shape
  parts-in-shape area g h = rw (g, h)

  -- an area in shape holds the state that it decodes to; word 2 is one of 16 bits
  pub in-shape-holds : (area : List ℕ) → get_or area 2 0 < 65536 → in_shape words matrix area ≡ true → HoldsState (count_t words) (count_n words) area (decode area)
  in-shape-holds area low h =
      let p = in-shape-parts area h in
      decoded (count_t words) (count_n words) area (few-terminals p.0) low p.1

  -- a state that keeps the rules is in shape, whatever stands after its words
  pub holds-in-shape : {n : ℕ} {s : State Span} → grammar_in_shape words matrix ≡ true → Kept (count_t words) (count_n words) n s → (rest : List ℕ)
      → in_shape words matrix (encode n s ++ rest) ≡ true
  holds-in-shape {n} {s} g k rest = parts-in-shape (encode n s ++ rest) g (shape-complete (few-terminals g) k rest)

  pub in-shape-exactly : (area : List ℕ) → get_or area 2 0 < 65536
      → (in_shape words matrix area ≡ true) ↔ ((grammar_in_shape words matrix ≡ true) × Stated (count_t words) (count_n words) area)
  in-shape-exactly area low = (
    λ h. let p = in-shape-parts area h in (p.0, (shape-exactly (count_t words) (count_n words) area (few-terminals p.0) low).0 p.1),
    λ r. parts-in-shape area r.0 ((shape-exactly (count_t words) (count_n words) area (few-terminals r.0) low).1 r.1),
  )
