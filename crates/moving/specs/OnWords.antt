-- A call on the words of a state is the machine's call on that state, and leaves the words of the state after it.
-- Document 01: "Any other state that keeps the shape rules gets the move named above"; "anything beyond is untouched". The state is any
-- that keeps the rules of docs/AREA.md, with any words and matrix that do; whatever stands after its words stays.
-- Rests on Calls, and on shape's InShape and Decode.
--
-- Main statements: step-broken, step-in-shape, join-broken, join-in-shape, run-broken, run-in-shape (15, or the machine's call on what the words decode to);
-- stands, reads (the words of a state); step_is, run_is, join_is (the calls on them), leaves (the words afterwards).
use Rattle.std.specs.Prelude.{◌≡◌, refl, true, false, List, ◌++◌, ℕ, length, drop}
use Rattle.std.proofs.Common.{ap, ◌∙◌, arith}
use Rattle.laws.specs.Parts.{drop_past}
use Rattle.refusals.specs.declared.Refusal.TheVariants.{BadState}
use Rattle.language.specs.Trees.{Span}
use Rattle.machine.specs.States.{State, refused, refused_run, step, run, join}
use Rattle.machine.specs.TableOf.{table_of}
use Rattle.layout.specs.Layout.{need, encode, decode}
use Rattle.layout.specs.Lengths.{encode-length}
use Rattle.shape.specs.Encoded.{tokens-at, chunks-at}
use Rattle.shape.specs.Decode.{decode-encode}
use Rattle.matrix.specs.GrammarShape.{grammar_in_shape}
use Rattle.area.specs.Shape.{in_shape}
use Rattle.matrix.specs.WordsOfShape.{terminals-fit}
use Rattle.matrix.specs.EndMarkOfShape.{grammar-in-shape}
use Rattle.shape.specs.InShape.{holds-in-shape}
use Rattle.shape.specs.Safe.{Safe}
use Rattle.moving.specs.Calls.{with_state, step_call, run_call, join_call}

-- ---- a call on words that break a shape rule, and on words in shape

module _ (words matrix area : List ℕ) (c : ℕ) where
  pub step-broken : in_shape words matrix area ≡ false → step_call words matrix area c ≡ refused BadState
  unfolding step_call
  step-broken e = rw (e, step_call)

  pub step-in-shape : in_shape words matrix area ≡ true → step_call words matrix area c ≡ step (table_of words matrix) c (decode area)
  unfolding step_call
  step-in-shape e = rw (e, step_call)

  pub join-broken : in_shape words matrix area ≡ false → join_call words matrix area c ≡ refused BadState
  unfolding join_call
  join-broken e = rw (e, join_call)

  pub join-in-shape : in_shape words matrix area ≡ true → join_call words matrix area c ≡ join c (decode area)
  unfolding join_call
  join-in-shape e = rw (e, join_call)

  pub run-broken : (budget : ℕ) → in_shape words matrix area ≡ false → run_call words matrix area c budget ≡ refused_run BadState
  unfolding run_call
  run-broken budget e = rw (e, run_call)

  pub run-in-shape : (budget : ℕ) → in_shape words matrix area ≡ true → run_call words matrix area c budget ≡ run (table_of words matrix) c budget (decode area)
  unfolding run_call
  run-in-shape budget e = rw (e, run_call)

-- ---- on the words of a state

module _ (words matrix : List ℕ) (grammar : grammar_in_shape words matrix ≡ true) {n : ℕ} {s : State Span} (safe : Safe words n s) (rest : List ℕ) where
  abbrev area : List ℕ
  area = encode n s ++ rest

  pub stands : in_shape words matrix area ≡ true
  stands = holds-in-shape words matrix grammar safe rest

  pub reads : decode area ≡ s
  reads = decode-encode (omega (arith, (terminals-fit words (grammar-in-shape words matrix grammar).0).1)) safe rest

  pub step_is : (c : ℕ) → step_call words matrix area c ≡ step (table_of words matrix) c s
  step_is c = step-in-shape words matrix area c stands ∙ ap (step (table_of words matrix) c) reads

  pub run_is : (c budget : ℕ) → run_call words matrix area c budget ≡ run (table_of words matrix) c budget s
  run_is c budget = run-in-shape words matrix area c budget stands ∙ ap (run (table_of words matrix) c budget) reads

  pub join_is : (c : ℕ) → join_call words matrix area c ≡ join c s
  join_is c = join-in-shape words matrix area c stands ∙ ap (join c) reads

  -- the words of another state in its place
  pub leaves : (s' : State Span) → with_state area s' ≡ encode n s' ++ rest
  leaves s' =
      let beyond : drop (need n (length s.chunks)) area ≡ rest =
      drop_past area 0 (need n (length s.chunks)) (encode n s) rest (omega (arith, encode-length safe)) refl in
      rw (tokens-at n s rest, chunks-at n s rest, beyond)
