-- The calls on a lent work area: step, run and join, each as its answer and what is left in the area.
-- Document 01: "a move or run 15, 12, 13; a join 15, 12, 14"; "All return number and value and leave lent memory unchanged";
-- "Any other state that keeps the shape rules gets the move named above." A call on words that keep the shape rules is the
-- machine's call on the state that they stand for; on any other words it is 15.
-- Rests on layout's Layout and area's Shape, and on machine's States and TableOf.
--
-- Main definitions: step_answer, step_area, run_answer, run_area, join_answer, join_area.
use Rattle.std.specs.Prelude.{true, false, List, ◌++◌, ℕ, get_or, Ok, Err}
use Rattle.refusals.specs.declared.Refusal.TheVariants.{BadState}
use Rattle.refusals.specs.Answers.{Answer, RunAnswer}
use Rattle.language.specs.Trees.{Span}
use Rattle.machine.specs.States
use Rattle.machine.specs.States.{State, Called, refused, became, Ran, refused_run, ran}
use Rattle.machine.specs.TableOf.{table_of}
use Rattle.layout.specs.Layout.{encode, decode, beyond_in}
use Rattle.area.specs.Shape.{in_shape}

-- the area with this state's words; what stood beyond them is untouched
abbrev pub with_state : List ℕ → State Span → List ℕ
with_state area s = encode (get_or area 0 0) s ++ beyond_in area

-- ---- step and join

abbrev pub called_answer : Called Span → Answer
called_answer (refused refusal) = Err refusal
called_answer (became s) = Ok tt

abbrev pub called_area : Called Span → List ℕ → List ℕ
called_area (refused refusal) area = area
called_area (became s) area = with_state area s

-- a step of chunk c
unfoldable pub step_call : List ℕ → List ℕ → List ℕ → ℕ → Called Span
step_call words matrix area c =
    elim (in_shape words matrix area) [ false ↦ refused BadState | true ↦ States.step (table_of words matrix) c (decode area) ]

unfoldable pub step_answer : List ℕ → List ℕ → List ℕ → ℕ → Answer
step_answer words matrix area c = called_answer (step_call words matrix area c)

unfoldable pub step_area : List ℕ → List ℕ → List ℕ → ℕ → List ℕ
step_area words matrix area c = called_area (step_call words matrix area c) area

-- a join of chunk c to the next live one
unfoldable pub join_call : List ℕ → List ℕ → List ℕ → ℕ → Called Span
join_call words matrix area c =
    elim (in_shape words matrix area) [ false ↦ refused BadState | true ↦ States.join c (decode area) ]

unfoldable pub join_answer : List ℕ → List ℕ → List ℕ → ℕ → Answer
join_answer words matrix area c = called_answer (join_call words matrix area c)

unfoldable pub join_area : List ℕ → List ℕ → List ℕ → ℕ → List ℕ
join_area words matrix area c = called_area (join_call words matrix area c) area

-- ---- run

abbrev pub ran_answer : Ran Span → RunAnswer
ran_answer (refused_run refusal) = Err refusal
ran_answer (ran made s) = Ok made

abbrev pub ran_area : Ran Span → List ℕ → List ℕ
ran_area (refused_run refusal) area = area
ran_area (ran made s) area = with_state area s

-- a run of chunk c with a budget
unfoldable pub run_call : List ℕ → List ℕ → List ℕ → ℕ → ℕ → Ran Span
run_call words matrix area c budget =
    elim (in_shape words matrix area) [ false ↦ refused_run BadState | true ↦ States.run (table_of words matrix) c budget (decode area) ]

unfoldable pub run_answer : List ℕ → List ℕ → List ℕ → ℕ → ℕ → RunAnswer
run_answer words matrix area c budget = ran_answer (run_call words matrix area c budget)

unfoldable pub run_area : List ℕ → List ℕ → List ℕ → ℕ → ℕ → List ℕ
run_area words matrix area c budget = ran_area (run_call words matrix area c budget) area
