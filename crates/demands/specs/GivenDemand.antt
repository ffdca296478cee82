-- *Given exactly*, of the public calls: each answer is given exactly when the table's sentence for it holds, every check before it passed.
-- Document 01, "Refusal numbers": "No. | Given exactly when | Value". The checks of words, of a set and of a start are lists of conditions in
-- the order of the checks, as language's Given reads them: the earlier ones hold nowhere, this one holds at the value and at nothing
-- smaller. A call on an area is 15 exactly when the shape rules are broken; otherwise machine's sentences hold of the state that the area decodes to.
-- Rests on PublicCalls, on language's Checks and Loads, start's Start, machine's AllowedExactly, GivenExactly and Counts, and ParseDemand.
--
-- Main definitions: SetGiven, StepGiven, RunGiven, JoinGiven, ReportGiven, ParseGiven; GivenFor (of any call).
-- What is proved of them: proofs' GivenDemand.
use Rattle.std.specs.Prelude.{◌≡◌, ◌↔◌, ℕ, ◌*◌, ◌≤◌, ◌<◌, Ok, Err}
use Rattle.std.proofs.Math.Path.{ap}
use Rattle.std.proofs.Common.{◌∙◌}
use Rattle.std.proofs.Math.Bool.{true, false}
use mathlib.Core.List.{List, []}
use Rattle.std.proofs.Math.ListN.{length}
use Rattle.refusals.specs.declared.Refusal.{Refusal}
use Rattle.refusals.specs.declared.Refusal.TheVariants.{NoRoom, NoChunk, AtRest, NoJoin, BadState, Unfinished}
use Rattle.refusals.specs.Answers.{Answer, SetAnswer, RunAnswer, ReportAnswer}
use Rattle.language.specs.Grammar.{Grammar, mirrored}
use Rattle.language.specs.Words.{grammar_of}
use Rattle.language.specs.Stages.{Given}
use Rattle.language.specs.Checks.{symbol_conditions, word_conditions, check_symbols, check_words}
use Rattle.language.specs.SetMasks.{left_set, left_size}
use Rattle.language.specs.Matrix.{matrix_of}
use Rattle.language.specs.Loads.{LoadInput, load_conditions, load_answer}
use Rattle.language.specs.Loads.{SetInput, set_conditions, left_set_answer, right_set_answer}
use Rattle.language.specs.Trees.{Span, Reduction}
use Rattle.machine.specs.Moves.{Stuck}
use Rattle.machine.specs.States.{State, refusal_of}
use Rattle.machine.specs.TableOf.{table_of}
use Rattle.machine.specs.Allowed.{Live, Steps, JoinsAt}
use Rattle.machine.specs.GivenExactly.{LiveAtRest, CannotJoin}
use Rattle.machine.specs.GivenExactly.{Finished, StuckSo, ReportedSo}
use Rattle.machine.specs.Counts.{RunNamed}
use Rattle.layout.specs.Layout.{decode}
use Rattle.area.specs.Shape.{in_shape}
use Rattle.start.specs.Start.{StartInput, start_conditions, start_answer}
use Rattle.moving.specs.Calls.{step_answer, run_answer, join_answer}
use Rattle.moving.specs.ReadCall.{read_answer}
use Rattle.parse.specs.ParseCall.{then_start, parse_begun, parse_answer}
use Rattle.report.specs.ReportCall.{report_answer}
use Rattle.demands.specs.PublicCalls.{PublicCall, number-of, value-of, stuck-refusal, check-symbols, check-words, body-of, load, left-set, right-set}
use Rattle.demands.specs.PublicCalls.{all-are, grammar-in-shape, in-shape, start, step, run, join, read-through, report, parse, entry-range, entry-tokens}
use Rattle.demands.specs.ParseDemand.{UncutReader}

-- ---- lists of conditions

abbrev pub lent_to_load : List ℕ → ℕ → LoadInput
lent_to_load words room = record { words = words; room = room }

abbrev pub lent_to_set : List ℕ → ℕ → SetInput
lent_to_set words k = record { words = words; number = k }

-- a set of the rules of g, or a refusal
pub data SetGiven (words : List ℕ) (k : ℕ) (g : Grammar) : SetAnswer → Type 1 where
  set_refused : {refusal : Refusal} → Given (lent_to_set words k) set_conditions (Err refusal) → SetGiven words k g (Err refusal)
  set_0 : Given (lent_to_set words k) set_conditions (Ok tt) → SetGiven words k g (Ok (record { mask = left_set g k; size = left_size g k }))

abbrev pub lent_to_start : List ℕ → List ℕ → List ℕ → List ℕ → ℕ → StartInput
lent_to_start words matrix tokens cuts room = record { words = words; matrix = matrix; tokens = tokens; cuts = cuts; room = room }

-- ---- calls on an area

module _ (words matrix area : List ℕ) where
  -- 15, 12, 13; else one of the named moves
  pub data StepGiven (c : ℕ) : Answer → Type 1 where
    step_15 : in_shape words matrix area ≡ false → StepGiven c (Err BadState)
    step_12 : in_shape words matrix area ≡ true → (Live (decode area).chunks c → ⊥) → StepGiven c (Err NoChunk)
    step_13 : in_shape words matrix area ≡ true → LiveAtRest c (decode area) → StepGiven c (Err AtRest)
    step_0 : in_shape words matrix area ≡ true → {s' : State Span} → Steps (table_of words matrix) c (decode area) s' → StepGiven c (Ok tt)

  -- 15, 12, 13; else j of the named moves
  pub data RunGiven (c budget : ℕ) : RunAnswer → Type 1 where
    run_15 : in_shape words matrix area ≡ false → RunGiven c budget (Err BadState)
    run_12 : in_shape words matrix area ≡ true → (Live (decode area).chunks c → ⊥) → RunGiven c budget (Err NoChunk)
    run_13 : in_shape words matrix area ≡ true → LiveAtRest c (decode area) → RunGiven c budget (Err AtRest)
    run_0 : in_shape words matrix area ≡ true → {j : ℕ} {s' : State Span} → RunNamed (table_of words matrix) c budget (decode area) j s'
        → RunGiven c budget (Ok j)

  -- 15, 12, 14; else the join
  pub data JoinGiven (c : ℕ) : Answer → Type 1 where
    join_15 : in_shape words matrix area ≡ false → JoinGiven c (Err BadState)
    join_12 : in_shape words matrix area ≡ true → (Live (decode area).chunks c → ⊥) → JoinGiven c (Err NoChunk)
    join_14 : in_shape words matrix area ≡ true → CannotJoin c (decode area) → JoinGiven c (Err NoJoin)
    join_0 : in_shape words matrix area ≡ true → {s' : State Span} → JoinsAt c (decode area) s' → JoinGiven c (Ok tt)

  -- 15, 16, 17 to 20, 11; else the report
  pub data ReportGiven (room : ℕ) : ReportAnswer → Type 1 where
    report_15 : in_shape words matrix area ≡ false → ReportGiven room (Err BadState)
    report_16 : in_shape words matrix area ≡ true → (Finished (decode area) → ⊥) → ReportGiven room (Err Unfinished)
    report_stuck : in_shape words matrix area ≡ true → (why : Stuck) (place : ℕ) → StuckSo (decode area) why place
        → ReportGiven room (Err (refusal_of why place))
    report_11 : in_shape words matrix area ≡ true → (entries : List (Reduction Span)) (moves : ℕ) → ReportedSo (decode area) entries moves
        → room < 3 * length entries → ReportGiven room (Err (NoRoom (3 * length entries)))
    report_0 : in_shape words matrix area ≡ true → (entries : List (Reduction Span)) (moves : ℕ) → ReportedSo (decode area) entries moves
        → 3 * length entries ≤ room → ReportGiven room (Ok (record { entries = length entries; moves = moves }))

-- ---- the one-call parse

-- 1 to 6, as load gives them with room for a matrix; 7 to 9 and 11 for the work area, as start gives them with the words' own matrix and no cuts;
-- then 17 to 20 and 11 for the report, as the uncut reader comes to rest; else the report
pub record Begins (words tokens : List ℕ) (room : ℕ) : Type 0 where
  pub loads : load_answer words 4096 ≡ Ok tt
  pub starts : start_answer words (matrix_of (grammar_of words)) tokens [] room ≡ Ok tt

pub data ParseGiven (words tokens : List ℕ) (room out_room : ℕ) : ReportAnswer → Type 1 where
  parse_words : {refusal : Refusal} → load_answer words 4096 ≡ Err refusal → ParseGiven words tokens room out_room (Err refusal)
  parse_row : {refusal : Refusal} → load_answer words 4096 ≡ Ok tt → start_answer words (matrix_of (grammar_of words)) tokens [] room ≡ Err refusal
      → ParseGiven words tokens room out_room (Err refusal)
  parse_stuck : Begins words tokens room → (reader : UncutReader words tokens) (why : Stuck) (place : ℕ) → StuckSo reader.last why place
      → ParseGiven words tokens room out_room (Err (refusal_of why place))
  parse_11 : Begins words tokens room → (reader : UncutReader words tokens) (entries : List (Reduction Span)) (moves : ℕ)
      → ReportedSo reader.last entries moves → out_room < 3 * length entries → ParseGiven words tokens room out_room (Err (NoRoom (3 * length entries)))
  parse_0 : Begins words tokens room → (reader : UncutReader words tokens) (entries : List (Reduction Span)) (moves : ℕ)
      → ReportedSo reader.last entries moves → 3 * length entries ≤ out_room → ParseGiven words tokens room out_room (Ok (record { entries = length entries; moves = moves }))

module _ (words tokens : List ℕ) (room : ℕ) where
  pub refused-by-load : {refusal : Refusal} → load_answer words 4096 ≡ Err refusal → parse_begun words tokens room ≡ Err refusal
  unfolding parse_begun
  refused-by-load e = ap (λ a. then_start a words tokens room) e

  pub refused-by-start : {refusal : Refusal} → load_answer words 4096 ≡ Ok tt → start_answer words (matrix_of (grammar_of words)) tokens [] room ≡ Err refusal
      → parse_begun words tokens room ≡ Err refusal
  unfolding parse_begun
  refused-by-start e f = ap (λ a. then_start a words tokens room) e ∙ f

-- ---- any call

-- an answer is the call's exactly when it is given; some calls refuse nothing
abbrev pub GivenFor : PublicCall → Type 1
GivenFor (number-of refusal) = Unit {1}
GivenFor (value-of refusal) = Unit {1}
GivenFor (stuck-refusal status place) = Unit {1}
GivenFor (check-symbols words) = (answer : Answer) → (check_symbols words ≡ answer) ↔ Given words symbol_conditions answer
GivenFor (check-words words) = (answer : Answer) → (check_words words ≡ answer) ↔ Given words word_conditions answer
GivenFor (body-of words r) = Unit {1}
GivenFor (load words bytes) = (answer : Answer) → (load_answer words (length bytes) ≡ answer) ↔ Given (lent_to_load words (length bytes)) load_conditions answer
GivenFor (left-set words k) = (answer : SetAnswer) → (left_set_answer words k ≡ answer) ↔ SetGiven words k (grammar_of words) answer
GivenFor (right-set words k) = (answer : SetAnswer) → (right_set_answer words k ≡ answer) ↔ SetGiven words k (mirrored (grammar_of words)) answer
GivenFor (all-are equal elements wanted) = Unit {1}
GivenFor (grammar-in-shape words matrix) = Unit {1}
GivenFor (in-shape words matrix area) = Unit {1}
GivenFor (start words matrix tokens cuts area) = (answer : Answer)
    → (start_answer words matrix tokens cuts (length area) ≡ answer) ↔ Given (lent_to_start words matrix tokens cuts (length area)) start_conditions answer
GivenFor (step words matrix area c) = (answer : Answer) → (step_answer words matrix area c ≡ answer) ↔ StepGiven words matrix area c answer
GivenFor (run words matrix area c budget) = (answer : RunAnswer) → (run_answer words matrix area c budget ≡ answer) ↔ RunGiven words matrix area c budget answer
GivenFor (join words matrix area c) = (answer : Answer) → (join_answer words matrix area c ≡ answer) ↔ JoinGiven words matrix area c answer
GivenFor (read-through words matrix tokens area) = (answer : Answer)
    → (read_answer words matrix tokens (length area) ≡ answer) ↔ Given (lent_to_start words matrix tokens [] (length area)) start_conditions answer
GivenFor (report words matrix area out) = (answer : ReportAnswer)
    → (report_answer words matrix area (length out) ≡ answer) ↔ ReportGiven words matrix area (length out) answer
GivenFor (parse words tokens area out) = (answer : ReportAnswer)
    → (parse_answer words tokens (length area) (length out) ≡ answer) ↔ ParseGiven words tokens (length area) (length out) answer
GivenFor (entry-range entries e count) = Unit {1}
GivenFor (entry-tokens entries e tokens place) = Unit {1}
