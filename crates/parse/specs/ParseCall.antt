-- The one-call parse: the front-to-back parse of a row by a grammar, its answer and what is left in the area and in the report run.
-- Document 01: "The one-call parse checks 1 to 9 by number, then 11 for the work area, then 17 to 20, then 11 for the report"; "once
-- the one-call parse has passed 11 for its work area, the words its formula counts are all zero when it ends, accepted or refused;
-- its other buffers follow the general rule"; "The front-to-back parse is C = 1, also offered as one call."
-- It is load, start with no cuts, a run of chunk 0 until it rests, and the row's outcome.
-- Rests on start's Start, machine's States, TableOf and Answers and results' Bounded, and language's Loads.
--
-- Main definitions: parse_outcome, parse_answer, parse_area, parse_out.
use Rattle.std.specs.Prelude.{List, [], ◌++◌, ℕ, length, drop, Ok, Err}
use Rattle.refusals.specs.Answers.{Answer, ReportAnswer}
use Rattle.language.specs.Words.{grammar_of}
use Rattle.language.specs.Matrix.{matrix_of}
use Rattle.language.specs.Loads.{load_answer}
use Rattle.language.specs.Trees.{Span}
use Rattle.machine.specs.States
use Rattle.machine.specs.States.{Ran, refused_run, ran, Outcome, refused_row, outcome, start}
use Rattle.machine.specs.TableOf.{table_of}
use Rattle.results.specs.Bounded.{most_moves}
use Rattle.machine.specs.Answers.{outcome_answer, outcome_out}
use Rattle.layout.specs.Layout.{need, zeros}
use Rattle.start.specs.Start.{start_answer}

abbrev pub ran_outcome : Ran Span → Outcome
ran_outcome (refused_run refusal) = refused_row refusal
ran_outcome (ran made s) = outcome s

-- chunk 0 moved until it rests: no row of n tokens makes more moves than the bound
unfoldable pub parse_outcome : List ℕ → List ℕ → Outcome
parse_outcome words tokens =
    ran_outcome (States.run (table_of words (matrix_of (grammar_of words))) 0 (most_moves (length tokens) 1) (start tokens []))

-- 1 to 9, then 11 for the work area
abbrev pub then_start : Answer → List ℕ → List ℕ → ℕ → Answer
then_start (Ok _) words tokens room = start_answer words (matrix_of (grammar_of words)) tokens [] room
then_start (Err refusal) words tokens room = Err refusal

unfoldable pub parse_begun : List ℕ → List ℕ → ℕ → Answer
parse_begun words tokens room = then_start (load_answer words 4096) words tokens room

-- then 17 to 20, then 11 for the report
abbrev pub parsed_answer : Answer → Outcome → ℕ → ReportAnswer
parsed_answer (Ok _) o room = outcome_answer o room
parsed_answer (Err refusal) o room = Err refusal

unfoldable pub parse_answer : List ℕ → List ℕ → ℕ → ℕ → ReportAnswer
parse_answer words tokens room out_room = parsed_answer (parse_begun words tokens room) (parse_outcome words tokens) out_room

abbrev pub parsed_area : Answer → ℕ → List ℕ → List ℕ
parsed_area (Ok _) n area = zeros (need n 1) ++ drop (need n 1) area
parsed_area (Err refusal) n area = area

unfoldable pub parse_area : List ℕ → List ℕ → List ℕ → List ℕ
parse_area words tokens area = parsed_area (parse_begun words tokens (length area)) (length tokens) area

abbrev pub parsed_out : Answer → Outcome → List ℕ → List ℕ
parsed_out (Ok _) o out = outcome_out o out
parsed_out (Err refusal) o out = out

unfoldable pub parse_out : List ℕ → List ℕ → ℕ → List ℕ → List ℕ
parse_out words tokens room out = parsed_out (parse_begun words tokens room) (parse_outcome words tokens) out
