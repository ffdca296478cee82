-- Orders of calls on one lent area, by the definitions that the contracts of step, run and join cite and nothing else.
-- Document 01: "A schedule is just the order of calls"; "Load, start, move and join answer 0, 0 on success"; a run "answers how many it
-- made". A call holds its chunk number, a run its budget too: any numbers at all, so that a call may be refused. Each call is lent
-- its own run of matrix bytes.
-- Rests on moving's Calls and language's Refusals and Loads.
--
-- Main definitions: Call, call_number, call_made, call_area; area_after, moves_made; OfLoad, AllOfLoad, Begun.
use Rattle.std.specs.Prelude.{◌≡◌, List, [], ◌∷◌, ℕ, ◌+◌, length, take, Ok, Err}
use Rattle.refusals.specs.Answers.{Answer, RunAnswer}
use Rattle.refusals.specs.Refusals.{answer_number}
use Rattle.language.specs.Loads.{load_answer, load_bytes}
use Rattle.start.specs.Start.{start_answer, start_area}
use Rattle.moving.specs.Calls.{step_answer, step_area, run_answer, run_area, join_answer, join_area}

-- ---- one call

pub data Call : Type 0 where
  a_step : (matrix : List ℕ) (c : ℕ) → Call
  a_run : (matrix : List ℕ) (c budget : ℕ) → Call
  a_join : (matrix : List ℕ) (c : ℕ) → Call

-- the matrix lent to it
abbrev pub matrix_for : Call → List ℕ
matrix_for (a_step matrix c) = matrix
matrix_for (a_run matrix c budget) = matrix
matrix_for (a_join matrix c) = matrix

-- the number that it answers: 0 is success
abbrev pub call_number : List ℕ → List ℕ → Call → ℕ
call_number words area (a_step matrix c) = answer_number (step_answer words matrix area c)
call_number words area (a_run matrix c budget) = answer_number (run_answer words matrix area c budget)
call_number words area (a_join matrix c) = answer_number (join_answer words matrix area c)

abbrev pub one_if_done : Answer → ℕ
one_if_done (Ok _) = 1
one_if_done (Err refusal) = 0

abbrev pub moves_of_run : RunAnswer → ℕ
moves_of_run (Ok made) = made
moves_of_run (Err refusal) = 0

-- the moves that its answer tells of: 1 for a step or a join that is accepted, a run's own number, 0 for a refusal
abbrev pub call_made : List ℕ → List ℕ → Call → ℕ
call_made words area (a_step matrix c) = one_if_done (step_answer words matrix area c)
call_made words area (a_run matrix c budget) = moves_of_run (run_answer words matrix area c budget)
call_made words area (a_join matrix c) = one_if_done (join_answer words matrix area c)

-- the area afterwards
abbrev pub call_area : List ℕ → List ℕ → Call → List ℕ
call_area words area (a_step matrix c) = step_area words matrix area c
call_area words area (a_run matrix c budget) = run_area words matrix area c budget
call_area words area (a_join matrix c) = join_area words matrix area c

-- ---- calls one after the other

abbrev pub area_after : List ℕ → List ℕ → List Call → List ℕ
area_after words area [] = area
area_after words area (call ∷ calls) = area_after words (call_area words area call) calls

-- steps accepted, answers of runs and joins accepted, together
abbrev pub moves_made : List ℕ → List ℕ → List Call → ℕ
moves_made words area [] = 0
moves_made words area (call ∷ calls) = call_made words area call + moves_made words (call_area words area call) calls

-- ---- one accepted load, one accepted start

-- a matrix run whose first 4,096 bytes are those that the load left
abbrev pub OfLoad : List ℕ → List ℕ → List ℕ → Type 0
OfLoad words bytes matrix = take 4096 matrix ≡ take 4096 (load_bytes words bytes)

pub data AllOfLoad (words bytes : List ℕ) : List Call → Type 0 where
  no_call : AllOfLoad words bytes []
  and_call : {call : Call} {calls : List Call} → OfLoad words bytes (matrix_for call) → AllOfLoad words bytes calls → AllOfLoad words bytes (call ∷ calls)

-- the words and bytes of an accepted load, and the area that an accepted start left; `lent` is what start was lent for it
pub record Begun (words bytes tokens cuts area : List ℕ) : Type 0 where
  pub loads : load_answer words (length bytes) ≡ Ok tt
  pub matrix : List ℕ
  pub of_load : OfLoad words bytes matrix
  pub lent : List ℕ
  pub starts : start_answer words matrix tokens cuts (length lent) ≡ Ok tt
  pub area_is : area ≡ start_area words matrix tokens cuts lent
