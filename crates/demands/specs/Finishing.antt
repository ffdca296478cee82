-- Demand 3, (b) and (e): where the report answers 16 some step or join is accepted; so every schedule that goes on while it can
-- finishes, after at most nC + n + 4C - 2 moves.
-- Document 01: 16 UNFINISHED, "several chunks live, or the one not at rest"; "A schedule is just the order of calls".
-- A schedule is an endless list of calls here, given by number; refused calls and runs with budget 0 may stand between. It goes on while it
-- can: where the report answers 16, one of the calls from there on makes a move. By (b) there is always such a call to choose.
-- Rests on Reached and SameReport, and on machine's AllowedExactly and results' Progress.
--
-- Main definitions: SomeMove, first_calls, GoesOn, AllMove.
-- What is proved of them: proofs' Finishing.
use Rattle.std.specs.Prelude.{◌≡◌, List, [], ◌∷◌, ◌++◌, ℕ, zero, suc, ◌≤◌, ◌<◌, Ok}
use Rattle.refusals.specs.Refusals.{answer_number}
use Rattle.moving.specs.Calls.{step_answer, join_answer}
use Rattle.report.specs.ReportCall.{report_answer}
use Rattle.demands.specs.Calls.{Call, call_made, call_area, area_after, AllOfLoad}

-- a step or a join that is accepted: it answers 0 (Done)
pub data SomeMove (words matrix area : List ℕ) : Type 0 where
  some_step : (c : ℕ) → c < 64 → step_answer words matrix area c ≡ Ok tt → SomeMove words matrix area
  some_join : (c : ℕ) → c < 64 → join_answer words matrix area c ≡ Ok tt → SomeMove words matrix area

-- ---- (b)

-- ---- (e)

-- the first k calls of an endless list
abbrev pub first_calls : (ℕ → Call) → ℕ → List Call
first_calls schedule zero = []
first_calls schedule (suc k) = first_calls schedule k ++ (schedule k ∷ [])

-- each call of a list makes a move
pub data AllMove (words : List ℕ) : List ℕ → List Call → Type 0 where
  none_left : {area : List ℕ} → AllMove words area []
  moves_and : {area : List ℕ} {call : Call} {calls : List Call} → 0 < call_made words area call → AllMove words (call_area words area call) calls
      → AllMove words area (call ∷ calls)

-- the report's number after some calls, with this matrix and a report run of that many words
abbrev pub report_after : List ℕ → List ℕ → List ℕ → ℕ → List Call → ℕ
report_after words area₀ matrix room calls = answer_number (report_answer words matrix (area_after words area₀ calls) room)

-- where the report answers 16 after i calls, a call from there on makes a move
abbrev pub GoesOn : List ℕ → List ℕ → List ℕ → ℕ → (ℕ → Call) → Type 0
GoesOn words area₀ matrix room schedule =
    (i : ℕ) → report_after words area₀ matrix room (first_calls schedule i) ≡ 16
    → (j : ℕ) × (i ≤ j) × (0 < call_made words (area_after words area₀ (first_calls schedule j)) (schedule j))

-- more calls after which the report does not answer 16
pub record CanFinish (words bytes area₀ matrix : List ℕ) (room : ℕ) (calls : List Call) : Type 0 where
  pub more : List Call
  pub own : AllOfLoad words bytes more
  pub finished : report_after words area₀ matrix room (calls ++ more) ≡ 16 → ⊥
