-- Demand 3, (a) and (c): in any order of calls after one accepted load and one accepted start none answers 15, a refused one changes
-- nothing, and the moves that the answers tell of are the count in the area, at most nC + n + 4C - 2.
-- Document 01: 15 is never given "for a state reached from such a load and start with those same words and matrix"; "All return number
-- and value and leave lent memory unchanged"; "Each report also gives the moves since start, joins included".
-- Since the list of calls is any list, what is said of the next call is said of every call of every list.
-- Rests on Standing, on start's StartKept, and on machine's Counts and results' Bounded.
--
-- Main definition: EachRight.
-- What is proved of them: proofs' Reached.
use Rattle.std.specs.Prelude.{◌≡◌, List, [], ◌∷◌, ℕ, ◌≤◌}
use Rattle.std.proofs.Common.{arith}
use Rattle.refusals.specs.declared.Refusal.TheVariants.{Unfinished}
use Rattle.refusals.specs.Refusals.{number_of, answer_number}
use Rattle.machine.specs.Moves.{Stuck, no_relation, no_rule, not_axiom, side_by_side}
use Rattle.machine.specs.States.{Outcome, refused_row, refusal_of}
use Rattle.machine.specs.Answers.{outcome_answer}
use Rattle.demands.specs.Calls.{Call, call_number, call_area}

-- the numbers of a row's outcome: 16, 17 to 20, and 0 or 11 for a report
pub data OutcomeNumber (o : Outcome) (room : ℕ) : Type 0 where
  number_16 : o ≡ refused_row Unfinished → answer_number (outcome_answer o room) ≡ 16 → OutcomeNumber o room
  number_stuck : 17 ≤ answer_number (outcome_answer o room) → answer_number (outcome_answer o room) ≤ 20 → OutcomeNumber o room
  number_11 : answer_number (outcome_answer o room) ≡ 11 → OutcomeNumber o room
  number_0 : answer_number (outcome_answer o room) ≡ 0 → OutcomeNumber o room

pub at-17-20 : (why : Stuck) (place : ℕ) → (17 ≤ number_of (refusal_of why place)) × (number_of (refusal_of why place) ≤ 20)
at-17-20 no_relation place = (omega arith, omega arith)
at-17-20 no_rule place = (omega arith, omega arith)
at-17-20 not_axiom place = (omega arith, omega arith)
at-17-20 side_by_side place = (omega arith, omega arith)

-- each call of a list: it does not answer 15, and where it is refused the area stays as it is
pub data EachRight (words : List ℕ) : List ℕ → List Call → Type 0 where
  no_more : {area : List ℕ} → EachRight words area []
  and_right : {area : List ℕ} {call : Call} {calls : List Call} → (call_number words area call ≡ 15 → ⊥)
      → ((call_number words area call ≡ 0 → ⊥) → call_area words area call ≡ area) → EachRight words (call_area words area call) calls
      → EachRight words area (call ∷ calls)
