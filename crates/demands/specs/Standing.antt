-- What stands in the area after one accepted load, one accepted start and any list of step, run and join calls: the words of a state
-- that the machine's named moves reach from the start, as many of them as the calls' answers tell of.
-- Document 01, "Moves of a chunk", and 15: "never .. for a state reached from such a load and start with those same words and matrix".
-- Rests on Calls, OnWords and OwnMatrix, on start's Start and shape's Safe, and on machine's Schedules, Counts and GivenExactly.
--
-- Main definitions: Standing, CallView.
-- What is proved of them: proofs' Standing.
use Rattle.std.specs.Prelude.{◌≡◌, List, ◌++◌, ℕ, ◌≤◌, length}
use Rattle.language.specs.Trees.{Span}
use Rattle.machine.specs.States.{State, start}
use Rattle.machine.specs.Schedules.{Schedule}
use Rattle.layout.specs.Layout.{encode}
use Rattle.demands.specs.Calls.{Call, call_number, call_made, call_area}
use Rattle.machine.specs.TableOf.{own_table}

-- an area with the words of a state that `made` named moves reach from the start
pub record Standing (words tokens cuts area : List ℕ) (made : ℕ) : Type 0 where
  pub state : State Span
  pub rest : List ℕ
  pub area_is : area ≡ encode (length tokens) state ++ rest
  pub turns : Schedule (own_table words) (start tokens cuts) made state

-- ---- one call on the words of a state

-- refused with 12, 13 or 14 and nothing changed; or the words of the state that so many named moves lead to
pub data CallView (words : List ℕ) (n : ℕ) (s : State Span) (rest area : List ℕ) (call : Call) : Type 0 where
  refused_so : 12 ≤ call_number words area call → call_number words area call ≤ 14 → call_made words area call ≡ 0 → call_area words area call ≡ area
      → CallView words n s rest area call
  moved_so : (s' : State Span) → call_number words area call ≡ 0 → call_area words area call ≡ encode n s' ++ rest
      → Schedule (own_table words) s (call_made words area call) s' → CallView words n s rest area call

-- ---- any list of calls
