-- *Shape kept*: a step, a run and a join of an area in shape leave it in shape, whatever state it holds and whatever they answer.
-- Document 01: 15 is never given "for a state reached from such a load and start with those same words and matrix"; "Any other state
-- that keeps the shape rules gets the move named above." So a call that follows a call never answers 15 where the first did not.
-- Rests on Calls, and on shape's Safe and InShape. Every lent word is below 65,536; of the area's words one is asked.
--
-- Main statements: step_keeps, run-keeps, join-keeps.
use Rattle.std.specs.Prelude.{◌≡◌, refl, true, List, ℕ, ◌<◌, get_or}
use Rattle.language.specs.Trees.{Span}
use Rattle.language.specs.Words.{count_t, count_n}
use Rattle.machine.specs.States.{State, Called, refused, became, Ran, refused_run, ran, step, join, run}
use Rattle.machine.specs.TableOf.{table_of}
use Rattle.machine.specs.Schedules.{Turned, by_step, by_join}
use Rattle.layout.specs.Layout.{decode}
use Rattle.layout.specs.Kept.{Kept}
use Rattle.area.specs.Shape.{in_shape}
use Rattle.shape.specs.Safe.{safe-turned, safe-run}
use Rattle.shape.specs.InShape.{in-shape-parts, in-shape-holds, holds-in-shape}
use Rattle.moving.specs.Calls.{with_state, called_area, ran_area, step_call, step_area, join_call, join_area, run_call, run_area}

module _ (words bytes area : List ℕ) (low : get_or area 2 0 < 65536) (shape : in_shape words bytes area ≡ true) (c : ℕ) where
  -- the words of a state that keeps the rules, in place of those that stood there
  in_place : {s : State Span} → Kept (count_t words) (count_n words) (get_or area 0 0) s → in_shape words bytes (with_state area s) ≡ true
  in_place k = holds-in-shape words bytes (in-shape-parts words bytes area shape).0 k _

  before : Kept (count_t words) (count_n words) (get_or area 0 0) (decode area)
  before = (in-shape-holds words bytes area low shape).kept

  called : (answer : Called Span) → ((s : State Span) → answer ≡ became s → Turned (table_of words bytes) (decode area) s)
      → in_shape words bytes (called_area answer area) ≡ true
  called (refused why) turns = shape
  called (became s) turns = in_place (safe-turned words bytes (in-shape-parts words bytes area shape).0 before (turns s refl))

  pub step_keeps : in_shape words bytes (step_area words bytes area c) ≡ true
  unfolding step_area step_call
  step_keeps = rw (shape, step_area, step_call) (called (step (table_of words bytes) c (decode area)) (λ s q. by_step c q))

  pub join-keeps : in_shape words bytes (join_area words bytes area c) ≡ true
  unfolding join_area join_call
  join-keeps = rw (shape, join_area, join_call) (called (join c (decode area)) (λ s q. by_join c q))

  after_run : (budget : ℕ) (answer : Ran Span) → run (table_of words bytes) c budget (decode area) ≡ answer → in_shape words bytes (ran_area answer area) ≡ true
  after_run budget (refused_run why) q = shape
  after_run budget (ran made s) q = in_place (safe-run words bytes (in-shape-parts words bytes area shape).0 c budget before q)

  pub run-keeps : (budget : ℕ) → in_shape words bytes (run_area words bytes area c budget) ≡ true
  unfolding run_area run_call
  run-keeps budget = rw (shape, run_area, run_call) (after_run budget (run (table_of words bytes) c budget (decode area)) refl)
