-- What is proved of specs' Finishing. Demand 3, (b) and (e): where the report answers 16 some step or join is accepted; so every schedule that goes
-- on while it can finishes, after at most nC + n + 4C - 2 moves.
--
-- Main statements: some-move, goes-on-finishes, lists-end, can-finish, finished-stays.
use Rattle.std.specs.Prelude.{◌≡◌, refl, Bool, true, false, List, [], ◌∷◌, ◌++◌, ℕ, zero, suc, ◌+◌, ◌-◌, ◌≤◌, ◌<◌, eqb, length}
use Rattle.std.proofs.Common.{sym, ap, subst, ◌∙◌, append_assoc, append-nil, arith, length-append}
use Rattle.std.proofs.Math.Option.{Option, some}
use Rattle.laws.specs.Tests.{eqb-true, eqb-false}
use Rattle.refusals.specs.declared.Refusal.TheVariants.{Unfinished}
use Rattle.refusals.specs.Refusals.{answer_number}
use Rattle.language.specs.Trees.{Span}
use Rattle.machine.specs.Chunks.{Chunk}
use Rattle.machine.specs.States.{State, step, join, live, Outcome, refused_row}
use Rattle.machine.specs.Answers.{outcome_answer}
use Rattle.machine.specs.Schedules.{Turned, by_step, by_join, Schedule, no_turn, one_turn}
use Rattle.machine.specs.Allowed.{Live}
use Rattle.machine.proofs.AllowedExactly.{step-exactly, join-exactly}
use Rattle.results.specs.Bounded.{most_moves}
use Rattle.results.specs.Progress.{progress, answered-no-turn}
use Rattle.layout.specs.Kept.{FirstLive, first_live}
use Rattle.moving.specs.Calls.{called_answer, step_call, step_answer, join_call, join_answer}
use Rattle.report.specs.ReportCall.{report_answer}
use Rattle.demands.specs.Calls.{Call, a_step, a_join, matrix_for, call_made, call_area, area_after, moves_made, OfLoad, AllOfLoad, no_call, and_call, Begun}
use Rattle.machine.specs.TableOf.{own_table}
use Rattle.demands.proofs.OwnMatrix.{shape_is, table_is}
use Rattle.moving.specs.OnWords.{step_is, join_is}
use Rattle.demands.specs.Standing.{Standing, CallView, refused_so, moved_so}
use Rattle.demands.proofs.Standing.{standing-safe, standing-view}
use Rattle.demands.specs.Reached.{OutcomeNumber, number_16, number_stuck, number_11, number_0}
use Rattle.demands.proofs.Reached.{outcome-number, there, report-number, moves-few}
use Rattle.demands.proofs.SameReport.{answered}
use Rattle.demands.specs.Finishing.{AllMove, CanFinish, GoesOn, SomeMove, first_calls, moves_and, none_left, report_after, some_join, some_step}

first_some : {chunks : List (Option (Chunk Span))} → FirstLive chunks → 0 < length (live chunks)
first_some (first_live h) = omega arith

-- a live number is below the number of chunks
number-below : {chunks : List (Option (Chunk Span))} {c : ℕ} → Live chunks c → c < length chunks
number-below {chunks} {c} l = omega (arith, l.number_is, ap length l.chunks_are, length-append l.before (some l.chunk ∷ l.after))

unfinished : {o : Outcome} {room : ℕ} → OutcomeNumber o room → answer_number (outcome_answer o room) ≡ 16 → o ≡ refused_row Unfinished
unfinished (number_16 q e) h = q
unfinished (number_stuck a b) h = absurd (omega arith)
unfinished (number_11 e) h = absurd (omega arith)
unfinished (number_0 e) h = absurd (omega arith)

-- ---- (b)

module _ {words bytes tokens cuts area₀ : List ℕ} (begun : Begun words bytes tokens cuts area₀) {calls : List Call} (own : AllOfLoad words bytes calls) (matrix : List ℕ) (of_load : OfLoad words bytes matrix) where
  abbrev area : List ℕ
  area = area_after words area₀ calls

  abbrev reached : Standing words tokens cuts area (moves_made words area₀ calls)
  reached = there begun own

  step-there : (c : ℕ) → step_call words matrix area c ≡ step (own_table words) c reached.state
  step-there c =
      ap (λ a. step_call words matrix a c) reached.area_is
      ∙ step_is words matrix (shape_is words bytes begun.loads matrix of_load) (standing-safe begun reached) reached.rest c
      ∙ ap (λ t. step t c reached.state) (table_is words bytes begun.loads matrix of_load)

  join-there : (c : ℕ) → join_call words matrix area c ≡ join c reached.state
  join-there c =
      ap (λ a. join_call words matrix a c) reached.area_is
      ∙ join_is words matrix (shape_is words bytes begun.loads matrix of_load) (standing-safe begun reached) reached.rest c

  turned_move : {s' : State Span} → Turned (own_table words) reached.state s' → SomeMove words matrix area
  unfolding step_answer join_answer
  turned_move {s'} (by_step c q) =
      let l = number-below ((step-exactly (own_table words) c reached.state s').1 q).live in
      some_step c (omega (arith, (standing-safe begun reached).few_chunks)) (ap called_answer (step-there c ∙ q))
  turned_move {s'} (by_join c q) =
      let l = number-below ((join-exactly c reached.state s').1 q).live in
      some_join c (omega (arith, (standing-safe begun reached).few_chunks)) (ap called_answer (join-there c ∙ q))

  -- (b) while the report answers 16, some step or join answers 0
  pub some-move : (room : ℕ) → answer_number (report_answer words matrix area room) ≡ 16 → SomeMove words matrix area
  some-move room e =
      let q = unfinished (outcome-number reached.state room) (sym (report-number begun own matrix of_load room) ∙ e) in
      turned_move (progress (own_table words) reached.state (first_some (standing-safe begun reached).first) q).1

  -- where it does not, no call makes a move
  pub finished-stays : (room : ℕ) → (answer_number (report_answer words matrix area room) ≡ 16 → ⊥) → (call : Call) → OfLoad words bytes (matrix_for call)
      → call_made words area call ≡ 0
  finished-stays room h call own-call = go (standing-view begun reached call own-call)
    where
      none_made : {k : ℕ} {s' : State Span} → Schedule (own_table words) reached.state k s' → k ≡ 0
      none_made no_turn = refl
      none_made (one_turn t k) = absurd (answered-no-turn (own_table words) (answered begun own matrix of_load room h) t)

      go : CallView words (length tokens) reached.state reached.rest area call → call_made words area call ≡ 0
      go (refused_so low high zero-made same) = zero-made
      go (moved_so s' zero_is is turns) = none_made turns

-- ---- (e)

module _ (words : List ℕ) where
  moves-append : (area : List ℕ) (calls calls' : List Call)
      → moves_made words area (calls ++ calls') ≡ moves_made words area calls + moves_made words (area_after words area calls) calls'
  moves-append area [] calls' = omega arith
  moves-append area (call ∷ calls) calls' = omega (arith, moves-append (call_area words area call) calls calls')

own-append : {words bytes : List ℕ} {calls calls' : List Call} → AllOfLoad words bytes calls → AllOfLoad words bytes calls'
    → AllOfLoad words bytes (calls ++ calls')
own-append no_call all' = all'
own-append (and_call own all) all' = and_call own (own-append all all')

all-move-count : {words area : List ℕ} {calls : List Call} → AllMove words area calls → length calls ≤ moves_made words area calls
all-move-count none_left = omega arith
all-move-count (moves_and h all) = omega (arith, all-move-count all)

module _ {words bytes tokens cuts area₀ : List ℕ} (begun : Begun words bytes tokens cuts area₀) where
  -- no list of calls that each make a move is longer
  pub lists-end : {calls : List Call} → AllOfLoad words bytes calls → AllMove words area₀ calls → length calls ≤ most_moves (length tokens) (length cuts + 1)
  lists-end own all = omega (arith, all-move-count all, moves-few begun own)

  module _ (matrix : List ℕ) (of_load : OfLoad words bytes matrix) (room : ℕ) where
    abbrev report : List Call → ℕ
    report = report_after words area₀ matrix room

    module _ (schedule : ℕ → Call) (own : (i : ℕ) → OfLoad words bytes (matrix_for (schedule i))) where
      all_own : (k : ℕ) → AllOfLoad words bytes (first_calls schedule k)
      all_own zero = no_call
      all_own (suc k) = own-append (all_own k) (and_call (own k) no_call)

      abbrev made : ℕ → ℕ
      made k = moves_made words area₀ (first_calls schedule k)

      made-next : (k : ℕ) → made (suc k) ≡ made k + call_made words (area_after words area₀ (first_calls schedule k)) (schedule k)
      made-next k = omega (arith, moves-append words area₀ (first_calls schedule k) (schedule k ∷ []))

      made-rises : (i d : ℕ) → made i ≤ made (d + i)
      made-rises i zero = let z : 0 + i ≡ i = omega arith in rw z (omega arith)
      made-rises i (suc d) = let z : suc d + i ≡ suc (d + i) = omega arith in rw z (omega (arith, made-next (d + i), made-rises i d))

      made-later : (i j : ℕ) → i ≤ j → made i ≤ made j
      made-later i j h = let z : (j - i) + i ≡ j = omega arith in rw z at (made-rises i (j - i))

      finishes-within : GoesOn words area₀ matrix room schedule → (fuel i : ℕ) → most_moves (length tokens) (length cuts + 1) < made i + fuel
          → (k : ℕ) × (report (first_calls schedule k) ≡ 16 → ⊥)
      finishes-within on zero i h = absurd (omega (arith, moves-few begun (all_own i)))
      finishes-within on (suc fuel) i h =
          go (eqb (report (first_calls schedule i)) 16) refl (λ j l m. finishes-within on fuel (suc j) (omega (arith, made-next j, made-later i j l)))
        where
          go : (b : Bool) → eqb (report (first_calls schedule i)) 16 ≡ b
              → ((j : ℕ) → i ≤ j → 0 < call_made words (area_after words area₀ (first_calls schedule j)) (schedule j)
              → (k : ℕ) × (report (first_calls schedule k) ≡ 16 → ⊥))
              → (k : ℕ) × (report (first_calls schedule k) ≡ 16 → ⊥)
          go false q next = (i, eqb-false (report (first_calls schedule i)) 16 q)
          go true q next = let n = on i (eqb-true (report (first_calls schedule i)) 16 q) in next n.0 n.1 n.2

      -- (e) every schedule that goes on while it can finishes
      pub goes-on-finishes : GoesOn words area₀ matrix room schedule → (k : ℕ) × (report (first_calls schedule k) ≡ 16 → ⊥)
      goes-on-finishes on = finishes-within on (suc (most_moves (length tokens) (length cuts + 1))) 0 (omega arith)

    abbrev Can : List Call → Type 0
    Can calls = CanFinish words bytes area₀ matrix room calls

    -- a call that made one move more leads there
    abbrev Next : List Call → Type 0
    Next calls = (call : Call) → OfLoad words bytes (matrix_for call) → call_made words (area_after words area₀ calls) call ≡ 1 → Can (calls ++ (call ∷ []))

    can-within : (fuel : ℕ) {calls : List Call} → AllOfLoad words bytes calls
        → most_moves (length tokens) (length cuts + 1) < moves_made words area₀ calls + fuel → Can calls
    can-within zero own h = absurd (omega (arith, moves-few begun own))
    can-within (suc fuel) {calls} own h =
        go (eqb (report calls) 16) refl
        (λ call of-call one. can-within fuel (own-append own (and_call of-call no_call)) (omega (arith, moves-append words area₀ calls (call ∷ []))))
      where
        then : (call : Call) → OfLoad words bytes (matrix_for call) → Can (calls ++ (call ∷ [])) → Can calls
        then call of-call r =
            record {
              more = call ∷ r.more;
              own = and_call of-call r.own;
              finished = subst (λ l. report l ≡ 16 → ⊥) (append_assoc calls (call ∷ []) r.more) r.finished;
            }

        by : Next calls → SomeMove words matrix (area_after words area₀ calls) → Can calls
        by next (some_step c l q) = then (a_step matrix c) of_load (next (a_step matrix c) of_load (rw q))
        by next (some_join c l q) = then (a_join matrix c) of_load (next (a_join matrix c) of_load (rw q))

        go : (b : Bool) → eqb (report calls) 16 ≡ b → Next calls → Can calls
        go false q next =
            record { more = []; own = no_call; finished = subst (λ l. report l ≡ 16 → ⊥) (sym (append-nil calls)) (eqb-false (report calls) 16 q) }
        go true q next = by next (some-move begun own matrix of_load room (eqb-true (report calls) 16 q))

    -- wherever calls have come to, some steps and joins finish
    pub can-finish : {calls : List Call} → AllOfLoad words bytes calls → CanFinish words bytes area₀ matrix room calls
    can-finish own = can-within (suc (most_moves (length tokens) (length cuts + 1))) own (omega arith)
