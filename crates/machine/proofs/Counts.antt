-- What is proved of specs' Counts. *Count*: a row's count of moves is the number of steps and joins made since start; a run's answer is the number of
-- named moves that lead from the earlier state to the later one, and there is one such number only.
--
-- Main statements: turn-counts, moves-since-start, run-exactly, one_number, run-zero. Laws for a loop that makes a run's moves:
-- run-moving, moving-after, moving-rests.
use Rattle.std.specs.Prelude.{◌≡◌, refl, List, ◌↔◌, ◌⊎◌, ℕ, zero, suc, ◌+◌, ◌-◌, ◌≤◌, ◌<◌}
use Rattle.std.proofs.Common.{sym, ap, ◌∙◌, inl, inr, zero-add, add-zero, suc-add, arith}
use Rattle.language.specs.Trees.{Span}
use Rattle.machine.specs.Moves.{Table}
use Rattle.machine.specs.States.{State, Called, refused, became, Ran, ran, step, moving, run, start}
use Rattle.machine.specs.Allowed.{IsAtRest, Live, Steps}
use Rattle.machine.specs.AllowedExactly.{StepView, no_such_chunk, was_at_rest, steps_so}
use Rattle.machine.proofs.AllowedExactly.{live_to, not-at-rest-to, step-view, step-exactly}
use Rattle.machine.specs.GivenExactly.{LiveAtRest, RunView, runs_so}
use Rattle.machine.proofs.GivenExactly.{step-at-rest, run-view}
use Rattle.machine.specs.Schedules.{Turned, by_step, Schedule, no_turn, one_turn}
use Rattle.machine.proofs.Schedules.{listed, schedule-listed}
use Rattle.machine.specs.Counts.{NamedMoves, RunNamed, move_and, no_move}

-- the count rises by exactly one at each accepted step and join
pub turn-counts : {Value : Type 0} (table : Table Value) {s s' : State Value} → Turned table s s' → s'.moves ≡ s.moves + 1
turn-counts table t = (listed table t).counted

-- "the moves since start, joins included"
pub moves-since-start : (table : Table Span) (tokens cuts : List ℕ) {n : ℕ} {s : State Span} → Schedule table (start tokens cuts) n s → s.moves ≡ n
moves-since-start table tokens cuts k = omega (arith, (schedule-listed table k).counted)

module _ {Value : Type 0} (table : Table Value) (c : ℕ) where
  pub made-scheduled : {s s' : State Value} {j : ℕ} → NamedMoves table c s j s' → Schedule table s j s'
  made-scheduled no_move = no_turn
  made-scheduled (move_and {s = s} {s' = s'} h m) = one_turn (by_step c ((step-exactly table c s s').0 h)) (made-scheduled m)

  -- there is one such number only
  pub one_number : {s s' : State Value} {j k : ℕ} → NamedMoves table c s j s' → NamedMoves table c s k s' → j ≡ k
  one_number m n = omega (arith, (schedule-listed table (made-scheduled m)).counted, (schedule-listed table (made-scheduled n)).counted)

  -- A run is steps one after the other.

  pub run-moving : (s : State Value) (l : Live s.chunks c) → (IsAtRest l.chunk → ⊥) → (budget : ℕ) → run table c budget s ≡ moving table c budget 0 s
  run-moving s l h budget = rw (live_to l, run, not-at-rest-to l.chunk h)

  pub moving-step : (s : State Value) {s' : State Value} → step table c s ≡ became s' → (budget made : ℕ)
      → moving table c (suc budget) made s ≡ moving table c budget (made + 1) s'
  moving-step s q budget made = rw (q, moving)

  pub moving-rests : (s : State Value) → LiveAtRest c s → (budget made : ℕ) → moving table c budget made s ≡ ran made s
  moving-rests s h zero made = refl
  moving-rests s h (suc budget) made = rw ((step-at-rest table c s).1 h, moving)

  -- .. of which the first i may be made apart
  pub moving-after : {s s' : State Value} {i : ℕ} → NamedMoves table c s i s' → (budget made : ℕ) → moving table c (i + budget) made s ≡ moving table c budget (made + i) s'
  moving-after no_move budget made = rw (zero-add, add-zero)
  moving-after (move_and {s = s} {s' = s'} {j = i} h m) budget made =
      let e : made + suc i ≡ made + 1 + i = omega arith in
      rw (suc-add, e) (moving-step s ((step-exactly table c s s').0 h) (i + budget) made ∙ moving-after m budget (made + 1))

  -- what `moving` answers, where chunk c is live
  record Moving (budget made : ℕ) (s : State Value) (answer : Ran Value) : Type 0 where
    j : ℕ
    then : State Value
    answer_is : answer ≡ ran (made + j) then
    moves : NamedMoves table c s j then
    until : (j ≡ budget) ⊎ ((j < budget) × LiveAtRest c then)

  live_then : {s s' : State Value} → Steps table c s s' → Live s'.chunks c
  live_then h =
      record { before = h.live.before; chunk = h.chunk'; after = h.live.after; number_is = h.live.number_is; chunks_are = h.chunks_then }

  moving-so : (budget made : ℕ) (s : State Value) → Live s.chunks c → Moving budget made s (moving table c budget made s)
  moving-so zero made s l = record { j = 0; then = s; answer_is = rw add-zero; moves = no_move; until = inl refl }
  moving-so (suc budget) made s l = go refl (step-view table c s) (λ s' l'. moving-so budget (made + 1) s' l')
    where
      one_more : {k : ℕ} {t : State Value} → (k ≡ budget) ⊎ ((k < budget) × LiveAtRest c t) → (suc k ≡ suc budget) ⊎ ((suc k < suc budget) × LiveAtRest c t)
      one_more (inl q) = inl (ap suc q)
      one_more (inr r) = inr (omega (arith, r.0), r.1)

      go : {answer : Called Value} → step table c s ≡ answer → StepView table c s answer
          → ((s' : State Value) → Live s'.chunks c → Moving budget (made + 1) s' (moving table c budget (made + 1) s'))
          → Moving (suc budget) made s (elim answer [ refused why ↦ ran made s | became s' ↦ moving table c budget (made + 1) s' ])
      go q (no_such_chunk h) next = absurd (h l)
      go q (was_at_rest l' r) next =
          record { j = 0; then = s; answer_is = rw add-zero; moves = no_move; until = inr (omega arith, record { live = l'; rests = r }) }
      go q (steps_so {s' = s'} h) next =
          let m = next s' (live_then h) in
          record { j = suc m.j; then = m.then; answer_is = m.answer_is ∙ ap (λ n. ran n m.then) (omega arith); moves = move_and h m.moves; until = one_more m.until }

  pub run-within : {budget j : ℕ} {s s' : State Value} → RunNamed table c budget s j s' → j ≤ budget
  run-within h = go h.until
    where
      go : {budget j : ℕ} {s : State Value} → (j ≡ budget) ⊎ ((j < budget) × LiveAtRest c s) → j ≤ budget
      go (inl q) = omega arith
      go (inr r) = omega arith

  -- a run answers j and leaves s' exactly when j named moves lead there, and then K are made or the chunk rests
  pub run-exactly : (budget : ℕ) (s : State Value) (j : ℕ) (s' : State Value) → (run table c budget s ≡ ran j s') ↔ RunNamed table c budget s j s'
  run-exactly budget s j s' = ((λ q. to (rw q at (run-view table c budget s))), from)
    where
      to : RunView table c budget s (ran j s') → RunNamed table c budget s j s'
      to (runs_so l h q) =
          let m = moving-so budget 0 s l in
          let is : ran (0 + m.j) m.then ≡ ran j s' = sym m.answer_is ∙ q in
          let j-is : m.j ≡ j = sym (zero-add m.j) ∙ cc in
          let s-is : m.then ≡ s' = cc in
          record { live = l; not_at_rest = h; made = rw (j-is, s-is) at m.moves; until = rw (j-is, s-is) at m.until }

      ends : (j ≡ budget) ⊎ ((j < budget) × LiveAtRest c s') → moving table c (budget - j) j s' ≡ ran j s'
      ends (inl q) = let z : budget - j ≡ 0 = omega arith in rw z
      ends (inr r) = moving-rests s' r.1 (budget - j) j

      from : RunNamed table c budget s j s' → run table c budget s ≡ ran j s'
      from h =
          let e : budget ≡ j + (budget - j) = omega (arith, run-within h) in
          let first : moving table c (j + (budget - j)) 0 s ≡ moving table c (budget - j) j s' = rw zero-add at (moving-after h.made (budget - j) 0) in
          run-moving s h.live h.not_at_rest budget ∙ ap (λ k. moving table c k 0 s) e ∙ first ∙ ends h.until

  -- "K = 0 on a running chunk answers 0."
  pub run-zero : (s : State Value) (l : Live s.chunks c) → (IsAtRest l.chunk → ⊥) → run table c 0 s ≡ ran 0 s
  run-zero s l h = run-moving s l h 0
