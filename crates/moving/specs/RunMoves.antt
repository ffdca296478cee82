-- The moves of a run, one after the other on a lent area: what stands there after each, and where they end.
-- Document 01, "Moves of a chunk": "it makes moves until K are made or it rests, and answers how many it made."
-- Rests on OneMove, Moved, CallLaws and OnWords, and on machine's Counts (the laws for a loop that makes a run's moves).
--
-- Main definitions: Runnable, RanWords (the words that a run's moves leave), Underway (after some of them).
-- Main statements: runnable-stack; underway, underway-listed, underway-movable, underway-more, underway-rests, underway-spent; run-bad, run-gone, run-rests, run_moved;
-- step-by-run (a step is a run of one move).
use Rattle.std.specs.Prelude.{◌≡◌, Bool, List, ◌++◌, ℕ, suc, ◌+◌, ◌-◌, ◌<◌, ◌≤◌, length, get_or, Ok, Err}
use Rattle.std.proofs.Math.Path.{refl, sym, ap}
use Rattle.std.proofs.Common.{subst, ◌∙◌, arith}
use Rattle.std.proofs.Math.Bool.{true, false}
use Rattle.std.proofs.lemmas.Bool.{false≢true}
use Rattle.laws.specs.Tests.{lt-ltb}
use Rattle.refusals.specs.declared.Refusal.TheVariants.{BadState, NoChunk, AtRest}
use Rattle.refusals.specs.Answers.{Answer, RunAnswer}
use Rattle.language.specs.Trees.{Span}
use Rattle.language.specs.Words.{count_t, count_n}
use Rattle.machine.specs.Moves.{Table}
use Rattle.machine.specs.States.{State, Called, refused, became, Ran, refused_run, ran, step, moving, run}
use Rattle.machine.specs.Schedules.{by_step}
use Rattle.machine.specs.TableOf.{table_of}
use Rattle.machine.specs.Allowed.{Live}
use Rattle.machine.specs.AllowedExactly.{StepView, no_such_chunk, was_at_rest, steps_so}
use Rattle.machine.proofs.AllowedExactly.{rests-to, step-view}
use Rattle.machine.specs.GivenExactly.{RunView, run_no_chunk_so, run_at_rest_so, runs_so}
use Rattle.machine.proofs.GivenExactly.{step-at-rest, run-view, run-no-chunk, run-at-rest}
use Rattle.machine.proofs.Counts.{run-moving, moving-step, moving-rests}
use Rattle.layout.specs.Layout.{encode, decode, slots_at}
use Rattle.layout.specs.Kept.{Kept}
use Rattle.area.specs.Shape.{in_shape}
use Rattle.shape.specs.Safe.{safe-turned}
use Rattle.moving.specs.MoveLaw.{Stepped, runs_on}
use Rattle.moving.specs.ReadWords.{HasStack}
use Rattle.moving.specs.ReadLaw.{has-stack}
use Rattle.moving.specs.OneMove.{Held, Movable, terminals-small, held-live, live-stepped, moves_so}
use Rattle.moving.specs.Moved.{Moved, live_in, rests_in, live-status}
use Rattle.moving.specs.CallLaws.{there, table-there, the_live, none-live, at-rest-there, movable}
use Rattle.moving.specs.Calls.{called_answer, called_area, step_call, step_answer, step_area, ran_answer, ran_area, run_call, run_answer, run_area}
use Rattle.moving.specs.OnWords.{run-broken, run-in-shape}

-- an area that holds a state of which chunk c is live
pub record Runnable (words bytes area : List ℕ) (c : ℕ) : Type 0 where
  pub held : Held words bytes area
  pub live : Live held.state.chunks c

-- the chunk's stack stands there
pub runnable-stack : {words bytes area : List ℕ} {c : ℕ} → Runnable words bytes area c → HasStack area c
runnable-stack {c = c} m =
    subst (λ (a : List ℕ). HasStack a c) (sym m.held.area_is) (has-stack m.held.kept m.held.rest m.live (omega (arith, terminals-small m.held)))

-- the words of the row after at most `budget` moves of chunk c, of which `made` were made
pub record RanSo (words bytes : List ℕ) (n : ℕ) (s : State Span) (rest : List ℕ) (c budget made : ℕ) (area : List ℕ) : Type 0 where
  pub then : State Span
  pub ends : moving (table_of words bytes) c budget 0 s ≡ ran made then
  pub are : area ≡ encode n then ++ rest

pub record RanWords (words bytes area : List ℕ) (c budget made : ℕ) (area' : List ℕ) : Type 0 where
  pub found : (m : Runnable words bytes area c) → RanSo words bytes m.held.tokens m.held.state m.held.rest c budget made area'

-- ---- a run underway

-- `made` of the moves are made
pub record Underway (words bytes : List ℕ) {old : List ℕ} {c : ℕ} (m : Runnable words bytes old c) (budget made : ℕ) (area : List ℕ) : Type 0 where
  pub now : State Span
  pub kept : Kept (count_t words) (count_n words) m.held.tokens now
  pub live : Live now.chunks c
  pub are : area ≡ encode m.held.tokens now ++ m.held.rest
  pub within : made ≤ budget
  pub goes_on : moving (table_of words bytes) c budget 0 m.held.state ≡ moving (table_of words bytes) c (budget - made) made now

module _ {words bytes old : List ℕ} {c : ℕ} (m : Runnable words bytes old c) (budget : ℕ) where
  pub underway : Underway words bytes m budget 0 old
  underway = record {
    now = m.held.state;
    kept = m.held.kept;
    live = m.live;
    are = m.held.area_is;
    within = omega arith;
    goes_on = let e : budget ≡ budget - 0 = omega arith in ap (λ (b : ℕ). moving (table_of words bytes) c b 0 m.held.state) e;
  }

module _ {words bytes old : List ℕ} {c : ℕ} {m : Runnable words bytes old c} {budget made : ℕ} {area : List ℕ} (u : Underway words bytes m budget made area) where
  abbrev holds_now : Held words bytes area
  holds_now = record { tokens = m.held.tokens; state = u.now; rest = m.held.rest; area_is = u.are; grammar = m.held.grammar; kept = u.kept }

  still-live : live_in area c ≡ true
  still-live = let p = held-live holds_now u.live in sym (live-status area c p.0) ∙ lt-ltb 0 _ p.1

  -- its row of the table is there
  pub underway-listed : (c < get_or area 1 0) × (slots_at area ≤ length area)
  underway-listed = ((held-live holds_now u.live).0, (table-there holds_now).1)

  pub underway-movable : rests_in area c ≡ false → Movable words bytes area c
  underway-movable r = movable holds_now still-live r

  -- one move more
  pub underway-more : made < budget → rests_in area c ≡ false → {area' : List ℕ} → Moved words bytes area c area' → Underway words bytes m budget (made + 1) area'
  underway-more l r {area'} v =
      let k = movable holds_now still-live r in
      let s : Stepped words bytes m.held.tokens u.now m.held.rest c area' = moves_so k (v.found k) in
      let e : budget - made ≡ suc (budget - (made + 1)) = omega arith in
      record {
        now = s.then;
        kept = safe-turned words bytes m.held.grammar u.kept (by_step c s.steps);
        live = live-stepped holds_now s;
        are = s.are;
        within = omega arith;
        goes_on =
            u.goes_on ∙ ap (λ (b : ℕ). moving (table_of words bytes) c b made u.now) e
            ∙ moving-step (table_of words bytes) c u.now s.steps (budget - (made + 1)) made;
      }

  -- it rests
  pub underway-rests : rests_in area c ≡ true → RanSo words bytes m.held.tokens m.held.state m.held.rest c budget made area
  underway-rests r = record {
    then = u.now;
    ends = u.goes_on ∙ moving-rests (table_of words bytes) c u.now (at-rest-there holds_now still-live r) (budget - made) made;
    are = u.are;
  }

  -- as many as asked for are made
  pub underway-spent : budget ≤ made → RanSo words bytes m.held.tokens m.held.state m.held.rest c budget made area
  underway-spent l =
      let e : budget - made ≡ 0 = omega arith in
      record {
        then = u.now;
        ends = u.goes_on ∙ ap (λ (b : ℕ). moving (table_of words bytes) c b made u.now) e;
        are = u.are;
      }

-- ---- run

module _ (words bytes area : List ℕ) (c budget : ℕ) where
  by-run : {k : Ran Span} → run_call words bytes area c budget ≡ k → (ran_answer k ≡ run_answer words bytes area c budget) × (ran_area k area ≡ run_area words bytes area c budget)
  unfolding run_answer run_area
  by-run q = (sym (ap ran_answer q), sym (ap (λ (k : Ran Span). ran_area k area) q))

  pub run-bad : in_shape words bytes area ≡ false → (Err BadState ≡ run_answer words bytes area c budget) × (area ≡ run_area words bytes area c budget)
  run-bad e = by-run (run-broken words bytes area c budget e)

  module _ (low : get_or area 2 0 < 65536) (shape : in_shape words bytes area ≡ true) where
    abbrev stands : Held words bytes area
    stands = there words bytes area c low shape

    by_state : run_call words bytes area c budget ≡ run (table_of words bytes) c budget (decode area)
    by_state = run-in-shape words bytes area c budget shape

    pub run-gone : live_in area c ≡ false → (Err NoChunk ≡ run_answer words bytes area c budget) × (area ≡ run_area words bytes area c budget)
    run-gone e = by-run (by_state ∙ (run-no-chunk (table_of words bytes) c budget (decode area)).1 (none-live stands e))

    pub run-rests : live_in area c ≡ true → rests_in area c ≡ true → (Err AtRest ≡ run_answer words bytes area c budget) × (area ≡ run_area words bytes area c budget)
    run-rests e r = by-run (by_state ∙ (run-at-rest (table_of words bytes) c budget (decode area)).1 (at-rest-there stands e r))

    pub runnable : live_in area c ≡ true → Runnable words bytes area c
    runnable e = record { held = stands; live = the_live stands e }

    -- the moves of a chunk that is not at rest are its run
    pub run_moved : (e : live_in area c ≡ true) (r : rests_in area c ≡ false) {made : ℕ} {area' : List ℕ} → RanWords words bytes area c budget made area'
        → (Ok made ≡ run_answer words bytes area c budget) × (area' ≡ run_area words bytes area c budget)
    run_moved e r v =
        let k = movable stands e r in
        let s = v.found (record { held = stands; live = the_live stands e }) in
        let z = by-run (by_state ∙ run-moving (table_of words bytes) c (decode area) k.live (λ i. false≢true (sym (runs_on k.runs) ∙ rests-to i)) budget ∙ s.ends) in
        (z.0, s.are ∙ z.1)

-- ---- step

-- a step's call as a run's
abbrev once : {Value : Type 0} → Called Value → Ran Value
once (refused refusal) = refused_run refusal
once (became s) = ran 1 s

-- a step is a run of one move
one-step : {Value : Type 0} (table : Table Value) (c : ℕ) (s : State Value) → run table c 1 s ≡ once (step table c s)
one-step {Value} table c s = by-view refl (step-view table c s)
  where
    moves : {s' : State Value} {answer : Ran Value} → step table c s ≡ became s' → Live s.chunks c → RunView table c 1 s answer → answer ≡ ran 1 s'
    moves q l (run_no_chunk_so h) = absurd (h l)
    moves q l (run_at_rest_so h) = let e = sym q ∙ (step-at-rest table c s).1 h in let z : ◌≡◌ {A = ℕ} 0 1 = cc in absurd (omega arith)
    moves q l (runs_so m h e) = sym e ∙ moving-step table c s q 0 0

    by-view : {call : Called Value} → step table c s ≡ call → StepView table c s call → run table c 1 s ≡ once call
    by-view q (no_such_chunk h) = (run-no-chunk table c 1 s).1 h
    by-view q (was_at_rest l r) = (run-at-rest table c 1 s).1 (record { live = l; rests = r })
    by-view q (steps_so m) = moves q m.live (run-view table c 1 s)

-- the answer of a step by that of a run of one
abbrev pub step_of : RunAnswer → Answer
step_of (Err refusal) = Err refusal
step_of (Ok made) = Ok tt

module _ (words bytes area : List ℕ) (c : ℕ) where
  as-run : run_call words bytes area c 1 ≡ once (step_call words bytes area c)
  unfolding run_call step_call
  as-run = go (in_shape words bytes area)
    where
      go : (t : Bool) → elim t [ false ↦ refused_run BadState | true ↦ run (table_of words bytes) c 1 (decode area) ]
          ≡ once {Value = Span} (elim t [ false ↦ refused BadState | true ↦ step (table_of words bytes) c (decode area) ])
      go false = refl
      go true = one-step (table_of words bytes) c (decode area)

  pub step-by-run : {r : RunAnswer} {area' : List ℕ} → r ≡ run_answer words bytes area c 1 → area' ≡ run_area words bytes area c 1
      → (step_of r ≡ step_answer words bytes area c) × (area' ≡ step_area words bytes area c)
  unfolding run_answer run_area step_answer step_area
  step-by-run p q =
      let same = go (step_call words bytes area c) in
      (ap step_of (p ∙ ap ran_answer as-run) ∙ same.0, q ∙ ap (λ (k : Ran Span). ran_area k area) as-run ∙ same.1)
    where
      go : (k : Called Span) → (step_of (ran_answer (once k)) ≡ called_answer k) × (ran_area (once k) area ≡ called_area k area)
      go (refused refusal) = (refl, refl)
      go (became s) = (refl, refl)
