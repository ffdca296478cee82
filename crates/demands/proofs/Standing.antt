-- What is proved of specs' Standing. What stands in the area after one accepted load, one accepted start and any list of step, run and join calls:
-- the words of a state that the machine's named moves reach from the start, as many of them as the calls' answers tell of.
--
-- Main statements: standing-begun, call-view, standing-call, standing-after.
use Rattle.std.specs.Prelude.{◌≡◌, true, ◌⊎◌, List, ◌++◌, ℕ, suc, ◌+◌, ◌≤◌, length, Ok, Err}
use Rattle.std.proofs.Math.Path.{refl, ap}
use Rattle.std.proofs.Common.{sym, subst, ◌∙◌, inl, inr, arith}
use Rattle.std.proofs.Math.ListN.{drop}
use Rattle.refusals.specs.declared.Refusal.{Refusal}
use Rattle.refusals.specs.declared.Refusal.TheVariants.{NoChunk, AtRest, NoJoin}
use Rattle.refusals.specs.Refusals.{number_of, answer_number}
use Rattle.language.specs.Words.{grammar_of}
use Rattle.language.specs.Matrix.{matrix_of}
use Rattle.language.specs.Loads.{load_answer}
use Rattle.language.specs.Trees.{Span}
use Rattle.machine.specs.Moves.{Table}
use Rattle.machine.specs.States.{State, Called, refused, became, Ran, refused_run, ran, step, run, join, start}
use Rattle.machine.specs.TableOf.{table_of}
use Rattle.machine.specs.Schedules.{Turned, by_step, by_join, Schedule, no_turn, one_turn}
use Rattle.machine.proofs.Counts.{made-scheduled, run-exactly}
use Rattle.machine.proofs.GivenExactly.{step-refuses, run-refuses, join-refuses}
use Rattle.layout.specs.Layout.{need, encode}
use Rattle.matrix.specs.GrammarShape.{grammar_in_shape}
use Rattle.start.specs.Start.{Startable, started_area, start_area, starts-exactly}
use Rattle.shape.specs.Safe.{Safe, safe-start, safe-scheduled}
use Rattle.moving.specs.Calls.{called_answer, called_area, ran_answer, ran_area, step_answer, step_area, run_call, run_answer, run_area, join_answer, join_area}
use Rattle.demands.specs.Calls.{Call, a_step, a_run, a_join, matrix_for, call_number, one_if_done, call_made, call_area, area_after, moves_made}
use Rattle.demands.specs.Calls.{OfLoad, AllOfLoad, no_call, and_call, Begun}
use Rattle.machine.specs.TableOf.{own_table}
use Rattle.matrix.specs.EndMarkOfShape.{own-shape}
use Rattle.demands.proofs.OwnMatrix.{accepted, shape_is, table_is}
use Rattle.moving.specs.OnWords.{step_is, run_is, join_is, leaves}
use Rattle.demands.specs.Standing.{CallView, Standing, moved_so, refused_so}

-- schedules one after the other
pub schedule-append : {table : Table Span} {s s' s'' : State Span} {i j : ℕ} → Schedule table s i s' → Schedule table s' j s'' → Schedule table s (i + j) s''
schedule-append {j = j} no_turn k = let z : 0 + j ≡ j = omega arith in rw z k
schedule-append {j = j} (one_turn {n = n} t h) k = let z : suc n + j ≡ suc (n + j) = omega arith in rw z (one_turn t (schedule-append h k))

-- ---- one call on the words of a state

at-12-13 : (why : Refusal) → (why ≡ NoChunk) ⊎ (why ≡ AtRest) → (12 ≤ number_of why) × (number_of why ≤ 14)
at-12-13 why (inl e) = let z = ap number_of e in (omega arith, omega arith)
at-12-13 why (inr e) = let z = ap number_of e in (omega arith, omega arith)

at-12-14 : (why : Refusal) → (why ≡ NoChunk) ⊎ (why ≡ NoJoin) → (12 ≤ number_of why) × (number_of why ≤ 14)
at-12-14 why (inl e) = let z = ap number_of e in (omega arith, omega arith)
at-12-14 why (inr e) = let z = ap number_of e in (omega arith, omega arith)

module _ (words bytes : List ℕ) (loads : load_answer words (length bytes) ≡ Ok tt) {n : ℕ} {s : State Span} (safe : Safe words n s) (rest : List ℕ) where
  abbrev area : List ℕ
  area = encode n s ++ rest

  module _ (matrix : List ℕ) (own : OfLoad words bytes matrix) where
    abbrev grammar : grammar_in_shape words matrix ≡ true
    grammar = shape_is words bytes loads matrix own

    abbrev table : table_of words matrix ≡ own_table words
    table = table_is words bytes loads matrix own

    -- a step or a join, whose answer and area are those of the machine's call x
    called-view : (call : Call) (x : Called Span) → call_number words area call ≡ answer_number (called_answer x) → call_made words area call ≡ one_if_done (called_answer x)
        → call_area words area call ≡ called_area x area → ((why : Refusal) → x ≡ refused why → (12 ≤ number_of why) × (number_of why ≤ 14))
        → ((s' : State Span) → x ≡ became s' → Turned (own_table words) s s') → CallView words n s rest area call
    called-view call (refused why) number made left low turns = let a = low why refl in refused_so (rw number a.0) (rw number a.1) made left
    called-view call (became s') number made left low turns =
        moved_so s' number (left ∙ leaves words matrix grammar safe rest s') (rw made (one_turn (turns s' refl) no_turn))

    step-view : (c : ℕ) → CallView words n s rest area (a_step matrix c)
    unfolding step_answer step_area
    step-view c =
        let is = step_is words matrix grammar safe rest c ∙ ap (λ t. step t c s) table in
        called-view (a_step matrix c) (step (own_table words) c s) (ap (λ x. answer_number (called_answer x)) is) (ap (λ x. one_if_done (called_answer x)) is)
        (ap (λ x. called_area x area) is) (λ why q. at-12-13 why (step-refuses (own_table words) c s why q)) (λ s' q. by_step c q)

    run-view : (c budget : ℕ) → CallView words n s rest area (a_run matrix c budget)
    unfolding run_answer run_area
    run-view c budget = go (run (own_table words) c budget s) refl (run_is words matrix grammar safe rest c budget ∙ ap (λ t. run t c budget s) table)
      where
        go : (x : Ran Span) → run (own_table words) c budget s ≡ x → run_call words matrix area c budget ≡ run (own_table words) c budget s
            → CallView words n s rest area (a_run matrix c budget)
        go (refused_run why) q is =
            let a = at-12-13 why (run-refuses (own_table words) c budget s why q) in
            let e : run_answer words matrix area c budget ≡ Err why = ap ran_answer (is ∙ q) in
            refused_so (rw e a.0) (rw e a.1) (rw e) (ap (λ x. ran_area x area) (is ∙ q))
        go (ran j s') q is =
            let e : run_answer words matrix area c budget ≡ Ok j = ap ran_answer (is ∙ q) in
            moved_so s' (rw e) (ap (λ x. ran_area x area) (is ∙ q) ∙ leaves words matrix grammar safe rest s')
            (rw e (made-scheduled (own_table words) c ((run-exactly (own_table words) c budget s j s').0 q).made))

    join-view : (c : ℕ) → CallView words n s rest area (a_join matrix c)
    unfolding join_answer join_area
    join-view c =
        let is = join_is words matrix grammar safe rest c in
        called-view (a_join matrix c) (join c s) (ap (λ x. answer_number (called_answer x)) is) (ap (λ x. one_if_done (called_answer x)) is)
        (ap (λ x. called_area x area) is) (λ why q. at-12-14 why (join-refuses c s why q)) (λ s' q. by_join c q)

  pub call-view : (call : Call) → OfLoad words bytes (matrix_for call) → CallView words n s rest area call
  call-view (a_step matrix c) own = step-view matrix own c
  call-view (a_run matrix c budget) own = run-view matrix own c budget
  call-view (a_join matrix c) own = join-view matrix own c

-- ---- any list of calls

module _ {words bytes tokens cuts area₀ : List ℕ} (begun : Begun words bytes tokens cuts area₀) where
  abbrev pub startable : Startable (record { words = words; matrix = begun.matrix; tokens = tokens; cuts = cuts; room = length begun.lent })
  startable = (starts-exactly words begun.matrix tokens cuts (length begun.lent)).0 begun.starts

  pub standing-begun : Standing words tokens cuts area₀ 0
  unfolding start_area
  standing-begun = record {
    state = start tokens cuts;
    rest = drop (need (length tokens) (length cuts + 1)) begun.lent;
    area_is = begun.area_is ∙ ap (λ a. started_area a tokens cuts begun.lent) begun.starts;
    turns = no_turn;
  }

  -- the state is safe
  pub standing-safe : {area : List ℕ} {made : ℕ} (h : Standing words tokens cuts area made) → Safe words (length tokens) h.state
  standing-safe h =
      safe-scheduled words (matrix_of (grammar_of words)) (own-shape (accepted words bytes begun.loads)) (safe-start startable) h.turns

  -- what a call does there
  pub standing-view : {area : List ℕ} {made : ℕ} (h : Standing words tokens cuts area made) (call : Call) → OfLoad words bytes (matrix_for call)
      → CallView words (length tokens) h.state h.rest area call
  standing-view h call own =
      subst (λ a. CallView words (length tokens) h.state h.rest a call) (sym h.area_is)
      (call-view words bytes begun.loads (standing-safe h) h.rest call own)

  -- a call keeps it
  pub standing-call : {area : List ℕ} {made : ℕ} → Standing words tokens cuts area made → (call : Call) → OfLoad words bytes (matrix_for call)
      → Standing words tokens cuts (call_area words area call) (made + call_made words area call)
  standing-call {area} {made} h call own = go (standing-view h call own)
    where
      go : CallView words (length tokens) h.state h.rest area call
          → Standing words tokens cuts (call_area words area call) (made + call_made words area call)
      go (refused_so low high none_made same) =
          let z : made + call_made words area call ≡ made = omega arith in
          record { state = h.state; rest = h.rest; area_is = same ∙ h.area_is; turns = rw z h.turns }
      go (moved_so s' zero_is is turns) = record { state = s'; rest = h.rest; area_is = is; turns = schedule-append h.turns turns }

  standing-from : {area : List ℕ} {made : ℕ} → Standing words tokens cuts area made → {calls : List Call} → AllOfLoad words bytes calls
      → Standing words tokens cuts (area_after words area calls) (made + moves_made words area calls)
  standing-from {made = made} h no_call = let z : made + 0 ≡ made = omega arith in rw z h
  standing-from {area} {made} h (and_call {call = call} {calls = calls} own all) =
      let z : made + (call_made words area call + moves_made words (call_area words area call) calls)
      ≡ made + call_made words area call + moves_made words (call_area words area call) calls = omega arith in
      rw z (standing-from {area = call_area words area call} (standing-call h call own) all)

  -- .. and so does any list of calls
  pub standing-after : {calls : List Call} → AllOfLoad words bytes calls
      → Standing words tokens cuts (area_after words area₀ calls) (moves_made words area₀ calls)
  standing-after {calls} all = let z : 0 + moves_made words area₀ calls ≡ moves_made words area₀ calls = omega arith in rw z at (standing-from standing-begun all)
