-- What is proved of specs' MoveDemand. Demand 2 on step, run and join: an accepted call takes the area from the words of a state s to the words of a
-- state s' exactly when document 01's sentences, as machine's relations say them, have that move of that chunk from s to s'; a run exactly when that
-- many such moves lead there, and join likewise.
--
-- Main statements: step-demand, run-demand, join-demand; of a lent area: lent-state.
use Rattle.std.proofs.Math.Path.{◌≡◌, refl, sym, ap}
use Rattle.std.proofs.Common.{◌∙◌, arith}
use Rattle.std.specs.Prelude.{true, ◌↔◌, List, ◌++◌, ℕ, ◌<◌, get_or, drop, Ok, Err}
use Rattle.language.specs.Trees.{Span}
use Rattle.machine.specs.States.{State, Called, refused, became, Ran, refused_run, ran, step, run, join}
use Rattle.machine.specs.TableOf.{table_of}
use Rattle.machine.specs.Schedules.{Turned, by_step, by_join}
use Rattle.machine.specs.Allowed.{Steps, JoinsAt}
use Rattle.machine.proofs.AllowedExactly.{step-exactly, join-exactly}
use Rattle.machine.specs.Counts.{RunNamed}
use Rattle.machine.proofs.Counts.{run-exactly}
use Rattle.layout.specs.Layout.{need, encode, decode}
use Rattle.matrix.specs.GrammarShape.{grammar_in_shape}
use Rattle.area.specs.Shape.{in_shape}
use Rattle.shape.specs.InShape.{in-shape-parts, in-shape-holds}
use Rattle.shape.specs.Safe.{Safe, safe-turned, safe-run}
use Rattle.moving.specs.Calls.{called_answer, called_area, ran_answer, ran_area, step_answer, step_area, run_call, run_answer, run_area, join_answer, join_area}
use Rattle.moving.specs.OnWords.{reads, step_is, run_is, join_is, leaves}
use Rattle.demands.specs.MoveDemand.{JoinLeaves, RunLeaves, StepLeaves}

module _ (words matrix : List ℕ) (grammar : grammar_in_shape words matrix ≡ true) {n : ℕ} {s : State Span} (safe : Safe words n s) (rest : List ℕ) where
  abbrev area : List ℕ
  area = encode n s ++ rest

  -- no two states that keep the rules have the same words
  one_state : {u v : State Span} → Safe words n u → Safe words n v → encode n u ++ rest ≡ encode n v ++ rest → u ≡ v
  one_state a b e = sym (reads words matrix grammar a rest) ∙ ap decode e ∙ reads words matrix grammar b rest

  -- a call that is the machine's call x: it is accepted and leaves the words of s' exactly when x is s'
  called-demand : {call : Called Span} (x : Called Span) (s' : State Span) → call ≡ x → ((s'' : State Span) → x ≡ became s'' → Turned (table_of words matrix) s s'')
      → ((called_answer call ≡ Ok tt) × Safe words n s' × (called_area call area ≡ encode n s' ++ rest)) ↔ (x ≡ became s')
  called-demand {call} x s' is turns = ((λ h. to x refl h.0 h.1 h.2), from)
    where
      to : (y : Called Span) → x ≡ y → called_answer call ≡ Ok tt → Safe words n s' → called_area call area ≡ encode n s' ++ rest → x ≡ became s'
      to (refused why) q done k w =
          let e : Err why ≡ Ok tt = sym (ap called_answer (is ∙ q)) ∙ done in
          let z : ◌≡◌ {A = ℕ} 0 1 = cc in
          absurd (omega arith)
      to (became s'') q done k w =
          let f : called_area call area ≡ encode n s'' ++ rest = ap (λ y. called_area y area) (is ∙ q) ∙ leaves words matrix grammar safe rest s'' in
          let same : s'' ≡ s' = one_state (safe-turned words matrix grammar safe (turns s'' q)) k (sym f ∙ w) in
          q ∙ ap became same

      from : x ≡ became s' → (called_answer call ≡ Ok tt) × Safe words n s' × (called_area call area ≡ encode n s' ++ rest)
      from q = (
        ap called_answer (is ∙ q),
        safe-turned words matrix grammar safe (turns s' q),
        ap (λ y. called_area y area) (is ∙ q) ∙ leaves words matrix grammar safe rest s',
      )

  -- step
  pub step-demand : (c : ℕ) (s' : State Span) → StepLeaves words matrix area rest n c s' ↔ Steps (table_of words matrix) c s s'
  unfolding step_answer step_area
  step-demand c s' =
      let called = called-demand (step (table_of words matrix) c s) s' (step_is words matrix grammar safe rest c) (λ s'' q. by_step c q) in
      let exactly = step-exactly (table_of words matrix) c s s' in
      ((λ h. exactly.1 (called.0 h)), (λ m. called.1 (exactly.0 m)))

  -- run
  pub run-demand : (c budget j : ℕ) (s' : State Span) → RunLeaves words matrix area rest n c budget j s' ↔ RunNamed (table_of words matrix) c budget s j s'
  unfolding run_answer run_area
  run-demand c budget j s' = (
    (λ h. to (run (table_of words matrix) c budget s) refl (run_is words matrix grammar safe rest c budget) h.0 h.1 h.2),
    (λ m. from ((run-exactly (table_of words matrix) c budget s j s').1 m)),
  )
    where
      to : (x : Ran Span) → run (table_of words matrix) c budget s ≡ x → run_call words matrix area c budget ≡ run (table_of words matrix) c budget s
          → run_answer words matrix area c budget ≡ Ok j → Safe words n s' → run_area words matrix area c budget ≡ encode n s' ++ rest
          → RunNamed (table_of words matrix) c budget s j s'
      to (refused_run why) q is answer k w =
          let e : Err why ≡ Ok j = sym (ap ran_answer (is ∙ q)) ∙ answer in
          let z : ◌≡◌ {A = ℕ} 0 1 = cc in
          absurd (omega arith)
      to (ran i s'') q is answer k w =
          let e : Ok i ≡ Ok j = sym (ap ran_answer (is ∙ q)) ∙ answer in
          let i-is : i ≡ j = cc in
          let f : run_area words matrix area c budget ≡ encode n s'' ++ rest = ap (λ x. ran_area x area) (is ∙ q) ∙ leaves words matrix grammar safe rest s'' in
          let same : s'' ≡ s' = one_state (safe-run words matrix grammar c budget safe q) k (sym f ∙ w) in
          (run-exactly (table_of words matrix) c budget s j s').0 (q ∙ ap (λ u. ran i u) same ∙ ap (λ m. ran m s') i-is)

      from : run (table_of words matrix) c budget s ≡ ran j s' → RunLeaves words matrix area rest n c budget j s'
      from q =
          let is = run_is words matrix grammar safe rest c budget ∙ q in
          (ap ran_answer is, safe-run words matrix grammar c budget safe q, ap (λ x. ran_area x area) is ∙ leaves words matrix grammar safe rest s')

  -- join
  pub join-demand : (c : ℕ) (s' : State Span) → JoinLeaves words matrix area rest n c s' ↔ JoinsAt c s s'
  unfolding join_answer join_area
  join-demand c s' =
      let called = called-demand (join c s) s' (join_is words matrix grammar safe rest c) (λ s'' q. by_join c q) in
      let exactly = join-exactly c s s' in
      ((λ h. exactly.1 (called.0 h)), (λ m. called.1 (exactly.0 m)))

-- every lent area in shape is the words of a state that keeps the rules, and what stands beyond
pub lent-state : (words matrix area : List ℕ) → get_or area 2 0 < 65536 → in_shape words matrix area ≡ true
    → (grammar_in_shape words matrix ≡ true) × Safe words (get_or area 0 0) (decode area)
    × (area ≡ encode (get_or area 0 0) (decode area) ++ drop (need (get_or area 0 0) (get_or area 1 0)) area)
lent-state words matrix area low shape = let h = in-shape-holds words matrix area low shape in ((in-shape-parts words matrix area shape).0, h.kept, h.is)
