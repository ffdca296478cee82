-- What is proved of specs' GivenExactly. *Given exactly*: each refusal of a step, a run, a join and a row's outcome is given exactly when the table's
-- sentence holds, and no other is given; and a report exactly when the one live chunk rests unstuck.
--
-- Main statements: step-no-chunk, step-at-rest, step-refuses, the same for run and join, no-join-exactly, unfinished-exactly,
-- stuck-exactly (17 to 20), report-exactly.
use Rattle.std.specs.Prelude.{◌≡◌, refl, Bool, true, false, List, [], ◌∷◌, ◌++◌, ◌↔◌, ◌⊎◌, ℕ, zero, suc, ◌+◌, eqb, drop}
use Rattle.std.proofs.Common.{sym, ap, ◌∙◌, true≢false, inl, inr, arith}
use Rattle.std.proofs.Math.Option.{Option, none, some}
use Rattle.refusals.specs.declared.Refusal.{Refusal}
use Rattle.refusals.specs.declared.Refusal.TheVariants.{NoChunk, AtRest, NoJoin, Unfinished}
use Rattle.refusals.specs.Refusals.{number_of, value_of}
use Rattle.language.specs.Trees.{Span, Reduction}
use Rattle.language.specs.Reports.{put_in_order}
use Rattle.machine.specs.Entries.{Unread, terminal_at, nonterminal_at}
use Rattle.machine.specs.Moves.{Table, Stuck, no_relation, no_rule, not_axiom, side_by_side}
use Rattle.machine.specs.Chunks.{Status, running, stuck, Chunk, at_rest}
use Rattle.machine.specs.States.{State, Called, refused, became, Ran, refused_run, ran, Next, step, moving, run, next_live, join_with, join, live}
use Rattle.machine.specs.States.{Outcome, refused_row, reported, place_of, refusal_of, outcome_of, outcome}
use Rattle.machine.specs.Allowed.{IsAtRest, AllGone, no_number, one_gone, Live, NextLive}
use Rattle.machine.specs.AllowedExactly.{LiveView, is-live, not_live}
use Rattle.machine.proofs.AllowedExactly.{rests-to, rests-from, not-at-rest-to, turn-rests, live_to, live-drop, next-to, none-next, live_view}
use Rattle.machine.specs.AllowedExactly.{StepView, no_such_chunk, was_at_rest, steps_so, JoinView, no_left, no_right, left_moves, right_moves, joins_so, NextView}
use Rattle.machine.proofs.AllowedExactly.{step-view}
use Rattle.machine.specs.AllowedExactly.{is_next, no_next}
use Rattle.machine.proofs.AllowedExactly.{next-view, join-view}
use Rattle.machine.specs.GivenExactly.{CannotJoin, Finished, HowMany, LiveAtRest, OneLive, OutcomeView, PlaceOfNext, ReportedSo, RunView, SeveralLive, StillUnfinished, StuckSo}
use Rattle.machine.specs.GivenExactly.{left_not_at_rest, no_live_right, none-live, nothing_unread, of_nonterminal, of_terminal, one_live, one_not_at_rest, reported_so, right_not_at_rest, run_at_rest_so, run_no_chunk_so}
use Rattle.machine.specs.GivenExactly.{runs_so, several, several_live, stuck_so, unfinished_so}

-- A step.

module _ {Value : Type 0} (table : Table Value) (c : ℕ) (s : State Value) where
  -- "12 NO CHUNK: number not live"
  pub step-no-chunk : (step table c s ≡ refused NoChunk) ↔ (Live s.chunks c → ⊥)
  step-no-chunk = ((λ q. to (rw q at (step-view table c s))), λ h. from h (step-view table c s))
    where
      to : StepView table c s (refused NoChunk) → Live s.chunks c → ⊥
      to (no_such_chunk h) = h

      from : {answer : Called Value} → (Live s.chunks c → ⊥) → StepView table c s answer → answer ≡ refused NoChunk
      from h (no_such_chunk g) = refl
      from h (was_at_rest l r) = absurd (h l)
      from h (steps_so m) = absurd (h m.live)

  -- "13 AT REST: move or run of a chunk at rest"
  pub step-at-rest : (step table c s ≡ refused AtRest) ↔ LiveAtRest c s
  step-at-rest = ((λ q. to (rw q at (step-view table c s))), λ h. rw (live_to h.live, step, turn-rests table h.rests))
    where
      to : StepView table c s (refused AtRest) → LiveAtRest c s
      to (was_at_rest l r) = record { live = l; rests = r }

  -- a step refuses with nothing else
  pub step-refuses : (why : Refusal) → step table c s ≡ refused why → (why ≡ NoChunk) ⊎ (why ≡ AtRest)
  step-refuses why q = go (rw q at (step-view table c s))
    where
      go : {why : Refusal} → StepView table c s (refused why) → (why ≡ NoChunk) ⊎ (why ≡ AtRest)
      go (no_such_chunk h) = inl refl
      go (was_at_rest l r) = inr refl

-- A run, with any budget.

module _ {Value : Type 0} (table : Table Value) (c : ℕ) where
  data IsRan : Ran Value → Type 0 where
    is_ran : {j : ℕ} {s : State Value} → IsRan (ran j s)

  moving-ran : (budget made : ℕ) (s : State Value) → IsRan (moving table c budget made s)
  moving-ran zero made s = is_ran
  moving-ran (suc budget) made s = go (step table c s) (λ s'. moving-ran budget (made + 1) s')
    where
      go : (answer : Called Value) → ((s' : State Value) → IsRan (moving table c budget (made + 1) s'))
          → IsRan (elim answer [ refused why ↦ ran made s | became s' ↦ moving table c budget (made + 1) s' ])
      go (refused why) then = is_ran
      go (became s') then = then s'

  pub run-view : (budget : ℕ) (s : State Value) → RunView table c budget s (run table c budget s)
  run-view budget s = at-number (live_view s.chunks c)
    where
      moves : (l : Live s.chunks c) → (IsAtRest l.chunk → ⊥) → {answer : Ran Value} → moving table c budget 0 s ≡ answer → IsRan answer → RunView table c budget s answer
      moves l h q is_ran = runs_so l h q

      resting : (l : Live s.chunks c) (t : Bool) → at_rest l.chunk ≡ t
          → RunView table c budget s (elim t [ true ↦ refused_run AtRest | false ↦ moving table c budget 0 s ])
      resting l true q = run_at_rest_so (record { live = l; rests = rests-from l.chunk q })
      resting l false q = moves l (λ r. true≢false (sym (rests-to r) ∙ q)) refl (moving-ran budget 0 s)

      at-number : {o : Option (Chunk Value)} → LiveView s.chunks c o
          → RunView table c budget s (elim o [
            | none ↦ refused_run NoChunk
            | some chunk ↦ elim (at_rest chunk) [ true ↦ refused_run AtRest | false ↦ moving table c budget 0 s ]
          ])
      at-number (is-live l) = resting l (at_rest l.chunk) refl
      at-number (not_live h) = run_no_chunk_so h

module _ {Value : Type 0} (table : Table Value) (c budget : ℕ) (s : State Value) where
  pub run-no-chunk : (run table c budget s ≡ refused_run NoChunk) ↔ (Live s.chunks c → ⊥)
  run-no-chunk = ((λ q. to (rw q at (run-view table c budget s))), λ h. from h (run-view table c budget s))
    where
      to : RunView table c budget s (refused_run NoChunk) → Live s.chunks c → ⊥
      to (run_no_chunk_so h) = h

      from : {answer : Ran Value} → (Live s.chunks c → ⊥) → RunView table c budget s answer → answer ≡ refused_run NoChunk
      from h (run_no_chunk_so g) = refl
      from h (run_at_rest_so r) = absurd (h r.live)
      from h (runs_so l r m) = absurd (h l)

  pub run-at-rest : (run table c budget s ≡ refused_run AtRest) ↔ LiveAtRest c s
  run-at-rest = ((λ q. to (rw q at (run-view table c budget s))), λ h. rw (live_to h.live, run, rests-to h.rests))
    where
      to : RunView table c budget s (refused_run AtRest) → LiveAtRest c s
      to (run_at_rest_so r) = r

  pub run-refuses : (why : Refusal) → run table c budget s ≡ refused_run why → (why ≡ NoChunk) ⊎ (why ≡ AtRest)
  run-refuses why q = go (rw q at (run-view table c budget s))
    where
      go : {why : Refusal} → RunView table c budget s (refused_run why) → (why ≡ NoChunk) ⊎ (why ≡ AtRest)
      go (run_no_chunk_so h) = inl refl
      go (run_at_rest_so r) = inr refl

-- A join.

module _ {Value : Type 0} (c : ℕ) (s : State Value) where
  pub join-no-chunk : (join c s ≡ refused NoChunk) ↔ (Live s.chunks c → ⊥)
  join-no-chunk = ((λ q. to (rw q at (join-view c s))), λ h. from h (join-view c s))
    where
      to : JoinView c s (refused NoChunk) → Live s.chunks c → ⊥
      to (no_left h) = h

      from : {answer : Called Value} → (Live s.chunks c → ⊥) → JoinView c s answer → answer ≡ refused NoChunk
      from h (no_left g) = refl
      from h (no_right l g) = absurd (h l)
      from h (left_moves l r) = absurd (h l)
      from h (right_moves l n r) = absurd (h l)
      from h (joins_so j) = absurd (h j.live)

  pub no-join-exactly : (join c s ≡ refused NoJoin) ↔ CannotJoin c s
  no-join-exactly = ((λ q. to (rw q at (join-view c s))), from)
    where
      to : JoinView c s (refused NoJoin) → CannotJoin c s
      to (no_right l g) = no_live_right l g
      to (left_moves l r) = left_not_at_rest l r
      to (right_moves l n r) = right_not_at_rest l n r

      left : (chunk : Chunk Value) → (IsAtRest chunk → ⊥) → (o : Option (Next Value))
          → ◌≡◌ {A = Called Value} (elim o [ none ↦ refused NoJoin | some next ↦ join_with c s chunk next ]) (refused NoJoin)
      left chunk r none = refl
      left chunk r (some next) = rw (not-at-rest-to chunk r, join_with)

      right : (chunk : Chunk Value) (next : Next Value) → (IsAtRest next.chunk → ⊥) → (t : Bool) → at_rest chunk ≡ t → join_with c s chunk next ≡ refused NoJoin
      right chunk next r false q = rw (q, join_with)
      right chunk next r true q = rw (q, join_with, not-at-rest-to next.chunk r)

      from : CannotJoin c s → join c s ≡ refused NoJoin
      from (no_live_right l g) = rw (live_to l, join, live-drop l, none-next g)
      from (left_not_at_rest l r) = rw (live_to l, join) (left l.chunk r (next_live (drop (suc c) s.chunks)))
      from (right_not_at_rest l n r) = rw (live_to l, join, live-drop l, next-to n) (right l.chunk _ r (at_rest l.chunk) refl)

  pub join-refuses : (why : Refusal) → join c s ≡ refused why → (why ≡ NoChunk) ⊎ (why ≡ NoJoin)
  join-refuses why q = go (rw q at (join-view c s))
    where
      go : {why : Refusal} → JoinView c s (refused why) → (why ≡ NoChunk) ⊎ (why ≡ NoJoin)
      go (no_left h) = inl refl
      go (no_right l g) = inr refl
      go (left_moves l r) = inr refl
      go (right_moves l n r) = inr refl

-- A row's outcome.

module _ {Value : Type 0} where
  live-gone : {chunks : List (Option (Chunk Value))} → AllGone chunks → live chunks ≡ []
  live-gone no_number = refl
  live-gone (one_gone g) = live-gone g

  live-next : {chunks : List (Option (Chunk Value))} (n : NextLive chunks) → live chunks ≡ n.chunk ∷ live n.beyond
  live-next n = rw n.after_is (go n.all_gone)
    where
      go : {between : List (Option (Chunk Value))} → AllGone between → live (between ++ (some n.chunk ∷ n.beyond)) ≡ n.chunk ∷ live n.beyond
      go no_number = refl
      go (one_gone g) = go g

  pub live-one : {chunks : List (Option (Chunk Value))} (o : OneLive chunks) → live chunks ≡ o.the_one.chunk ∷ []
  live-one o = rw (live-next o.the_one, live-gone o.no_other)

  live-several : {chunks : List (Option (Chunk Value))} (m : SeveralLive chunks) → live chunks ≡ m.one.chunk ∷ m.other.chunk ∷ live m.other.beyond
  live-several m = rw (live-next m.one, live-next m.other)

  pub how-many : (chunks : List (Option (Chunk Value))) → HowMany chunks
  how-many chunks = first (next-view chunks)
    where
      then : (n : NextLive chunks) {o : Option (Next Value)} → NextView n.beyond o → HowMany chunks
      then n (is_next m) = several_live (record { one = n; other = m })
      then n (no_next g) = one_live (record { the_one = n; no_other = g })

      first : {o : Option (Next Value)} → NextView chunks o → HowMany chunks
      first (is_next n) = then n (next-view n.beyond)
      first (no_next g) = none-live g

-- a refusal of a stuck row tells why and where it is stuck
pub value-stuck : (why : Stuck) (place : ℕ) → value_of (refusal_of why place) ≡ place
value-stuck no_relation place = refl
value-stuck no_rule place = refl
value-stuck not_axiom place = refl
value-stuck side_by_side place = refl

abbrev stuck_of : ℕ → Stuck
stuck_of number =
    elim (eqb number 17) [
      | true ↦ no_relation
      | false ↦ elim (eqb number 18) [ true ↦ no_rule | false ↦ elim (eqb number 19) [ true ↦ not_axiom | false ↦ side_by_side ] ]
    ]

number_stuck : (why : Stuck) (place : ℕ) → stuck_of (number_of (refusal_of why place)) ≡ why
number_stuck no_relation place = refl
number_stuck no_rule place = refl
number_stuck not_axiom place = refl
number_stuck side_by_side place = refl

stuck-not-16 : (why : Stuck) (place : ℕ) → number_of (refusal_of why place) ≡ 16 → ⊥
stuck-not-16 no_relation place q = omega arith
stuck-not-16 no_rule place q = omega arith
stuck-not-16 not_axiom place q = omega arith
stuck-not-16 side_by_side place q = omega arith

place-from : (unread : List (Unread Span)) → PlaceOfNext unread (place_of unread)
place-from [] = nothing_unread
place-from (terminal_at b v ∷ unread) = of_terminal
place-from (nonterminal_at k v ∷ unread) = of_nonterminal

place-to : {unread : List (Unread Span)} {place : ℕ} → PlaceOfNext unread place → place_of unread ≡ place
place-to of_terminal = refl
place-to of_nonterminal = refl
place-to nothing_unread = refl

module _ (s : State Span) where
  only_one : (o : OneLive s.chunks) → outcome s ≡ outcome_of o.the_one.chunk.status o.the_one.chunk.unread s.reductions s.moves
  only_one o = rw (live-one o)

  the_same : (o o' : OneLive s.chunks) → o.the_one.chunk ≡ o'.the_one.chunk
  the_same o o' = let p = live-one o in let q = live-one o' in cc

  several-unfinished : SeveralLive s.chunks → Finished s → ⊥
  several-unfinished m f = let p = live-one f.only in let q = live-several m in let z : ◌≡◌ {A = ℕ} 0 1 = cc in omega arith

  none-unfinished : AllGone s.chunks → Finished s → ⊥
  none-unfinished g f = let p = live-one f.only in let q = live-gone g in let z : ◌≡◌ {A = ℕ} 0 1 = cc in omega arith

  moves-unfinished : (o : OneLive s.chunks) → (IsAtRest o.the_one.chunk → ⊥) → Finished s → ⊥
  moves-unfinished o h f = h (rw (the_same f.only o) at f.rests)

  pub outcome-view : OutcomeView s (outcome s)
  outcome-view = counted (how-many s.chunks)
    where
      one : (o : OneLive s.chunks) (status : Status) (unread : List (Unread Span)) → o.the_one.chunk.status ≡ status → o.the_one.chunk.unread ≡ unread
          → OutcomeView s (outcome s)
      one o (stuck why) unread p q =
          stuck_so why (place_of unread) (only_one o ∙ rw (p, q)) (record { only = o; stuck_with = p; place_is = rw q (place-from unread) })
      one o running [] p q =
          reported_so (put_in_order s.reductions) s.moves (only_one o ∙ rw (p, q)) (record { only = o; not_stuck = p; all_read = q; report_is = refl; moves_are = refl })
      one o running (b ∷ unread) p q =
          unfinished_so (only_one o ∙ rw (p, q)) (moves-unfinished o (λ r. let t : at_rest o.the_one.chunk ≡ false = rw (p, q) in true≢false (sym (rests-to r) ∙ t)))

      counted : HowMany s.chunks → OutcomeView s (outcome s)
      counted (none-live g) = unfinished_so (rw (live-gone g)) (none-unfinished g)
      counted (one_live o) = one o o.the_one.chunk.status o.the_one.chunk.unread refl refl
      counted (several_live m) = unfinished_so (rw (live-several m)) (several-unfinished m)

  stuck-finished : {why : Stuck} {place : ℕ} → StuckSo s why place → Finished s
  stuck-finished h = record { only = h.only; rests = rests-from h.only.the_one.chunk (rw h.stuck_with) }

  reported-finished : {report : List (Reduction Span)} {moves : ℕ} → ReportedSo s report moves → Finished s
  reported-finished h = record { only = h.only; rests = rests-from h.only.the_one.chunk (rw (h.not_stuck, h.all_read)) }

  -- 16 is given exactly when the row is not finished
  pub unfinished-exactly : (outcome s ≡ refused_row Unfinished) ↔ (Finished s → ⊥)
  unfinished-exactly = ((λ q. to q outcome-view), λ h. from h outcome-view)
    where
      to : {o : Outcome} → o ≡ refused_row Unfinished → OutcomeView s o → Finished s → ⊥
      to q (unfinished_so e h) = h
      to q (stuck_so why place e h) = let z : refusal_of why place ≡ Unfinished = cc in absurd (stuck-not-16 why place (ap number_of z))
      to q (reported_so report moves e h) = let z : ◌≡◌ {A = ℕ} 0 1 = cc in absurd (omega arith)

      from : {o : Outcome} → (Finished s → ⊥) → OutcomeView s o → o ≡ refused_row Unfinished
      from h (unfinished_so e g) = e
      from h (stuck_so why place e g) = absurd (h (stuck-finished g))
      from h (reported_so report moves e g) = absurd (h (reported-finished g))

  -- .. and, a chunk being live, exactly when the table's sentence holds
  pub unfinished-sentence : NextLive s.chunks → (outcome s ≡ refused_row Unfinished) ↔ StillUnfinished s
  unfinished-sentence n = ((λ q. to (unfinished-exactly.0 q) (how-many s.chunks)), λ h. unfinished-exactly.1 (from h))
    where
      to : (Finished s → ⊥) → HowMany s.chunks → StillUnfinished s
      to h (none-live g) = let p = live-next n in let q = live-gone g in let z : ◌≡◌ {A = ℕ} 0 1 = cc in absurd (omega arith)
      to h (one_live o) = one_not_at_rest o (λ r. h (record { only = o; rests = r }))
      to h (several_live m) = several m

      from : StillUnfinished s → Finished s → ⊥
      from (several m) = several-unfinished m
      from (one_not_at_rest o h) = moves-unfinished o h

  -- 17 to 20 are given exactly when the finished row is stuck so, and the value is the place of its unread symbol (refusal_of no_relation
  -- place is NoRelation place, and so on)
  pub stuck-exactly : (why : Stuck) (place : ℕ) → (outcome s ≡ refused_row (refusal_of why place)) ↔ StuckSo s why place
  stuck-exactly why place = ((λ q. to q outcome-view), λ h. only_one h.only ∙ rw (h.stuck_with, place-to h.place_is))
    where
      to : {o : Outcome} → o ≡ refused_row (refusal_of why place) → OutcomeView s o → StuckSo s why place
      to q (unfinished_so e h) = let z : refusal_of why place ≡ Unfinished = cc in absurd (stuck-not-16 why place (ap number_of z))
      to q (stuck_so why' place' e h) =
          let z : refusal_of why' place' ≡ refusal_of why place = cc in
          let same : why' ≡ why = sym (number_stuck why' place') ∙ ap (λ r. stuck_of (number_of r)) z ∙ number_stuck why place in
          let there : place' ≡ place = sym (value-stuck why' place') ∙ ap value_of z ∙ value-stuck why place in
          rw (same, there) at h
      to q (reported_so report moves e h) = let z : ◌≡◌ {A = ℕ} 0 1 = cc in absurd (omega arith)

  -- a report is given exactly when the one live chunk rests unstuck
  pub report-exactly : (report : List (Reduction Span)) (moves : ℕ) → (outcome s ≡ reported report moves) ↔ ReportedSo s report moves
  report-exactly report moves =
      ((λ q. to q outcome-view), λ h. only_one h.only ∙ rw (h.not_stuck, h.all_read, h.report_is, h.moves_are))
    where
      to : {o : Outcome} → o ≡ reported report moves → OutcomeView s o → ReportedSo s report moves
      to q (unfinished_so e h) = let z : ◌≡◌ {A = ℕ} 0 1 = cc in absurd (omega arith)
      to q (stuck_so why place e h) = let z : ◌≡◌ {A = ℕ} 0 1 = cc in absurd (omega arith)
      to q (reported_so report' moves' e h) =
          let same : report' ≡ report = cc in
          let count : moves' ≡ moves = cc in
          rw (same, count) at h

  -- a row is refused with nothing else
  pub outcome-refuses : (refusal : Refusal) → outcome s ≡ refused_row refusal → (refusal ≡ Unfinished) ⊎ ((why : Stuck) × (place : ℕ) × (refusal ≡ refusal_of why place))
  outcome-refuses refusal q = go q outcome-view
    where
      go : {o : Outcome} → o ≡ refused_row refusal → OutcomeView s o → (refusal ≡ Unfinished) ⊎ ((why : Stuck) × (place : ℕ) × (refusal ≡ refusal_of why place))
      go q (unfinished_so e h) = inl (cc)
      go q (stuck_so why place e h) = inr (why, place, cc)
      go q (reported_so report moves e h) = let z : ◌≡◌ {A = ℕ} 0 1 = cc in absurd (omega arith)
