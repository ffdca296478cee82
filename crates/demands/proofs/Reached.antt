-- What is proved of specs' Reached. Demand 3, (a) and (c): in any order of calls after one accepted load and one accepted start none answers 15, a
-- refused one changes nothing, and the moves that the answers tell of are the count in the area, at most nC + n + 4C - 2.
--
-- Main statements: each_right, never-15, refused-changes-nothing, report-never-15, moves-counted, moves-few; in-shape-there, low-there.
use Rattle.std.specs.Prelude.{◌≡◌, refl, Bool, true, false, ◌⊎◌, List, ℕ, suc, ◌+◌, ◌*◌, ◌%◌, ◌≤◌, ◌<◌, ltb, length, get_or}
use Rattle.std.proofs.Common.{sym, ◌∙◌, inl, inr, arith}
use Rattle.std.proofs.Math.Path.{ap}
use Rattle.refusals.specs.declared.Refusal.{Refusal}
use Rattle.refusals.specs.declared.Refusal.TheVariants.{Unfinished}
use Rattle.refusals.specs.Refusals.{number_of, answer_number}
use Rattle.language.specs.Trees.{Span, Reduction}
use Rattle.machine.specs.Moves.{Stuck}
use Rattle.machine.specs.States.{State, Outcome, refused_row, reported, refusal_of, outcome}
use Rattle.machine.specs.Answers.{outcome_answer}
use Rattle.results.specs.Bounded.{most_moves, bounded}
use Rattle.machine.proofs.Counts.{moves-since-start}
use Rattle.machine.proofs.GivenExactly.{outcome-refuses}
use Rattle.layout.specs.Layout.{moves_in}
use Rattle.shape.specs.Encoded.{moves-at, low-moves-at}
use Rattle.area.specs.Shape.{in_shape}
use Rattle.start.specs.StartKept.{no_end}
use Rattle.report.specs.ReportCall.{report_outcome, report_answer}
use Rattle.demands.specs.Calls.{Call, matrix_for, call_number, call_made, call_area, area_after, moves_made, OfLoad, AllOfLoad, no_call, and_call, Begun}
use Rattle.machine.specs.TableOf.{own_table}
use Rattle.machine.proofs.TableOf.{own-end-mark}
use Rattle.demands.proofs.OwnMatrix.{accepted, shape_is}
use Rattle.moving.specs.OnWords.{stands}
use Rattle.demands.proofs.OnWords.{report_is}
use Rattle.demands.specs.Standing.{Standing, CallView, refused_so, moved_so}
use Rattle.demands.proofs.Standing.{startable, standing-begun, standing-safe, standing-view, standing-call, standing-after}
use Rattle.demands.specs.Reached.{EachRight, OutcomeNumber, and_right, at-17-20, no_more, number_0, number_11, number_16, number_stuck}

pub outcome-number : (s : State Span) (room : ℕ) → OutcomeNumber (outcome s) room
outcome-number s room = go (outcome s) refl
  where
    written : (entries : List (Reduction Span)) (moves : ℕ) (b : Bool) → ltb room (3 * length entries) ≡ b → OutcomeNumber (reported entries moves) room
    written entries moves true q = number_11 (rw (q, outcome_answer))
    written entries moves false q = number_0 (rw (q, outcome_answer))

    of : (refusal : Refusal) → (refusal ≡ Unfinished) ⊎ ((why : Stuck) × (place : ℕ) × (refusal ≡ refusal_of why place))
        → OutcomeNumber (refused_row refusal) room
    of refusal (inl e) = number_16 (ap refused_row e) (ap number_of e)
    of refusal (inr (why, place, e)) =
        let n = at-17-20 why place in
        let z : number_of refusal ≡ number_of (refusal_of why place) = ap number_of e in
        number_stuck (omega arith) (omega arith)

    go : (o : Outcome) → outcome s ≡ o → OutcomeNumber o room
    go (refused_row refusal) q = of refusal (outcome-refuses s refusal q)
    go (reported entries moves) q = written entries moves (ltb room (3 * length entries)) refl

viewed-never-15 : {words : List ℕ} {n : ℕ} {s : State Span} {rest area : List ℕ} {call : Call} → CallView words n s rest area call
    → call_number words area call ≡ 15 → ⊥
viewed-never-15 (refused_so low high none_made same) e = omega arith
viewed-never-15 (moved_so s' zero_is is turns) e = omega arith

viewed-stays : {words : List ℕ} {n : ℕ} {s : State Span} {rest area : List ℕ} {call : Call} → CallView words n s rest area call
    → (call_number words area call ≡ 0 → ⊥) → (call_area words area call ≡ area) × (call_made words area call ≡ 0)
viewed-stays (refused_so low high none_made same) h = (same, none_made)
viewed-stays (moved_so s' zero_is is turns) h = absurd (h zero_is)

module _ {words bytes tokens cuts area₀ : List ℕ} (begun : Begun words bytes tokens cuts area₀) where
  right-from : {area : List ℕ} {made : ℕ} → Standing words tokens cuts area made → {calls : List Call} → AllOfLoad words bytes calls
      → EachRight words area calls
  right-from h no_call = no_more
  right-from {area} h (and_call {call = call} of_load all) =
      let view = standing-view begun h call of_load in
      and_right (viewed-never-15 view) (λ n. (viewed-stays view n).0) (right-from {area = call_area words area call} (standing-call begun h call of_load) all)

  -- (a) none answers 15, and a refused one changes nothing: of each call of a list
  pub each_right : {calls : List Call} → AllOfLoad words bytes calls → EachRight words area₀ calls
  each_right all = right-from (standing-begun begun) all

module _ {words bytes tokens cuts area₀ : List ℕ} (begun : Begun words bytes tokens cuts area₀) {calls : List Call} (own : AllOfLoad words bytes calls) where
  abbrev area : List ℕ
  area = area_after words area₀ calls

  abbrev pub there : Standing words tokens cuts area (moves_made words area₀ calls)
  there = standing-after begun own

  -- .. and of the next call after it
  pub never-15 : (call : Call) → OfLoad words bytes (matrix_for call) → call_number words area call ≡ 15 → ⊥
  never-15 call of_load = viewed-never-15 (standing-view begun there call of_load)

  pub refused-changes-nothing : (call : Call) → OfLoad words bytes (matrix_for call) → (call_number words area call ≡ 0 → ⊥)
      → (call_area words area call ≡ area) × (call_made words area call ≡ 0)
  refused-changes-nothing call of_load = viewed-stays (standing-view begun there call of_load)

  module _ (matrix : List ℕ) (of_load : OfLoad words bytes matrix) where
    -- what the report is made of: the state's outcome
    pub report-there : report_outcome words matrix area ≡ outcome there.state
    report-there =
        ap (λ a. report_outcome words matrix a) there.area_is
        ∙ report_is words matrix (shape_is words bytes begun.loads matrix of_load) (standing-safe begun there) there.rest

    -- the area keeps the shape rules
    pub in-shape-there : in_shape words matrix area ≡ true
    in-shape-there =
        ap (λ a. in_shape words matrix a) there.area_is
        ∙ stands words matrix (shape_is words bytes begun.loads matrix of_load) (standing-safe begun there) there.rest

    pub report-number : (room : ℕ) → answer_number (report_answer words matrix area room) ≡ answer_number (outcome_answer (outcome there.state) room)
    unfolding report_answer
    report-number room = ap (λ o. answer_number (outcome_answer o room)) report-there

    -- .. nor does a report answer 15
    pub report-never-15 : (room : ℕ) → answer_number (report_answer words matrix area room) ≡ 15 → ⊥
    report-never-15 room e = go (outcome-number there.state room) (sym (report-number room) ∙ e)
      where
        go : {o : Outcome} → OutcomeNumber o room → answer_number (outcome_answer o room) ≡ 15 → ⊥
        go (number_16 q e) h = omega arith
        go (number_stuck a b) h = omega arith
        go (number_11 e) h = omega arith
        go (number_0 e) h = omega arith

  -- (c) steps accepted + answers of runs + joins accepted = the area's count
  pub moves-counted : moves_in area ≡ moves_made words area₀ calls
  moves-counted =
      ap moves_in there.area_is ∙ moves-at (length tokens) there.state there.rest
      ∙ moves-since-start (own_table words) tokens cuts there.turns

  -- .. at most nC + n + 4C - 2, C a chunk more than cuts
  pub moves-few : moves_made words area₀ calls ≤ most_moves (length tokens) (length cuts + 1)
  moves-few =
      let b = bounded (own-end-mark (accepted words bytes begun.loads)) tokens cuts (no_end (startable begun)) there.turns in
      let z : suc (length cuts) ≡ length cuts + 1 = omega arith in
      rw z at b

  -- its word 2 is one of 16 bits
  pub low-there : get_or area 2 0 < 65536
  low-there =
      let e : get_or area 2 0 ≡ there.state.moves % 65536 = ap (λ a. get_or a 2 0) there.area_is ∙ low-moves-at (length tokens) there.state there.rest in
      omega arith
