-- The two ways of `report`: 15 where a shape rule is broken, and otherwise the outcome read off the words.
-- Main statements: refused-state, ready, reported-state.
use Rattle.std.specs.Prelude.{Err}
use Rattle.std.proofs.Common.{◌≡◌, sym, ◌∙◌, Bool, true, false, List, ℕ, ◌<◌, length, get_or}
use Rattle.refusals.specs.declared.Refusal.TheVariants.{BadState}
use Rattle.refusals.specs.Answers.{ReportAnswer}
use Rattle.area.specs.Shape.{in_shape}
use Rattle.shape.specs.InShape.{in-shape-holds}
use Rattle.report.specs.ReportCall.{report_outcome, report_answer, report_out, report-broken, report-in-shape}
use Rattle.outcomes.specs.OutcomeWords.{words_outcome, Reportable, outcome-words, reportable}
use Rattle.outcomes.specs.OutcomeTests.{Answered, refuses}

module _ (words matrix area : List ℕ) where
  abbrev InShape : Bool → Type 0
  InShape b = b ≡ in_shape words matrix area

  -- the report's answer and run
  abbrev Reported : List ℕ → ReportAnswer → List ℕ → Type 0
  Reported out answer last = (answer ≡ report_answer words matrix area (length out)) × (last ≡ report_out words matrix area out)

  pub refused-state : {b : Bool} (out : List ℕ) → InShape b → b ≡ false → Reported out (Err BadState) out
  unfolding report_answer report_out
  refused-state out i e = refuses out (report-broken words matrix area (sym i ∙ e))

  module _ (low : get_or area 2 0 < 65536) {b : Bool} (i : InShape b) (e : b ≡ true) where
    pub ready : Reportable area
    ready = reportable area (in-shape-holds words matrix area low (sym i ∙ e))

    read_off : words_outcome area ≡ report_outcome words matrix area
    read_off = sym (report-in-shape words matrix area (sym i ∙ e) ∙ outcome-words area (in-shape-holds words matrix area low (sym i ∙ e)))

    pub reported-state : (out : List ℕ) {answer : ReportAnswer} {last : List ℕ} → Answered (words_outcome area) out answer last → Reported out answer last
    unfolding report_answer report_out
    reported-state out {answer} {last} a = rw read_off at a
