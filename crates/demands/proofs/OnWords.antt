-- The report on the words of a state is the outcome of that state.
-- Document 01, "The report": "a report writes just these reductions, put in order, and gives this count, and parses nothing anew". The state is any
-- that keeps the rules of docs/AREA.md, with any words and matrix that do.
-- Rests on moving's OnWords, which says the same of step, run and join, and on report's ReportCall.
--
-- Main statement: report_is.
use Rattle.std.specs.Prelude.{◌≡◌, true, List, ◌++◌, ℕ}
use Rattle.std.proofs.Common.{ap, ◌∙◌}
use Rattle.language.specs.Trees.{Span}
use Rattle.machine.specs.States.{State, outcome}
use Rattle.layout.specs.Layout.{encode}
use Rattle.matrix.specs.GrammarShape.{grammar_in_shape}
use Rattle.shape.specs.Safe.{Safe}
use Rattle.moving.specs.OnWords.{stands, reads}
use Rattle.report.specs.ReportCall.{report_outcome, report-in-shape}

module _ (words matrix : List ℕ) (grammar : grammar_in_shape words matrix ≡ true) {n : ℕ} {s : State Span} (safe : Safe words n s) (rest : List ℕ) where
  pub report_is : report_outcome words matrix (encode n s ++ rest) ≡ outcome s
  report_is = report-in-shape words matrix (encode n s ++ rest) (stands words matrix grammar safe rest) ∙ ap outcome (reads words matrix grammar safe rest)
