-- The report call, and the tokens of one report entry.
-- Document 01: "the report 15, 16, 17 to 20, 11"; "a report writes just these reductions, put in order, and gives this count, and parses
-- nothing anew"; "A viewer may ask for the tokens of one report entry: the answer is that part of the caller's own token run. If the
-- entry isn't wholly in the report run, its second word exceeds its third, or its third exceeds the token count, the answer is the
-- part of no tokens at place 0."
-- Rests on layout's Layout and area's Shape, and on machine's States and Answers.
--
-- Main definitions: report_outcome, report_answer, report_out; second_word, third_word, entry_stands, entry_start, entry_end, entry_tokens, word_address.
-- Main statements: report-broken, report-in-shape (the two ways of report_outcome).
use Rattle.std.specs.Prelude.{◌≡◌, Bool, true, false, ◌&&◌, List, [], ℕ, ◌+◌, ◌*◌, leb, length, get_or}
use Rattle.std.proofs.Math.Seq.{slice}
use Rattle.refusals.specs.declared.Refusal.TheVariants.{BadState}
use Rattle.refusals.specs.Answers.{ReportAnswer}
use Rattle.machine.specs.States.{Outcome, refused_row, outcome}
use Rattle.machine.specs.Answers.{outcome_answer, outcome_out}
use Rattle.layout.specs.Layout.{decode}
use Rattle.area.specs.Shape.{in_shape}

-- ---- report

-- 15, or what the state that the words stand for gives
unfoldable pub report_outcome : List ℕ → List ℕ → List ℕ → Outcome
report_outcome words matrix area = elim (in_shape words matrix area) [ false ↦ refused_row BadState | true ↦ outcome (decode area) ]

unfoldable pub report_answer : List ℕ → List ℕ → List ℕ → ℕ → ReportAnswer
report_answer words matrix area room = outcome_answer (report_outcome words matrix area) room

unfoldable pub report_out : List ℕ → List ℕ → List ℕ → List ℕ → List ℕ
report_out words matrix area out = outcome_out (report_outcome words matrix area) out

module _ (words matrix area : List ℕ) where
  pub report-broken : in_shape words matrix area ≡ false → report_outcome words matrix area ≡ refused_row BadState
  unfolding report_outcome
  report-broken e = rw (e, report_outcome)

  pub report-in-shape : in_shape words matrix area ≡ true → report_outcome words matrix area ≡ outcome (decode area)
  unfolding report_outcome
  report-in-shape e = rw (e, report_outcome)

-- ---- the tokens of an entry

abbrev pub second_word : List ℕ → ℕ → ℕ
second_word report e = get_or report (3 * e + 1) 0

abbrev pub third_word : List ℕ → ℕ → ℕ
third_word report e = get_or report (3 * e + 2) 0

-- entry e is wholly in the report run, its second word is at most its third, and its third at most the token count
abbrev pub entry_stands : List ℕ → ℕ → ℕ → Bool
entry_stands report e count =
    leb (3 * e + 3) (length report) && (leb (second_word report e) (third_word report e) && leb (third_word report e) count)

-- where the part starts in the token run
unfoldable pub entry_start : List ℕ → ℕ → ℕ → ℕ
entry_start report e count = elim (entry_stands report e count) [ true ↦ second_word report e | false ↦ 0 ]

-- where it ends there
unfoldable pub entry_end : List ℕ → ℕ → ℕ → ℕ
entry_end report e count = elim (entry_stands report e count) [ true ↦ third_word report e | false ↦ 0 ]

-- the part's tokens
unfoldable pub entry_tokens : List ℕ → ℕ → List ℕ → List ℕ
entry_tokens report e tokens =
    elim (entry_stands report e (length tokens)) [ true ↦ slice (second_word report e) (third_word report e) tokens | false ↦ [] ]

-- the address of word i of a run of 16-bit words: an address is a block, and a byte of it
abbrev pub word_address : ℕ × ℕ → ℕ → ℕ × ℕ
word_address run i = (run.0, run.1 + 2 * i)
