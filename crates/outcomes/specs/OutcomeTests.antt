-- The outcome of a row by the tests of its area's words in their order, and the answer and the run then: what `report` and `parse` find.
-- Document 01, "The report"; "Report checks 15, 16, 17 to 20, 11".
-- Rests on OutcomeWords and EntryWords, and on machine's Answers.
--
-- Main definition: Answered.
-- Main statements: several, is_stuck, still-moves, at_rest (the outcome, test by test); refuses, passed_on, no_room, room (the answer, and the run).
use Rattle.std.specs.Prelude.{◌≡◌, refl, Bool, List, ◌++◌, ℕ, ◌+◌, ◌*◌, ◌-◌, ◌≤◌, ◌<◌, get_or, drop, Ok, Err}
use Rattle.std.proofs.Common.{sym, ap, ◌∙◌, arith}
use Rattle.std.proofs.Math.Bool.{true, false}
use Rattle.std.proofs.Math.Dec.{ltb}
use Rattle.std.proofs.Math.ListN.{length}
use Rattle.laws.specs.Tests.{lt-ltb, le-ltb, le-leb, lt-leb}
use Rattle.refusals.specs.declared.Refusal.{Refusal}
use Rattle.refusals.specs.declared.Refusal.TheVariants.{Unfinished, NoRoom}
use Rattle.refusals.specs.Answers.{ReportAnswer}
use Rattle.refusals.specs.Refusals.{stuck_refusal}
use Rattle.language.specs.Trees.{Span, Reduction}
use Rattle.language.specs.Reports.{put_in_order, report_words}
use Rattle.machine.specs.States.{Outcome, refused_row}
use Rattle.machine.specs.Answers.{outcome_answer, outcome_out}
use Rattle.layout.specs.Layout.{made_at_word, read_made}
use Rattle.outcomes.specs.EntryWords.{entries-length, sorted-length}
use Rattle.outcomes.specs.OutcomeWords.{none_live, words_report, words_outcome}

-- ---- the outcome, by the tests in the order of the code

module _ (area : List ℕ) where
  abbrev made : List (Reduction Span)
  made = read_made (get_or area 4 0) area (made_at_word area)

  abbrev moves : ℕ
  moves = get_or area 2 0 + 65536 * get_or area 3 0

  abbrev Alone : Bool → Type 0
  Alone b = b ≡ none_live (get_or area 1 0 - 1) area 10

  pub several : {b : Bool} → Alone b → b ≡ false → words_outcome area ≡ refused_row Unfinished
  unfolding words_outcome
  several a e = rw (sym a ∙ e)

  module _ {b : Bool} (a : Alone b) (e : b ≡ true) where
    alone : none_live (get_or area 1 0 - 1) area 10 ≡ true
    alone = sym a ∙ e

    pub is_stuck : {refusal : Refusal} → 17 ≤ get_or area 5 0 → refusal ≡ stuck_refusal (get_or area 5 0) (get_or area 7 0 - 1) → words_outcome area ≡ refused_row refusal
    unfolding words_outcome
    is_stuck h q = rw (alone, le-leb 17 (get_or area 5 0) h) (ap refused_row (sym q))

    pub still-moves : get_or area 5 0 < 17 → get_or area 7 0 < get_or area 8 0 → words_outcome area ≡ refused_row Unfinished
    unfolding words_outcome
    still-moves h k = rw (alone, lt-leb 17 (get_or area 5 0) h, lt-ltb (get_or area 7 0) (get_or area 8 0) k)

    pub at_rest : get_or area 5 0 < 17 → get_or area 8 0 ≤ get_or area 7 0 → words_outcome area ≡ words_report area
    unfolding words_outcome
    at_rest h k = rw (alone, lt-leb 17 (get_or area 5 0) h, le-ltb (get_or area 7 0) (get_or area 8 0) k)

-- ---- the answer, and the run then

abbrev pub Answered : Outcome → List ℕ → ReportAnswer → List ℕ → Type 0
Answered o out answer last = (answer ≡ outcome_answer o (length out)) × (last ≡ outcome_out o out)

pub refuses : {o : Outcome} {refusal : Refusal} (out : List ℕ) → o ≡ refused_row refusal → Answered o out (Err refusal) out
refuses out e = rw e (refl, refl)

pub passed_on : {o p : Outcome} {answer : ReportAnswer} {last : List ℕ} (out : List ℕ) → o ≡ p → Answered p out answer last → Answered o out answer last
passed_on out e a = rw e a

module _ (area out : List ℕ) {o : Outcome} (e : o ≡ words_report area) where
  count_is : length (put_in_order (made area)) ≡ get_or area 4 0
  count_is = sorted-length (made area) ∙ entries-length (get_or area 4 0) area (made_at_word area)

  pub no_room : length out < 3 * get_or area 4 0 → Answered o out (Err (NoRoom (3 * get_or area 4 0))) out
  unfolding words_report
  no_room h =
      let t : ltb (length out) (3 * length (put_in_order (made area))) ≡ true = lt-ltb (length out) (3 * length (put_in_order (made area))) (omega (arith, count_is)) in
      rw (e, t, outcome_answer, outcome_out, count_is) (refl, refl)

  pub room : {last : List ℕ} {count : ℕ} → 3 * get_or area 4 0 ≤ length out → count ≡ moves area
      → last ≡ report_words (put_in_order (made area)) ++ drop (3 * get_or area 4 0) out → Answered o out (Ok (record { entries = get_or area 4 0; moves = count })) last
  unfolding words_report
  room h m l =
      let t : ltb (length out) (3 * length (put_in_order (made area))) ≡ false = le-ltb (length out) (3 * length (put_in_order (made area))) (omega (arith, count_is)) in
      rw (e, t, outcome_answer, outcome_out, count_is, m, l) (refl, refl)
