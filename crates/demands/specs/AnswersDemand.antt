-- Demand 1: of every public call, with any words lent to it, the numbers that it may answer, and what it leaves in the runs lent to it.
-- Document 01: "All return number and value and leave lent memory unchanged, with one exception: once the one-call
-- parse has passed 11 for its work area, the words its formula counts are all zero when it ends, accepted or refused"; "anything beyond is untouched".
-- Rests on PublicCalls and GivenDemand, on start's StartWords and layout's Lengths, and OwnMatrix.
--
-- Main definition: ParseAreaLeft.
-- What is proved of them: proofs' AnswersDemand; here the lemma refused-first, which an edit names, and what it rests on.
use Rattle.std.specs.Prelude.{◌≡◌, ◌⊎◌, ℕ, ◌≤◌, ◌<◌, length, Err}
use Rattle.std.proofs.Math.Path.{ap}
use Rattle.std.proofs.Common.{arith}
use mathlib.Core.List.{List, ◌++◌}
use Rattle.std.proofs.Math.ListN.{drop}
use Rattle.refusals.specs.declared.Refusal.{Refusal}
use Rattle.refusals.specs.Answers.{ReportAnswer}
use Rattle.refusals.specs.Refusals.{answer_number}
use Rattle.layout.specs.Layout.{need, zeros}
use Rattle.parse.specs.ParseCall.{parsed_area, parse_begun, parse_area}
use Rattle.demands.specs.Reached.{at-17-20}
use Rattle.demands.specs.PublicCalls.{parse}
use Rattle.demands.specs.PublicCalls.{number_for}
use Rattle.demands.specs.GivenDemand.{ParseGiven, parse_words, parse_row, parse_stuck, parse_11, parse_0}
use Rattle.demands.specs.GivenDemand.{refused-by-load, refused-by-start}

-- ---- the numbers

-- ---- what a refusal leaves

-- ---- what stands beyond

-- ---- the one-call parse's work area

-- as it was after 1 to 9 and after its own 11; otherwise, accepted or refused, the words of the formula are zeros and those beyond are as they were
pub record ParseAreaLeft (words tokens area out : List ℕ) : Type 0 where
  pub after_1_to_9 : 1 ≤ number_for (parse words tokens area out) → number_for (parse words tokens area out) ≤ 9 → parse_area words tokens area ≡ area
  pub too_short : length area < need (length tokens) 1 → parse_area words tokens area ≡ area
  pub once_used : (number_for (parse words tokens area out) ≡ 0) ⊎ (9 < number_for (parse words tokens area out)) → need (length tokens) 1 ≤ length area
      → parse_area words tokens area ≡ zeros (need (length tokens) 1) ++ drop (need (length tokens) 1) area

module _ (words tokens area out : List ℕ) where
  pub area-stays : {refusal : Refusal} → parse_begun words tokens (length area) ≡ Err refusal → parse_area words tokens area ≡ area
  unfolding parse_area
  area-stays e = ap (λ a. parsed_area a (length tokens) area) e

  pub refused-first : {answer : ReportAnswer} → ParseGiven words tokens (length area) (length out) answer → 1 ≤ answer_number answer → answer_number answer ≤ 9
      → parse_area words tokens area ≡ area
  refused-first (parse_words e) low high = area-stays (refused-by-load words tokens (length area) e)
  refused-first (parse_row e f) low high = area-stays (refused-by-start words tokens (length area) e f)
  refused-first (parse_stuck b reader why place h) low high = absurd (omega (arith, (at-17-20 why place).0))
  refused-first (parse_11 b reader entries moves h l) low high = absurd (omega arith)
  refused-first (parse_0 b reader entries moves h l) low high = absurd (omega arith)
