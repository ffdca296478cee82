-- Demand 3, (d): where the report does not answer 16, its number, value, entries and written words are those of the one-call parse of the
-- same tokens, whatever the cuts and the order of calls; only the count of moves may differ, and it is that of the calls.
-- Document 01: "The front-to-back parse is C = 1, also offered as one call"; "a report writes just these reductions, put in order, and
-- gives this count"; "this is the front-to-back order".
-- The report run is any: where it is too short, both answer 11 with the same value. The parse's area needs need(n, 1) words.
-- Rests on Reached and ParseDemand, on start's StartKept, and on results' Confluent.
--
-- Main statements: same-but-moves, same-report; report-counts.
use Rattle.std.specs.Prelude.{◌≡◌, refl, Bool, true, false, List, ℕ, ◌*◌, ◌≤◌, ltb, length, get_or, Ok, Err}
use Rattle.std.proofs.Math.Path.{sym, ap}
use Rattle.std.proofs.Common.{◌∙◌, arith}
use Rattle.laws.specs.Tests.{le-unless}
use Rattle.refusals.specs.declared.Refusal.TheVariants.{NoRoom}
use Rattle.refusals.specs.Refusals.{answer_number, report_value, report_moves}
use Rattle.language.specs.Words.{count_t, too_low, too_high}
use Rattle.language.specs.Trees.{Span, Reduction}
use Rattle.machine.specs.States.{Outcome, refused_row, reported}
use Rattle.machine.specs.Answers.{outcome_answer, outcome_out}
use Rattle.results.specs.Progress.{Answered}
use Rattle.results.specs.Confluent.{without_moves, uncut-outcome}
use Rattle.results.specs.ReadThrough.{read-through-schedule}
use Rattle.machine.proofs.Counts.{moves-since-start}
use Rattle.machine.proofs.GivenExactly.{report-exactly}
use Rattle.layout.specs.Layout.{need}
use Rattle.start.specs.Start.{StartInput, no_tokens, too_many, wrong_token, Startable}
use Rattle.start.specs.StartKept.{no_end}
use Rattle.parse.specs.ParseCall.{parse_outcome, parse_answer, parse_out}
use Rattle.report.specs.ReportCall.{report_outcome, report_answer, report_out}
use Rattle.demands.specs.Calls.{Call, area_after, moves_made, OfLoad, AllOfLoad, Begun}
use Rattle.machine.specs.TableOf.{own_table}
use Rattle.machine.proofs.TableOf.{own-end-mark}
use Rattle.demands.proofs.OwnMatrix.{accepted}
use Rattle.demands.proofs.Standing.{startable}
use Rattle.demands.proofs.Reached.{there, report-there, report-number}
use Rattle.demands.specs.ParseDemand.{RightTokens, parse-answers, parse-writes, parse-reads}
use Rattle.demands.proofs.ParseDemand.{uncut-reader, uncut-finished}

-- the tokens of a row that starts
pub right_tokens : {input : StartInput} → Startable input → RightTokens input.words input.tokens
right_tokens {input} can = record {
  some_token = le-unless 1 (length input.tokens) (λ h. can.some_token 0 (no_tokens (omega arith) refl));
  few_tokens = le-unless (length input.tokens) 16384 (λ h. can.few_tokens 0 (too_many h refl));
  each = λ i l. (
    le-unless 1 (get_or input.tokens i 0) (λ h. can.right_tokens i (wrong_token l (too_low h))),
    le-unless (get_or input.tokens i 0) (count_t input.words) (λ h. can.right_tokens i (wrong_token l (too_high h))),
  );
}

-- two outcomes that differ in the count alone answer alike
record Alike (o o' : Outcome) (out : List ℕ) : Type 0 where
  number : answer_number (outcome_answer o (length out)) ≡ answer_number (outcome_answer o' (length out))
  value : report_value (outcome_answer o (length out)) ≡ report_value (outcome_answer o' (length out))
  written : outcome_out o out ≡ outcome_out o' out

alike : (o o' : Outcome) (out : List ℕ) → without_moves o ≡ without_moves o' → Alike o o' out
alike (refused_row r) (refused_row r') out e = let z : r ≡ r' = cc in rw z (record { number = refl; value = refl; written = refl })
alike (refused_row r) (reported l m) out e = let z : ◌≡◌ {A = ℕ} 0 1 = cc in absurd (omega arith)
alike (reported l m) (refused_row r) out e = let z : ◌≡◌ {A = ℕ} 0 1 = cc in absurd (omega arith)
alike (reported l m) (reported l' m') out e = let z : l ≡ l' = cc in rw z (go (ltb (length out) (3 * length l')) refl)
  where
    go : (b : Bool) → ltb (length out) (3 * length l') ≡ b → Alike (reported l' m) (reported l' m') out
    go true q = record { number = rw (q, outcome_answer); value = rw (q, outcome_answer); written = refl }
    go false q = record { number = rw (q, outcome_answer); value = rw (q, outcome_answer); written = refl }

-- a report's count is the outcome's
counts : (o : Outcome) (room : ℕ) {entries count : ℕ} → outcome_answer o room ≡ Ok (record { entries = entries; moves = count }) → (l : List (Reduction Span)) × (o ≡ reported l count)
counts (refused_row r) room e = let z : ◌≡◌ {A = ℕ} 0 1 = cc in absurd (omega arith)
counts (reported l m) room {entries} {count} e = go (ltb room (3 * length l)) refl
  where
    go : (b : Bool) → ltb room (3 * length l) ≡ b → (l' : List (Reduction Span)) × (reported l m ≡ reported l' count)
    go true q =
        let f : outcome_answer (reported l m) room ≡ Err (NoRoom (3 * length l)) = rw (q, outcome_answer) in
        let z : ◌≡◌ {A = ℕ} 0 1 = cc in
        absurd (omega arith)
    go false q =
        let f : outcome_answer (reported l m) room ≡ Ok (record { entries = length l; moves = m }) = rw (q, outcome_answer) in
        let z : m ≡ count = ap report_moves (sym f ∙ e) in
        (l, ap (λ k. reported l k) z)

module _ {words bytes tokens cuts area₀ : List ℕ} (begun : Begun words bytes tokens cuts area₀) {calls : List Call} (own : AllOfLoad words bytes calls) (matrix : List ℕ) (of_load : OfLoad words bytes matrix) where
  abbrev area : List ℕ
  area = area_after words area₀ calls

  right : RightTokens words tokens
  right = right_tokens (startable begun)

  -- the row has an answer where its report is not 16
  pub answered : (room : ℕ) → (answer_number (report_answer words matrix area room) ≡ 16 → ⊥) → Answered (there begun own).state
  answered room h q = h (report-number begun own matrix of_load room ∙ ap (λ o. answer_number (outcome_answer o room)) q)

  -- the outcome is that of the one-call parse, its count aside
  pub same-but-moves : (room : ℕ) → (answer_number (report_answer words matrix area room) ≡ 16 → ⊥)
      → without_moves (report_outcome words matrix area) ≡ without_moves (parse_outcome words tokens)
  same-but-moves room h =
      let a = accepted words bytes begun.loads in
      let reader = uncut-reader a right in
      ap without_moves (report-there begun own matrix of_load)
      ∙ uncut-outcome (own_table words) (own-end-mark a) tokens cuts (no_end (startable begun)) (there begun own).turns (answered room h)
      (read-through-schedule (own_table words) reader.reading) (uncut-finished a right reader)
      ∙ ap without_moves (sym (parse-reads a right reader))

  -- number, value (for a report, its entries) and written words are the parse's
  pub same-report : (out : List ℕ) → (answer_number (report_answer words matrix area (length out)) ≡ 16 → ⊥) → (room : ℕ) → need (length tokens) 1 ≤ room
      → (answer_number (report_answer words matrix area (length out)) ≡ answer_number (parse_answer words tokens room (length out)))
      × (report_value (report_answer words matrix area (length out)) ≡ report_value (parse_answer words tokens room (length out)))
      × (report_out words matrix area out ≡ parse_out words tokens room out)
  unfolding report_answer report_out
  same-report out h room enough =
      let a = accepted words bytes begun.loads in
      let same = alike (report_outcome words matrix area) (parse_outcome words tokens) out (same-but-moves (length out) h) in (
        same.number ∙ ap answer_number (sym (parse-answers a right room enough (length out))),
        same.value ∙ ap report_value (sym (parse-answers a right room enough (length out))),
        same.written ∙ sym (parse-writes a right room enough out),
      )

  -- a report's own count is the number of moves that the calls' answers tell of
  pub report-counts : (room : ℕ) {entries count : ℕ} → report_answer words matrix area room ≡ Ok (record { entries = entries; moves = count }) → count ≡ moves_made words area₀ calls
  unfolding report_answer
  report-counts room {entries} {count} e =
      let c = counts (report_outcome words matrix area) room e in
      let r = (report-exactly (there begun own).state c.0 count).0 (sym (report-there begun own matrix of_load) ∙ c.1) in
      r.moves_are ∙ moves-since-start (own_table words) tokens cuts (there begun own).turns
