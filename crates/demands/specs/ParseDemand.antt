-- Demand 2 on the one-call parse: for words that load accepts and runs long enough it accepts exactly when an axiom derives the tokens;
-- its report is the post-order of their one tree; otherwise it answers the number and place at which the uncut reader gets stuck.
-- Document 01: "The front-to-back parse is C = 1, also offered as one call"; "The one-call parse checks 1 to 9 by number, then 11 for the work
-- area, then 17 to 20, then 11 for the report"; "A stuck place is that of the unread b"; "Each report also gives the moves since start".
-- Long enough: need(n, 1) words for the area, and three words for each of n reductions, of which a row of n tokens never makes more.
-- Rests on OwnMatrix, on parse's ParseCall and ParseGiven, start's Start and shape's Safe, and machine's GivenExactly and results' UncutRow.
--
-- Main definitions: RightTokens, UncutReader, entries_of, ParseReports, GotStuck.
-- What is proved of them: proofs' ParseDemand; here the lemma written, which an edit names, and what it rests on.
use Rattle.std.specs.Prelude.{◌≡◌, false, ℕ, ◌*◌, ◌≤◌, ◌<◌, ltb, length, get_or, drop, Ok}
use Rattle.std.proofs.Common.{sym, ◌∙◌, arith}
use Rattle.std.proofs.Math.Path.{ap}
use mathlib.Core.List.{List, [], ◌++◌}
use Rattle.laws.specs.Tests.{le-ltb}
use Rattle.laws.specs.Sorting.{perm-length, sort-perm}
use Rattle.refusals.specs.declared.Refusal.{Refusal}
use Rattle.refusals.specs.Refusals.{number_of}
use Rattle.language.specs.Grammar.{Grammar}
use Rattle.language.specs.Words.{count_t, too_low, too_high, grammar_of}
use Rattle.language.specs.Matrix.{matrix_of}
use Rattle.language.specs.Loads.{Accepted, load_answer}
use Rattle.language.proofs.Loads.{accepted-exactly}
use Rattle.language.specs.Trees.{Span, Reduction, post_order, forest_of}
use Rattle.language.specs.Reports.{stands_before, report_words}
use Rattle.machine.specs.Moves.{Stuck}
use Rattle.machine.specs.States.{State, start, reported, refusal_of, outcome}
use Rattle.machine.specs.Starts.{NoEnd}
use Rattle.results.specs.Bounded.{most_moves}
use Rattle.machine.specs.Answers.{outcome_answer, outcome_out}
use Rattle.results.specs.ReadThrough.{ReadThrough, read-through-schedule, run-reads-through}
use Rattle.results.specs.UncutRow.{AxiomTree}
use Rattle.machine.specs.GivenExactly.{StuckSo}
use Rattle.machine.proofs.GivenExactly.{report-exactly}
use Rattle.layout.specs.Layout.{need}
use Rattle.layout.specs.Lengths.{few-reductions}
use Rattle.start.specs.Start.{StartInput, NoTokens, no_tokens, TooMany, too_many, WrongToken, wrong_token, Startable, starts-exactly}
use Rattle.start.specs.StartKept.{no_end}
use Rattle.shape.specs.Safe.{Safe, safe-start, safe-scheduled}
use Rattle.parse.specs.ParseCall.{ran_outcome, then_start, parsed_answer, parsed_out, parse_outcome, parse_begun, parse_answer, parse_out}
use Rattle.parse.specs.ParseGiven.{lent, checked-starts}
use Rattle.machine.specs.TableOf.{own_table}
use Rattle.matrix.specs.EndMarkOfShape.{own-shape}
use Rattle.machine.proofs.TableOf.{own-end-mark}

-- 1 to 16,384 tokens in 1..T
pub record RightTokens (words tokens : List ℕ) : Type 0 where
  pub some_token : 1 ≤ length tokens
  pub few_tokens : length tokens ≤ 16384
  pub each : (i : ℕ) → i < length tokens → (1 ≤ get_or tokens i 0) × (get_or tokens i 0 ≤ count_t words)

-- the uncut reader: chunk 0 makes one move after the other until it rests
pub record UncutReader (words tokens : List ℕ) : Type 0 where
  pub moves : ℕ
  pub last : State Span
  pub reading : ReadThrough (own_table words) (start tokens []) moves last

-- the reductions of a tree, in the order of its post-order
abbrev pub entries_of : {g : Grammar} {tokens : List ℕ} → AxiomTree g tokens → List (Reduction Span)
entries_of t = post_order 0 (forest_of t.of_root.tree)

-- parse answers these entries and so many moves, and writes the entries; what stands beyond stays
abbrev pub ParseReports : List ℕ → List ℕ → ℕ → List ℕ → List (Reduction Span) → ℕ → Type 0
ParseReports words tokens room out entries moves =
    (parse_answer words tokens room (length out) ≡ Ok (record { entries = length entries; moves = moves }))
    × (parse_out words tokens room out ≡ report_words entries ++ drop (3 * length entries) out)

-- it rests stuck so, at this place; 17, 18 or 19
pub record GotStuck (tokens : List ℕ) (last : State Span) (refusal : Refusal) : Type 0 where
  pub why : Stuck
  pub place : ℕ
  pub stuck_so : StuckSo last why place
  pub refusal_is : refusal ≡ refusal_of why place
  pub number_low : 17 ≤ number_of refusal
  pub number_high : number_of refusal ≤ 19
  pub place_within : place ≤ length tokens

module _ {words : List ℕ} (accepted : Accepted words) {tokens : List ℕ} (right : RightTokens words tokens) where
  -- such a row starts uncut
  module _ (room : ℕ) (enough : need (length tokens) 1 ≤ room) where
    abbrev pub input : StartInput
    input = lent words tokens room

    pub fine-some : (v : ℕ) → NoTokens input v → ⊥
    fine-some v (no_tokens e q) = omega (arith, right.some_token)

    pub fine-few : (v : ℕ) → TooMany input v → ⊥
    fine-few v (too_many h q) = omega (arith, right.few_tokens)

    pub fine-tokens : (v : ℕ) → WrongToken input v → ⊥
    fine-tokens v (wrong_token l (too_low h)) = omega (arith, (right.each v l).0)
    fine-tokens v (wrong_token l (too_high h)) = omega (arith, (right.each v l).1)

    pub can-start : Startable input
    can-start = checked-starts words tokens room (record { loads = accepted; some_token = fine-some; few_tokens = fine-few; right_tokens = fine-tokens }) enough

    pub parse-begins : parse_begun words tokens room ≡ Ok tt
    unfolding parse_begun
    parse-begins =
        let loads : load_answer words 4096 ≡ Ok tt = (accepted-exactly words 4096).1 (accepted, omega arith) in
        rw (loads, then_start) ((starts-exactly words (matrix_of (grammar_of words)) tokens [] room).1 can-start)

    pub parse-answers : (out_room : ℕ) → parse_answer words tokens room out_room ≡ outcome_answer (parse_outcome words tokens) out_room
    unfolding parse_answer
    parse-answers out_room = ap (λ a. parsed_answer a (parse_outcome words tokens) out_room) parse-begins

    pub parse-writes : (out : List ℕ) → parse_out words tokens room out ≡ outcome_out (parse_outcome words tokens) out
    unfolding parse_out
    parse-writes out = ap (λ a. parsed_out a (parse_outcome words tokens) out) parse-begins

  abbrev pub startable : Startable (input (need (length tokens) 1) (omega arith))
  startable = can-start (need (length tokens) 1) (omega arith)

  pub tokens-no-end : NoEnd tokens
  tokens-no-end = no_end startable

  module _ (reader : UncutReader words tokens) where
    -- parse makes the moves of the uncut reader
    pub parse-reads : parse_outcome words tokens ≡ outcome reader.last
    unfolding parse_outcome
    parse-reads =
        ap ran_outcome
        (run-reads-through (own_table words) (own-end-mark accepted) tokens tokens-no-end reader.reading (most_moves (length tokens) 1) (omega arith))

    pub uncut-safe : Safe words (length tokens) reader.last
    uncut-safe =
        safe-scheduled words (matrix_of (grammar_of words)) (own-shape accepted) (safe-start startable) (read-through-schedule (own_table words) reader.reading)

    -- a report has at most one entry a token
    pub entries-few : {entries : List (Reduction Span)} {moves : ℕ} → outcome reader.last ≡ reported entries moves → length entries ≤ length tokens
    entries-few {entries} {moves} e =
        let r = (report-exactly reader.last entries moves).0 e in
        let l : length entries ≡ length reader.last.reductions =
        ap length r.report_is ∙ sym (perm-length (sort-perm stands_before reader.last.reductions)) in
        omega (arith, few-reductions uncut-safe)

    -- runs long enough
    module _ (room : ℕ) (enough : need (length tokens) 1 ≤ room) (out : List ℕ) (long : 3 * length tokens ≤ length out) where
      pub written : {entries : List (Reduction Span)} {moves : ℕ} → outcome reader.last ≡ reported entries moves
          → ParseReports words tokens room out entries moves
      written {entries} {moves} e =
          let fits : ltb (length out) (3 * length entries) ≡ false = le-ltb (length out) (3 * length entries) (omega (arith, entries-few e)) in
          let o : parse_outcome words tokens ≡ reported entries moves = parse-reads ∙ e in
          let answer : outcome_answer (reported entries moves) (length out) ≡ Ok (record { entries = length entries; moves = moves }) = rw (fits, outcome_answer) in
          let words_are : outcome_out (reported entries moves) out ≡ report_words entries ++ drop (3 * length entries) out = rw (fits, outcome_out) in (
            parse-answers room enough (length out) ∙ ap (λ x. outcome_answer x (length out)) o ∙ answer,
            parse-writes room enough out ∙ ap (λ x. outcome_out x out) o ∙ words_are,
          )
