-- When exactly the one-call parse gives 11, for its work area and for its report.
-- Document 01: "The one-call parse checks 1 to 9 by number, then 11 for the work area, then 17 to 20, then 11 for the report"; 11 NO ROOM "the
-- run to be written is too short", "words or bytes needed".
-- Rests on ParseCall and ParseLaws, on start's Start, StartKept and matrix's EndMarkOfShape, machine's Answers and results' UncutRow, and language's Loads.
--
-- Main definitions: Checked (1 to 9 pass), ParseNoRoom. Main statements: parse-area-given, parse-begins, parse-room-given.
use Rattle.std.specs.Prelude.{◌≡◌, ◌↔◌, List, [], ℕ, ◌≤◌, ◌<◌, length, Ok, Err}
use Rattle.std.proofs.Math.Path.{refl, ap}
use Rattle.std.proofs.Common.{sym, ◌∙◌, true≢false, arith}
use Rattle.laws.specs.Least.{Nowhere}
use Rattle.laws.specs.Tests.{le-unless}
use Rattle.refusals.specs.declared.Refusal.{Refusal}
use Rattle.refusals.specs.declared.Refusal.TheVariants.{NoRoom}
use Rattle.refusals.specs.Answers.{Answer, ReportAnswer}
use Rattle.refusals.specs.Refusals.{number_of}
use Rattle.language.specs.Words.{grammar_of}
use Rattle.language.specs.Matrix.{matrix_of}
use Rattle.language.specs.Loads.{Accepted, load_answer}
use Rattle.language.proofs.Loads.{load-room-given, accepted-exactly}
use Rattle.machine.specs.States.{Outcome, refused_row}
use Rattle.machine.specs.Answers.{NoRoomForReport}
use Rattle.machine.proofs.Answers.{outcome-room-given}
use Rattle.machine.proofs.TableOf.{own-end-mark, own-laws}
use Rattle.results.specs.UncutRow.{Verdict, accepted, refused, first-refusal-number, run-verdict}
use Rattle.layout.specs.Layout.{need}
use Rattle.matrix.specs.EndMarkOfShape.{own-shape}
use Rattle.start.specs.StartKept.{no_end}
use Rattle.start.specs.Start.{StartInput, GrammarBroken, grammar_broken, NoTokens, TooMany, WrongToken, WrongCut, too_many_cuts, cut_above, cut_below}
use Rattle.start.specs.Start.{NoRoomForRow, no_room, start_answer, Startable, start-room-given, starts-exactly}
use Rattle.parse.specs.ParseCall.{parse_outcome, then_start, parse_begun, parsed_answer, parse_answer}
use Rattle.parse.specs.ParseLaws.{budget, outcome-run}

-- what parse lends to start: the matrix of an accepted load, and no cuts
abbrev pub lent : List ℕ → List ℕ → ℕ → StartInput
lent words tokens room = record { words = words; matrix = matrix_of (grammar_of words); tokens = tokens; cuts = []; room = room }

-- 1 to 9 pass: the words are accepted (1 to 6), there are tokens, at most 16,384 of them, each in 1..T
pub record Checked (words tokens : List ℕ) (room : ℕ) : Type 0 where
  pub loads : Accepted words
  pub some_token : Nowhere (NoTokens (lent words tokens room))
  pub few_tokens : Nowhere (TooMany (lent words tokens room))
  pub right_tokens : Nowhere (WrongToken (lent words tokens room))

-- 11: 1 to 9 pass and the area is shorter than its formula; or it is not, and there is a report for which the run is too short
pub data ParseNoRoom (words tokens : List ℕ) (room report_room v : ℕ) : Type 0 where
  for_area : Checked words tokens room → room < need (length tokens) 1 → v ≡ need (length tokens) 1 → ParseNoRoom words tokens room report_room v
  for_report : Checked words tokens room → need (length tokens) 1 ≤ room → NoRoomForReport (parse_outcome words tokens) report_room v
      → ParseNoRoom words tokens room report_room v

module _ (words tokens : List ℕ) (room : ℕ) where
  module _ (a : Accepted words) where
    not-broken : Nowhere (GrammarBroken (lent words tokens room))
    not-broken v (grammar_broken f q) = true≢false (sym (own-shape a) ∙ f)

    loaded : load_answer words 4096 ≡ Ok tt
    loaded = (accepted-exactly words 4096).1 (a, omega arith)

    begins : parse_begun words tokens room ≡ start_answer words (matrix_of (grammar_of words)) tokens [] room
    unfolding parse_begun
    begins = ap (λ r. then_start r words tokens room) loaded

  no-cuts : Nowhere (WrongCut (lent words tokens room))
  no-cuts v (too_many_cuts h) = omega arith
  no-cuts v (cut_above f h q) = omega arith
  no-cuts v (cut_below f h q) = omega arith

  -- a row that parse begins
  data Begins : Answer → Type 0 where
    load_refuses : {refusal : Refusal} → load_answer words 4096 ≡ Err refusal → Begins (Err refusal)
    start_answers : {answer : Answer} → Accepted words → start_answer words (matrix_of (grammar_of words)) tokens [] room ≡ answer → Begins answer

  begun-by : Begins (parse_begun words tokens room)
  unfolding parse_begun
  begun-by = go (load_answer words 4096) refl
    where
      go : (r : Answer) → load_answer words 4096 ≡ r → Begins (then_start r words tokens room)
      go (Ok _) e = start_answers ((accepted-exactly words 4096).0 e).0 refl
      go (Err refusal) e = load_refuses e

  -- 11 is given for the work area, with the words that it needs, exactly when 1 to 9 pass and it has fewer
  pub parse-area-given : (v : ℕ) → (parse_begun words tokens room ≡ Err (NoRoom v))
      ↔ (Checked words tokens room × (room < need (length tokens) 1) × (v ≡ need (length tokens) 1))
  parse-area-given v = ((λ e. out begun-by e), (λ l. back l.0 l.1 l.2))
    where
      out : {r : Answer} → Begins r → r ≡ Err (NoRoom v) → Checked words tokens room × (room < need (length tokens) 1) × (v ≡ need (length tokens) 1)
      out (load_refuses q) e = let z = ((load-room-given words 4096 v).0 (q ∙ e)).1 in absurd (omega arith)
      out (start_answers a q) e =
          let s = (start-room-given words (matrix_of (grammar_of words)) tokens [] room v).0 (q ∙ e) in
          (record { loads = a; some_token = s.1; few_tokens = s.2; right_tokens = s.3 }, s.5, s.6)

      back : Checked words tokens room → room < need (length tokens) 1 → v ≡ need (length tokens) 1 → parse_begun words tokens room ≡ Err (NoRoom v)
      back k h q =
          begins k.loads ∙ (start-room-given words (matrix_of (grammar_of words)) tokens [] room v).1
          (not-broken k.loads, k.some_token, k.few_tokens, k.right_tokens, no-cuts, h, q)

  -- the row is read exactly when load accepts the words and start the row
  pub parse-begins : (parse_begun words tokens room ≡ Ok tt) ↔ (Accepted words × Startable (lent words tokens room))
  parse-begins = ((λ e. out begun-by e), (λ l. begins l.0 ∙ (starts-exactly words (matrix_of (grammar_of words)) tokens [] room).1 l.1))
    where
      out : {r : Answer} → Begins r → r ≡ Ok tt → Accepted words × Startable (lent words tokens room)
      out (load_refuses q) e = let z : ◌≡◌ {A = ℕ} 0 1 = cc in absurd (omega arith)
      out (start_answers a q) e = (a, (starts-exactly words (matrix_of (grammar_of words)) tokens [] room).0 (q ∙ e))

  pub checked-starts : Checked words tokens room → need (length tokens) 1 ≤ room → Startable (lent words tokens room)
  checked-starts k h = record {
    in-shape = not-broken k.loads;
    some_token = k.some_token;
    few_tokens = k.few_tokens;
    right_tokens = k.right_tokens;
    right_cuts = no-cuts;
    room_enough = enough;
  }
    where
      enough : Nowhere (NoRoomForRow (lent words tokens room))
      enough v (no_room l q) = omega arith

  starts-checked : Accepted words → Startable (lent words tokens room) → Checked words tokens room
  starts-checked a s = record { loads = a; some_token = s.some_token; few_tokens = s.few_tokens; right_tokens = s.right_tokens }

  starts-enough : Startable (lent words tokens room) → need (length tokens) 1 ≤ room
  starts-enough s = le-unless (need (length tokens) 1) room (λ h. s.room_enough (need (length tokens) 1) (no_room h refl))

  -- the outcome of a row that is read is never 11
  outcome-never : Accepted words → Startable (lent words tokens room) → (v : ℕ) → parse_outcome words tokens ≡ refused_row (NoRoom v) → ⊥
  outcome-never a can v e =
      let r = run-verdict (own-laws a) (own-end-mark a) (λ i vs. refl) tokens (no_end can) (budget words a tokens can) (omega arith) in
      go r.3 (outcome-run words a tokens can r.2 ∙ e)
    where
      go : {n : ℕ} {o : Outcome} → Verdict (grammar_of words) tokens n o → o ≡ refused_row (NoRoom v) → ⊥
      go (accepted t) q = let z : ◌≡◌ {A = ℕ} 0 1 = cc in omega arith
      go (refused {why = why} never first) q = let z : why ≡ NoRoom v = cc in omega (arith, (first-refusal-number first).0, ap number_of z)

  -- 11 is given, for the area or for the report, exactly so
  pub parse-room-given : (report_room v : ℕ)
      → (parse_answer words tokens room report_room ≡ Err (NoRoom v)) ↔ ParseNoRoom words tokens room report_room v
  unfolding parse_answer
  parse-room-given report_room v = ((λ e. out (parse_begun words tokens room) refl e), back)
    where
      same : {refusal : Refusal} → ◌≡◌ {A = ReportAnswer} (Err refusal) (Err (NoRoom v)) → ◌≡◌ {A = Answer} (Err refusal) (Err (NoRoom v))
      same e = cc

      out : (r : Answer) → parse_begun words tokens room ≡ r → parsed_answer r (parse_outcome words tokens) report_room ≡ Err (NoRoom v)
          → ParseNoRoom words tokens room report_room v
      out (Ok _) q e =
          let p = parse-begins.0 q in
          for_report (starts-checked p.0 p.1) (starts-enough p.1)
          ((outcome-room-given (parse_outcome words tokens) (outcome-never p.0 p.1) report_room v).0 e)
      out (Err refusal) q e = let p = (parse-area-given v).0 (q ∙ same e) in for_area p.0 p.1 p.2

      back : ParseNoRoom words tokens room report_room v
          → parsed_answer (parse_begun words tokens room) (parse_outcome words tokens) report_room ≡ Err (NoRoom v)
      back (for_area k h q) = ap (λ r. parsed_answer r (parse_outcome words tokens) report_room) ((parse-area-given v).1 (k, h, q))
      back (for_report k h n) =
          let s = checked-starts k h in
          ap (λ r. parsed_answer r (parse_outcome words tokens) report_room) (parse-begins.1 (k.loads, s))
          ∙ (outcome-room-given (parse_outcome words tokens) (outcome-never k.loads s) report_room v).1 n
