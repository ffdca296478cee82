-- What is proved of specs' GivenDemand. *Given exactly*, of the public calls: each answer is given exactly when the table's sentence for it holds, every check before it passed.
--
-- Main statement: given-for.
use Rattle.std.specs.Prelude.{◌≡◌, Bool, ◌↔◌, ℕ, ◌*◌, ◌≤◌, ◌<◌, Ok, Err}
use Rattle.std.proofs.Math.Path.{refl, ap}
use Rattle.std.proofs.Common.{◌∙◌}
use Rattle.std.proofs.Math.Bool.{true, false}
use mathlib.Core.List.{List, []}
use Rattle.std.proofs.Math.Dec.{ltb}
use Rattle.std.proofs.Math.ListN.{length}
use Rattle.laws.specs.Tests.{ltb-true, ltb-false, lt-ltb, le-ltb}
use Rattle.refusals.specs.declared.Refusal.{Refusal}
use Rattle.refusals.specs.declared.Refusal.TheVariants.{NoRoom, Unfinished}
use Rattle.refusals.specs.Answers.{Answer, SetAnswer, RunAnswer, ReportAnswer}
use Rattle.language.specs.Grammar.{Grammar, mirrored}
use Rattle.language.specs.Words.{grammar_of}
use Rattle.language.specs.Stages.{ready, finding, Given}
use Rattle.language.proofs.Stages.{given-exactly}
use Rattle.language.proofs.CheckHead.{head-finds}
use Rattle.language.proofs.CheckContents.{contents-finds}
use Rattle.language.proofs.CheckSymbols.{symbols-find}
use Rattle.language.proofs.CheckForm.{form-finds}
use Rattle.language.proofs.CheckTwins.{twins-find}
use Rattle.language.specs.Checks.{symbol_conditions, word_conditions, check_symbols, check_words}
use Rattle.language.proofs.Checks.{words-ready}
use Rattle.language.proofs.Conflicts.{conflict-finds}
use Rattle.language.proofs.WordsInRange.{in_range}
use Rattle.language.specs.Matrix.{matrix_of}
use Rattle.language.specs.Loads.{load_conditions, load_answer}
use Rattle.language.proofs.Loads.{room-finds, accepted-exactly}
use Rattle.language.specs.Loads.{set_conditions, set_checked, set_or_refusal, left_set_answer, right_set_answer}
use Rattle.language.proofs.Loads.{nonterminal-finds}
use Rattle.language.specs.Trees.{Span, Reduction}
use Rattle.machine.specs.States.{State, Called, Ran, Outcome, refused_row, reported, refusal_of, outcome}
use Rattle.machine.specs.States
use Rattle.machine.specs.TableOf.{table_of}
use Rattle.machine.specs.AllowedExactly.{StepView, no_such_chunk, was_at_rest, steps_so}
use Rattle.machine.proofs.AllowedExactly.{step-view, step-exactly}
use Rattle.machine.specs.AllowedExactly.{JoinView, no_left, no_right, left_moves, right_moves, joins_so}
use Rattle.machine.proofs.AllowedExactly.{join-view, join-exactly}
use Rattle.machine.specs.GivenExactly.{no_live_right, left_not_at_rest, right_not_at_rest}
use Rattle.machine.proofs.GivenExactly.{step-no-chunk, step-at-rest}
use Rattle.machine.specs.GivenExactly.{RunView, run_no_chunk_so, run_at_rest_so, runs_so}
use Rattle.machine.proofs.GivenExactly.{run-view, run-no-chunk, run-at-rest, join-no-chunk, no-join-exactly}
use Rattle.machine.specs.GivenExactly.{ReportedSo}
use Rattle.machine.specs.GivenExactly.{OutcomeView, unfinished_so, stuck_so, reported_so}
use Rattle.machine.proofs.GivenExactly.{outcome-view, unfinished-exactly, stuck-exactly, report-exactly}
use Rattle.machine.proofs.Counts.{run-exactly}
use Rattle.machine.specs.Answers.{outcome_answer}
use Rattle.layout.specs.Layout.{decode}
use Rattle.area.specs.Shape.{in_shape}
use Rattle.start.specs.Start.{start_conditions, start_answer, start-ready, starts-exactly}
use Rattle.moving.specs.Calls.{called_answer, ran_answer, step_call, step_answer, run_call, run_answer, join_call, join_answer}
use Rattle.moving.specs.ReadCall.{read_answer}
use Rattle.parse.specs.ParseCall.{then_start, parsed_answer, parse_outcome, parse_begun, parse_answer}
use Rattle.report.specs.ReportCall.{report_outcome, report_answer, report-broken, report-in-shape}
use Rattle.moving.specs.OnWords.{step-broken, step-in-shape, run-broken, run-in-shape, join-broken, join-in-shape}
use Rattle.demands.specs.PublicCalls.{PublicCall, number-of, value-of, stuck-refusal, check-symbols, check-words, body-of, load, left-set, right-set}
use Rattle.demands.specs.PublicCalls.{all-are, grammar-in-shape, in-shape, start, step, run, join, read-through, report, parse, entry-range, entry-tokens}
use Rattle.demands.proofs.SameReport.{right_tokens}
use Rattle.demands.specs.ParseDemand.{UncutReader, parse-reads}
use Rattle.demands.proofs.ParseDemand.{uncut-reader, uncut-finished}
use Rattle.demands.specs.GivenDemand.{Begins, GivenFor, JoinGiven, ParseGiven, ReportGiven, RunGiven, SetGiven, StepGiven, join_0, join_12, join_14, join_15}
use Rattle.demands.specs.GivenDemand.{lent_to_load, lent_to_set, lent_to_start, parse_0, parse_11, parse_row, parse_stuck, parse_words, refused-by-load, refused-by-start, report_0, report_11}
use Rattle.demands.specs.GivenDemand.{report_15, report_16, report_stuck, run_0, run_12, run_13, run_15, set_0, set_refused, step_0, step_12, step_13}
use Rattle.demands.specs.GivenDemand.{step_15}

-- ---- lists of conditions

symbols-given : (words : List ℕ) (answer : Answer) → (check_symbols words ≡ answer) ↔ Given words symbol_conditions answer
unfolding check_symbols
symbols-given words answer =
    given-exactly words (finding (head-finds words) (λ h. finding (contents-finds words) (λ c. finding (symbols-find words) (λ s. ready)))) answer

words-given : (words : List ℕ) (answer : Answer) → (check_words words ≡ answer) ↔ Given words word_conditions answer
unfolding check_words
words-given words answer = given-exactly words (words-ready words) answer

pub load_given : (words : List ℕ) (room : ℕ) (answer : Answer) → (load_answer words room ≡ answer) ↔ Given (lent_to_load words room) load_conditions answer
unfolding load_answer
load_given words room answer =
    given-exactly (lent_to_load words room)
    (finding (head-finds words) (λ h. finding (contents-finds words) (λ c. finding (symbols-find words)
    (λ s. finding (form-finds (grammar_of words)) (λ f. finding (twins-find (grammar_of words))
    (λ t. finding (conflict-finds (in_range words h s)) (λ n. finding (room-finds (lent_to_load words room)) (λ m. ready)))))))) answer

checked-given : (words : List ℕ) (k : ℕ) (answer : Answer) → (set_checked words k ≡ answer) ↔ Given (lent_to_set words k) set_conditions answer
unfolding set_checked
checked-given words k answer =
    given-exactly (lent_to_set words k)
    (finding (head-finds words) (λ h. finding (contents-finds words) (λ c. finding (symbols-find words)
    (λ s. finding (form-finds (grammar_of words)) (λ f. finding (twins-find (grammar_of words))
    (λ t. finding (nonterminal-finds (lent_to_set words k)) (λ n. ready))))))) answer

module _ (words : List ℕ) (k : ℕ) (g : Grammar) where
  set_found : SetGiven words k g (set_or_refusal (set_checked words k) g k)
  set_found = go (set_checked words k) refl
    where
      go : (a : Answer) → set_checked words k ≡ a → SetGiven words k g (set_or_refusal a g k)
      go (Ok _) e = set_0 ((checked-given words k (Ok tt)).0 e)
      go (Err refusal) e = set_refused ((checked-given words k (Err refusal)).0 e)

  set_so : {answer : SetAnswer} → SetGiven words k g answer → set_or_refusal (set_checked words k) g k ≡ answer
  set_so (set_0 h) = ap (λ a. set_or_refusal a g k) ((checked-given words k (Ok tt)).1 h)
  set_so (set_refused {refusal = refusal} h) = ap (λ a. set_or_refusal a g k) ((checked-given words k (Err refusal)).1 h)

  set_given : (answer : SetAnswer) → (set_or_refusal (set_checked words k) g k ≡ answer) ↔ SetGiven words k g answer
  set_given answer = (λ e. rw e at set_found, set_so)

left-given : (words : List ℕ) (k : ℕ) (answer : SetAnswer) → (left_set_answer words k ≡ answer) ↔ SetGiven words k (grammar_of words) answer
unfolding left_set_answer
left-given words k answer = set_given words k (grammar_of words) answer

right-given : (words : List ℕ) (k : ℕ) (answer : SetAnswer) → (right_set_answer words k ≡ answer) ↔ SetGiven words k (mirrored (grammar_of words)) answer
unfolding right_set_answer
right-given words k answer = set_given words k (mirrored (grammar_of words)) answer

pub start-given : (words matrix tokens cuts : List ℕ) (room : ℕ) (answer : Answer)
    → (start_answer words matrix tokens cuts room ≡ answer) ↔ Given (lent_to_start words matrix tokens cuts room) start_conditions answer
unfolding start_answer
start-given words matrix tokens cuts room answer =
    given-exactly (lent_to_start words matrix tokens cuts room) (start-ready (lent_to_start words matrix tokens cuts room)) answer

-- a row read through answers as a start with no cuts does
pub read-given : (words matrix tokens : List ℕ) (room : ℕ) (answer : Answer)
    → (read_answer words matrix tokens room ≡ answer) ↔ Given (lent_to_start words matrix tokens [] room) start_conditions answer
unfolding read_answer
read-given words matrix tokens room answer = start-given words matrix tokens [] room answer

-- ---- calls on an area

module _ (words matrix area : List ℕ) where
  -- in shape, a call is the machine's
  module _ (c : ℕ) where
    step-found : StepGiven words matrix area c (step_answer words matrix area c)
    unfolding step_answer
    step-found = go (in_shape words matrix area) refl
      where
        of : in_shape words matrix area ≡ true → {x : Called Span} → StepView (table_of words matrix) c (decode area) x → StepGiven words matrix area c (called_answer x)
        of e (no_such_chunk h) = step_12 e h
        of e (was_at_rest l r) = step_13 e (record { live = l; rests = r })
        of e (steps_so m) = step_0 e m

        go : (b : Bool) → in_shape words matrix area ≡ b → StepGiven words matrix area c (called_answer (step_call words matrix area c))
        go false e = rw (step-broken words matrix area c e) (step_15 e)
        go true e = rw (step-in-shape words matrix area c e) (of e (step-view (table_of words matrix) c (decode area)))

    step_so : {answer : Answer} → StepGiven words matrix area c answer → step_answer words matrix area c ≡ answer
    unfolding step_answer
    step_so (step_15 e) = ap called_answer (step-broken words matrix area c e)
    step_so (step_12 e h) = ap called_answer (step-in-shape words matrix area c e ∙ (step-no-chunk (table_of words matrix) c (decode area)).1 h)
    step_so (step_13 e h) = ap called_answer (step-in-shape words matrix area c e ∙ (step-at-rest (table_of words matrix) c (decode area)).1 h)
    step_so (step_0 e {s' = s'} m) = ap called_answer (step-in-shape words matrix area c e ∙ (step-exactly (table_of words matrix) c (decode area) s').0 m)

    step_given : (answer : Answer) → (step_answer words matrix area c ≡ answer) ↔ StepGiven words matrix area c answer
    step_given answer = (λ e. rw e at step-found, step_so)

    join-found : JoinGiven words matrix area c (join_answer words matrix area c)
    unfolding join_answer
    join-found = go (in_shape words matrix area) refl
      where
        of : in_shape words matrix area ≡ true → {x : Called Span} → JoinView c (decode area) x → JoinGiven words matrix area c (called_answer x)
        of e (no_left h) = join_12 e h
        of e (no_right l g) = join_14 e (no_live_right l g)
        of e (left_moves l r) = join_14 e (left_not_at_rest l r)
        of e (right_moves l n r) = join_14 e (right_not_at_rest l n r)
        of e (joins_so m) = join_0 e m

        go : (b : Bool) → in_shape words matrix area ≡ b → JoinGiven words matrix area c (called_answer (join_call words matrix area c))
        go false e = rw (join-broken words matrix area c e) (join_15 e)
        go true e = rw (join-in-shape words matrix area c e) (of e (join-view c (decode area)))

    join-so : {answer : Answer} → JoinGiven words matrix area c answer → join_answer words matrix area c ≡ answer
    unfolding join_answer
    join-so (join_15 e) = ap called_answer (join-broken words matrix area c e)
    join-so (join_12 e h) = ap called_answer (join-in-shape words matrix area c e ∙ (join-no-chunk c (decode area)).1 h)
    join-so (join_14 e h) = ap called_answer (join-in-shape words matrix area c e ∙ (no-join-exactly c (decode area)).1 h)
    join-so (join_0 e {s' = s'} m) = ap called_answer (join-in-shape words matrix area c e ∙ (join-exactly c (decode area) s').0 m)

    join-given : (answer : Answer) → (join_answer words matrix area c ≡ answer) ↔ JoinGiven words matrix area c answer
    join-given answer = (λ e. rw e at join-found, join-so)

  module _ (c budget : ℕ) where
    run-found : RunGiven words matrix area c budget (run_answer words matrix area c budget)
    unfolding run_answer
    run-found = go (in_shape words matrix area) refl
      where
        of : in_shape words matrix area ≡ true → {x : Ran Span} → States.run (table_of words matrix) c budget (decode area) ≡ x
            → RunView (table_of words matrix) c budget (decode area) x → RunGiven words matrix area c budget (ran_answer x)
        of e q (run_no_chunk_so h) = run_12 e h
        of e q (run_at_rest_so h) = run_13 e h
        of e q (runs_so {j = j} {s' = s'} l h m) = run_0 e ((run-exactly (table_of words matrix) c budget (decode area) j s').0 q)

        go : (b : Bool) → in_shape words matrix area ≡ b → RunGiven words matrix area c budget (ran_answer (run_call words matrix area c budget))
        go false e = rw (run-broken words matrix area c budget e) (run_15 e)
        go true e = rw (run-in-shape words matrix area c budget e) (of e refl (run-view (table_of words matrix) c budget (decode area)))

    run-so : {answer : RunAnswer} → RunGiven words matrix area c budget answer → run_answer words matrix area c budget ≡ answer
    unfolding run_answer
    run-so (run_15 e) = ap ran_answer (run-broken words matrix area c budget e)
    run-so (run_12 e h) = ap ran_answer (run-in-shape words matrix area c budget e ∙ (run-no-chunk (table_of words matrix) c budget (decode area)).1 h)
    run-so (run_13 e h) = ap ran_answer (run-in-shape words matrix area c budget e ∙ (run-at-rest (table_of words matrix) c budget (decode area)).1 h)
    run-so (run_0 e {j = j} {s' = s'} m) = ap ran_answer (run-in-shape words matrix area c budget e ∙ (run-exactly (table_of words matrix) c budget (decode area) j s').1 m)

    run-given : (answer : RunAnswer) → (run_answer words matrix area c budget ≡ answer) ↔ RunGiven words matrix area c budget answer
    run-given answer = (λ e. rw e at run-found, run-so)

-- a report with room for it, and without
with-room : (entries : List (Reduction Span)) (moves room : ℕ) → 3 * length entries ≤ room
    → outcome_answer (reported entries moves) room ≡ Ok (record { entries = length entries; moves = moves })
with-room entries moves room h = rw (le-ltb room (3 * length entries) h, outcome_answer)

without-room : (entries : List (Reduction Span)) (moves room : ℕ) → room < 3 * length entries
    → outcome_answer (reported entries moves) room ≡ Err (NoRoom (3 * length entries))
without-room entries moves room h = rw (lt-ltb room (3 * length entries) h, outcome_answer)

module _ (words matrix area : List ℕ) (room : ℕ) where
  report-found : ReportGiven words matrix area room (report_answer words matrix area room)
  unfolding report_answer
  report-found = go (in_shape words matrix area) refl
    where
      written : in_shape words matrix area ≡ true → (entries : List (Reduction Span)) (moves : ℕ) → ReportedSo (decode area) entries moves
          → (b : Bool) → ltb room (3 * length entries) ≡ b → ReportGiven words matrix area room (outcome_answer (reported entries moves) room)
      written e entries moves h true q = let l = ltb-true room (3 * length entries) q in rw (without-room entries moves room l) (report_11 e entries moves h l)
      written e entries moves h false q = let l = ltb-false room (3 * length entries) q in rw (with-room entries moves room l) (report_0 e entries moves h l)

      of : in_shape words matrix area ≡ true → {o : Outcome} → OutcomeView (decode area) o → ReportGiven words matrix area room (outcome_answer o room)
      of e (unfinished_so q h) = rw q (report_16 e h)
      of e (stuck_so why place q h) = rw q (report_stuck e why place h)
      of e (reported_so entries moves q h) = rw q (written e entries moves h (ltb room (3 * length entries)) refl)

      go : (b : Bool) → in_shape words matrix area ≡ b → ReportGiven words matrix area room (outcome_answer (report_outcome words matrix area) room)
      go false e = rw (report-broken words matrix area e) (report_15 e)
      go true e = rw (report-in-shape words matrix area e) (of e (outcome-view (decode area)))

  report-so : {answer : ReportAnswer} → ReportGiven words matrix area room answer → report_answer words matrix area room ≡ answer
  unfolding report_answer
  report-so (report_15 e) = ap (λ o. outcome_answer o room) (report-broken words matrix area e)
  report-so (report_16 e h) = ap (λ o. outcome_answer o room) (report-in-shape words matrix area e ∙ (unfinished-exactly (decode area)).1 h)
  report-so (report_stuck e why place h) = ap (λ o. outcome_answer o room) (report-in-shape words matrix area e ∙ (stuck-exactly (decode area) why place).1 h)
  report-so (report_11 e entries moves h l) =
      ap (λ o. outcome_answer o room) (report-in-shape words matrix area e ∙ (report-exactly (decode area) entries moves).1 h) ∙ without-room entries moves room l
  report-so (report_0 e entries moves h l) =
      ap (λ o. outcome_answer o room) (report-in-shape words matrix area e ∙ (report-exactly (decode area) entries moves).1 h) ∙ with-room entries moves room l

  report-given : (answer : ReportAnswer) → (report_answer words matrix area room ≡ answer) ↔ ReportGiven words matrix area room answer
  report-given answer = (λ e. rw e at report-found, report-so)

-- ---- the one-call parse

module _ (words tokens : List ℕ) (room : ℕ) where
  pub parse-begins : Begins words tokens room → parse_begun words tokens room ≡ Ok tt
  unfolding parse_begun
  parse-begins b = ap (λ a. then_start a words tokens room) b.loads ∙ b.starts

  parse-reader : Begins words tokens room → UncutReader words tokens
  parse-reader b =
      uncut-reader ((accepted-exactly words 4096).0 b.loads).0
      (right_tokens ((starts-exactly words (matrix_of (grammar_of words)) tokens [] room).0 b.starts))

  parse-last : Begins words tokens room → (reader : UncutReader words tokens) → parse_outcome words tokens ≡ outcome reader.last
  parse-last b reader =
      parse-reads ((accepted-exactly words 4096).0 b.loads).0
      (right_tokens ((starts-exactly words (matrix_of (grammar_of words)) tokens [] room).0 b.starts)) reader

  parse-rests : Begins words tokens room → (reader : UncutReader words tokens) → outcome reader.last ≡ refused_row Unfinished → ⊥
  parse-rests b reader =
      uncut-finished ((accepted-exactly words 4096).0 b.loads).0
      (right_tokens ((starts-exactly words (matrix_of (grammar_of words)) tokens [] room).0 b.starts)) reader

  module _ (out_room : ℕ) where
    parse-ends : Begins words tokens room → parse_answer words tokens room out_room ≡ outcome_answer (parse_outcome words tokens) out_room
    unfolding parse_answer
    parse-ends b = ap (λ a. parsed_answer a (parse_outcome words tokens) out_room) (parse-begins b)

    pub parse-refused : {refusal : Refusal} → parse_begun words tokens room ≡ Err refusal → parse_answer words tokens room out_room ≡ Err refusal
    unfolding parse_answer
    parse-refused e = ap (λ a. parsed_answer a (parse_outcome words tokens) out_room) e

    parse-found : ParseGiven words tokens room out_room (parse_answer words tokens room out_room)
    parse-found = by-load (load_answer words 4096) refl
      where
        written : Begins words tokens room → (reader : UncutReader words tokens) (entries : List (Reduction Span)) (moves : ℕ)
            → ReportedSo reader.last entries moves → (b : Bool) → ltb out_room (3 * length entries) ≡ b
            → ParseGiven words tokens room out_room (outcome_answer (reported entries moves) out_room)
        written b reader entries moves h true q =
            let l = ltb-true out_room (3 * length entries) q in rw (without-room entries moves out_room l) (parse_11 b reader entries moves h l)
        written b reader entries moves h false q =
            let l = ltb-false out_room (3 * length entries) q in rw (with-room entries moves out_room l) (parse_0 b reader entries moves h l)

        of : Begins words tokens room → (reader : UncutReader words tokens) → {o : Outcome} → (o ≡ refused_row Unfinished → ⊥) → OutcomeView reader.last o
            → ParseGiven words tokens room out_room (outcome_answer o out_room)
        of b reader never (unfinished_so q h) = absurd (never q)
        of b reader never (stuck_so why place q h) = rw q (parse_stuck b reader why place h)
        of b reader never (reported_so entries moves q h) = rw q (written b reader entries moves h (ltb out_room (3 * length entries)) refl)

        by_start : load_answer words 4096 ≡ Ok tt → (a : Answer) → start_answer words (matrix_of (grammar_of words)) tokens [] room ≡ a
            → ParseGiven words tokens room out_room (parse_answer words tokens room out_room)
        by_start e (Err refusal) f = rw (parse-refused (refused-by-start words tokens room e f)) (parse_row e f)
        by_start e (Ok _) f =
            let b : Begins words tokens room = record { loads = e; starts = f } in
            let reader = parse-reader b in
            rw (parse-ends b, parse-last b reader) (of b reader (parse-rests b reader) (outcome-view reader.last))

        by-load : (a : Answer) → load_answer words 4096 ≡ a → ParseGiven words tokens room out_room (parse_answer words tokens room out_room)
        by-load (Err refusal) e = rw (parse-refused (refused-by-load words tokens room e)) (parse_words e)
        by-load (Ok _) e = by_start e (start_answer words (matrix_of (grammar_of words)) tokens [] room) refl

    parse-so : {answer : ReportAnswer} → ParseGiven words tokens room out_room answer → parse_answer words tokens room out_room ≡ answer
    parse-so (parse_words e) = parse-refused (refused-by-load words tokens room e)
    parse-so (parse_row e f) = parse-refused (refused-by-start words tokens room e f)
    parse-so (parse_stuck b reader why place h) =
        parse-ends b ∙ ap (λ o. outcome_answer o out_room) (parse-last b reader ∙ (stuck-exactly reader.last why place).1 h)
    parse-so (parse_11 b reader entries moves h l) =
        parse-ends b ∙ ap (λ o. outcome_answer o out_room) (parse-last b reader ∙ (report-exactly reader.last entries moves).1 h)
        ∙ without-room entries moves out_room l
    parse-so (parse_0 b reader entries moves h l) =
        parse-ends b ∙ ap (λ o. outcome_answer o out_room) (parse-last b reader ∙ (report-exactly reader.last entries moves).1 h)
        ∙ with-room entries moves out_room l

    parse-given : (answer : ReportAnswer) → (parse_answer words tokens room out_room ≡ answer) ↔ ParseGiven words tokens room out_room answer
    parse-given answer = (λ e. rw e at parse-found, parse-so)

-- ---- any call

pub given-for : (call : PublicCall) → GivenFor call
given-for (number-of refusal) = tt
given-for (value-of refusal) = tt
given-for (stuck-refusal status place) = tt
given-for (check-symbols words) = symbols-given words
given-for (check-words words) = words-given words
given-for (body-of words r) = tt
given-for (load words bytes) = load_given words (length bytes)
given-for (left-set words k) = left-given words k
given-for (right-set words k) = right-given words k
given-for (all-are equal elements wanted) = tt
given-for (grammar-in-shape words matrix) = tt
given-for (in-shape words matrix area) = tt
given-for (start words matrix tokens cuts area) = start-given words matrix tokens cuts (length area)
given-for (step words matrix area c) = step_given words matrix area c
given-for (run words matrix area c budget) = run-given words matrix area c budget
given-for (join words matrix area c) = join-given words matrix area c
given-for (read-through words matrix tokens area) = read-given words matrix tokens (length area)
given-for (report words matrix area out) = report-given words matrix area (length out)
given-for (parse words tokens area out) = parse-given words tokens (length area) (length out)
given-for (entry-range entries e count) = tt
given-for (entry-tokens entries e tokens place) = tt
