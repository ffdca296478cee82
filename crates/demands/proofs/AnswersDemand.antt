-- What is proved of specs' AnswersDemand. Demand 1: of every public call, with any words lent to it, the numbers that it may answer, and what it leaves in the runs lent to it.
--
-- Main statements: number-listed, lent-kept, beyond-kept, parse-area-left.
use Rattle.std.specs.Prelude.{◌≡◌, Bool, ◌⊎◌, ℕ, ◌+◌, ◌*◌, ◌≤◌, ◌<◌, ltb, length, get_or, Ok, Err}
use Rattle.std.proofs.Math.Path.{refl, ap}
use Rattle.std.proofs.Common.{sym, subst, ◌∙◌, true≢false, inl, inr, arith}
use Rattle.std.proofs.Math.Bool.{true, false}
use mathlib.Core.List.{List, [], ◌∷◌, ◌++◌, Memᴰ}
use Rattle.std.proofs.Math.Option.{Option, none, some}
use Rattle.std.proofs.Math.ListN.{drop}
use Rattle.laws.specs.Parts.{drop_past}
use Rattle.refusals.specs.declared.Refusal.{Refusal}
use Rattle.refusals.specs.declared.Refusal.TheVariants.{NoRoom, BadState}
use Rattle.refusals.specs.Answers.{Answer, RunAnswer, ReportAnswer}
use Rattle.refusals.specs.Refusals.{number_of, answer_number}
use Rattle.language.specs.Words.{count_t, count_n, grammar_of}
use Rattle.language.specs.Stages.{Stage, checked, stages_of, Given, passes_all, fails, passes}
use Rattle.language.proofs.Stages.{none_left}
use Rattle.language.specs.Checks.{symbol_conditions, word_conditions, check_symbols, check_words}
use Rattle.language.specs.Matrix.{matrix_of}
use Rattle.language.proofs.Matrix.{matrix-length}
use Rattle.language.specs.Loads.{NoRoomForMatrix, too_short, load_conditions, load_answer, loaded_bytes, load_bytes}
use Rattle.language.proofs.Loads.{accepted-exactly}
use Rattle.language.specs.Loads.{set_conditions, set_checked, set_or_refusal, left_set_answer, right_set_answer}
use Rattle.language.specs.Grammar.{Grammar, mirrored}
use Rattle.language.specs.Reports.{report_words}
use Rattle.language.specs.Trees.{Span}
use Rattle.machine.specs.Moves.{Stuck, no_relation, no_rule, not_axiom, side_by_side}
use Rattle.machine.specs.States
use Rattle.machine.specs.States.{State, Called, refused, became, Ran, refused_run, ran, Outcome, refused_row, reported, refusal_of}
use Rattle.machine.specs.TableOf.{table_of}
use Rattle.machine.specs.Schedules.{Turned, by_step, by_join, Schedule, no_turn, one_turn}
use Rattle.machine.proofs.Counts.{made-scheduled, run-exactly}
use Rattle.machine.specs.Answers.{outcome_answer, outcome_out}
use Rattle.layout.specs.Layout.{need, zeros, encode, decode, need_in}
use Rattle.layout.specs.Lengths.{length-report, encode-length}
use Rattle.matrix.specs.GrammarShape.{grammar_in_shape}
use Rattle.area.specs.Shape.{in_shape}
use Rattle.shape.specs.Encoded.{tokens-at, chunks-at, low-moves-at}
use Rattle.shape.specs.ShapeExactly.{HoldsState}
use Rattle.shape.specs.InShape.{in-shape-parts, in-shape-holds}
use Rattle.shape.specs.RulesAfterTurn.{same_number}
use Rattle.shape.specs.Safe.{Safe, safe-turned, safe-run}
use Rattle.start.specs.Start.{start_conditions, GrammarBroken, grammar_broken, too_many_cuts, cut_above, cut_below, WrongCut, NoRoomForRow, no_room}
use Rattle.start.specs.Start.{start_answer, started_area, start_area, starts-exactly}
use Rattle.start.specs.StartKept.{cuts-good}
use Rattle.start.specs.StartWords.{start-words, start-words-length}
use Rattle.moving.specs.Calls.{with_state, called_answer, called_area, ran_answer, ran_area, step_call, step_answer, step_area, run_call, run_answer, run_area, join_call, join_answer, join_area}
use Rattle.moving.specs.ReadCall.{read_answer, read_from, read_area, read-begins}
use Rattle.parse.specs.ParseCall.{parsed_answer, parsed_area, parsed_out, parse_outcome, parse_begun, parse_answer, parse_area, parse_out}
use Rattle.report.specs.ReportCall.{report_outcome, report_answer, report_out}
use Rattle.matrix.specs.EndMarkOfShape.{own-shape}
use Rattle.moving.specs.OnWords.{step-broken, step-in-shape, run-broken, run-in-shape, join-broken, join-in-shape}
use Rattle.demands.specs.PublicCalls.{PublicCall, number-of, value-of, stuck-refusal, check-symbols, check-words, body-of, load, left-set, right-set, all-are}
use Rattle.demands.specs.PublicCalls.{grammar-in-shape, in-shape, start, step, run, join, read-through, report, parse, entry-range, entry-tokens}
use Rattle.demands.specs.PublicCalls.{number_for, numbers_for, words_of, Written, written}
use Rattle.demands.specs.GivenDemand.{StepGiven, step_15, step_12, step_13, step_0, RunGiven, run_15, run_12, run_13, run_0}
use Rattle.demands.specs.GivenDemand.{JoinGiven, join_15, join_12, join_14, join_0, ReportGiven, report_15, report_16, report_stuck, report_11, report_0}
use Rattle.demands.specs.GivenDemand.{ParseGiven, parse_words, parse_row, parse_stuck, parse_11, parse_0}
use Rattle.demands.specs.GivenDemand.{lent_to_load, lent_to_set, lent_to_start}
use Rattle.demands.proofs.GivenDemand.{load_given, start-given}
use Rattle.demands.specs.GivenDemand.{refused-by-load, refused-by-start}
use Rattle.demands.proofs.GivenDemand.{parse-begins, parse-refused, given-for}
use Rattle.demands.specs.AnswersDemand.{ParseAreaLeft, area-stays, refused-first}

-- ---- the numbers

-- in a list at its front, and further on
here : {n : ℕ} {l : List ℕ} → Memᴰ n (n ∷ l)
here = Memᴰ.head refl

on : {n m : ℕ} {l : List ℕ} → Memᴰ n l → Memᴰ n (m ∷ l)
on m = Memᴰ.tail m

-- stages one after the other, and the number of each
data Numbered {Input : Type 0} : List (Stage Input) → List ℕ → Type 0 where
  no_stage : Numbered [] []
  and_stage : {stage : Stage Input} {stages : List (Stage Input)} {n : ℕ} {numbers : List ℕ} → ((v : ℕ) → number_of (stage.refusal v) ≡ n)
      → Numbered stages numbers → Numbered (stage ∷ stages) (n ∷ numbers)

-- their answer is 0 or one of the numbers
staged : {Input : Type 0} (stages : List (Stage Input)) {numbers : List ℕ} → Numbered stages numbers → (input : Input)
    → Memᴰ (answer_number (checked stages input)) (0 ∷ numbers)
staged [] no_stage input = here
staged (stage ∷ stages) (and_stage {n = n} {numbers = numbers} is rest) input = go (stage.fails_at input) (staged stages rest input)
  where
    later : {m : ℕ} → Memᴰ m (0 ∷ numbers) → Memᴰ m (0 ∷ n ∷ numbers)
    later (Memᴰ.head e) = Memᴰ.head e
    later (Memᴰ.tail m) = on (on m)

    go : (found : Option ℕ) → Memᴰ (answer_number (checked stages input)) (0 ∷ numbers)
        → Memᴰ (answer_number (elim found [ none ↦ checked stages input | some v ↦ Err (stage.refusal v) ])) (0 ∷ n ∷ numbers)
    go none m = later m
    go (some v) m = on (Memᴰ.head (is v))

symbols-listed : (words : List ℕ) → Memᴰ (answer_number (check_symbols words)) (0 ∷ numbers_for (check-symbols words))
unfolding check_symbols
symbols-listed words = staged (stages_of symbol_conditions) (and_stage (λ v. refl) (and_stage (λ v. refl) (and_stage (λ v. refl) no_stage))) words

words-listed : (words : List ℕ) → Memᴰ (answer_number (check_words words)) (0 ∷ numbers_for (check-words words))
unfolding check_words
words-listed words =
    staged (stages_of word_conditions) (and_stage (λ v. refl) (and_stage (λ v. refl) (and_stage (λ v. refl) (and_stage (λ v. refl)
    (and_stage (λ v. refl) no_stage))))) words

load-listed : (words bytes : List ℕ) → Memᴰ (answer_number (load_answer words (length bytes))) (0 ∷ numbers_for (load words bytes))
unfolding load_answer
load-listed words bytes =
    staged (stages_of load_conditions) (and_stage (λ v. refl) (and_stage (λ v. refl) (and_stage (λ v. refl) (and_stage (λ v. refl) (and_stage (λ v. refl)
    (and_stage (λ v. refl) (and_stage (λ v. refl) no_stage))))))) (lent_to_load words (length bytes))

set-listed : (words : List ℕ) (k : ℕ) → Memᴰ (answer_number (set_checked words k)) (0 ∷ numbers_for (left-set words k))
unfolding set_checked
set-listed words k =
    staged (stages_of set_conditions) (and_stage (λ v. refl) (and_stage (λ v. refl) (and_stage (λ v. refl) (and_stage (λ v. refl) (and_stage (λ v. refl)
    (and_stage (λ v. refl) no_stage)))))) (lent_to_set words k)

-- a set's number is that of its checks
set-number : (a : Answer) (g : Grammar) (k : ℕ) → answer_number (set_or_refusal a g k) ≡ answer_number a
set-number (Ok _) g k = refl
set-number (Err refusal) g k = refl

left-listed : (words : List ℕ) (k : ℕ) → Memᴰ (answer_number (left_set_answer words k)) (0 ∷ numbers_for (left-set words k))
unfolding left_set_answer
left-listed words k = rw (set-number (set_checked words k) (grammar_of words) k) (set-listed words k)

right-listed : (words : List ℕ) (k : ℕ) → Memᴰ (answer_number (right_set_answer words k)) (0 ∷ numbers_for (right-set words k))
unfolding right_set_answer
right-listed words k = rw (set-number (set_checked words k) (mirrored (grammar_of words)) k) (set-listed words k)

start-listed : (words matrix tokens cuts : List ℕ) (room : ℕ)
    → Memᴰ (answer_number (start_answer words matrix tokens cuts room)) (0 ∷ 15 ∷ 7 ∷ 8 ∷ 9 ∷ 10 ∷ 11 ∷ [])
unfolding start_answer
start-listed words matrix tokens cuts room =
    staged (stages_of start_conditions) (and_stage (λ v. refl) (and_stage (λ v. refl) (and_stage (λ v. refl) (and_stage (λ v. refl) (and_stage (λ v. refl)
    (and_stage (λ v. refl) no_stage)))))) (lent_to_start words matrix tokens cuts room)

-- where there are no cuts, none is wrong
uncut : {words matrix tokens : List ℕ} {room v : ℕ} → WrongCut (lent_to_start words matrix tokens [] room) v → ⊥
uncut (too_many_cuts h) = omega arith
uncut (cut_above few h q) = omega arith
uncut (cut_below few h q) = omega arith

read-listed : {words matrix tokens : List ℕ} {room : ℕ} {answer : Answer} → Given (lent_to_start words matrix tokens [] room) start_conditions answer
    → Memᴰ (answer_number answer) (0 ∷ 15 ∷ 7 ∷ 8 ∷ 9 ∷ 11 ∷ [])
read-listed (fails l) = on here
read-listed (passes a (fails l)) = on (on here)
read-listed (passes a (passes b (fails l))) = on (on (on here))
read-listed (passes a (passes b (passes c (fails l)))) = on (on (on (on here)))
read-listed (passes a (passes b (passes c (passes d (fails l))))) = absurd (uncut l.holds)
read-listed (passes a (passes b (passes c (passes d (passes e (fails l)))))) = on (on (on (on (on here))))
read-listed (passes a (passes b (passes c (passes d (passes e (passes f passes_all)))))) = here

step-listed : {words matrix area : List ℕ} {c : ℕ} {answer : Answer} → StepGiven words matrix area c answer
    → Memᴰ (answer_number answer) (0 ∷ 15 ∷ 12 ∷ 13 ∷ [])
step-listed (step_15 e) = on here
step-listed (step_12 e h) = on (on here)
step-listed (step_13 e h) = on (on (on here))
step-listed (step_0 e m) = here

run-listed : {words matrix area : List ℕ} {c budget : ℕ} {answer : RunAnswer} → RunGiven words matrix area c budget answer
    → Memᴰ (answer_number answer) (0 ∷ 15 ∷ 12 ∷ 13 ∷ [])
run-listed (run_15 e) = on here
run-listed (run_12 e h) = on (on here)
run-listed (run_13 e h) = on (on (on here))
run-listed (run_0 e m) = here

join-listed : {words matrix area : List ℕ} {c : ℕ} {answer : Answer} → JoinGiven words matrix area c answer
    → Memᴰ (answer_number answer) (0 ∷ 15 ∷ 12 ∷ 14 ∷ [])
join-listed (join_15 e) = on here
join-listed (join_12 e h) = on (on here)
join-listed (join_14 e h) = on (on (on here))
join-listed (join_0 e m) = here

-- the numbers of a stuck row
stuck-listed : (why : Stuck) (place : ℕ) {l : List ℕ} → Memᴰ (number_of (refusal_of why place)) (17 ∷ 18 ∷ 19 ∷ 20 ∷ l)
stuck-listed no_relation place = here
stuck-listed no_rule place = on here
stuck-listed not_axiom place = on (on here)
stuck-listed side_by_side place = on (on (on here))

report-listed : {words matrix area : List ℕ} {room : ℕ} {answer : ReportAnswer} → ReportGiven words matrix area room answer
    → Memᴰ (answer_number answer) (0 ∷ 15 ∷ 16 ∷ 17 ∷ 18 ∷ 19 ∷ 20 ∷ 11 ∷ [])
report-listed (report_15 e) = on here
report-listed (report_16 e h) = on (on here)
report-listed (report_stuck e why place h) = on (on (on (stuck-listed why place)))
report-listed (report_11 e entries moves h l) = on (on (on (on (on (on (on here))))))
report-listed (report_0 e entries moves h l) = here

-- what the one-call parse begins with: 1 to 9, 11 for its work area, or neither
data BegunView (n room : ℕ) : Answer → Type 0 where
  refused_low : {refusal : Refusal} (k : ℕ) → number_of refusal ≡ k → 1 ≤ k → k ≤ 9 → Memᴰ k (1 ∷ 2 ∷ 3 ∷ 4 ∷ 5 ∷ 6 ∷ 7 ∷ 8 ∷ 9 ∷ [])
      → BegunView n room (Err refusal)
  area_short : {v : ℕ} → room < need n 1 → BegunView n room (Err (NoRoom v))
  begun : need n 1 ≤ room → BegunView n room (Ok tt)

module _ (words tokens : List ℕ) (room : ℕ) where
  abbrev own_matrix : List ℕ
  own_matrix = matrix_of (grammar_of words)

  loaded : {refusal : Refusal} → Given (lent_to_load words 4096) load_conditions (Err refusal) → BegunView (length tokens) room (Err refusal)
  loaded (fails l) = refused_low 1 refl (omega arith) (omega arith) here
  loaded (passes a (fails l)) = refused_low 2 refl (omega arith) (omega arith) (on here)
  loaded (passes a (passes b (fails l))) = refused_low 3 refl (omega arith) (omega arith) (on (on here))
  loaded (passes a (passes b (passes c (fails l)))) = refused_low 4 refl (omega arith) (omega arith) (on (on (on here)))
  loaded (passes a (passes b (passes c (passes d (fails l))))) = refused_low 5 refl (omega arith) (omega arith) (on (on (on (on here))))
  loaded (passes a (passes b (passes c (passes d (passes e (fails l)))))) = refused_low 6 refl (omega arith) (omega arith) (on (on (on (on (on here)))))
  loaded (passes a (passes b (passes c (passes d (passes e (passes f (fails l))))))) = absurd (short l.holds)
    where
      short : {v : ℕ} → NoRoomForMatrix (lent_to_load words 4096) v → ⊥
      short (too_short r q) = omega arith
  loaded (passes a (passes b (passes c (passes d (passes e (passes f (passes g h))))))) = none_left (lent_to_load words 4096) h

  started : grammar_in_shape words own_matrix ≡ true → {refusal : Refusal} → Given (lent_to_start words own_matrix tokens [] room) start_conditions (Err refusal)
      → BegunView (length tokens) room (Err refusal)
  started shape (fails l) = absurd (fits l.holds)
    where
      fits : {v : ℕ} → GrammarBroken (lent_to_start words own_matrix tokens [] room) v → ⊥
      fits (grammar_broken f q) = true≢false (sym shape ∙ f)
  started shape (passes a (fails l)) = refused_low 7 refl (omega arith) (omega arith) (on (on (on (on (on (on here))))))
  started shape (passes a (passes b (fails l))) = refused_low 8 refl (omega arith) (omega arith) (on (on (on (on (on (on (on here)))))))
  started shape (passes a (passes b (passes c (fails l)))) = refused_low 9 refl (omega arith) (omega arith) (on (on (on (on (on (on (on (on here))))))))
  started shape (passes a (passes b (passes c (passes d (fails l))))) = absurd (uncut l.holds)
  started shape (passes a (passes b (passes c (passes d (passes e (fails l)))))) = area_short (short l.holds)
    where
      short : {v : ℕ} → NoRoomForRow (lent_to_start words own_matrix tokens [] room) v → room < need (length tokens) 1
      short (no_room h q) = h
  started shape (passes a (passes b (passes c (passes d (passes e (passes f g)))))) = none_left (lent_to_start words own_matrix tokens [] room) g

  begun-view : BegunView (length tokens) room (parse_begun words tokens room)
  begun-view = by-load (load_answer words 4096) refl
    where
      by_start : load_answer words 4096 ≡ Ok tt → (a : Answer) → start_answer words own_matrix tokens [] room ≡ a
          → BegunView (length tokens) room (parse_begun words tokens room)
      by_start e (Err refusal) f =
          rw (refused-by-start words tokens room e f)
          (started (own-shape ((accepted-exactly words 4096).0 e).0) ((start-given words own_matrix tokens [] room (Err refusal)).0 f))
      by_start e (Ok _) f =
          let can = (starts-exactly words own_matrix tokens [] room).0 f in
          let h : room < need (length tokens) 1 → ⊥ = λ l. can.room_enough (need (length tokens) 1) (no_room l refl) in
          rw (parse-begins words tokens room (record { loads = e; starts = f })) (begun (omega arith))

      by-load : (a : Answer) → load_answer words 4096 ≡ a → BegunView (length tokens) room (parse_begun words tokens room)
      by-load (Err refusal) e = rw (refused-by-load words tokens room e) (loaded ((load_given words 4096 (Err refusal)).0 e))
      by-load (Ok _) e = by_start e (start_answer words own_matrix tokens [] room) refl

-- in a list that goes on
mem-append : {n : ℕ} {l : List ℕ} → Memᴰ n l → (m : List ℕ) → Memᴰ n (l ++ m)
mem-append (Memᴰ.head e) m = Memᴰ.head e
mem-append (Memᴰ.tail h) m = Memᴰ.tail (mem-append h m)

abbrev parse_numbers : List ℕ
parse_numbers = 0 ∷ 1 ∷ 2 ∷ 3 ∷ 4 ∷ 5 ∷ 6 ∷ 7 ∷ 8 ∷ 9 ∷ 11 ∷ 17 ∷ 18 ∷ 19 ∷ 20 ∷ 11 ∷ []

begun-listed : {n room : ℕ} {refusal : Refusal} → BegunView n room (Err refusal) → Memᴰ (number_of refusal) parse_numbers
begun-listed (refused_low k e low high m) = rw e (on (mem-append m (11 ∷ 17 ∷ 18 ∷ 19 ∷ 20 ∷ 11 ∷ [])))
begun-listed (area_short h) = on (on (on (on (on (on (on (on (on (on here)))))))))

parse-listed : {words tokens : List ℕ} {room out_room : ℕ} {answer : ReportAnswer} → ParseGiven words tokens room out_room answer
    → Memᴰ (answer_number answer) parse_numbers
parse-listed {words} {tokens} {room} (parse_words e) = begun-listed (rw (refused-by-load words tokens room e) at (begun-view words tokens room))
parse-listed {words} {tokens} {room} (parse_row e f) = begun-listed (rw (refused-by-start words tokens room e f) at (begun-view words tokens room))
parse-listed (parse_stuck b reader why place h) = on (on (on (on (on (on (on (on (on (on (on (stuck-listed why place)))))))))))
parse-listed (parse_11 b reader entries moves h l) = on (on (on (on (on (on (on (on (on (on here)))))))))
parse-listed (parse_0 b reader entries moves h l) = here

-- a call answers 0 or one of its listed numbers, and no other
pub number-listed : (call : PublicCall) → Memᴰ (number_for call) (0 ∷ numbers_for call)
number-listed (number-of refusal) = here
number-listed (value-of refusal) = here
number-listed (stuck-refusal status place) = here
number-listed (check-symbols words) = symbols-listed words
number-listed (check-words words) = words-listed words
number-listed (body-of words r) = here
number-listed (load words bytes) = load-listed words bytes
number-listed (left-set words k) = left-listed words k
number-listed (right-set words k) = right-listed words k
number-listed (all-are equal elements wanted) = here
number-listed (grammar-in-shape words matrix) = here
number-listed (in-shape words matrix area) = here
number-listed (start words matrix tokens cuts area) = start-listed words matrix tokens cuts (length area)
number-listed (step words matrix area c) = step-listed ((given-for (step words matrix area c) (step_answer words matrix area c)).0 refl)
number-listed (run words matrix area c budget) = run-listed ((given-for (run words matrix area c budget) (run_answer words matrix area c budget)).0 refl)
number-listed (join words matrix area c) = join-listed ((given-for (join words matrix area c) (join_answer words matrix area c)).0 refl)
number-listed (read-through words matrix tokens area) =
    read-listed ((given-for (read-through words matrix tokens area) (read_answer words matrix tokens (length area))).0 refl)
number-listed (report words matrix area out) = report-listed ((given-for (report words matrix area out) (report_answer words matrix area (length out))).0 refl)
number-listed (parse words tokens area out) =
    parse-listed ((given-for (parse words tokens area out) (parse_answer words tokens (length area) (length out))).0 refl)
number-listed (entry-range entries e count) = here
number-listed (entry-tokens entries e tokens place) = here

-- ---- what a refusal leaves

load_kept : (a : Answer) (words bytes : List ℕ) → (answer_number a ≡ 0 → ⊥) → loaded_bytes a words bytes ≡ bytes
load_kept (Ok _) words bytes h = absurd (h refl)
load_kept (Err refusal) words bytes h = refl

start-kept : (a : Answer) (tokens cuts area : List ℕ) → (answer_number a ≡ 0 → ⊥) → started_area a tokens cuts area ≡ area
start-kept (Ok _) tokens cuts area h = absurd (h refl)
start-kept (Err refusal) tokens cuts area h = refl

read_kept : (a : Answer) (words matrix tokens area : List ℕ) → (answer_number a ≡ 0 → ⊥) → read_from a words matrix tokens area ≡ area
read_kept (Ok _) words matrix tokens area h = absurd (h refl)
read_kept (Err refusal) words matrix tokens area h = refl

called-kept : (x : Called Span) (area : List ℕ) → (answer_number (called_answer x) ≡ 0 → ⊥) → called_area x area ≡ area
called-kept (refused refusal) area h = refl
called-kept (became s) area h = absurd (h refl)

ran-kept : (x : Ran Span) (area : List ℕ) → (answer_number (ran_answer x) ≡ 0 → ⊥) → ran_area x area ≡ area
ran-kept (refused_run refusal) area h = refl
ran-kept (ran made s) area h = absurd (h refl)

outcome-kept : (o : Outcome) (out : List ℕ) → (answer_number (outcome_answer o (length out)) ≡ 0 → ⊥) → outcome_out o out ≡ out
outcome-kept (refused_row refusal) out h = refl
outcome-kept (reported entries moves) out h = go (ltb (length out) (3 * length entries)) refl
  where
    go : (b : Bool) → ltb (length out) (3 * length entries) ≡ b → outcome_out (reported entries moves) out ≡ out
    go true e = rw (e, outcome_out)
    go false e = absurd (h (rw (e, outcome_answer)))

parsed-kept : (a : Answer) (o : Outcome) (out : List ℕ) → (answer_number (parsed_answer a o (length out)) ≡ 0 → ⊥) → parsed_out a o out ≡ out
parsed-kept (Ok _) o out h = outcome-kept o out h
parsed-kept (Err refusal) o out h = refl

-- of no run there is nothing to say, and of one run what is said of it
no_run : {A : Type 0} {w : Written} → Memᴰ w [] → A
no_run = elim [ ]

one-run : (P : Written → Type 0) {v w : Written} → P v → Memᴰ w (v ∷ []) → P w
one-run P p (Memᴰ.head e) = subst P (sym e) p
one-run P p (Memᴰ.tail m) = no_run m

abbrev Same : Written → Type 0
Same w = w.after ≡ w.before

-- where the number is not 0, every run that it may write is as it was
pub lent-kept : (call : PublicCall) → (number_for call ≡ 0 → ⊥) → {w : Written} → Memᴰ w (written call) → w.after ≡ w.before
unfolding load_bytes start_area step_answer step_area run_answer run_area join_answer join_area read_area report_answer report_out parse_answer parse_out
lent-kept (number-of refusal) h m = no_run m
lent-kept (value-of refusal) h m = no_run m
lent-kept (stuck-refusal status place) h m = no_run m
lent-kept (check-symbols words) h m = no_run m
lent-kept (check-words words) h m = no_run m
lent-kept (body-of words r) h m = no_run m
lent-kept (load words bytes) h m = one-run Same (load_kept (load_answer words (length bytes)) words bytes h) m
lent-kept (left-set words k) h m = no_run m
lent-kept (right-set words k) h m = no_run m
lent-kept (all-are equal elements wanted) h m = no_run m
lent-kept (grammar-in-shape words matrix) h m = no_run m
lent-kept (in-shape words matrix area) h m = no_run m
lent-kept (start words matrix tokens cuts area) h m = one-run Same (start-kept (start_answer words matrix tokens cuts (length area)) tokens cuts area h) m
lent-kept (step words matrix area c) h m = one-run Same (called-kept (step_call words matrix area c) area h) m
lent-kept (run words matrix area c budget) h m = one-run Same (ran-kept (run_call words matrix area c budget) area h) m
lent-kept (join words matrix area c) h m = one-run Same (called-kept (join_call words matrix area c) area h) m
lent-kept (read-through words matrix tokens area) h m = one-run Same (read_kept (read_answer words matrix tokens (length area)) words matrix tokens area h) m
lent-kept (report words matrix area out) h m = one-run Same (outcome-kept (report_outcome words matrix area) out h) m
lent-kept (parse words tokens area out) h m =
    one-run Same (parsed-kept (parse_begun words tokens (length area)) (parse_outcome words tokens) out h) m
lent-kept (entry-range entries e count) h m = no_run m
lent-kept (entry-tokens entries e tokens place) h m = no_run m

-- ---- what stands beyond

load-beyond : (a : Answer) (words bytes : List ℕ) → drop 4096 (loaded_bytes a words bytes) ≡ drop 4096 bytes
load-beyond (Ok _) words bytes =
    let m : List ℕ = matrix_of (grammar_of words) in
    drop_past (m ++ drop 4096 bytes) 0 4096 m (drop 4096 bytes) (omega (arith, matrix-length (grammar_of words))) refl
load-beyond (Err refusal) words bytes = refl

start-beyond : (words matrix tokens cuts area : List ℕ) (a : Answer) → start_answer words matrix tokens cuts (length area) ≡ a
    → drop (need (length tokens) (length cuts + 1)) (started_area a tokens cuts area) ≡ drop (need (length tokens) (length cuts + 1)) area
start-beyond words matrix tokens cuts area (Err refusal) e = refl
start-beyond words matrix tokens cuts area (Ok _) e =
    let k : ℕ = need (length tokens) (length cuts + 1) in
    let w : List ℕ = encode (length tokens) (States.start tokens cuts) in
    let good = cuts-good ((starts-exactly words matrix tokens cuts (length area)).0 e) in
    let l : length w ≡ k = ap length (sym (start-words tokens cuts good)) ∙ start-words-length tokens cuts in
    drop_past (w ++ drop k area) 0 k w (drop k area) (omega arith) refl

-- a call on an area in shape
module _ (words matrix area : List ℕ) (low : get_or area 2 0 < 65536) where
  state-beyond : (s' : State Span) → Safe words (get_or area 0 0) s' → length s'.chunks ≡ get_or area 1 0
      → drop (need_in area) (with_state area s') ≡ drop (need_in area) area
  state-beyond s' safe count =
      let w : List ℕ = encode (get_or area 0 0) s' in
      let l : length w ≡ need_in area = encode-length safe ∙ ap (need (get_or area 0 0)) count in
      drop_past (w ++ drop (need_in area) area) 0 (need_in area) w (drop (need_in area) area) (omega arith) refl

  module _ (shape : in_shape words matrix area ≡ true) where
    abbrev holds : HoldsState (count_t words) (count_n words) area (decode area)
    holds = in-shape-holds words matrix area low shape

    abbrev grammar : grammar_in_shape words matrix ≡ true
    grammar = (in-shape-parts words matrix area shape).0

    called-beyond : (x : Called Span) → ((s' : State Span) → x ≡ became s' → Turned (table_of words matrix) (decode area) s')
        → drop (need_in area) (called_area x area) ≡ drop (need_in area) area
    called-beyond (refused refusal) turns = refl
    called-beyond (became s') turns =
        let t = turns s' refl in state-beyond s' (safe-turned words matrix grammar holds.kept t) (same_number t ∙ holds.chunks_are)

    scheduled-number : {i : ℕ} {s s' : State Span} → Schedule (table_of words matrix) s i s' → length s'.chunks ≡ length s.chunks
    scheduled-number no_turn = refl
    scheduled-number (one_turn t turns) = scheduled-number turns ∙ same_number t

    ran-beyond : (c budget : ℕ) (x : Ran Span) → States.run (table_of words matrix) c budget (decode area) ≡ x
        → drop (need_in area) (ran_area x area) ≡ drop (need_in area) area
    ran-beyond c budget (refused_run refusal) q = refl
    ran-beyond c budget (ran j s') q =
        let m = (run-exactly (table_of words matrix) c budget (decode area) j s').0 q in
        state-beyond s' (safe-run words matrix grammar c budget holds.kept q)
        (scheduled-number (made-scheduled (table_of words matrix) c m.made) ∙ holds.chunks_are)

  -- 15, or the machine's call x on an area in shape
  call-beyond : (call x : Called Span) → (in_shape words matrix area ≡ false → call ≡ refused BadState) → (in_shape words matrix area ≡ true → call ≡ x)
      → ((s' : State Span) → x ≡ became s' → Turned (table_of words matrix) (decode area) s') → drop (need_in area) (called_area call area) ≡ drop (need_in area) area
  call-beyond call x broken is turns = go (in_shape words matrix area) refl
    where
      go : (b : Bool) → in_shape words matrix area ≡ b → drop (need_in area) (called_area call area) ≡ drop (need_in area) area
      go false e = ap (λ y. drop (need_in area) (called_area y area)) (broken e)
      go true e = ap (λ y. drop (need_in area) (called_area y area)) (is e) ∙ called-beyond e x turns

  step-beyond : (c : ℕ) → drop (need_in area) (step_area words matrix area c) ≡ drop (need_in area) area
  unfolding step_area
  step-beyond c =
      call-beyond (step_call words matrix area c) (States.step (table_of words matrix) c (decode area))
      (step-broken words matrix area c) (step-in-shape words matrix area c) (λ s' q. by_step c q)

  join-beyond : (c : ℕ) → drop (need_in area) (join_area words matrix area c) ≡ drop (need_in area) area
  unfolding join_area
  join-beyond c =
      call-beyond (join_call words matrix area c) (States.join c (decode area))
      (join-broken words matrix area c) (join-in-shape words matrix area c) (λ s' q. by_join c q)

  run-beyond : (c budget : ℕ) → drop (need_in area) (run_area words matrix area c budget) ≡ drop (need_in area) area
  unfolding run_area
  run-beyond c budget = go (in_shape words matrix area) refl
    where
      go : (b : Bool) → in_shape words matrix area ≡ b → drop (need_in area) (ran_area (run_call words matrix area c budget) area) ≡ drop (need_in area) area
      go false e = ap (λ x. drop (need_in area) (ran_area x area)) (run-broken words matrix area c budget e)
      go true e =
          ap (λ x. drop (need_in area) (ran_area x area)) (run-in-shape words matrix area c budget e)
          ∙ ran-beyond e c budget (States.run (table_of words matrix) c budget (decode area)) refl

-- a row read through: the words of its start, and then those of its run
started-as : (words matrix tokens area : List ℕ) → read_answer words matrix tokens (length area) ≡ Ok tt
    → start_area words matrix tokens [] area ≡ encode (length tokens) (States.start tokens []) ++ drop (need (length tokens) 1) area
unfolding start_area
started-as words matrix tokens area e = ap (λ a. started_area a tokens [] area) (sym (read-begins words matrix tokens area) ∙ e)

read-beyond : (words matrix tokens area : List ℕ) (a : Answer) → read_answer words matrix tokens (length area) ≡ a
    → drop (need (length tokens) 1) (read_from a words matrix tokens area) ≡ drop (need (length tokens) 1) area
read-beyond words matrix tokens area (Err refusal) e = refl
read-beyond words matrix tokens area (Ok _) e =
    let n : ℕ = length tokens in
    let s : State Span = States.start tokens [] in
    let rest : List ℕ = drop (need n 1) area in
    let is = started-as words matrix tokens area e in
    let f = sym (read-begins words matrix tokens area) ∙ e in
    let low : get_or (encode n s ++ rest) 2 0 < 65536 = omega (arith, low-moves-at n s rest) in
    let count : need_in (encode n s ++ rest) ≡ need n 1 = rw (tokens-at n s rest, chunks-at n s rest) in
    let ran : drop (need n 1) (run_area words matrix (encode n s ++ rest) 0 (2 * n + 2)) ≡ drop (need n 1) (encode n s ++ rest) =
    subst (λ k. drop k (run_area words matrix (encode n s ++ rest) 0 (2 * n + 2)) ≡ drop k (encode n s ++ rest)) count
    (run-beyond words matrix (encode n s ++ rest) low 0 (2 * n + 2)) in
    ap (λ l. drop (need n 1) (run_area words matrix l 0 (2 * n + 2))) is ∙ ran ∙ start-beyond words matrix tokens [] area (Ok tt) f

outcome-beyond : (o : Outcome) (out : List ℕ)
    → drop (words_of (outcome_answer o (length out))) (outcome_out o out) ≡ drop (words_of (outcome_answer o (length out))) out
outcome-beyond (refused_row refusal) out = refl
outcome-beyond (reported l m) out = go (ltb (length out) (3 * length l)) refl
  where
    go : (b : Bool) → ltb (length out) (3 * length l) ≡ b
        → drop (words_of (outcome_answer (reported l m) (length out))) (outcome_out (reported l m) out) ≡ drop (words_of (outcome_answer (reported l m) (length out))) out
    go true e = rw (e, outcome_out, outcome_answer)
    go false e =
        let w : List ℕ = report_words l in
        let k : drop (3 * length l) (w ++ drop (3 * length l) out) ≡ drop (3 * length l) out =
        drop_past (w ++ drop (3 * length l) out) 0 (3 * length l) w (drop (3 * length l) out) (omega (arith, length-report l)) refl in
        rw (e, outcome_out, outcome_answer) k

parsed-beyond : (a : Answer) (o : Outcome) (out : List ℕ)
    → drop (words_of (parsed_answer a o (length out))) (parsed_out a o out) ≡ drop (words_of (parsed_answer a o (length out))) out
parsed-beyond (Ok _) o out = outcome-beyond o out
parsed-beyond (Err refusal) o out = refl

-- whose words have 16 bits, as all lent words have; of an area this is asked of the low half of its count
abbrev Beyond : Written → Type 0
Beyond w = get_or w.before 2 0 < 65536 → drop w.counted w.after ≡ drop w.counted w.before

-- accepted or refused, nothing changes beyond what the call counts
pub beyond-kept : (call : PublicCall) → {w : Written} → Memᴰ w (written call) → get_or w.before 2 0 < 65536
    → drop w.counted w.after ≡ drop w.counted w.before
unfolding load_bytes start_area read_area report_answer report_out parse_answer parse_out
beyond-kept (number-of refusal) m = no_run m
beyond-kept (value-of refusal) m = no_run m
beyond-kept (stuck-refusal status place) m = no_run m
beyond-kept (check-symbols words) m = no_run m
beyond-kept (check-words words) m = no_run m
beyond-kept (body-of words r) m = no_run m
beyond-kept (load words bytes) m = one-run Beyond (λ low. load-beyond (load_answer words (length bytes)) words bytes) m
beyond-kept (left-set words k) m = no_run m
beyond-kept (right-set words k) m = no_run m
beyond-kept (all-are equal elements wanted) m = no_run m
beyond-kept (grammar-in-shape words matrix) m = no_run m
beyond-kept (in-shape words matrix area) m = no_run m
beyond-kept (start words matrix tokens cuts area) m =
    one-run Beyond (λ low. start-beyond words matrix tokens cuts area (start_answer words matrix tokens cuts (length area)) refl) m
beyond-kept (step words matrix area c) m = one-run Beyond (λ low. step-beyond words matrix area low c) m
beyond-kept (run words matrix area c budget) m = one-run Beyond (λ low. run-beyond words matrix area low c budget) m
beyond-kept (join words matrix area c) m = one-run Beyond (λ low. join-beyond words matrix area low c) m
beyond-kept (read-through words matrix tokens area) m =
    one-run Beyond (λ low. read-beyond words matrix tokens area (read_answer words matrix tokens (length area)) refl) m
beyond-kept (report words matrix area out) m = one-run Beyond (λ low. outcome-beyond (report_outcome words matrix area) out) m
beyond-kept (parse words tokens area out) m =
    one-run Beyond (λ low. parsed-beyond (parse_begun words tokens (length area)) (parse_outcome words tokens) out) m
beyond-kept (entry-range entries e count) m = no_run m
beyond-kept (entry-tokens entries e tokens place) m = no_run m

-- ---- the one-call parse's work area

module _ (words tokens area out : List ℕ) where
  area-used : parse_begun words tokens (length area) ≡ Ok tt → parse_area words tokens area ≡ zeros (need (length tokens) 1) ++ drop (need (length tokens) 1) area
  unfolding parse_area
  area-used e = ap (λ a. parsed_area a (length tokens) area) e

  refused-short : {a : Answer} → parse_begun words tokens (length area) ≡ a → BegunView (length tokens) (length area) a → length area < need (length tokens) 1
      → parse_area words tokens area ≡ area
  refused-short e (refused_low k q low high m) h = area-stays words tokens area out e
  refused-short e (area_short l) h = area-stays words tokens area out e
  refused-short e (begun l) h = absurd (omega arith)

  used : {a : Answer} → parse_begun words tokens (length area) ≡ a → BegunView (length tokens) (length area) a
      → (number_for (parse words tokens area out) ≡ 0) ⊎ (9 < number_for (parse words tokens area out)) → need (length tokens) 1 ≤ length area
      → parse_area words tokens area ≡ zeros (need (length tokens) 1) ++ drop (need (length tokens) 1) area
  used e (refused_low k q low high m) (inl z) h = let n = ap answer_number (parse-refused words tokens (length area) (length out) e) in absurd (omega arith)
  used e (refused_low k q low high m) (inr z) h = let n = ap answer_number (parse-refused words tokens (length area) (length out) e) in absurd (omega arith)
  used e (area_short l) z h = absurd (omega arith)
  used e (begun l) z h = area-used e

  pub parse-area-left : ParseAreaLeft words tokens area out
  parse-area-left = record {
    after_1_to_9 = refused-first words tokens area out ((given-for (parse words tokens area out) (parse_answer words tokens (length area) (length out))).0 refl);
    too_short = refused-short refl (begun-view words tokens (length area));
    once_used = used refl (begun-view words tokens (length area));
  }
