-- An uncut row started and read to rest in one call: its answer, and what is left in the area.
-- Document 01: "Start checks 15 (grammar and matrix only; the area's old words aren't read), 7, 8, 9, 10, 11"; "it makes moves until K are made or it
-- rests"; "The front-to-back parse is C = 1". It is start with no cuts and then a run of chunk 0, with as many moves as a row of n tokens can make.
-- Rests on Calls, OnWords and RunMoves, and on start's Start and shape's Safe.
--
-- Main definitions: read_answer, read_area. Main statements: read-begins, read-refused, can-start, read-leaves; not-read, read-few, read-runs, read-moved.
use Rattle.std.specs.Prelude.{◌≡◌, true, ℕ, ◌+◌, ◌*◌, ◌≤◌, drop, Ok, Err}
use Rattle.std.proofs.Math.Path.{refl, sym, ap}
use Rattle.std.proofs.Common.{subst, ◌∙◌}
use mathlib.Core.List.{List, [], ◌∷◌, ◌++◌}
use Rattle.std.proofs.Math.ListN.{length}
use Rattle.std.proofs.lemmas.Bool.{not-true, not-false}
use Rattle.laws.specs.Tests.{false-unless}
use Rattle.refusals.specs.declared.Refusal.{Refusal}
use Rattle.refusals.specs.Answers.{Answer}
use Rattle.language.specs.Trees.{Span}
use Rattle.machine.specs.Moves.{Table}
use Rattle.machine.specs.States.{State, ran, moving, run, start}
use Rattle.machine.specs.TableOf.{table_of}
use Rattle.layout.specs.Layout.{need, encode}
use Rattle.matrix.specs.GrammarShape.{grammar_in_shape}
use Rattle.start.specs.Start.{StartInput, grammar_broken, Startable, start_answer, started_area, start_area, starts-exactly}
use Rattle.shape.specs.Safe.{Safe, safe-start}
use Rattle.moving.specs.Calls.{ran_area, run_call, run_area}
use Rattle.moving.specs.OnWords.{run_is, leaves}
use Rattle.moving.specs.RunMoves.{Runnable, RanWords}

-- start's checks, with no cuts
unfoldable pub read_answer : List ℕ → List ℕ → List ℕ → ℕ → Answer
read_answer words matrix tokens room = start_answer words matrix tokens [] room

-- the moves after a start that is accepted: a row of n tokens makes at most 2n + 2
abbrev pub read_from : Answer → List ℕ → List ℕ → List ℕ → List ℕ → List ℕ
read_from (Ok _) words matrix tokens area = run_area words matrix (start_area words matrix tokens [] area) 0 (2 * length tokens + 2)
read_from (Err refusal) words matrix tokens area = area

unfoldable pub read_area : List ℕ → List ℕ → List ℕ → List ℕ → List ℕ
read_area words matrix tokens area = read_from (read_answer words matrix tokens (length area)) words matrix tokens area

-- ---- the row that is read

-- chunk 0 of a start is not at rest: it has # to read
start-runs : (table : Table Span) (budget : ℕ) (tokens : List ℕ) → run table 0 budget (start tokens []) ≡ moving table 0 budget 0 (start tokens [])
start-runs table budget [] = refl
start-runs table budget (a ∷ tokens) = refl

module _ (words bytes tokens area : List ℕ) where
  -- what start is lent
  abbrev pub lent : StartInput
  lent = record { words = words; matrix = bytes; tokens = tokens; cuts = []; room = length area }

  pub read-begins : read_answer words bytes tokens (length area) ≡ start_answer words bytes tokens [] (length area)
  unfolding read_answer
  read-begins = refl

  left_by : {answer : Answer} → read_answer words bytes tokens (length area) ≡ answer → read_area words bytes tokens area ≡ read_from answer words bytes tokens area
  unfolding read_area
  left_by e = ap (λ a. read_from a words bytes tokens area) e

  pub read-refused : {refusal : Refusal} → read_answer words bytes tokens (length area) ≡ Err refusal → read_area words bytes tokens area ≡ area
  read-refused e = left_by e

  start_left : {answer : Answer} → read_answer words bytes tokens (length area) ≡ answer → start_area words bytes tokens [] area ≡ started_area answer tokens [] area
  unfolding start_area
  start_left e = ap (λ a. started_area a tokens [] area) (sym read-begins ∙ e)

  module _ (done : read_answer words bytes tokens (length area) ≡ Ok tt) where
    pub can-start : Startable lent
    can-start = (starts-exactly words bytes tokens [] (length area)).0 (sym read-begins ∙ done)

    shape : grammar_in_shape words bytes ≡ true
    shape = not-false _ (false-unless _ (λ e. can-start.in-shape 0 (grammar_broken (not-true _ e) refl)))

    abbrev rest : List ℕ
    rest = drop (need (length tokens) 1) area

    begun : start_area words bytes tokens [] area ≡ encode (length tokens) (start tokens []) ++ rest
    begun = start_left done

    safe : Safe words (length tokens) (start tokens [])
    safe = safe-start can-start

    -- the words of the state that the run leads to; words beyond the need stay
    pub read-leaves : {made : ℕ} {s : State Span} → run (table_of words bytes) 0 (2 * length tokens + 2) (start tokens []) ≡ ran made s
        → read_area words bytes tokens area ≡ encode (length tokens) s ++ rest
    unfolding run_area
    read-leaves {made} {s} r =
        left_by done ∙ ap (λ a. ran_area (run_call words bytes a 0 (2 * length tokens + 2)) a) begun
        ∙ ap (λ k. ran_area k (encode (length tokens) (start tokens []) ++ rest)) (run_is words bytes shape safe rest 0 (2 * length tokens + 2) ∙ r)
        ∙ leaves words bytes shape safe rest s

    runs_here : Runnable words bytes (start_area words bytes tokens [] area) 0
    runs_here = record {
      held = record { tokens = length tokens; state = start tokens []; rest = rest; area_is = begun; grammar = shape; kept = safe };
      live = record { before = []; chunk = _; after = []; number_is = refl; chunks_are = refl };
    }

    few : length tokens ≤ 16384
    few = safe.few_tokens

    moved_to : {made : ℕ} {area' : List ℕ} → RanWords words bytes (start_area words bytes tokens [] area) 0 (2 * length tokens + 2) made area'
        → area' ≡ read_area words bytes tokens area
    unfolding runs_here
    moved_to w =
        let r = w.found runs_here in
        r.are ∙ sym (read-leaves (start-runs (table_of words bytes) (2 * length tokens + 2) tokens ∙ r.ends))

-- ---- the calls of start and of the moves

module _ (words bytes tokens area : List ℕ) {starting : Answer} {area' : List ℕ} (answers : starting ≡ start_answer words bytes tokens [] (length area))
    (begins : area' ≡ start_area words bytes tokens [] area) where
  read_as : {answer : Answer} → starting ≡ answer → read_answer words bytes tokens (length area) ≡ answer
  read_as e = read-begins words bytes tokens area ∙ sym answers ∙ e

  -- what the contract says of an answer and of the area then
  abbrev pub Reads : Answer → List ℕ → Type 0
  Reads answer last = (answer ≡ read_answer words bytes tokens (length area)) × (last ≡ read_area words bytes tokens area)

  pub not-read : {refusal : Refusal} → starting ≡ Err refusal → Reads starting area'
  not-read e =
      let q = read_as e in
      (e ∙ sym q, begins ∙ start_left words bytes tokens area q ∙ sym (read-refused words bytes tokens area q))

  module _ (done : starting ≡ Ok tt) where
    pub read-few : length tokens ≤ 16384
    read-few = few words bytes tokens area (read_as done)

    pub read-runs : Runnable words bytes area' 0
    read-runs = subst (λ a. Runnable words bytes a 0) (sym begins) (runs_here words bytes tokens area (read_as done))

    pub read-moved : {made : ℕ} {last : List ℕ} → RanWords words bytes area' 0 (2 * length tokens + 2) made last → Reads starting last
    read-moved {made} {last} w =
        let q = read_as done in
        (done ∙ sym q, moved_to words bytes tokens area q (subst (λ a. RanWords words bytes a 0 (2 * length tokens + 2) made last) begins w))
