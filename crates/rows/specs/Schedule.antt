-- The order of calls in which `rows` reads a row, and what the row then gives.
-- Document 01, "Sample rows": "It moves chunk 0 until at rest, then 1, and so on, then joins chunk 0 rightwards, moving it to rest after
-- each join."
-- Rests on the calls' definitions: language's Loads, start's Start, moving's Calls, report's ReportCall.
--
-- Main definitions: rest_area, each_to_rest, join_rightwards, row_area, row_answer, row_entries.
-- Main statements: each-more, joins-more (one turn of each loop); row-not-loaded, row-not-started,
-- row-reported (the three ways in which a row ends); row-fits (a report's entries are in the run that was lent for them).
use Rattle.std.specs.Prelude.{◌≡◌, refl, Bool, true, false, List, ℕ, zero, suc, ◌+◌, ◌-◌, ◌*◌, ◌≤◌, ◌<◌, ltb, length, Ok, Err}
use Rattle.std.proofs.Common.{sym, ap, ◌∙◌, arith}
use Rattle.laws.specs.Tests.{ltb-false}
use Rattle.refusals.specs.Answers.{Answer, ReportAnswer}
use Rattle.refusals.specs.declared.Refusal.{Refusal}
use Rattle.refusals.specs.declared.Refusal.TheVariants.{NoRoom}
use Rattle.language.specs.Loads.{load_answer, load_bytes}
use Rattle.machine.specs.States.{Outcome, refused_row, reported}
use Rattle.machine.specs.Answers.{outcome_answer}
use Rattle.start.specs.Start.{start_answer, start_area}
use Rattle.moving.specs.Calls.{run_area, join_area}
use Rattle.lines.specs.AnswerLines.{end_after, end-within}
use Rattle.report.specs.ReportCall.{report_outcome, report_answer, report_out}

-- ---- the schedule, on the area's words

module _ (words matrix : List ℕ) where
  -- a chunk to rest, with a budget of more moves than a row can make
  unfoldable pub rest_area : List ℕ → ℕ → List ℕ
  rest_area area chunk = run_area words matrix area chunk 4294967295

  -- so many chunks to rest, from this one on
  unfoldable pub each_to_rest : ℕ → ℕ → List ℕ → List ℕ
  each_to_rest chunk zero area = area
  each_to_rest chunk (suc count) area = each_to_rest (chunk + 1) count (rest_area area chunk)

  -- so many joins of chunk 0, which is moved to rest after each
  unfoldable pub join_rightwards : ℕ → List ℕ → List ℕ
  join_rightwards zero area = area
  join_rightwards (suc count) area = join_rightwards count (rest_area (join_area words matrix area 0) 0)

  -- all the moves of a row in so many chunks
  abbrev pub moved_area : ℕ → List ℕ → List ℕ
  moved_area chunks area = join_rightwards (chunks - 1) (each_to_rest 0 chunks area)

  -- one turn of each loop, its first and its last
  pub each-all : (area : List ℕ) (chunks : ℕ) → each_to_rest 0 chunks area ≡ each_to_rest 0 (chunks - 0) area
  each-all area chunks = let e : chunks ≡ chunks - 0 = omega arith in ap (λ (count : ℕ). each_to_rest 0 count area) e

  pub each-more : (area : List ℕ) (chunk chunks : ℕ) → chunk < chunks
      → each_to_rest chunk (chunks - chunk) area ≡ each_to_rest (chunk + 1) (chunks - (chunk + 1)) (rest_area area chunk)
  unfolding each_to_rest
  each-more area chunk chunks h = let e : chunks - chunk ≡ suc (chunks - (chunk + 1)) = omega arith in rw e

  pub each-none : (area : List ℕ) (chunk chunks : ℕ) → chunks ≤ chunk → each_to_rest chunk (chunks - chunk) area ≡ area
  unfolding each_to_rest
  each-none area chunk chunks h = let e : chunks - chunk ≡ 0 = omega arith in rw e

  pub joins-more : (area : List ℕ) (joined chunks : ℕ) → joined < chunks
      → join_rightwards (chunks - joined) area ≡ join_rightwards (chunks - (joined + 1)) (rest_area (join_area words matrix area 0) 0)
  unfolding join_rightwards
  joins-more area joined chunks h = let e : chunks - joined ≡ suc (chunks - (joined + 1)) = omega arith in rw e

  pub joins-none : (area : List ℕ) (joined chunks : ℕ) → chunks ≤ joined → join_rightwards (chunks - joined) area ≡ area
  unfolding join_rightwards
  joins-none area joined chunks h = let e : chunks - joined ≡ 0 = omega arith in rw e

-- ---- what a row gives

-- a refusal, or what comes after it
abbrev pub or_else : Answer → ReportAnswer → ReportAnswer
or_else (Ok _) next = next
or_else (Err refusal) next = Err refusal

-- the words of a run, changed only after an answer that refuses nothing
abbrev pub after_done : Answer → List ℕ → List ℕ → List ℕ
after_done (Ok _) next run = next
after_done (Err refusal) next run = run

module _ (words tokens cuts matrix area : List ℕ) where
  -- the grammar's matrix, and the answer of start with it
  abbrev pub row_matrix : List ℕ
  row_matrix = load_bytes words matrix

  abbrev pub row_start : Answer
  row_start = start_answer words row_matrix tokens cuts (length area)

  -- the area after all moves
  abbrev pub row_area : List ℕ
  row_area = moved_area words row_matrix (length cuts + 1) (start_area words row_matrix tokens cuts area)

  -- the refusal of load, or that of start, or the answer of the report
  unfoldable pub row_answer : ℕ → ReportAnswer
  row_answer room = or_else (load_answer words (length matrix)) (or_else row_start (report_answer words row_matrix row_area room))

  -- the run of the entries afterwards
  unfoldable pub row_entries : List ℕ → List ℕ
  row_entries entries =
      after_done (load_answer words (length matrix)) (after_done row_start (report_out words row_matrix row_area entries) entries) entries

-- both have refused nothing
else-done : (x y : Answer) (next : ReportAnswer) → x ≡ Ok tt → y ≡ Ok tt → next ≡ or_else x (or_else y next)
else-done x y next p q = rw (p, q)

after-done : (x y : Answer) (next run : List ℕ) → x ≡ Ok tt → y ≡ Ok tt → next ≡ after_done x (after_done y next run) run
after-done x y next run p q = rw (p, q)

-- the three ways in which a row ends, with the words that each call left
module _ (words tokens cuts matrix area entries : List ℕ) where
  abbrev RowIs : ReportAnswer → List ℕ → Type 0
  RowIs answer out =
      (answer ≡ row_answer words tokens cuts matrix area (length entries)) × (out ≡ row_entries words tokens cuts matrix area entries)

  pub row-not-loaded : (refusal : Refusal) → load_answer words (length matrix) ≡ Err refusal → RowIs (Err refusal) entries
  unfolding row_answer row_entries
  row-not-loaded refusal e = (rw e, rw e)

  pub row-not-started : (refusal : Refusal) (loaded : List ℕ) → load_answer words (length matrix) ≡ Ok tt → loaded ≡ load_bytes words matrix
      → start_answer words loaded tokens cuts (length area) ≡ Err refusal → RowIs (Err refusal) entries
  unfolding row_answer row_entries
  row-not-started refusal loaded d m e =
      let f : start_answer words (load_bytes words matrix) tokens cuts (length area) ≡ Err refusal =
      ap (λ (bytes : List ℕ). start_answer words bytes tokens cuts (length area)) (sym m) ∙ e in
      (rw (d, f), rw (d, f))

  -- the area after start and after all moves, with this matrix
  abbrev started_with : List ℕ → List ℕ
  started_with bytes = start_area words bytes tokens cuts area

  abbrev moved_with : List ℕ → List ℕ
  moved_with bytes = moved_area words bytes (length cuts + 1) (started_with bytes)

  pub row-reported : (answer : ReportAnswer) (loaded started rested joined out : List ℕ) → load_answer words (length matrix) ≡ Ok tt → loaded ≡ load_bytes words matrix
      → start_answer words loaded tokens cuts (length area) ≡ Ok tt → started ≡ start_area words loaded tokens cuts area
      → rested ≡ each_to_rest words loaded 0 (length cuts + 1) started → joined ≡ join_rightwards words loaded (length cuts + 1 - 1) rested
      → answer ≡ report_answer words loaded joined (length entries) → out ≡ report_out words loaded joined entries → RowIs answer out
  unfolding row_answer row_entries
  row-reported answer loaded started rested joined out d m e s r j a o =
      let f : start_answer words (load_bytes words matrix) tokens cuts (length area) ≡ Ok tt =
      ap (λ (bytes : List ℕ). start_answer words bytes tokens cuts (length area)) (sym m) ∙ e in
      let moved : joined ≡ moved_with loaded =
      j ∙ ap (λ (l : List ℕ). join_rightwards words loaded (length cuts + 1 - 1) l) (r ∙ ap (λ (l : List ℕ). each_to_rest words loaded 0 (length cuts + 1) l) s) in (
        a ∙ ap (λ (l : List ℕ). report_answer words loaded l (length entries)) moved
            ∙ ap (λ (bytes : List ℕ). report_answer words bytes (moved_with bytes) (length entries)) m
            ∙ else-done (load_answer words (length matrix)) (start_answer words (load_bytes words matrix) tokens cuts (length area)) _ d f,
        o ∙ ap (λ (l : List ℕ). report_out words loaded l entries) moved
            ∙ ap (λ (bytes : List ℕ). report_out words bytes (moved_with bytes) entries) m
            ∙ after-done (load_answer words (length matrix)) (start_answer words (load_bytes words matrix) tokens cuts (length area)) _ entries d f,
      )

-- ---- the entries of a report are in the run

abbrev pub Fits : ReportAnswer → ℕ → Type 0
Fits (Ok report) room = 3 * report.entries ≤ room
Fits (Err refusal) room = Unit {0}

outcome-fits : (o : Outcome) (room : ℕ) → Fits (outcome_answer o room) room
outcome-fits (refused_row refusal) room = tt
outcome-fits (reported entries moves) room = go (ltb room (3 * length entries)) refl
  where
    go : (b : Bool) → ltb room (3 * length entries) ≡ b
        → Fits (elim b [ true ↦ Err (NoRoom (3 * length entries)) | false ↦ Ok (record { entries = length entries; moves = moves }) ]) room
    go true e = tt
    go false e = ltb-false room (3 * length entries) e

report-fits : (words matrix area : List ℕ) (room : ℕ) → Fits (report_answer words matrix area room) room
unfolding report_answer
report-fits words matrix area room = outcome-fits (report_outcome words matrix area) room

else-fits : (a : Answer) (next : ReportAnswer) (room : ℕ) → Fits next room → Fits (or_else a next) room
else-fits (Ok _) next room f = f
else-fits (Err refusal) next room f = tt

pub row-fits : (words tokens cuts matrix area : List ℕ) (room : ℕ) → Fits (row_answer words tokens cuts matrix area room) room
unfolding row_answer
row-fits words tokens cuts matrix area room =
    else-fits (load_answer words (length matrix)) _ room
    (else-fits (row_start words tokens cuts matrix area) _ room
    (report-fits words (row_matrix words tokens cuts matrix area) (row_area words tokens cuts matrix area) room))

-- an answer of the row, where the run keeps its length
pub fits-from : (words tokens cuts matrix area : List ℕ) (room more : ℕ) (answer : ReportAnswer) → answer ≡ row_answer words tokens cuts matrix area room
    → more ≡ room → Fits answer more
fits-from words tokens cuts matrix area room more answer e r = rw (e, r) (row-fits words tokens cuts matrix area room)

-- the place after a line is within the bytes
pub line-within : (out : List ℕ) (at end : ℕ) (bytes : List ℕ) → end ≡ end_after out at bytes → at ≤ length out → end ≤ length out
line-within out at end bytes e h = rw e (end-within out at bytes h)

pub first-within : (out : List ℕ) (end : ℕ) (bytes : List ℕ) → end ≡ end_after out 0 bytes → end ≤ length out
first-within out end bytes e = line-within out 0 end bytes e (omega arith)
