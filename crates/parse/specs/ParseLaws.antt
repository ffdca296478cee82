-- The one-call parse by what its code finds in the words: a row that has started, read until it rests, and what its words then say.
-- Document 01: "The front-to-back parse is C = 1, also offered as one call"; 17 to 20 "the finished row stuck so"; "The report": an uncut row's
-- reductions are made in the report's order, so that nothing is left to put in order.
-- Rests on ParseCall, on moving's ReadCall, results' UncutRow and ReadThrough, start's Start and StartKept and shape's Safe, InShape and Decode, and
-- outcomes' OutcomeWords.
--
-- Main definitions: Loaded (a grammar), Finished (a row's words once it rests), Parsed, Read (what load and read_through leave).
-- Main statements: not-loaded, loaded, loaded-read; not-read, row-parses.
use Rattle.std.specs.Prelude.{◌≡◌, true, List, [], ◌++◌, ℕ, ◌+◌, ◌*◌, ◌≤◌, ◌<◌, get_or, Ok, Err}
use Rattle.std.proofs.Math.Path.{refl, ap}
use Rattle.std.proofs.Common.{sym, subst, ◌∙◌, append-nil, length-append, drop_of_length-le}
use native.Mathlib.Omega.{arith}
use Rattle.std.proofs.Math.ListN.{length, drop}
use Rattle.refusals.specs.declared.Refusal.{Refusal}
use Rattle.refusals.specs.Answers.{Answer, ReportAnswer}
use Rattle.language.specs.Words.{count_t, count_n, grammar_of}
use Rattle.language.specs.Grammar.{Grammar}
use Rattle.language.specs.Matrix.{matrix_of}
use Rattle.language.specs.Loads.{Accepted, load_answer, loaded_bytes, load_bytes}
use Rattle.language.proofs.Loads.{accepted-exactly}
use Rattle.language.specs.Trees.{Span, Reduction, forest_of}
use Rattle.language.specs.Reports.{put_in_order}
use Rattle.language.proofs.ReportOrder.{post-order-stays}
use Rattle.machine.specs.Moves.{Table, Stuck, no_relation, no_rule, not_axiom, side_by_side}
use Rattle.machine.specs.Chunks.{Chunk, stuck}
use Rattle.machine.specs.States.{State, ran, run, unread_from, start, outcome}
use Rattle.machine.specs.TableOf.{table_of, own_table}
use Rattle.machine.proofs.TableOf.{own-end-mark, own-laws}
use Rattle.machine.specs.Answers.{outcome_answer, outcome_out}
use Rattle.results.specs.Runs.{Out, Ends}
use Rattle.results.specs.RunsEnd.{fine_empty, fine_unmarked, run_ends}
use Rattle.machine.specs.Starts.{bottom}
use Rattle.results.specs.Bounded.{most_moves}
use Rattle.results.specs.ReadThrough.{alone, Rested, rests_over, rests_stuck, ends-read-through, run-reads-through}
use Rattle.results.specs.UncutRow.{axiom-of-run, made-in-order}
use Rattle.layout.specs.Layout.{need, zeros, encode, decode, status_word, made_at_word, read_made}
use Rattle.layout.specs.Kept.{Kept}
use Rattle.layout.specs.Lengths.{within-slots, few-reductions, encode-length}
use Rattle.shape.specs.Encoded.{chunks-at, low-moves-at, rest_at}
use Rattle.matrix.specs.GrammarShape.{grammar_in_shape}
use Rattle.shape.specs.ShapeExactly.{HoldsState}
use Rattle.matrix.specs.WordsOfShape.{terminals-fit}
use Rattle.matrix.specs.EndMarkOfShape.{grammar-in-shape, own-shape}
use Rattle.start.specs.StartKept.{no_end}
use Rattle.shape.specs.InShape.{in-shape-holds, holds-in-shape}
use Rattle.shape.specs.Decode.{decode-encode}
use Rattle.shape.specs.Safe.{safe-run, safe-start}
use Rattle.start.specs.Start.{Startable, start_answer}
use Rattle.outcomes.specs.OutcomeWords.{words_outcome, Reportable, outcome-words, reportable}
use Rattle.parse.specs.ParseCall.{ran_outcome, parse_outcome, then_start, parse_begun, parse_answer, parse_area, parse_out}
use Rattle.moving.specs.ReadCall.{read_answer, read_area, read-begins, read-refused, can-start, read-leaves}

-- ---- the definitions

abbrev made_in : List ℕ → List (Reduction Span)
made_in area = read_made (get_or area 4 0) area (made_at_word area)

-- the words of a row of one chunk that rests: one that is not stuck has nothing unread, and its reductions stand in order
pub record Finished (area : List ℕ) : Type 0 where
  pub readable : Reportable area
  pub one_chunk : get_or area 1 0 ≡ 1
  pub ended : get_or area 5 0 < 17 → get_or area 8 0 ≤ get_or area 7 0
  pub ordered : get_or area 5 0 < 17 → put_in_order (made_in area) ≡ made_in area

-- .. of which the outcome is the parse's
pub record Parsed (words tokens rest area : List ℕ) : Type 0 where
  pub finished : Finished area
  pub outcome_is : words_outcome area ≡ parse_outcome words tokens
  pub long : need (length tokens) 1 ≤ length area
  pub rest_is : drop (need (length tokens) 1) area ≡ rest

-- ---- the words of a row of one chunk that rests

module _ (words bytes : List ℕ) (shape : grammar_in_shape words bytes ≡ true) {n : ℕ} {c : Chunk Span} {l : List (Reduction Span)} {moves : ℕ}
    (kept : Kept (count_t words) (count_n words) n (alone c l moves)) (rest : List ℕ) where
  abbrev area : List ℕ
  area = encode n (alone c l moves) ++ rest

  back : decode area ≡ alone c l moves
  back = decode-encode (omega (arith, (terminals-fit words (grammar-in-shape words bytes shape).0).1)) kept rest

  holds-here : HoldsState (count_t words) (count_n words) area (decode area)
  holds-here = in-shape-holds words bytes area (omega (arith, low-moves-at n (alone c l moves) rest)) (holds-in-shape words bytes shape kept rest)

  made-back : made_in area ≡ l
  unfolding decode
  made-back = ap (λ (s : State Span). s.reductions) back

  outcome-back : words_outcome area ≡ outcome (alone c l moves)
  outcome-back = sym (outcome-words area holds-here) ∙ ap outcome back

  status-at : get_or area 5 0 ≡ status_word c.status
  unfolding encode
  status-at = refl

  whole : length area ≡ need n 1 + length rest
  whole = length-append (encode n (alone c l moves)) rest ∙ ap (λ k. k + length rest) (encode-length kept)

  finished : (get_or area 5 0 < 17 → get_or area 8 0 ≤ get_or area 7 0) → (status_word c.status < 17 → put_in_order l ≡ l) → Finished area
  finished ended ordered = record {
    readable = reportable area holds-here;
    one_chunk = chunks-at n (alone c l moves) rest;
    ended = ended;
    ordered = λ h. rw made-back (ordered (omega (arith, status-at)));
  }

-- a stuck chunk's status is 17 to 20
not-below : (why : Stuck) → status_word (stuck why) < 17 → ⊥
not-below no_relation h = omega arith
not-below no_rule h = omega arith
not-below not_axiom h = omega arith
not-below side_by_side h = omega arith

ended_so : (n : ℕ) {c : Chunk Span} (l : List (Reduction Span)) (moves : ℕ) (rest : List ℕ) {o : Out Span} → Rested o c
    → get_or (encode n (alone c l moves) ++ rest) 5 0 < 17 → get_or (encode n (alone c l moves) ++ rest) 8 0 ≤ get_or (encode n (alone c l moves) ++ rest) 7 0
unfolding encode
ended_so n l moves rest rests_over h = omega arith
ended_so n l moves rest (rests_stuck {why = why} b) h = absurd (not-below why h)

-- ---- a row of accepted words

module _ (words : List ℕ) (accepted : Accepted words) where
  abbrev g : Grammar
  g = grammar_of words

  abbrev pub matrix : List ℕ
  matrix = matrix_of g

  abbrev pub table : Table Span
  table = own_table words

  module _ (tokens : List ℕ) {room : ℕ} (can : Startable (record { words = words; matrix = matrix; tokens = tokens; cuts = []; room = room })) where
    -- the reductions of a row read to its end are made in order
    in_order : {l : List (Reduction Span)} {o : Out Span} {c : Chunk Span} → Rested o c → Ends table bottom (unread_from 0 tokens) l o
        → status_word c.status < 17 → put_in_order l ≡ l
    in_order rests_over e h =
        let t = axiom-of-run (own-laws accepted) (own-end-mark accepted) (λ r vs. refl) tokens (no_end can) e in
        let m = made-in-order (own-laws accepted) (own-end-mark accepted) (λ r vs. refl) tokens (no_end can) e t in
        ap put_in_order m ∙ post-order-stays (λ r w s. (own-laws accepted).has_terminal s) 0 (forest_of t.of_root.tree) t.of_root.grown ∙ sym m
    in_order (rests_stuck {why = why} b) e h = absurd (not-below why h)

    abbrev pub budget : ℕ
    budget = most_moves (length tokens) 1

    abbrev pub Runs : ℕ → State Span → Type 0
    Runs made s = run table 0 budget (start tokens []) ≡ ran made s

    pub outcome-run : {made : ℕ} {s : State Span} → Runs made s → outcome s ≡ parse_outcome words tokens
    unfolding parse_outcome
    outcome-run r = ap ran_outcome (sym r)

    -- the words of a run that ends so
    rested-parsed : {l : List (Reduction Span)} {o : Out Span} {c : Chunk Span} {made moves : ℕ} (rest : List ℕ) → Rested o c
        → Ends table bottom (unread_from 0 tokens) l o → Runs made (alone c l moves) → Parsed words tokens rest (encode (length tokens) (alone c l moves) ++ rest)
    rested-parsed {l} {o} {c} {made} {moves} rest rested e r =
        let kept = safe-run words matrix (own-shape accepted) 0 budget (safe-start can) r in
        record {
          finished = finished words matrix (own-shape accepted) kept rest (ended_so (length tokens) l moves rest rested) (in_order rested e);
          outcome_is = outcome-back words matrix (own-shape accepted) kept rest ∙ outcome-run r;
          long = omega (arith, whole words matrix (own-shape accepted) kept rest);
          rest_is = rest_at (length tokens) (alone c l moves) rest (within-slots kept) (few-reductions kept);
        }

    -- the row comes to rest within the budget, in words of which the outcome is the parse's
    pub record RowParsed (rest : List ℕ) : Type 0 where
      pub made : ℕ
      pub last : State Span
      pub runs : Runs made last
      pub parsed : Parsed words tokens rest (encode (length tokens) last ++ rest)

    pub row-parsed : (rest : List ℕ) → RowParsed rest
    row-parsed rest =
        let e = run_ends table (own-end-mark accepted) bottom (unread_from 0 tokens) (fine_unmarked fine_empty) in
        let t = ends-read-through table e.run [] 0 in
        let r = run-reads-through table (own-end-mark accepted) tokens (no_end can) t.through budget (omega arith) in
        record { made = _; last = _; runs = r; parsed = rested-parsed rest t.rested e.run r }

-- ---- the calls of load and read_through

begins-by : (words tokens : List ℕ) (room : ℕ) {loading : Answer} → load_answer words 4096 ≡ loading → parse_begun words tokens room ≡ then_start loading words tokens room
unfolding parse_begun
begins-by words tokens room e = ap (λ a. then_start a words tokens room) e

-- the bytes of an accepted load, where there are just 4,096
loaded-matrix : (words bytes : List ℕ) → length bytes ≡ 4096 → load_answer words (length bytes) ≡ Ok tt
    → load_bytes words bytes ≡ matrix_of (grammar_of words)
unfolding load_bytes
loaded-matrix words bytes long e =
    ap (λ a. loaded_bytes a words bytes) e
    ∙ ap (λ l. matrix_of (grammar_of words) ++ l) (drop_of_length-le bytes {i = 4096} (omega arith)) ∙ append-nil (matrix_of (grammar_of words))

-- words that load accepts, and the matrix that it writes
pub record Loaded (words bytes : List ℕ) : Type 0 where
  pub loads : load_answer words 4096 ≡ Ok tt
  pub matrix_is : bytes ≡ matrix_of (grammar_of words)

-- what is known once the grammar is loaded and the row read through: an answer that refuses is the parse's, with the area as it was; else the words are parsed
pub record Read (words tokens area : List ℕ) (answer : Answer) (area' : List ℕ) : Type 0 where
  pub begins : parse_begun words tokens (length area) ≡ answer
  pub kept : {refusal : Refusal} → answer ≡ Err refusal → area' ≡ area
  pub parsed : answer ≡ Ok tt → Parsed words tokens (drop (need (length tokens) 1) area) area'

pub not-loaded : (words tokens area : List ℕ) {loading : Answer} → loading ≡ load_answer words 4096 → {refusal : Refusal} → loading ≡ Err refusal
    → Read words tokens area (Err refusal) area
not-loaded words tokens area load e = record {
  begins = begins-by words tokens (length area) (sym load ∙ e);
  kept = λ q. refl;
  parsed = λ q. let z : ◌≡◌ {A = ℕ} 0 1 = cc in absurd (omega arith);
}

pub loaded : (words bytes : List ℕ) → length bytes ≡ 4096 → {loading : Answer} → loading ≡ load_answer words (length bytes) → loading ≡ Ok tt
    → {bytes' : List ℕ} → bytes' ≡ load_bytes words bytes → Loaded words bytes'
loaded words bytes long load done fills = record {
  loads = ap (load_answer words) (sym long) ∙ sym load ∙ done;
  matrix_is = fills ∙ loaded-matrix words bytes long (sym load ∙ done);
}

module _ {words bytes : List ℕ} (l : Loaded words bytes) (tokens area : List ℕ) {area' : List ℕ} {reading : Answer}
    (answers : reading ≡ read_answer words bytes tokens (length area)) (leaves : area' ≡ read_area words bytes tokens area) where
  abbrev rest : List ℕ
  rest = drop (need (length tokens) 1) area

  row_read : reading ≡ Ok tt → Parsed words tokens rest area'
  row_read done =
      let starts = can-start words bytes tokens area (sym answers ∙ done) in
      let can = subst (λ m. Startable (record { words = words; matrix = m; tokens = tokens; cuts = []; room = length area })) l.matrix_is starts in
      let r = row-parsed words ((accepted-exactly words 4096).0 l.loads).0 tokens can rest in
      let most : most_moves (length tokens) 1 ≡ 2 * length tokens + 2 = omega arith in
      let q = subst (λ m. run (table_of words m) 0 (most_moves (length tokens) 1) (start tokens []) ≡ ran r.made r.last) (sym l.matrix_is) r.runs in
      let t = subst (λ k. run (table_of words bytes) 0 k (start tokens []) ≡ ran r.made r.last) most q in
      subst (Parsed words tokens rest) (sym (leaves ∙ read-leaves words bytes tokens area (sym answers ∙ done) t)) r.parsed

  pub loaded-read : Read words tokens area reading area'
  loaded-read = record {
    begins =
        begins-by words tokens (length area) l.loads ∙ ap (λ m. start_answer words m tokens [] (length area)) (sym l.matrix_is)
        ∙ sym (read-begins words bytes tokens area) ∙ sym answers;
    kept = λ e. leaves ∙ read-refused words bytes tokens area (sym answers ∙ e);
    parsed = row_read;
  }

-- ---- the parse

module _ {words tokens area : List ℕ} (out : List ℕ) {area' : List ℕ} {reading : Answer} (r : Read words tokens area reading area') where
  -- what parse's contract says of an answer, the area and the report run then
  abbrev pub Answers : ReportAnswer → List ℕ → List ℕ → Type 0
  Answers answer area'' out' =
      (answer ≡ parse_answer words tokens (length area) (length out))
      × ((area'' ≡ parse_area words tokens area) × (out' ≡ parse_out words tokens (length area) out))

  pub not-read : {refusal : Refusal} → reading ≡ Err refusal → Answers (Err refusal) area' out
  unfolding parse_answer parse_area parse_out
  not-read e = rw (r.begins ∙ e) (refl, (r.kept e, refl))

  -- the row's outcome and its words cleared are the parse
  pub row-parses : reading ≡ Ok tt → {area'' : List ℕ} {answer : ReportAnswer} {out' : List ℕ}
      → answer ≡ outcome_answer (words_outcome area') (length out) → out' ≡ outcome_out (words_outcome area') out
      → area'' ≡ zeros (7 * length tokens + 18) ++ drop (7 * length tokens + 18) area' → Answers answer area'' out'
  unfolding parse_answer parse_area parse_out
  row-parses done a o z =
      let p = r.parsed done in
      let most : 7 * length tokens + 18 ≡ need (length tokens) 1 = omega arith in
      let cleared : zeros (7 * length tokens + 18) ++ drop (7 * length tokens + 18) area' ≡ zeros (need (length tokens) 1) ++ drop (need (length tokens) 1) area =
      ap (λ k. zeros k ++ drop k area') most ∙ ap (λ w. zeros (need (length tokens) 1) ++ w) p.rest_is in
      rw (r.begins ∙ done)
      (a ∙ ap (λ v. outcome_answer v (length out)) p.outcome_is, (z ∙ cleared, o ∙ ap (λ v. outcome_out v out) p.outcome_is))
