-- The outcome of a row, read off the words of an area in shape: whether chunk 0 is the only live chunk, its status, its head and end,
-- the reductions made and the count of moves. Nothing is parsed anew.
-- Document 01: "a report writes just these reductions, put in order, and gives this count, and parses nothing anew"; "16 UNFINISHED:
-- several chunks live, or the one not at rest"; "17 .. 20: the finished row stuck so", with the place of the unread symbol.
-- Rests on refusals' stuck_refusal, on layout's Layout and Kept and shape's Encoded and ShapeExactly, and on machine's States.
--
-- Main definitions: none_live, words_report, words_outcome, Reportable. Main statements: outcome-words, reportable.
use Rattle.std.specs.Prelude.{◌≡◌, refl, Bool, true, false, List, [], ◌∷◌, ◌++◌, ℕ, zero, suc, ◌+◌, ◌*◌, ◌-◌, ◌≤◌, ◌<◌, eqb, ltb, leb, length, get_or, drop}
use Rattle.std.proofs.Common.{sym, ap, ◌∙◌, add-zero, zero-add, arith, length-append}
use Rattle.std.proofs.Math.Option.{Option, none, some}
use Rattle.laws.specs.Picks.{pick}
use Rattle.laws.specs.Parts.{drop_past, get_d_past}
use Rattle.laws.specs.Tests.{lt-ltb, le-ltb}
use Rattle.refusals.specs.declared.Refusal.TheVariants.{Unfinished, NoRelation, NoRule, NotAxiom, SideBySide}
use Rattle.refusals.specs.Refusals.{stuck_refusal}
use Rattle.language.specs.Symbols.{Symbol, terminal, nonterminal}
use Rattle.language.specs.Trees.{Span, Reduction}
use Rattle.language.specs.Reports.{put_in_order}
use Rattle.machine.specs.Entries.{Unread, symbol, value_of, Entry, stack_symbols}
use Rattle.machine.specs.Moves.{no_relation, no_rule, not_axiom, side_by_side}
use Rattle.machine.specs.Chunks.{Status, running, stuck, Chunk}
use Rattle.machine.specs.States.{State, Outcome, refused_row, reported, live, outcome_of, outcome_of_live, outcome}
use Rattle.machine.specs.Starts.{symbols_along}
use Rattle.layout.specs.Layout.{need, size, stack_size, unread_size, chunk_size, status_word, row, rows, encode, made_at_word, span_at, read_made, moves_in, decode}
use Rattle.layout.specs.Kept.{Lies, first_end, last_end, within, Tiles, tile, FirstLive, first_live, not_stuck, stuck_fine, AllStuckFine, and_chunk}
use Rattle.layout.specs.Lengths.{stack-size, tiles-end, encode-length, few-reductions}
use Rattle.shape.specs.Tiling.{tiles-split}
use Rattle.shape.specs.Walks.{status-word}
use Rattle.shape.specs.Encoded.{from_slots, table-at, count_at}
use Rattle.shape.specs.ShapeExactly.{HoldsState}

-- ---- the definitions

-- no chunk of so many rows of the table, from word i on, is live
abbrev pub none_live : ℕ → List ℕ → ℕ → Bool
none_live zero area i = true
none_live (suc k) area i = pick (eqb (get_or area i 0) 0) (none_live k area (i + 5)) false

-- the report of the reductions that the area holds
unfoldable pub words_report : List ℕ → Outcome
words_report area = reported (put_in_order (read_made (get_or area 4 0) area (made_at_word area))) (moves_in area)

-- chunk 0 alone is live and stuck; alone and not at rest; alone with nothing unread; not alone
unfoldable pub words_outcome : List ℕ → Outcome
words_outcome area =
    pick (none_live (get_or area 1 0 - 1) area 10)
    (pick (leb 17 (get_or area 5 0)) (refused_row (stuck_refusal (get_or area 5 0) (get_or area 7 0 - 1)))
    (pick (ltb (get_or area 7 0) (get_or area 8 0)) (refused_row Unfinished) (words_report area)))
    (refused_row Unfinished)

-- what is read lies within the area; there are at most 16,384 reductions; chunk 0 has something on its stack
pub record Reportable (area : List ℕ) : Type 0 where
  pub some_chunk : 1 ≤ get_or area 1 0
  pub within_area : made_at_word area + 3 * get_or area 4 0 ≤ length area
  pub few : get_or area 4 0 ≤ 16384
  pub on_stack : 1 ≤ get_or area 7 0

-- ---- the rows of the table

abbrev is_none : {A : Type 0} → List A → Bool
is_none [] = true
is_none (x ∷ l) = false

none-live : (area : List ℕ) (chunks : List (Option (Chunk Span))) (from i : ℕ) (after : List ℕ) → drop i area ≡ rows from chunks ++ after
    → none_live (length chunks) area i ≡ is_none (live chunks)
none-live area [] from i after d = refl
none-live area (none ∷ chunks) from i after d =
    let z : get_or area i 0 ≡ get_or area (i + 0) 0 = ap (λ j. get_or area j 0) (sym (add-zero i)) in
    let w : get_or area i 0 ≡ 0 = z ∙ get_d_past area i 0 _ d in
    rw w (none-live area chunks (from + 0) (i + 5) after (drop_past area i (i + 5) (row from none) (rows (from + 0) chunks ++ after) refl d))
none-live area (some c ∷ chunks) from i after d =
    let z : get_or area i 0 ≡ get_or area (i + 0) 0 = ap (λ j. get_or area j 0) (sym (add-zero i)) in
    let w : eqb (get_or area i 0) 0 ≡ false = ap (λ x. eqb x 0) (z ∙ get_d_past area i 0 _ d) ∙ status-word c.status in
    rw w

-- chunk 0's row, and the rows after it
module _ (area : List ℕ) (c : Chunk Span) (others : List (Option (Chunk Span))) (after : List ℕ) (d : drop 5 area ≡ rows 0 (some c ∷ others) ++ after) where
  at : (k : ℕ) → get_or area (5 + k) 0 ≡ get_or (rows 0 (some c ∷ others) ++ after) k 0
  at k = get_d_past area 5 k _ d

  status-at : get_or area 5 0 ≡ status_word c.status
  status-at = at 0

  head_at : get_or area 7 0 ≡ stack_size c.stack
  head_at = at 2 ∙ zero-add (stack_size c.stack)

  end-at : get_or area 8 0 ≡ stack_size c.stack + unread_size c.unread
  end-at = at 3 ∙ zero-add (stack_size c.stack + unread_size c.unread)

  others-at : none_live (length others) area 10 ≡ is_none (live others)
  others-at =
      none-live area others (0 + chunk_size (some c)) 10 after
      (drop_past area 5 10 (row 0 (some c)) (rows (0 + chunk_size (some c)) others ++ after) refl d)

-- ---- the place of the next symbol

span-first : (x : Symbol) (s k : ℕ) → (span_at x s k).first ≡ s - 1
span-first (terminal zero) s k = refl
span-first (terminal (suc a)) s k = refl
span-first (nonterminal j) s k = refl

lies-first : {n s : ℕ} {x : Unread Span} → Lies n s x → (value_of x).first ≡ s - 1
lies-first {s = s} {x = x} (first_end q e v) = ap (λ (p : Span). p.first) v ∙ span-first (symbol x) s (size x)
lies-first {s = s} {x = x} (last_end q e v) = ap (λ (p : Span). p.first) v ∙ span-first (symbol x) s (size x)
lies-first {s = s} {x = x} (within l h e v) = ap (λ (p : Span). p.first) v ∙ span-first (symbol x) s (size x)

-- the next symbol of a chunk whose words start at slot 0 stands where its stack ends
next-first : {n e : ℕ} (stack : List (Entry Span)) (b : Unread Span) (rest : List (Unread Span)) → Tiles n 0 (stack_symbols stack ++ (b ∷ rest)) e
    → (value_of b).first ≡ stack_size stack - 1
next-first {n} stack b rest t = let p = tiles-split (stack_symbols stack) (b ∷ rest) t in go p.left p.right
  where
    go : {m e : ℕ} → Tiles n 0 (stack_symbols stack) m → Tiles n m (b ∷ rest) e → (value_of b).first ≡ stack_size stack - 1
    go l (tile b r) = lies-first b ∙ omega (arith, tiles-end l, stack-size stack)

-- ---- the outcome of the one live chunk

module _ (head : ℕ) (reductions : List (Reduction Span)) (moves : ℕ) where
  abbrev chunk_outcome : ℕ → ℕ → Outcome
  chunk_outcome status end =
      pick (leb 17 status) (refused_row (stuck_refusal status (head - 1)))
      (pick (ltb head end) (refused_row Unfinished) (reported (put_in_order reductions) moves))

  -- a stuck chunk has something unread, and the next symbol stands at the head
  one-outcome : (status : Status) (unread : List (Unread Span)) → (unread ≡ [] → status ≡ running)
      → ((b : Unread Span) (rest : List (Unread Span)) → unread ≡ b ∷ rest → (value_of b).first ≡ head - 1)
      → outcome_of status unread reductions moves ≡ chunk_outcome (status_word status) (head + unread_size unread)
  one-outcome running [] fine next = rw (le-ltb head (head + 0) (omega arith))
  one-outcome running (b ∷ rest) fine next = rw (lt-ltb head (head + (size b + unread_size rest)) (omega arith))
  one-outcome (stuck why) [] fine next = let e = fine refl in let z : ◌≡◌ {A = ℕ} 0 1 = cc in absurd (omega arith)
  one-outcome (stuck no_relation) (b ∷ rest) fine next = ap (λ place. refused_row (NoRelation place)) (next b rest refl)
  one-outcome (stuck no_rule) (b ∷ rest) fine next = ap (λ place. refused_row (NoRule place)) (next b rest refl)
  one-outcome (stuck not_axiom) (b ∷ rest) fine next = ap (λ place. refused_row (NotAxiom place)) (next b rest refl)
  one-outcome (stuck side_by_side) (b ∷ rest) fine next = ap (λ place. refused_row (SideBySide place)) (next b rest refl)

  -- .. and of a chunk beside others
  live-outcome : (c : Chunk Span) (others : List (Chunk Span)) → outcome_of_live (c ∷ others) reductions moves
      ≡ pick (is_none others) (outcome_of c.status c.unread reductions moves) (refused_row Unfinished)
  live-outcome c [] = refl
  live-outcome c (d ∷ others) = refl

-- ---- the whole

unread-unless : {c : Chunk Span} {chunks : List (Chunk Span)} → AllStuckFine (c ∷ chunks) → c.unread ≡ [] → c.status ≡ running
unread-unless (and_chunk (not_stuck e) f) q = e
unread-unless (and_chunk (stuck_fine h m) f) q = absurd (h q)

some_size : (stack : List (Entry Span)) → 0 < length stack → 1 ≤ stack_size stack
some_size [] h = absurd (omega arith)
some_size (x ∷ stack) h = omega arith

module _ {t N : ℕ} (area : List ℕ) where
  -- the rows of the table
  table_of : (s : State Span) → HoldsState t N area s
      → drop 5 area ≡ rows 0 s.chunks ++ from_slots (get_or area 0 0) s (drop (need (get_or area 0 0) (get_or area 1 0)) area)
  table_of s h = ap (drop 5) h.is ∙ table-at (get_or area 0 0) s (drop (need (get_or area 0 0) (get_or area 1 0)) area)

  outcome-of : (chunks : List (Option (Chunk Span))) (reductions : List (Reduction Span)) (moves : ℕ)
      → HoldsState t N area (record { chunks = chunks; reductions = reductions; moves = moves }) → FirstLive chunks
      → outcome_of_live (live chunks) reductions moves
      ≡ pick (none_live (get_or area 1 0 - 1) area 10) (chunk_outcome (get_or area 7 0) reductions moves (get_or area 5 0) (get_or area 8 0)) (refused_row Unfinished)
  outcome-of chunks reductions moves h (first_live {c = c} {chunks = others} l) =
      let k = h.kept in
      let after : List ℕ = from_slots (get_or area 0 0) (record { chunks = chunks; reductions = reductions; moves = moves }) (drop (need (get_or area 0 0) (get_or area 1 0)) area) in
      let d = table_of (record { chunks = chunks; reductions = reductions; moves = moves }) h in
      let e : get_or area 1 0 - 1 ≡ length others = omega (arith, h.chunks_are) in
      let next : (b : Unread Span) (rest : List (Unread Span)) → c.unread ≡ b ∷ rest → (value_of b).first ≡ stack_size c.stack - 1 =
      λ b rest q. next-first c.stack b (rest ++ symbols_along (live others)) (rw q at k.tiles) in
      rw (
        live-outcome (stack_size c.stack) reductions moves c (live others),
        e,
        others-at area c others after d,
        head_at area c others after d,
        status-at area c others after d,
        end-at area c others after d,
        one-outcome (stack_size c.stack) reductions moves c.status c.unread (unread-unless k.stuck_fine) next,
      )

  pub outcome-words : HoldsState t N area (decode area) → outcome (decode area) ≡ words_outcome area
  unfolding decode words_report words_outcome
  outcome-words h = outcome-of (decode area).chunks (decode area).reductions (decode area).moves h h.kept.first

  reportable-of : (chunks : List (Option (Chunk Span))) (reductions : List (Reduction Span)) (moves : ℕ)
      → HoldsState t N area (record { chunks = chunks; reductions = reductions; moves = moves }) → FirstLive chunks → Reportable area
  reportable-of chunks reductions moves h (first_live {c = c} {chunks = others} l) =
      let n : ℕ = get_or area 0 0 in
      let s : State Span = record { chunks = chunks; reductions = reductions; moves = moves } in
      let rest : List ℕ = drop (need n (get_or area 1 0)) area in
      let made : get_or area 4 0 ≡ length reductions = ap (λ l. get_or l 4 0) h.is ∙ count_at n s rest in
      let all : length area ≡ need n (length chunks) + length rest = ap length h.is ∙ length-append (encode n s) rest ∙ ap (λ k. k + length rest) (encode-length h.kept) in
      record {
        some_chunk = omega (arith, h.chunks_are);
        within_area = omega (arith, h.chunks_are, few-reductions h.kept);
        few = omega (arith, few-reductions h.kept, h.kept.few_tokens);
        on_stack = omega (arith, head_at area c others (from_slots n s rest) (table_of s h), some_size c.stack l);
      }

  pub reportable : HoldsState t N area (decode area) → Reportable area
  reportable h = reportable-of (decode area).chunks (decode area).reductions (decode area).moves h h.kept.first
