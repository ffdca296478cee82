-- The accepting move: what `accept_words` makes of a state's words, and what it asks of them; and what the accepting move tells of a
-- row: its # is the last symbol, and one chunk alone is live.
-- Document 01, "Moves of a chunk": "for # over #, if the stack is # and an axiom read #, the stack unchanged".
-- Rests on AroundChunk and MoveWords, and on shape's Tiling.
--
-- Main statements: accept-law, accept-ready, accepting-last.
use Rattle.std.specs.Prelude.{◌≡◌, Bool, length, set}
use Rattle.std.proofs.Math.Path.{refl}
use Rattle.std.proofs.Common.{sym, ap, ◌∙◌, add-zero, length-append}
use mathlib.Core.List.{List, [], ◌∷◌, ◌++◌, append-nil}
use Rattle.std.proofs.Math.Option.{Option, some}
use Prim.Native.Nat.{ℕ, suc, ◌+◌, ◌*◌, ◌-◌, ◌<◌, ◌≤◌}
use native.Mathlib.Omega.{arith}
use Rattle.laws.specs.Parts.{flat, set-part}
use Rattle.language.specs.Trees.{Span, Reduction}
use Rattle.machine.specs.Entries.{Unread, terminal_at, nonterminal_at, Entry, terminal_on, nonterminal_on}
use Rattle.machine.specs.Chunks.{Status, Chunk}
use Rattle.machine.specs.States.{State, made_at, live}
use Rattle.machine.specs.Starts.{symbols_along}
use Rattle.machine.specs.Allowed.{AllGone, Live}
use Rattle.layout.specs.Layout.{size, unread_size, block, stack_size, stack_words, marks, status_word, total, tail_words, encode, table_at}
use Rattle.layout.specs.Lengths.{length-stack, length-rows, length-slots}
use Rattle.layout.specs.Kept.{Tiles, Kept}
use Rattle.shape.specs.Encoded.{chunks-at}
use Rattle.layout.specs.RowCounts.{no_symbol}
use Rattle.shape.specs.Tiling.{end-is-last}
use Rattle.moving.specs.MoveWords.{end_of, ended_words, accept_words, Acceptable}
use Rattle.moving.specs.KeptAround.{symbols-around, nothing_live}
use Rattle.moving.specs.AroundChunk.{slots-count, finer_parts, around-finer, tick-law, gone-rows, gone-slots, gone-total, listed-words}
use Rattle.moving.specs.AroundChunk.{read-words, head-word, end-word, number-within, few-moves, slots-within, ends_within}

module _ (n : ℕ) (earlier : List (Option (Chunk Span))) (stack : List (Entry Span)) (v : Span) (status : Status) (later : List (Option (Chunk Span)))
    (gone : AllGone later) (reductions : List (Reduction Span)) (moves : ℕ) (rest : List ℕ) (fits : total earlier + (stack_size stack + 1) ≤ n + 2) where
  abbrev state : Chunk Span → ℕ → State Span
  state chunk w = record { chunks = earlier ++ (some chunk ∷ later); reductions = reductions; moves = w }

  abbrev reader : Chunk Span
  reader = record { stack = stack; unread = terminal_at 0 v ∷ []; status = status }

  abbrev accepted : Chunk Span
  accepted = record { stack = stack; unread = []; status = status }

  abbrev row_of : ℕ → List ℕ
  row_of end = status_word status ∷ total earlier ∷ (total earlier + stack_size stack) ∷ end ∷ marks stack ∷ []

  -- the words after all slots but the last
  abbrev tail : List (List ℕ)
  tail = tail_words n (total earlier + (stack_size stack + 1 + total later)) reductions ∷ rest ∷ []

  abbrev parts : ℕ → ℕ → List ℕ → List (List ℕ)
  parts w end last = finer_parts n earlier later w (length reductions) (row_of end) (stack_size stack + 1) (stack_words stack) last [] tail

  was : encode n (state reader moves) ++ rest ≡ flat (parts moves (total earlier + (stack_size stack + 1)) (0 ∷ 0 ∷ 1 ∷ 1 ∷ []))
  unfolding block
  was =
      around-finer n earlier (some reader) later reductions moves rest (row_of (total earlier + (stack_size stack + 1))) (stack_size stack + 1)
      (stack_words stack) (0 ∷ 0 ∷ 1 ∷ 1 ∷ []) [] tail refl refl refl (simp append-nil)

  -- a slot more is free
  freed : tail_words n (total earlier + (stack_size stack + total later)) reductions
      ≡ 0 ∷ 0 ∷ 0 ∷ 0 ∷ tail_words n (total earlier + (stack_size stack + 1 + total later)) reductions
  freed =
      let e : 4 * (n + 2 - (total earlier + (stack_size stack + total later)))
      ≡ suc (suc (suc (suc (4 * (n + 2 - (total earlier + (stack_size stack + 1 + total later))))))) = omega (arith, gone-total gone) in
      rw e

  will : encode n (state accepted (moves + 1)) ++ rest ≡ flat (parts (moves + 1) (total earlier + stack_size stack) (0 ∷ 0 ∷ 0 ∷ 0 ∷ []))
  will =
      around-finer n earlier (some accepted) later reductions (moves + 1) rest (row_of (total earlier + stack_size stack)) (stack_size stack) (stack_words stack) [] []
      ((0 ∷ 0 ∷ 0 ∷ 0 ∷ []) ∷ tail) (rw add-zero) (add-zero (stack_size stack)) refl (rw freed (simp append-nil))
      ∙ rw (gone-slots gone, gone-rows gone (total earlier + stack_size stack) (total earlier + (stack_size stack + 1)))

  module _ (c : ℕ) (number : length earlier ≡ c) where
    abbrev here : Live (state reader moves).chunks c
    here = record { before = earlier; chunk = reader; after = later; number_is = number; chunks_are = refl }

    -- the word where the last slot starts
    abbrev at : ℕ
    at = 5 + 5 * (length earlier + suc (length later)) + 4 * (total earlier + stack_size stack)

    abbrev end : ℕ
    end = total earlier + (stack_size stack + 1)

    cleared : (j a b d e : ℕ) (last : List ℕ) → last ≡ a ∷ b ∷ d ∷ e ∷ [] → j < 4 → set (flat (parts moves end last)) (at + j) 0 ≡ flat (parts moves end (set last j 0))
    cleared j a b d e last q h =
        set-part (parts moves end last) 6 (at + j) j 0
        (omega (arith, length-rows 0 earlier, length-rows (total earlier + (stack_size stack + 1)) later, length-slots earlier, length-stack stack))
        (omega (arith, ap length q))

    tabled : (v : ℕ) → set (flat (parts moves end (0 ∷ 0 ∷ 0 ∷ 0 ∷ []))) (table_at c 3) v ≡ flat (parts moves v (0 ∷ 0 ∷ 0 ∷ 0 ∷ []))
    tabled v = set-part (parts moves end (0 ∷ 0 ∷ 0 ∷ 0 ∷ [])) 2 (table_at c 3) 3 v (omega (arith, length-rows 0 earlier)) (omega arith)

    law : accept_words (encode n (state reader moves) ++ rest) c ≡ encode n (state accepted (moves + 1)) ++ rest
    unfolding accept_words ended_words
    law =
        let st : State Span = state reader moves in
        let i : total earlier + (stack_size stack + 1) - 1 ≡ total earlier + stack_size stack = omega arith in
        rw (
          end-word n st rest here,
          i,
          was,
          will,
          cleared 0 0 0 1 1 (0 ∷ 0 ∷ 1 ∷ 1 ∷ []) refl (omega arith),
          cleared 1 0 0 1 1 (0 ∷ 0 ∷ 1 ∷ 1 ∷ []) refl (omega arith),
          cleared 2 0 0 1 1 (0 ∷ 0 ∷ 1 ∷ 1 ∷ []) refl (omega arith),
          cleared 3 0 0 0 1 (0 ∷ 0 ∷ 0 ∷ 1 ∷ []) refl (omega arith),
          tabled,
        )
        (tick-law n (length earlier + suc (length later)) moves (length reductions) _)

module _ (n : ℕ) (s : State Span) (rest : List ℕ) {c : ℕ} (l : Live s.chunks c) (v : Span) (next : l.chunk.unread ≡ terminal_at 0 v ∷ []) where
  -- chunk c, which is the last live one, has read the # of the end
  pub accept-law : AllGone l.after → total s.chunks ≤ n + 2
      → accept_words (encode n s ++ rest) c ≡ encode n (made_at c s [] (record { stack = l.chunk.stack; unread = []; status = l.chunk.status })) ++ rest
  accept-law gone fits =
      let f : total l.before + (stack_size l.chunk.stack + 1) ≤ n + 2 = omega (arith, fits, rw next at (slots-count n s rest l)) in
      ap (λ (words : List ℕ). accept_words words c) (listed-words n s rest l (λ i. record { stack = l.chunk.stack; unread = next i; status = l.chunk.status }))
      ∙ law n l.before l.chunk.stack v l.chunk.status l.after gone s.reductions s.moves rest f c l.number_is
      ∙ sym (read-words n s rest l (record { stack = l.chunk.stack; unread = []; status = l.chunk.status }))

pub accept-ready : {t N n : ℕ} {s : State Span} (k : Kept t N n s) (rest : List ℕ) {c : ℕ} (l : Live s.chunks c) (x : Unread Span) (unread : List (Unread Span))
    → l.chunk.unread ≡ x ∷ unread → Acceptable (encode n s ++ rest) c
accept-ready {n = n} {s = s} k rest {c} l x unread next =
    let end : end_of (encode n s ++ rest) c ≡ total l.before + (stack_size l.chunk.stack + (size x + unread_size unread)) = rw next at (end-word n s rest l) in
    let inside : total l.before + (stack_size l.chunk.stack + (size x + unread_size unread)) ≤ n + 2 = rw next at (ends_within k rest l) in
    record {
      few = few-moves k rest;
      chunk = rw (chunks-at n s rest) (number-within n s rest l);
      some = omega arith;
      unread = omega (arith, head-word n s rest l);
      room = omega (arith, slots-within k rest);
    }

-- what the accepting move tells of a row that keeps the rules: the # read is its last symbol, and no later chunk is live
pub record IsLast (unread : List (Unread Span)) (later : List (Option (Chunk Span))) : Type 0 where
  pub no_more : unread ≡ []
  pub all_gone : AllGone later

pub accepting-last : {t N n : ℕ} {s : State Span} (k : Kept t N n s) {c : ℕ} (l : Live s.chunks c) (j : ℕ) (mark : Bool) (u w v : Span) (unread : List (Unread Span))
    → l.chunk.stack ≡ nonterminal_on j u ∷ terminal_on mark 0 w ∷ [] → l.chunk.unread ≡ terminal_at 0 v ∷ unread → IsLast unread l.after
accepting-last {n = n} k l j mark u w v unread stack_is unread_is =
    let others : List (Unread Span) = symbols_along (live l.after) in
    let around : Tiles n 0 (symbols_along (live l.before) ++ (terminal_at 0 w ∷ nonterminal_at j u ∷ terminal_at 0 v ∷ (unread ++ others))) k.end =
    rw (stack_is, unread_is) at (rw (symbols-around k l) at k.tiles) in
    let e = end-is-last (symbols_along (live l.before)) (unread ++ others) (terminal_at 0 w) (nonterminal_at j u) (terminal_at 0 v) refl refl around in
    let none_left : length unread + length others ≡ 0 = sym (length-append unread others) ∙ ap length e.no_after in
    record { no_more = no_symbol unread (omega arith); all_gone = nothing_live k l (no_symbol others (omega arith)) }
