-- A symbol put on a stack: what `push_words` makes of a state's words, and what it asks of them.
-- Document 01, "Moves of a chunk": "put it on the stack", "put b on, marked", "put b on, unmarked".
-- Rests on AroundChunk and MoveWords.
--
-- Main statements: push-law, push-ready.
use Rattle.std.specs.Prelude.{◌≡◌, true, false, List, [], ◌∷◌, ◌++◌, length, set}
use Rattle.std.proofs.Math.Path.{refl}
use Rattle.std.proofs.Common.{sym, ap, ◌∙◌, append_assoc, append-nil}
use Rattle.std.proofs.Math.Option.{Option, some}
use Prim.Native.Nat.{ℕ, suc, ◌+◌, ◌*◌, ◌≤◌}
use native.Mathlib.Omega.{arith}
use Rattle.laws.specs.Parts.{flat, before, set-part}
use Rattle.language.specs.Trees.{Span, Reduction}
use Rattle.machine.specs.Entries.{Unread, Entry, terminal_on, nonterminal_on, unmarked}
use Rattle.machine.specs.Chunks.{Status, Chunk}
use Rattle.machine.specs.States.{State, made_at}
use Rattle.machine.specs.Allowed.{Live}
use Rattle.layout.specs.Layout.{size, block, mark_word, stack_size, stack_words, marks, unread_size, unread_words, status_word, total, tail_words, encode, table_at, slot_word}
use Rattle.layout.specs.Lengths.{length-block, length-stack, length-rows, length-slots}
use Rattle.layout.specs.Kept.{Kept}
use Rattle.shape.specs.Encoded.{chunks-at}
use Rattle.moving.specs.MoveWords.{head_of, marks_of, put_words, push_words, Pushable}
use Rattle.moving.specs.AroundChunk.{finer_parts, around-finer, tick-law, listed-words, read-words, head-word, marks-word}
use Rattle.moving.specs.AroundChunk.{next-size, next_last, from-word, number-within, few-moves, slots-within, ends_within}

-- a stack has no more marks than slots
pub marks-few : (stack : List (Entry Span)) → marks stack ≤ stack_size stack
marks-few [] = omega arith
marks-few (terminal_on true a v ∷ stack) = omega (arith, marks-few stack)
marks-few (terminal_on false a v ∷ stack) = omega (arith, marks-few stack)
marks-few (nonterminal_on k v ∷ stack) = omega (arith, marks-few stack)

-- the words before and after, in the same parts
module _ (n : ℕ) (earlier : List (Option (Chunk Span))) (stack : List (Entry Span)) (e : Entry Span) (unread : List (Unread Span)) (status : Status)
    (later : List (Option (Chunk Span))) (reductions : List (Reduction Span)) (moves : ℕ) (rest : List ℕ) where
  abbrev x : Unread Span
  x = unmarked e

  -- the chunk's slots
  abbrev k : ℕ
  k = stack_size stack + (size x + unread_size unread)

  abbrev row_of : ℕ → ℕ → List ℕ
  row_of head marked = status_word status ∷ total earlier ∷ head ∷ (total earlier + k) ∷ marked ∷ []

  abbrev tail : List (List ℕ)
  tail = tail_words n (total earlier + (k + total later)) reductions ∷ rest ∷ []

  abbrev parts : ℕ → List ℕ → ℕ → List (List ℕ)
  parts v r mark = finer_parts n earlier later v (length reductions) r k (stack_words stack) (block mark x) (unread_words unread) tail

  abbrev state : Chunk Span → ℕ → State Span
  state chunk v = record { chunks = earlier ++ (some chunk ∷ later); reductions = reductions; moves = v }

  abbrev reader : Chunk Span
  reader = record { stack = stack; unread = x ∷ unread; status = status }

  abbrev pushed : Chunk Span
  pushed = record { stack = e ∷ stack; unread = unread; status = status }

  abbrev old : List (List ℕ)
  old = parts moves (row_of (total earlier + stack_size stack) (marks stack)) 0

  was : encode n (state reader moves) ++ rest ≡ flat old
  was =
      around-finer n earlier (some reader) later reductions moves rest (row_of (total earlier + stack_size stack) (marks stack)) k
      (stack_words stack) (block 0 x) (unread_words unread) tail refl refl refl (simp append-nil)

  will : encode n (state pushed (moves + 1)) ++ rest ≡ flat (parts (moves + 1) (row_of (total earlier + (stack_size stack + size x)) (marks stack + mark_word e)) (mark_word e))
  will =
      let i : stack_size stack + size x + unread_size unread ≡ k = omega arith in
      around-finer n earlier (some pushed) later reductions (moves + 1) rest (row_of (total earlier + (stack_size stack + size x)) (marks stack + mark_word e)) k (stack_words stack)
      (block (mark_word e) x) (unread_words unread) tail (rw i) i (append_assoc (stack_words stack) (block (mark_word e) x) (unread_words unread)) (simp append-nil)

  module _ (c : ℕ) (number : length earlier ≡ c) where
    abbrev here : Live (state reader moves).chunks c
    here = record { before = earlier; chunk = reader; after = later; number_is = number; chunks_are = refl }

    -- the word where the next unread symbol starts
    abbrev at : ℕ
    at = 5 + 5 * (length earlier + suc (length later)) + 4 * (total earlier + stack_size stack)

    at_slot : at ≡ before old 6
    at_slot = omega (arith, length-rows 0 earlier, length-rows (total earlier + k) later, length-slots earlier, length-stack stack)

    marked : (v : ℕ) → set (flat old) (at + 1) v ≡ flat (parts moves (row_of (total earlier + stack_size stack) (marks stack)) v)
    unfolding block
    marked v = set-part old 6 (at + 1) 1 v (omega (arith, at_slot)) (omega (arith, length-block 0 x))

    tabled : (mark head marked : ℕ) → set (set (flat (parts moves (row_of (total earlier + stack_size stack) (marks stack)) mark)) (table_at c 2) head) (table_at c 4) marked
        ≡ flat (parts moves (row_of head marked) mark)
    tabled mark head marked =
        rw (set-part (parts moves (row_of (total earlier + stack_size stack) (marks stack)) mark) 2 (table_at c 2) 2 head (omega (arith, length-rows 0 earlier)) (omega arith))
        (set-part (parts moves (row_of head (marks stack)) mark) 2 (table_at c 4) 4 marked (omega (arith, length-rows 0 earlier)) (omega arith))

    law : push_words (encode n (state reader moves) ++ rest) c (mark_word e) ≡ encode n (state pushed (moves + 1)) ++ rest
    unfolding push_words put_words
    law =
        let i : total earlier + stack_size stack + size x ≡ total earlier + (stack_size stack + size x) = omega arith in
        let st : State Span = state reader moves in
        rw (next-size n st rest here x unread refl, head-word n st rest here, marks-word n st rest here, was, will, marked, tabled, i)
        (tick-law n (length earlier + suc (length later)) moves (length reductions) _)

module _ (n : ℕ) (s : State Span) (rest : List ℕ) {c : ℕ} (l : Live s.chunks c) (e : Entry Span) (unread : List (Unread Span))
    (next : l.chunk.unread ≡ unmarked e ∷ unread) where
  -- chunk c's next unread symbol, on its stack as entry e
  pub push-law : push_words (encode n s ++ rest) c (mark_word e)
      ≡ encode n (made_at c s [] (record { stack = e ∷ l.chunk.stack; unread = unread; status = l.chunk.status })) ++ rest
  push-law =
      ap (λ (words : List ℕ). push_words words c (mark_word e)) (listed-words n s rest l (λ i. record { stack = l.chunk.stack; unread = next i; status = l.chunk.status }))
      ∙ law n l.before l.chunk.stack e unread l.chunk.status l.after s.reductions s.moves rest c l.number_is
      ∙ sym (read-words n s rest l (record { stack = e ∷ l.chunk.stack; unread = unread; status = l.chunk.status }))

-- what a push asks, whatever the symbol and its mark
module _ {t N n : ℕ} {s : State Span} (k : Kept t N n s) (rest : List ℕ) {c : ℕ} (l : Live s.chunks c) (x : Unread Span) (unread : List (Unread Span))
    (next : l.chunk.unread ≡ x ∷ unread) where
  pub push-ready : (mark : ℕ) → mark ≤ 1 → Pushable (encode n s ++ rest) c mark
  push-ready mark small =
      let head : head_of (encode n s ++ rest) c ≡ total l.before + stack_size l.chunk.stack = head-word n s rest l in
      let marked : marks_of (encode n s ++ rest) c ≡ marks l.chunk.stack = marks-word n s rest l in
      let long : slot_word (encode n s ++ rest) (head_of (encode n s ++ rest) c) 2 ≡ size x = next-size n s rest l x unread next in
      let inside : total l.before + (stack_size l.chunk.stack + (size x + unread_size unread)) ≤ n + 2 = rw next at (ends_within k rest l) in
      record {
        few = few-moves k rest;
        chunk = rw (chunks-at n s rest) (number-within n s rest l);
        slot = omega (arith, slots-within k rest);
        head = omega (arith, k.few_tokens);
        marks = omega (arith, k.few_tokens, marks-few l.chunk.stack);
        low = omega (arith, head, from-word n s rest l);
        some = omega (arith, long);
        last = rw long (next_last n s rest l x unread next);
      }
