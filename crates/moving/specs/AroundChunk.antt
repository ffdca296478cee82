-- The words of a state around one of its chunks: the area in parts, the chunk's row of the table and where its stack and its
-- unread symbols stand; and how long the area is. All for an area that may have more words than the state needs.
-- docs/AREA.md gives the places.
-- Rests on MoveWords and BlockWords, on layout's Layout, Kept and Lengths and shape's Encoded, on machine's Allowed, and on laws' Parts.
--
-- Main definitions: parts_around, finer_parts.
-- Main statements: around, around-finer, tick-law; status-word, from-word, head-word, end-word, marks-word, stack_stands, next-symbol,
-- next-unmarked, next-size, next_last; gone-word, status-some; few-moves, slots-within, made-within, ends_within.
use Rattle.std.specs.Prelude.{◌≡◌, refl, ℕ, suc, ◌+◌, ◌*◌, ◌-◌, ◌/◌, ◌%◌, ◌<◌, ◌≤◌, length, get_or, take, drop}
use Rattle.std.proofs.Math.Path.{ap}
use Rattle.std.proofs.Common.{◌∙◌, zero-add, mul-le-mul_left, arith, length-take-le}
use mathlib.Core.List.{List, [], ◌∷◌, ◌++◌, append_assoc, append-nil}
use Rattle.std.proofs.Math.Option.{Option, none, some}
use Rattle.std.proofs.Math.ListN.{length-append}
use Rattle.std.proofs.Math.Seq.{split_at}
use Rattle.laws.specs.Parts.{flat, get_d_part}
use Rattle.language.specs.Symbols.{word_of}
use Rattle.language.specs.Trees.{Span, Reduction}
use Rattle.machine.specs.Entries.{Unread, symbol}
use Rattle.machine.specs.Moves.{no_relation, no_rule, not_axiom, side_by_side}
use Rattle.machine.specs.Chunks.{Status, running, stuck, Chunk}
use Rattle.machine.specs.States.{State, made_at}
use Rattle.machine.specs.Allowed.{AllGone, no_number, one_gone, Live}
use Rattle.machine.proofs.AllowedExactly.{live-set}
use Rattle.layout.specs.Layout.{need, size, block, stack_size, stack_words, marks, unread_size, unread_words, chunk_size, chunk_words, status_word, row}
use Rattle.layout.specs.Layout.{total, rows, slots, front, tail_words, encode, table_at, row_word, slot_word, made_at_word}
use Rattle.layout.specs.Lengths.{length-stack, length-row, length-rows, length-slots, rows_append, slots-append, total-append, within-slots, encode-length}
use Rattle.layout.specs.Kept.{Kept}
use Rattle.shape.specs.Encoded.{tokens-at, chunks-at}
use Rattle.moving.specs.MoveWords.{from_of, head_of, end_of, marks_of, slot_at, tick_words, Stands}
use Rattle.moving.specs.BlockWords.{first_word, mark-word, size_word, last_word}

-- ---- the front

pub high_word : (n : ℕ) (s : State Span) (rest : List ℕ) → get_or (encode n s ++ rest) 3 0 ≡ s.moves / 65536
unfolding encode
high_word n s rest = refl

-- one move more is counted in the front alone
pub tick-law : (n count moves made : ℕ) (words : List ℕ) → tick_words (front n count moves made ++ words) ≡ front n count (moves + 1) made ++ words
unfolding tick_words
tick-law n count moves made words =
    let e : moves % 65536 + 65536 * (moves / 65536) + 1 ≡ moves + 1 = omega arith in
    rw e

-- ---- in parts

-- the words of a row, with one chunk apart from those before it and after it
abbrev pub parts_around : ℕ → List (Option (Chunk Span)) → Option (Chunk Span) → List (Option (Chunk Span)) → List (Reduction Span) → ℕ → List ℕ → List (List ℕ)
parts_around n earlier chunk later reductions moves rest =
    front n (length earlier + suc (length later)) moves (length reductions) ∷ rows 0 earlier ∷ row (total earlier) chunk
    ∷ rows (total earlier + chunk_size chunk) later ∷ slots earlier ∷ chunk_words chunk ∷ slots later
    ∷ tail_words n (total earlier + (chunk_size chunk + total later)) reductions ∷ rest ∷ []

-- words one after the other, grouped otherwise
regrouped : (f a b c d e g t rest : List ℕ) → (f ++ ((a ++ (b ++ c)) ++ ((d ++ (e ++ g)) ++ t))) ++ rest ≡ flat (f ∷ a ∷ b ∷ c ∷ d ∷ e ∷ g ∷ t ∷ rest ∷ [])
regrouped f a b c d e g t rest = simp (append_assoc, append-nil)

pub around : (n : ℕ) (earlier : List (Option (Chunk Span))) (chunk : Option (Chunk Span)) (later : List (Option (Chunk Span))) (reductions : List (Reduction Span))
    (moves : ℕ) (rest : List ℕ)
    → encode n (record { chunks = earlier ++ (chunk ∷ later); reductions = reductions; moves = moves }) ++ rest
    ≡ flat (parts_around n earlier chunk later reductions moves rest)
unfolding encode
around n earlier chunk later reductions moves rest =
    rw (
      length-append earlier (chunk ∷ later),
      rows_append 0 earlier (chunk ∷ later),
      slots-append earlier (chunk ∷ later),
      total-append earlier (chunk ∷ later),
      zero-add (total earlier),
    )
    (regrouped (front n (length earlier + suc (length later)) moves (length reductions)) (rows 0 earlier) (row (total earlier) chunk)
    (rows (total earlier + chunk_size chunk) later) (slots earlier) (chunk_words chunk) (slots later)
    (tail_words n (total earlier + (chunk_size chunk + total later)) reductions) rest)

-- the same, the chunk's own words in three parts: r its row of the table, k its slots, and `tail` what stands after all slots
abbrev pub finer_parts : ℕ → List (Option (Chunk Span)) → List (Option (Chunk Span)) → ℕ → ℕ → List ℕ → ℕ → List ℕ → List ℕ → List ℕ → List (List ℕ) → List (List ℕ)
finer_parts n earlier later moves made r k w x u tail =
    front n (length earlier + suc (length later)) moves made ∷ rows 0 earlier ∷ r ∷ rows (total earlier + k) later ∷ slots earlier ∷ w ∷ x ∷ u ∷ slots later ∷ tail

finer : (f a r b d w x u g t rest : List ℕ) (tail : List (List ℕ)) → flat tail ≡ t ++ rest
    → flat (f ∷ a ∷ r ∷ b ∷ d ∷ (w ++ (x ++ u)) ∷ g ∷ t ∷ rest ∷ []) ≡ flat (f ∷ a ∷ r ∷ b ∷ d ∷ w ∷ x ∷ u ∷ g ∷ tail)
finer f a r b d w x u g t rest tail e = rw e (simp (append_assoc, append-nil))

pub around-finer : (n : ℕ) (earlier : List (Option (Chunk Span))) (chunk : Option (Chunk Span)) (later : List (Option (Chunk Span))) (reductions : List (Reduction Span))
    (moves : ℕ) (rest r : List ℕ) (k : ℕ) (w x u : List ℕ) (tail : List (List ℕ)) → row (total earlier) chunk ≡ r → chunk_size chunk ≡ k → chunk_words chunk ≡ w ++ (x ++ u)
    → flat tail ≡ tail_words n (total earlier + (k + total later)) reductions ++ rest
    → encode n (record { chunks = earlier ++ (chunk ∷ later); reductions = reductions; moves = moves }) ++ rest
    ≡ flat (finer_parts n earlier later moves (length reductions) r k w x u tail)
around-finer n earlier chunk later reductions moves rest r k w x u tail p q e h =
    around n earlier chunk later reductions moves rest
    ∙ rw (p, q, e)
    (finer (front n (length earlier + suc (length later)) moves (length reductions)) (rows 0 earlier) r (rows (total earlier + k) later) (slots earlier) w x u (slots later)
    (tail_words n (total earlier + (k + total later)) reductions) rest tail h)

-- numbers that are gone: no slots, and rows of zeros
pub gone-rows : {chunks : List (Option (Chunk Span))} → AllGone chunks → (from other : ℕ) → rows from chunks ≡ rows other chunks
gone-rows no_number from other = refl
gone-rows (one_gone g) from other = rw (gone-rows g (from + 0) (other + 0))

pub gone-slots : {chunks : List (Option (Chunk Span))} → AllGone chunks → slots chunks ≡ []
gone-slots no_number = refl
gone-slots (one_gone g) = gone-slots g

pub gone-total : {chunks : List (Option (Chunk Span))} → AllGone chunks → total chunks ≡ 0
gone-total no_number = refl
gone-total (one_gone g) = omega (arith, gone-total g)

-- word k of the row of the table for number c, live or gone
row-around : (n : ℕ) (earlier : List (Option (Chunk Span))) (chunk : Option (Chunk Span)) (later : List (Option (Chunk Span))) (reductions : List (Reduction Span))
    (moves : ℕ) (rest : List ℕ) (c k : ℕ) → length earlier ≡ c → k < 5
    → row_word (encode n (record { chunks = earlier ++ (chunk ∷ later); reductions = reductions; moves = moves }) ++ rest) c k ≡ get_or (row (total earlier) chunk) k 0
row-around n earlier chunk later reductions moves rest c k e h =
    rw (around n earlier chunk later reductions moves rest)
    (get_d_part (parts_around n earlier chunk later reductions moves rest) 2 (table_at c k) k (omega (arith, length-rows 0 earlier)) (omega (arith, length-row (total earlier) chunk)))

-- ---- a live chunk

module _ (n : ℕ) (s : State Span) (rest : List ℕ) {c : ℕ} (l : Live s.chunks c) where
  -- the state, its chunks listed around this one
  pub listed-words : {chunk : Chunk Span} → l.chunk ≡ chunk
      → encode n s ++ rest ≡ encode n (record { chunks = l.before ++ (some chunk ∷ l.after); reductions = s.reductions; moves = s.moves }) ++ rest
  listed-words e =
      ap (λ (chunks : List (Option (Chunk Span))). encode n (record { chunks = chunks; reductions = s.reductions; moves = s.moves }) ++ rest)
      (l.chunks_are ∙ ap (λ (chunk : Chunk Span). l.before ++ (some chunk ∷ l.after)) e)

  -- the state after a move: another chunk there
  pub made-words : (made : List (Reduction Span)) (chunk : Chunk Span)
      → encode n (made_at c s made chunk) ++ rest
      ≡ encode n (record { chunks = l.before ++ (some chunk ∷ l.after); reductions = s.reductions ++ made; moves = s.moves + 1 }) ++ rest
  made-words made chunk =
      ap (λ (chunks : List (Option (Chunk Span))). encode n (record { chunks = chunks; reductions = s.reductions ++ made; moves = s.moves + 1 }) ++ rest)
      (live-set l (some chunk))

  -- .. that adds no reduction
  pub read-words : (chunk : Chunk Span)
      → encode n (made_at c s [] chunk) ++ rest
      ≡ encode n (record { chunks = l.before ++ (some chunk ∷ l.after); reductions = s.reductions; moves = s.moves + 1 }) ++ rest
  read-words chunk =
      made-words [] chunk
      ∙ ap (λ (reductions : List (Reduction Span)). encode n (record { chunks = l.before ++ (some chunk ∷ l.after); reductions = reductions; moves = s.moves + 1 }) ++ rest)
      (append-nil s.reductions)

  in_parts : encode n s ++ rest ≡ flat (parts_around n l.before (some l.chunk) l.after s.reductions s.moves rest)
  in_parts = listed-words refl ∙ around n l.before (some l.chunk) l.after s.reductions s.moves rest

  row-word : (k : ℕ) → k < 5 → row_word (encode n s ++ rest) c k ≡ get_or (row (total l.before) (some l.chunk)) k 0
  row-word k h =
      ap (λ (words : List ℕ). row_word words c k) (listed-words refl)
      ∙ row-around n l.before (some l.chunk) l.after s.reductions s.moves rest c k l.number_is h

  pub status-word : row_word (encode n s ++ rest) c 0 ≡ status_word l.chunk.status
  status-word = row-word 0 (omega arith)

  pub from-word : from_of (encode n s ++ rest) c ≡ total l.before
  from-word = row-word 1 (omega arith)

  pub head-word : head_of (encode n s ++ rest) c ≡ total l.before + stack_size l.chunk.stack
  head-word = row-word 2 (omega arith)

  pub end-word : end_of (encode n s ++ rest) c ≡ total l.before + (stack_size l.chunk.stack + unread_size l.chunk.unread)
  end-word = row-word 3 (omega arith)

  pub marks-word : marks_of (encode n s ++ rest) c ≡ marks l.chunk.stack
  marks-word = row-word 4 (omega arith)

  pub chunks-count : length s.chunks ≡ length l.before + suc (length l.after)
  chunks-count = ap length l.chunks_are ∙ length-append l.before (some l.chunk ∷ l.after)

  pub number-within : c < length s.chunks
  number-within = omega (arith, chunks-count, l.number_is)

  pub slots-count : total s.chunks ≡ total l.before + (chunk_size (some l.chunk) + total l.after)
  slots-count = ap total l.chunks_are ∙ total-append l.before (some l.chunk ∷ l.after)

  -- what stands before the chunk's slots, and after them
  earlier_words : List ℕ
  earlier_words =
      flat (front n (length l.before + suc (length l.after)) s.moves (length s.reductions) ∷ rows 0 l.before ∷ row (total l.before) (some l.chunk)
      ∷ rows (total l.before + chunk_size (some l.chunk)) l.after ∷ slots l.before ∷ [])

  later_words : List ℕ
  later_words = slots l.after ++ (tail_words n (total l.before + (chunk_size (some l.chunk) + total l.after)) s.reductions ++ rest)

  -- the chunk's stack, and then its unread symbols
  in-slots : encode n s ++ rest ≡ earlier_words ++ (stack_words l.chunk.stack ++ (unread_words l.chunk.unread ++ later_words))
  unfolding earlier_words later_words
  in-slots = in_parts ∙ simp (append_assoc, append-nil)

  slots-start : length earlier_words ≡ slot_at (encode n s ++ rest) (from_of (encode n s ++ rest) c)
  unfolding earlier_words
  slots-start =
      rw (chunks-at n s rest, from-word)
      (simp (length-append, length-rows, length-slots) (omega (arith, chunks-count)))

  -- the stack's words, from `from` up to `head`
  pub stack_stands : Stands (encode n s ++ rest) (slot_at (encode n s ++ rest) (from_of (encode n s ++ rest) c))
      (slot_at (encode n s ++ rest) (head_of (encode n s ++ rest) c)) l.chunk.stack
  stack_stands = record {
    below = earlier_words;
    above = unread_words l.chunk.unread ++ later_words;
    is = in-slots;
    start = slots-start;
    stop = rw (from-word, head-word) (omega arith);
  }

  -- the next unread symbol's first words
  module _ (x : Unread Span) (unread : List (Unread Span)) (next : l.chunk.unread ≡ x ∷ unread) where
    before-next : List ℕ
    before-next = earlier_words ++ stack_words l.chunk.stack

    next-at : length before-next ≡ slot_at (encode n s ++ rest) (head_of (encode n s ++ rest) c)
    unfolding before-next
    next-at = omega (arith, length-append earlier_words (stack_words l.chunk.stack), length-stack l.chunk.stack, slots-start, from-word, head-word)

    next-words : encode n s ++ rest ≡ before-next ++ (block 0 x ++ (unread_words unread ++ later_words))
    unfolding before-next
    next-words =
        in-slots
        ∙ ap (λ (u : List (Unread Span)). earlier_words ++ (stack_words l.chunk.stack ++ (unread_words u ++ later_words))) next
        ∙ simp append_assoc

    next_word : (k : ℕ)
        → slot_word (encode n s ++ rest) (head_of (encode n s ++ rest) c) k ≡ get_or (before-next ++ (block 0 x ++ (unread_words unread ++ later_words))) (length before-next + k) 0
    next_word k = rw (← next-at) (ap (λ (words : List ℕ). get_or words (length before-next + k) 0) next-words)

    pub next-symbol : slot_word (encode n s ++ rest) (head_of (encode n s ++ rest) c) 0 ≡ word_of (symbol x)
    next-symbol = next_word 0 ∙ first_word before-next 0 x (unread_words unread ++ later_words)

    pub next-unmarked : slot_word (encode n s ++ rest) (head_of (encode n s ++ rest) c) 1 ≡ 0
    next-unmarked = next_word 1 ∙ mark-word before-next 0 x (unread_words unread ++ later_words)

    pub next-size : slot_word (encode n s ++ rest) (head_of (encode n s ++ rest) c) 2 ≡ size x
    next-size = next_word 2 ∙ size_word before-next 0 x (unread_words unread ++ later_words)

    -- and its last
    pub next_last : get_or (encode n s ++ rest) (slot_at (encode n s ++ rest) (head_of (encode n s ++ rest) c + size x) - 1) 0 ≡ size x
    next_last =
        ap (λ (words : List ℕ). get_or words (slot_at (encode n s ++ rest) (head_of (encode n s ++ rest) c + size x) - 1) 0) next-words
        ∙ last_word before-next 0 x (unread_words unread ++ later_words) (slot_at (encode n s ++ rest) (head_of (encode n s ++ rest) c + size x)) (omega (arith, next-at))

-- ---- which numbers are live

-- a live chunk's status is not 0
pub status-some : (status : Status) → 0 < status_word status
status-some running = omega arith
status-some (stuck no_relation) = omega arith
status-some (stuck no_rule) = omega arith
status-some (stuck not_axiom) = omega arith
status-some (stuck side_by_side) = omega arith

-- the status of a number that is gone is 0
pub gone-word : (n : ℕ) (s : State Span) (rest : List ℕ) (c : ℕ) → c < length s.chunks → get_or s.chunks c none ≡ none → row_word (encode n s ++ rest) c 0 ≡ 0
gone-word n s rest c h e =
    let earlier : List (Option (Chunk Span)) = take c s.chunks in
    let later : List (Option (Chunk Span)) = drop (suc c) s.chunks in
    let are : s.chunks ≡ earlier ++ (none ∷ later) = split_at s.chunks c none h ∙ ap (λ (chunk : Option (Chunk Span)). earlier ++ (chunk ∷ later)) e in
    ap (λ (chunks : List (Option (Chunk Span))). row_word (encode n (record { chunks = chunks; reductions = s.reductions; moves = s.moves }) ++ rest) c 0) are
    ∙ row-around n earlier none later s.reductions s.moves rest c 0 (length-take-le c s.chunks (omega arith)) (omega arith)

-- ---- a state that keeps the rules

module _ {t N n : ℕ} {s : State Span} (k : Kept t N n s) (rest : List ℕ) where
  pub area-length : length (encode n s ++ rest) ≡ need n (length s.chunks) + length rest
  area-length = length-append (encode n s) rest ∙ ap (λ (i : ℕ). i + length rest) (encode-length k)

  -- its slots and its reductions are within the area
  pub slots-within : slot_at (encode n s ++ rest) (n + 2) ≤ length (encode n s ++ rest)
  slots-within = rw (chunks-at n s rest, area-length) (omega arith)

  pub made-within : made_at_word (encode n s ++ rest) + 3 * get_or (encode n s ++ rest) 0 0 ≤ length (encode n s ++ rest)
  made-within = rw (chunks-at n s rest, tokens-at n s rest, area-length) (omega arith)

  -- one move more can be counted
  pub few-moves : get_or (encode n s ++ rest) 3 0 < 65535
  few-moves =
      let a : n * length s.chunks ≤ n * 64 = mul-le-mul_left n k.few_chunks in
      rw (high_word n s rest) (omega (arith, k.bounded, k.few_tokens, k.few_chunks))

  pub ends_within : {c : ℕ} (l : Live s.chunks c) → total l.before + (stack_size l.chunk.stack + unread_size l.chunk.unread) ≤ n + 2
  ends_within l = omega (arith, within-slots k, slots-count n s rest l)
