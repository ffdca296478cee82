-- Two chunks joined: what `join_words` makes of a state's words, and what it asks of them.
-- Document 01, "Moves of a chunk": "Joining chunk c to the next live chunk .. is one move. The stack is c's. Unread is what c had
-- unread, then the other's stack symbols, then its unread symbols. .. The result is numbered c; the other number is gone."
-- Rests on AroundChunk and MoveWords, on layout's Lengths, and on machine's AllowedExactly.
--
-- Main definition: after_join. Main statements: join-law, join-ready, join-becomes.
use Rattle.std.specs.Prelude.{◌≡◌, refl, true, List, [], ◌∷◌, ◌++◌, ℕ, zero, suc, ◌+◌, ◌*◌, ◌-◌, ◌<◌, length, get_or, take, drop, set}
use Rattle.std.proofs.Common.{sym, ap, ◌∙◌, append_assoc, append-nil, add-zero, zero-add, arith, length-append, get_or-append-add}
use Rattle.std.proofs.Math.Option.{Option, none, some}
use Rattle.std.proofs.lemmas.List.{length-replicate, get_or-replicate, set-get_or}
use Rattle.std.proofs.Math.ListN.{get_or-append}
use Rattle.laws.specs.Parts.{flat, before, set-part, set-append-add, flat-split, flat-set, length_before}
use Rattle.language.specs.Trees.{Span, Reduction}
use Rattle.machine.specs.Entries.{Unread, Entry, unmarked, stack_symbols}
use Rattle.machine.specs.Chunks.{Chunk, at_rest, joined}
use Rattle.machine.specs.States.{State, became, join, join_with}
use Rattle.machine.specs.Allowed.{AllGone, Live, NextLive}
use Rattle.machine.specs.AllowedExactly.{numbers_left}
use Rattle.machine.proofs.AllowedExactly.{live_to, live-take, live-drop, next-to}
use Rattle.layout.specs.Layout.{more, size, block, mark_word, stack_size, stack_words, marks, unread_size, unread_words, chunk_size, status_word}
use Rattle.layout.specs.Layout.{row, total, rows, slots, zeros, front, tail_words, encode, table_at}
use Rattle.layout.specs.Lengths.{length-stack, length-unread, length-rows, length-slots, rows_append, slots-append, total-append, unread-append, stack-size}
use Rattle.layout.specs.Lengths.{words_append}
use Rattle.layout.specs.Kept.{Kept}
use Rattle.shape.specs.Encoded.{chunks-at}
use Rattle.moving.specs.MoveWords.{from_of, head_of, unmark_words, gone_words, one_words, join_words, Joinable}
use Rattle.moving.specs.AroundChunk.{around, tick-law, gone-rows, gone-slots, gone-total, from-word, head-word, end-word, few-moves, slots-within, ends_within, number-within}

-- ---- a stack without its marks

-- a word that is 0 already stays
unmark-none : (area : List ℕ) (at count : ℕ) → ((j : ℕ) → j < count → get_or area (at + 4 * j) 0 ≡ 0) → unmark_words area at count ≡ area
unmark-none area at zero h = refl
unmark-none area at (suc count) h =
    let z : get_or area at 0 ≡ 0 = (let e : at ≡ at + 4 * 0 = omega arith in ap (λ (i : ℕ). get_or area i 0) e ∙ h 0 (omega arith)) in
    let e : set area at 0 ≡ area = ap (λ (v : ℕ). set area at v) (sym z) ∙ set-get_or area at 0 in
    rw e (unmark-none area (at + 4) count (λ j l. let f : at + 4 + 4 * j ≡ at + 4 * suc j = omega arith in rw f (h (suc j) (omega arith))))

unmark-add : (area : List ℕ) (at j count : ℕ) → unmark_words area at (j + count) ≡ unmark_words (unmark_words area at j) (at + 4 * j) count
unmark-add area at zero count = let e : at + 4 * 0 ≡ at = omega arith in rw (zero-add, e)
unmark-add area at (suc j) count =
    let e : suc j + count ≡ suc (j + count) = omega arith in
    let f : at + 4 * suc j ≡ at + 4 + 4 * j = omega arith in
    rw (e, f, unmark-add (set area at 0) (at + 4) j count)

-- inside a block stand zeros
inside-block : (p : List ℕ) (mark : ℕ) (x : Unread Span) (q : List ℕ) (j : ℕ) → j < more x → get_or (p ++ (block mark x ++ q)) (length p + 1 + 4 + 4 * j) 0 ≡ 0
unfolding block
inside-block p mark x q j h =
    let e : length p + 1 + 4 + 4 * j ≡ length p + suc (suc (suc (2 + 4 * j))) = omega arith in
    rw (
      e,
      get_or-append-add p (block mark x ++ q) (suc (suc (suc (2 + 4 * j)))) 0,
      append_assoc (zeros (4 * more x)) (size x ∷ []) q,
      get_or-append (zeros (4 * more x)) (size x ∷ q) 0 (2 + 4 * j) (omega (arith, length-replicate {A = ℕ} (4 * more x) 0)),
      get_or-replicate {A = ℕ} (4 * more x) (2 + 4 * j) 0 0 (omega arith),
    )

unmark-block : (p : List ℕ) (mark : ℕ) (x : Unread Span) (q : List ℕ) → unmark_words (p ++ (block mark x ++ q)) (length p + 1) (size x) ≡ p ++ (block 0 x ++ q)
unfolding block
unmark-block p mark x q =
    let e : size x ≡ suc (more x) = omega arith in
    let f : set (p ++ (block mark x ++ q)) (length p + 1) 0 ≡ p ++ (block 0 x ++ q) = set-append-add p (block mark x ++ q) 1 0 in
    ap (λ (count : ℕ). unmark_words (p ++ (block mark x ++ q)) (length p + 1) count) e ∙ ap (λ (area : List ℕ). unmark_words area (length p + 1 + 4) (more x)) f
    ∙ unmark-none (p ++ (block 0 x ++ q)) (length p + 1 + 4) (more x) (inside-block p 0 x q)

unmark-stack : (p : List ℕ) (stack : List (Entry Span)) (q : List ℕ)
    → unmark_words (p ++ (stack_words stack ++ q)) (length p + 1) (stack_size stack) ≡ p ++ (unread_words (stack_symbols stack) ++ q)
unmark-stack p [] q = refl
unmark-stack p (e ∷ stack) q =
    let w : List ℕ = unread_words (stack_symbols stack) in
    let b : List ℕ = block (mark_word e) (unmarked e) in
    let f : length p + 1 + 4 * stack_size stack ≡ length (p ++ w) + 1 = omega (arith, length-append p w, length-unread (stack_symbols stack), stack-size stack) in
    rw (
      append_assoc (stack_words stack) b q,
      unmark-add (p ++ (stack_words stack ++ (b ++ q))) (length p + 1) (stack_size stack) (size (unmarked e)),
      unmark-stack p stack (b ++ q),
      f,
      ← append_assoc p w (b ++ q),
      unmark-block (p ++ w) (mark_word e) (unmarked e) q,
      words_append (stack_symbols stack) (unmarked e ∷ []),
    )
    (simp (append_assoc, append-nil))

-- the same for a part of the words
unmark-part : (parts : List (List ℕ)) (k at : ℕ) (stack : List (Entry Span)) → k < length parts → get_or parts k [] ≡ stack_words stack → at ≡ before parts k + 1
    → unmark_words (flat parts) at (stack_size stack) ≡ flat (set parts k (unread_words (stack_symbols stack)))
unmark-part parts k at stack h e f =
    let g : at ≡ length (flat (take k parts)) + 1 = omega (arith, length_before parts k h) in
    rw (flat-split parts k h, flat-set parts k (unread_words (stack_symbols stack)) h, e, g) (unmark-stack (flat (take k parts)) stack (flat (drop (suc k) parts)))

-- a part of five words becomes zeros
gone-part : (parts : List (List ℕ)) (k d a₀ a₁ a₂ a₃ a₄ : ℕ) → k < length parts → get_or parts k [] ≡ a₀ ∷ a₁ ∷ a₂ ∷ a₃ ∷ a₄ ∷ [] → 5 + 5 * d ≡ before parts k
    → gone_words (flat parts) d ≡ flat (set parts k (0 ∷ 0 ∷ 0 ∷ 0 ∷ 0 ∷ []))
unfolding gone_words
gone-part parts k d a₀ a₁ a₂ a₃ a₄ h e f =
    let p : List ℕ = flat (take k parts) in
    let w : List ℕ = flat (drop (suc k) parts) in
    let g : 5 + 5 * d ≡ length p = f ∙ sym (length_before parts k h) in
    rw (
      flat-split parts k h,
      flat-set parts k (0 ∷ 0 ∷ 0 ∷ 0 ∷ 0 ∷ []) h,
      e,
      g,
      set-append-add p (a₀ ∷ a₁ ∷ a₂ ∷ a₃ ∷ a₄ ∷ w) 0 0,
      set-append-add p (0 ∷ a₁ ∷ a₂ ∷ a₃ ∷ a₄ ∷ w) 1 0,
      set-append-add p (0 ∷ 0 ∷ a₂ ∷ a₃ ∷ a₄ ∷ w) 2 0,
      set-append-add p (0 ∷ 0 ∷ 0 ∷ a₃ ∷ a₄ ∷ w) 3 0,
      set-append-add p (0 ∷ 0 ∷ 0 ∷ 0 ∷ a₄ ∷ w) 4 0,
    )

-- ---- the words before and after, in the same parts

regrouped : (f a r g q b d w u z v h t rest : List ℕ)
    → flat (f ∷ a ∷ r ∷ (g ++ (q ++ b)) ∷ d ∷ (w ++ u) ∷ ((z ++ v) ++ h) ∷ t ∷ rest ∷ []) ≡ flat (f ∷ a ∷ r ∷ g ∷ q ∷ b ∷ d ∷ w ∷ u ∷ z ∷ v ∷ h ∷ t ∷ rest ∷ [])
regrouped f a r g q b d w u z v h t rest = simp append_assoc

regrouped' : (f a r g q b d w u z v h t rest : List ℕ)
    → flat (f ∷ a ∷ r ∷ (g ++ (q ++ b)) ∷ d ∷ (w ++ (u ++ (z ++ v))) ∷ h ∷ t ∷ rest ∷ []) ≡ flat (f ∷ a ∷ r ∷ g ∷ q ∷ b ∷ d ∷ w ∷ u ∷ z ∷ v ∷ h ∷ t ∷ rest ∷ [])
regrouped' f a r g q b d w u z v h t rest = simp append_assoc

module _ (n : ℕ) (earlier : List (Option (Chunk Span))) (left : Chunk Span) (between : List (Option (Chunk Span))) (gone : AllGone between) (right : Chunk Span)
    (later : List (Option (Chunk Span))) (reductions : List (Reduction Span)) (moves : ℕ) (rest : List ℕ) where
  -- where the right chunk's slots start, and where they end
  abbrev seam : ℕ
  seam = total earlier + (stack_size left.stack + unread_size left.unread)

  abbrev end : ℕ
  end = seam + (stack_size right.stack + unread_size right.unread)

  abbrev count : ℕ
  count = length earlier + suc (length between + suc (length later))

  abbrev parts : ℕ → ℕ → List ℕ → List ℕ → List (List ℕ)
  parts v last q z =
      front n count v (length reductions) ∷ rows 0 earlier
      ∷ (status_word left.status ∷ total earlier ∷ (total earlier + stack_size left.stack) ∷ last ∷ marks left.stack ∷ [])
      ∷ rows 0 between ∷ q ∷ rows end later ∷ slots earlier ∷ stack_words left.stack ∷ unread_words left.unread ∷ z ∷ unread_words right.unread ∷ slots later
      ∷ tail_words n (end + total later) reductions ∷ rest ∷ []

  abbrev one : Chunk Span
  one = joined left right

  abbrev two : State Span
  two = record { chunks = earlier ++ (some left ∷ (between ++ (some right ∷ later))); reductions = reductions; moves = moves }

  was : encode n two ++ rest ≡ flat (parts moves seam (row seam (some right)) (stack_words right.stack))
  was =
      let o : ℕ = chunk_size (some right) + total later in
      let e : total earlier + (stack_size left.stack + unread_size left.unread + o) ≡ end + total later = omega arith in
      around n earlier (some left) (between ++ (some right ∷ later)) reductions moves rest
      ∙ rw (
        length-append between (some right ∷ later),
        rows_append seam between (some right ∷ later),
        slots-append between (some right ∷ later),
        total-append between (some right ∷ later),
        gone-total gone,
        gone-slots gone,
        gone-rows gone seam 0,
        add-zero,
        zero-add,
        e,
      )
      (regrouped (front n count moves (length reductions)) (rows 0 earlier) (row (total earlier) (some left)) (rows 0 between) (row seam (some right)) (rows end later)
      (slots earlier) (stack_words left.stack) (unread_words left.unread) (stack_words right.stack) (unread_words right.unread) (slots later)
      (tail_words n (end + total later) reductions) rest)

  will : encode n (record { chunks = earlier ++ (some one ∷ (between ++ (none ∷ later))); reductions = reductions; moves = moves + 1 }) ++ rest
      ≡ flat (parts (moves + 1) end (row 0 none) (unread_words (stack_symbols right.stack)))
  will =
      let u : List (Unread Span) = one.unread in
      let z : List (Unread Span) = stack_symbols right.stack in
      let o : ℕ = total earlier + (stack_size left.stack + unread_size u) in
      let e : unread_size u ≡ unread_size left.unread + (stack_size right.stack + unread_size right.unread) =
      omega (arith, unread-append left.unread (z ++ right.unread), unread-append z right.unread, stack-size right.stack) in
      let f : o + 0 + 0 ≡ end = omega arith in
      let g : o ≡ end = omega arith in
      let h : total earlier + (stack_size left.stack + unread_size u + (0 + (0 + total later))) ≡ end + total later = omega arith in
      around n earlier (some one) (between ++ (none ∷ later)) reductions (moves + 1) rest
      ∙ rw (
        length-append between (none ∷ later),
        rows_append o between (none ∷ later),
        slots-append between (none ∷ later),
        total-append between (none ∷ later),
        gone-total gone,
        gone-slots gone,
        gone-rows gone o 0,
        h,
        f,
        g,
        words_append left.unread (z ++ right.unread),
        words_append z right.unread,
      )
      (regrouped' (front n count (moves + 1) (length reductions)) (rows 0 earlier)
      (status_word left.status ∷ total earlier ∷ (total earlier + stack_size left.stack) ∷ end ∷ marks left.stack ∷ []) (rows 0 between) (row 0 none) (rows end later)
      (slots earlier) (stack_words left.stack) (unread_words left.unread) (unread_words z) (unread_words right.unread) (slots later)
      (tail_words n (end + total later) reductions) rest)

  module _ (c d : ℕ) (number : length earlier ≡ c) (other : d ≡ c + 1 + length between) where
    abbrev old : List (List ℕ)
    old = parts moves seam (row seam (some right)) (stack_words right.stack)

    -- the right chunk's number, among the state's chunks
    there : Live two.chunks d
    there = record {
      before = earlier ++ (some left ∷ between);
      chunk = right;
      after = later;
      number_is = omega (arith, length-append earlier (some left ∷ between));
      chunks_are = sym (append_assoc earlier (some left ∷ between) (some right ∷ later));
    }

    right-from : total there.before ≡ seam
    unfolding there
    right-from = omega (arith, total-append earlier (some left ∷ between), gone-total gone)

    unmarked-words : unmark_words (flat old) (5 + 5 * count + 4 * seam + 1) (seam + stack_size right.stack - seam)
        ≡ flat (parts moves seam (row seam (some right)) (unread_words (stack_symbols right.stack)))
    unmarked-words =
        let e : seam + stack_size right.stack - seam ≡ stack_size right.stack = omega arith in
        rw e (unmark-part old 9 (5 + 5 * count + 4 * seam + 1) right.stack (omega arith) refl
        (omega (
          arith,
          length-rows 0 earlier,
          length-rows 0 between,
          length-rows end later,
          length-slots earlier,
          length-stack left.stack,
          length-unread left.unread,
        )))

    tabled : (v : ℕ) → set (flat (parts moves seam (row seam (some right)) (unread_words (stack_symbols right.stack)))) (table_at c 3) v
        ≡ flat (parts moves v (row seam (some right)) (unread_words (stack_symbols right.stack)))
    tabled v =
        set-part (parts moves seam (row seam (some right)) (unread_words (stack_symbols right.stack))) 2 (table_at c 3) 3 v (omega (arith, length-rows 0 earlier)) (omega arith)

    emptied : (v : ℕ) → gone_words (flat (parts moves v (row seam (some right)) (unread_words (stack_symbols right.stack)))) d
        ≡ flat (parts moves v (row 0 none) (unread_words (stack_symbols right.stack)))
    emptied v =
        gone-part (parts moves v (row seam (some right)) (unread_words (stack_symbols right.stack))) 4 d _ _ _ _ _ (omega arith) refl
        (omega (arith, length-rows 0 earlier, length-rows 0 between))

    law : join_words (encode n two ++ rest) c d
        ≡ encode n (record { chunks = earlier ++ (some one ∷ (between ++ (none ∷ later))); reductions = reductions; moves = moves + 1 }) ++ rest
    unfolding join_words one_words there
    law =
        rw (from-word n two rest there, head-word n two rest there, end-word n two rest there, right-from, was, will, unmarked-words, tabled, emptied)
        (tick-law n count moves (length reductions) _)

-- ---- chunk c and the next live one

module _ (s : State Span) {c : ℕ} (l : Live s.chunks c) (m : NextLive l.after) where
  -- the number of the next live chunk
  abbrev pub next_number : ℕ
  next_number = c + 1 + length m.between

  -- the state after the join
  abbrev pub after_join : State Span
  after_join = record {
    chunks = l.before ++ (some (joined l.chunk m.chunk) ∷ numbers_left m);
    reductions = s.reductions;
    moves = s.moves + 1;
  }

  -- the machine's join, where both are at rest
  pub join-becomes : at_rest l.chunk ≡ true → at_rest m.chunk ≡ true → join c s ≡ became after_join
  join-becomes p q = rw (live_to l, join, live-drop l, next-to m, p, join_with, q, live-take l)

  pub all-chunks : s.chunks ≡ l.before ++ (some l.chunk ∷ (m.between ++ (some m.chunk ∷ m.beyond)))
  all-chunks = l.chunks_are ∙ ap (λ (later : List (Option (Chunk Span))). l.before ++ (some l.chunk ∷ later)) m.after_is

  -- the next live chunk as one of the state's chunks
  abbrev pub next_chunk : Live s.chunks next_number
  next_chunk = record {
    before = l.before ++ (some l.chunk ∷ m.between);
    chunk = m.chunk;
    after = m.beyond;
    number_is = omega (arith, length-append l.before (some l.chunk ∷ m.between), l.number_is);
    chunks_are = all-chunks ∙ sym (append_assoc l.before (some l.chunk ∷ m.between) (some m.chunk ∷ m.beyond));
  }

  module _ (n : ℕ) (rest : List ℕ) where
    pub join-law : join_words (encode n s ++ rest) c next_number ≡ encode n after_join ++ rest
    join-law =
        ap (λ (chunks : List (Option (Chunk Span))). join_words (encode n (record { chunks = chunks; reductions = s.reductions; moves = s.moves }) ++ rest) c next_number)
        all-chunks
        ∙ law n l.before l.chunk m.between m.all_gone m.chunk m.beyond s.reductions s.moves rest c next_number l.number_is refl

pub join-ready : {t N n : ℕ} {s : State Span} (k : Kept t N n s) (rest : List ℕ) {c : ℕ} (l : Live s.chunks c) (m : NextLive l.after)
    → Joinable (encode n s ++ rest) c (next_number s l m)
join-ready {n = n} {s = s} k rest l m =
    let other : Live s.chunks (next_number s l m) = next_chunk s l m in
    let from : from_of (encode n s ++ rest) (next_number s l m) ≡ total other.before = from-word n s rest other in
    let head : head_of (encode n s ++ rest) (next_number s l m) ≡ total other.before + stack_size other.chunk.stack = head-word n s rest other in
    record {
      few = few-moves k rest;
      left = rw (chunks-at n s rest) (number-within n s rest l);
      right = rw (chunks-at n s rest) (number-within n s rest other);
      from = omega arith;
      room = omega (arith, slots-within k rest, ends_within k rest other);
    }
