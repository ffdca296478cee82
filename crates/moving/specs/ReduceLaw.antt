-- A handle replaced: what `reduce_words` makes of a state's words, and what it asks of them.
-- Document 01, "Moves of a chunk": "the handle runs from the topmost marked one to the top, with the nonterminal just below that mark
-- if there is one. If a rule has this right side, replace it by the left side of the least such rule, b staying unread"; "The report":
-- "rule, first place, place after the last".
-- Rests on AroundChunk, HandleSlots, BlockWords and MoveWords, on shape's Encoded and on machine's Allowed.
--
-- Main statements: reduce-law, reduce-ready.
use Rattle.std.specs.Prelude.{◌≡◌, refl, length, get_or, take, drop, set}
use Rattle.std.proofs.Common.{sym, ◌∙◌, add-zero, arith, length-append, take_at, drop_at}
use Rattle.std.proofs.Math.Path.{ap}
use mathlib.Core.List.{List, [], ◌∷◌, ◌++◌, append_assoc, append-nil, map}
use Rattle.std.proofs.Math.Option.{Option, some}
use Prim.Native.Nat.{ℕ, suc, ◌+◌, ◌*◌, ◌-◌, ◌<◌, ◌≤◌}
use Rattle.std.proofs.lemmas.List.{length-replicate}
use Rattle.laws.specs.Parts.{flat, before, set-part, flat-split, flat-set, length_before}
use Rattle.language.specs.Symbols.{word_of}
use Rattle.language.specs.Trees.{Span, Reduction}
use Rattle.language.specs.Reports.{report_words}
use Rattle.machine.specs.Entries.{Unread, nonterminal_at, Entry, nonterminal_on, symbol, value_of, stack_symbols}
use Rattle.machine.specs.Spans.{span_of}
use Rattle.machine.specs.Chunks.{Status, Chunk}
use Rattle.machine.specs.States.{State, made_at}
use Rattle.machine.specs.Allowed.{HandleAbove, Live}
use Rattle.layout.specs.Layout.{size, block, stack_size, stack_words, marks, unread_size, unread_words, status_word, total, zeros, encode, table_at}
use Rattle.layout.specs.Lengths.{length-block, length-stack, length-unread, length-rows, length-slots, length-report, within-slots}
use Rattle.layout.specs.Kept.{Kept}
use Rattle.shape.specs.Encoded.{tokens-at, chunks-at, count_at}
use Rattle.moving.specs.MoveWords.{head_of, slot_at, Stands, cleared_words, laid_words, noted_words, replaced_words, reduce_words, Reducible}
use Rattle.moving.specs.BlockWords.{laid}
use Rattle.moving.specs.HandleSlots.{stack-words, stack-slots, stack-marks, handle-splits, handle-marks, handle-covers, upper-stands, reductions-fit}
use Rattle.moving.specs.AroundChunk.{from-word, made-within, slots-count, stack_stands, finer_parts, around-finer, tick-law, listed-words}
use Rattle.moving.specs.AroundChunk.{made-words, head-word, marks-word, few-moves, ends_within, number-within}

-- ---- parts of the words

cleared-part : (parts : List (List ℕ)) (k i count : ℕ) → k < length parts → i ≡ before parts k → count ≡ length (get_or parts k [])
    → cleared_words (flat parts) i count ≡ flat (set parts k (zeros count))
unfolding cleared_words
cleared-part parts k i count h e f =
    let p : List ℕ = flat (take k parts) in
    let x : List ℕ = get_or parts k [] in
    let q : List ℕ = flat (drop (suc k) parts) in
    let lp : length p ≡ i = length_before parts k h ∙ sym e in
    rw (
      flat-split parts k h,
      flat-set parts k (zeros count) h,
      take_at p (x ++ q) i lp,
      ← append_assoc p x q,
      drop_at (p ++ x) q (i + count) (omega (arith, length-append p x)),
    )

laid-part : (parts : List (List ℕ)) (k i j : ℕ) (x : Unread Span) → k < length parts → i ≡ before parts k → get_or parts k [] ≡ zeros (4 * size x) → j ≡ size x
    → laid_words (flat parts) i (word_of (symbol x)) j ≡ flat (set parts k (block 0 x))
laid-part parts k i j x h e g f =
    rw (flat-split parts k h, flat-set parts k (block 0 x) h, g)
    (laid (flat (take k parts)) x (flat (drop (suc k) parts)) i j (e ∙ sym (length_before parts k h)) f)

-- ---- a reduction more

report-snoc : (reductions : List (Reduction Span)) (x : Reduction Span)
    → report_words (reductions ++ (x ∷ [])) ≡ report_words reductions ++ (x.rule ∷ x.value.first ∷ x.value.after ∷ [])
report-snoc [] x = refl
report-snoc (y ∷ reductions) x = rw (report-snoc reductions x)

-- ---- the words before and after, in the same parts

module _ (n : ℕ) (earlier : List (Option (Chunk Span))) (handle below : List (Entry Span)) (unread : List (Unread Span)) (status : Status)
    (later : List (Option (Chunk Span))) (reductions : List (Reduction Span)) (moves : ℕ) (rest : List ℕ) (left : ℕ) (v : Span) (rule : ℕ)
    (room : length reductions < n) (fits : total earlier + (stack_size below + stack_size handle + unread_size unread + total later) ≤ n + 2)
    (one : marks handle ≡ 1) (covers : size (nonterminal_at left v) ≡ stack_size handle) where
  abbrev new : Unread Span
  new = nonterminal_at left v

  -- the slots where the handle starts and ends, and the chunk's slots
  abbrev from : ℕ
  from = total earlier + stack_size below

  abbrev head : ℕ
  head = total earlier + (stack_size below + stack_size handle)

  abbrev k : ℕ
  k = stack_size below + stack_size handle + unread_size unread

  abbrev row_of : ℕ → List ℕ
  row_of marked = status_word status ∷ total earlier ∷ head ∷ (total earlier + k) ∷ marked ∷ []

  abbrev tail : List ℕ → List (List ℕ)
  tail noted =
      zeros (4 * (n + 2 - (total earlier + (k + total later)))) ∷ report_words reductions ∷ noted ∷ zeros (3 * (n - (length reductions + 1))) ∷ rest ∷ []

  abbrev parts : ℕ → ℕ → ℕ → List ℕ → List ℕ → List (List ℕ)
  parts w made marked middle noted = finer_parts n earlier later w made (row_of marked) k (stack_words below) middle (unread_words unread) (tail noted)

  abbrev state : Chunk Span → List (Reduction Span) → ℕ → State Span
  state chunk made w = record { chunks = earlier ++ (some chunk ∷ later); reductions = made; moves = w }

  abbrev reader : Chunk Span
  reader = record { stack = handle ++ below; unread = unread; status = status }

  abbrev reduced : Chunk Span
  reduced = record { stack = nonterminal_on left v ∷ below; unread = unread; status = status }

  abbrev old : List (List ℕ)
  old = parts moves (length reductions) (marks below + 1) (stack_words handle) (0 ∷ 0 ∷ 0 ∷ [])

  was : encode n (state reader reductions moves) ++ rest ≡ flat old
  was =
      let e : 3 * (n - length reductions) ≡ suc (suc (suc (3 * (n - (length reductions + 1))))) = omega arith in
      let m : marks (handle ++ below) ≡ marks below + 1 = omega (arith, stack-marks handle below) in
      around-finer n earlier (some reader) later reductions moves rest (row_of (marks below + 1)) k
      (stack_words below) (stack_words handle) (unread_words unread) (tail (0 ∷ 0 ∷ 0 ∷ []))
      (rw (stack-slots handle below, m)) (rw (stack-slots handle below))
      (rw (stack-words handle below) (append_assoc (stack_words below) (stack_words handle) (unread_words unread))) (rw e (simp (append_assoc, append-nil)))

  will : encode n (state reduced (reductions ++ (record { rule = rule; value = v } ∷ [])) (moves + 1)) ++ rest
      ≡ flat (parts (moves + 1) (length reductions + 1) (marks below) (block 0 new) (rule ∷ v.first ∷ v.after ∷ []))
  will =
      let made : List (Reduction Span) = reductions ++ (record { rule = rule; value = v } ∷ []) in
      let m : length made ≡ length reductions + 1 = length-append reductions (record { rule = rule; value = v } ∷ []) in
      rw m at
      (around-finer n earlier (some reduced) later made (moves + 1) rest (row_of (marks below)) k (stack_words below) (block 0 new) (unread_words unread)
      (tail (rule ∷ v.first ∷ v.after ∷ []))
      (rw (covers, add-zero)) (rw covers)
      (append_assoc (stack_words below) (block 0 new) (unread_words unread)) (rw (m, report-snoc reductions (record { rule = rule; value = v })) (simp (append_assoc, append-nil))))

  module _ (c : ℕ) (number : length earlier ≡ c) (first : v.first ≡ from - 1) (after : v.after ≡ head - 1) where
    abbrev here : Live (state reader reductions moves).chunks c
    here = record { before = earlier; chunk = reader; after = later; number_is = number; chunks_are = refl }

    abbrev base : ℕ
    base = 5 + 5 * (length earlier + suc (length later))

    at-handle : base + 4 * from ≡ before old 6
    at-handle = omega (arith, length-rows 0 earlier, length-rows (total earlier + k) later, length-slots earlier, length-stack below)

    cleared : cleared_words (flat old) (base + 4 * from) (base + 4 * head - (base + 4 * from))
        ≡ flat (parts moves (length reductions) (marks below + 1) (zeros (4 * stack_size handle)) (0 ∷ 0 ∷ 0 ∷ []))
    cleared =
        let e : base + 4 * head - (base + 4 * from) ≡ 4 * stack_size handle = omega arith in
        rw e (cleared-part old 6 (base + 4 * from) (4 * stack_size handle) (omega arith) at-handle (sym (length-stack handle)))

    put : laid_words (flat (parts moves (length reductions) (marks below + 1) (zeros (4 * stack_size handle)) (0 ∷ 0 ∷ 0 ∷ []))) (base + 4 * from) (256 + left) (head - from)
        ≡ flat (parts moves (length reductions) (marks below + 1) (block 0 new) (0 ∷ 0 ∷ 0 ∷ []))
    put =
        laid-part (parts moves (length reductions) (marks below + 1) (zeros (4 * stack_size handle)) (0 ∷ 0 ∷ 0 ∷ [])) 6 (base + 4 * from) (head - from) new (omega arith)
        at-handle (rw covers) (omega (arith, covers))

    unmarked : (m : ℕ) → set (flat (parts moves (length reductions) (marks below + 1) (block 0 new) (0 ∷ 0 ∷ 0 ∷ []))) (table_at c 4) m
        ≡ flat (parts moves (length reductions) m (block 0 new) (0 ∷ 0 ∷ 0 ∷ []))
    unmarked m =
        set-part (parts moves (length reductions) (marks below + 1) (block 0 new) (0 ∷ 0 ∷ 0 ∷ [])) 2 (table_at c 4) 4 m (omega (arith, length-rows 0 earlier)) (omega arith)

    -- where the reduction is noted
    abbrev at : ℕ
    at = base + 4 * (n + 2) + 3 * length reductions

    at-made : (j m : ℕ) (noted : List ℕ) → at + j ≡ before (parts moves (length reductions) m (block 0 new) noted) 11 + j
    at-made j m noted =
        omega (
          arith,
          length-rows 0 earlier,
          length-rows (total earlier + k) later,
          length-slots earlier,
          length-stack below,
          length-block 0 new,
          length-unread unread,
          length-slots later,
          length-report reductions,
          length-replicate {A = ℕ} (4 * (n + 2 - (total earlier + (k + total later)))) 0,
        )

    noted : (m r₁ r₂ r₃ : ℕ) → noted_words (flat (parts moves (length reductions) m (block 0 new) (0 ∷ 0 ∷ 0 ∷ []))) r₁ r₂ r₃
        ≡ flat (parts moves (length reductions + 1) m (block 0 new) (r₁ ∷ r₂ ∷ r₃ ∷ []))
    unfolding noted_words
    noted m r₁ r₂ r₃ =
        let p : List ℕ → List (List ℕ) = parts moves (length reductions) m (block 0 new) in
        rw (
          set-part (p (0 ∷ 0 ∷ 0 ∷ [])) 11 at 0 r₁ (omega (arith, at-made 0 m (0 ∷ 0 ∷ 0 ∷ []))) (omega arith),
          set-part (p (r₁ ∷ 0 ∷ 0 ∷ [])) 11 (at + 1) 1 r₂ (at-made 1 m (r₁ ∷ 0 ∷ 0 ∷ [])) (omega arith),
          set-part (p (r₁ ∷ r₂ ∷ 0 ∷ [])) 11 (at + 2) 2 r₃ (at-made 2 m (r₁ ∷ r₂ ∷ 0 ∷ [])) (omega arith),
        )

    law : reduce_words (encode n (state reader reductions moves) ++ rest) c from (256 + left) rule
        ≡ encode n (state reduced (reductions ++ (record { rule = rule; value = v } ∷ [])) (moves + 1)) ++ rest
    unfolding reduce_words replaced_words
    law =
        let st : State Span = state reader reductions moves in
        let h : total earlier + stack_size (handle ++ below) ≡ head = ap (λ (i : ℕ). total earlier + i) (stack-slots handle below) in
        let m : marks (handle ++ below) - 1 ≡ marks below = omega (arith, stack-marks handle below) in
        rw (head-word n st rest here, marks-word n st rest here, h, m, was, will, cleared, put, unmarked, noted, first, after)
        (tick-law n (length earlier + suc (length later)) moves (length reductions + 1) _)

module _ {t N n : ℕ} {s : State Span} (k : Kept t N n s) (rest : List ℕ) {c : ℕ} (l : Live s.chunks c) {handle below : List (Entry Span)}
    (h : HandleAbove l.chunk.stack handle below) (b : Unread Span) (unread : List (Unread Span)) (next : l.chunk.unread ≡ b ∷ unread) where
  -- the handle, by one nonterminal with its span; `total l.before + stack_size below` is the slot where the handle starts
  pub reduce-law : (left rule : ℕ) → reduce_words (encode n s ++ rest) c (total l.before + stack_size below) (256 + left) rule
      ≡ encode n (made_at c s (record { rule = rule; value = span_of (map value_of (stack_symbols handle)) } ∷ [])
      (record { stack = nonterminal_on left (span_of (map value_of (stack_symbols handle))) ∷ below; unread = l.chunk.unread; status = l.chunk.status })) ++ rest
  reduce-law left rule =
      let v : Span = span_of (map value_of (stack_symbols handle)) in
      let q = handle-covers k l h left b unread next in
      let slots-of : stack_size l.chunk.stack ≡ stack_size below + stack_size handle = ap stack_size (handle-splits h) ∙ stack-slots handle below in
      ap (λ (words : List ℕ). reduce_words words c (total l.before + stack_size below) (256 + left) rule)
      (listed-words n s rest l (λ i. record { stack = handle-splits h i; unread = l.chunk.unread; status = l.chunk.status }))
      ∙ law n l.before handle below l.chunk.unread l.chunk.status l.after s.reductions s.moves rest left v rule
      (reductions-fit k l h) (omega (arith, within-slots k, slots-count n s rest l)) (handle-marks h)
      (omega (arith, q.covers)) c l.number_is q.first (omega (arith, q.after))
      ∙ sym (made-words n s rest l (record { rule = rule; value = v } ∷ []) (record { stack = nonterminal_on left v ∷ below; unread = l.chunk.unread; status = l.chunk.status }))

  -- the handle's words, up to `head`
  pub handle-stands : Stands (encode n s ++ rest) (slot_at (encode n s ++ rest) (total l.before + stack_size below))
      (slot_at (encode n s ++ rest) (head_of (encode n s ++ rest) c)) handle
  handle-stands =
      upper-stands handle below (slot_at (encode n s ++ rest) (total l.before + stack_size below)) (omega (arith, from-word n s rest l))
      (rw (handle-splits h) at (stack_stands n s rest l))

  pub reduce-ready : Reducible (encode n s ++ rest) c (total l.before + stack_size below)
  reduce-ready =
      let q = handle-covers k l h 0 b unread next in
      let head : head_of (encode n s ++ rest) c ≡ total l.before + stack_size l.chunk.stack = head-word n s rest l in
      record {
        few = few-moves k rest;
        chunk = rw (chunks-at n s rest) (number-within n s rest l);
        low = q.low;
        some = omega (arith, q.covers);
        marked = rw (marks-word n s rest l) (omega (arith, ap marks (handle-splits h), stack-marks handle below, handle-marks h));
        room = record { made = rw (count_at n s rest, tokens-at n s rest) (reductions-fit k l h); room = made-within k rest };
        top = rw (tokens-at n s rest) (omega (arith, ends_within k rest l));
        handle = record { stack = handle; stands = handle-stands };
      }
