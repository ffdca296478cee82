-- Reading a state back from its words: decoding undoes encoding, whatever stands after the words; so no two states that keep the rules
-- have the same words, and an area in shape is the encoding of what it decodes to.
-- Document 01: "as words at places docs/ gives".
-- Rests on ShapeExactly.
--
-- Main statements: decode-encode, encode-once, decoded, encode-decode.
use Rattle.std.specs.Prelude.{◌≡◌, refl, true, false, eqb, take, drop}
use Rattle.std.proofs.Common.{sym, ◌∙◌, subst, add-zero, arith, take_at}
use Rattle.std.proofs.Math.Path.{ap}
use mathlib.Core.List.{List, [], ◌∷◌, ◌++◌, append_assoc, map, reverse_aux, reverse-reverse}
use Rattle.std.proofs.Math.Option.{Option, none, some}
use Prim.Native.Nat.{ℕ, zero, suc, ◌+◌, ◌*◌, ◌-◌, ◌≤◌, ◌<◌}
use Rattle.std.proofs.Math.Nat.{zero-add}
use Rattle.std.proofs.Math.ListN.{length, get_or, get_or-append}
use Rattle.laws.specs.Tests.{lt-ltb, le-ltb, up_to}
use Rattle.laws.specs.Parts.{drop_past, get_d_past}
use Rattle.laws.specs.UpTo.{map-up_to}
use Rattle.language.specs.Symbols.{Symbol, terminal, nonterminal, word_of, symbol_of}
use Rattle.language.specs.Trees.{Span, Reduction}
use Rattle.language.specs.Reports.{report_words}
use Rattle.machine.specs.Entries.{Unread, terminal_at, nonterminal_at, Entry, terminal_on, nonterminal_on, symbol, value_of, unmarked}
use Rattle.machine.specs.Moves.{no_relation, no_rule, not_axiom, side_by_side}
use Rattle.machine.specs.Chunks.{Status, running, stuck, Chunk}
use Rattle.machine.specs.States.{State}
use Rattle.layout.specs.Layout.{need, size, block, mark_word, stack_size, stack_words, unread_words, chunk_size, chunk_words, status_word, row, rows, slots, encode, row_word, slots_at}
use Rattle.layout.specs.Layout.{slot_word, made_at_word, span_at, unread_of, stack_entry_of, unread_at, stack_entry_at, read_unread, read_stack, status_of, chunk_of, read_made, decode}
use Rattle.layout.specs.Kept.{Lies, first_end, last_end, within, SymbolInRange, Kept}
use Rattle.layout.specs.Lengths.{length-row, length-stack, length-chunk, length-block, within-slots, encode-length}
use Rattle.shape.specs.Blocks.{EntryStands, word}
use Rattle.shape.specs.Sides.{rising_words, Placed, no_more, then_stands, placed_end}
use Rattle.shape.specs.Rising.{rising-stack, plain-unread}
use Rattle.shape.specs.Walks.{ChunkFits, AllFit, no_more_fit, gone-fits, live_fits, status-word}
use Rattle.shape.specs.Chunkwise.{kept-fits}
use Rattle.shape.specs.Encoded.{area, slots_from, slots-past, from_slots, from_unused_slots, from_unused_made, chunks-at, moves-at, count_at, table-at, slots-at, made_at}
use Rattle.area.specs.Shape.{area_in_shape}
use Rattle.shape.specs.ShapeExactly.{HoldsState, shape-state}

-- ---- a symbol

symbol-back : (t N : ℕ) → t < 256 → (y : Symbol) → SymbolInRange t N y → symbol_of (word_of y) ≡ y
symbol-back t N few (terminal a) r = rw (lt-ltb a 256 (omega arith), symbol_of)
symbol-back t N few (nonterminal k) r = let e : 256 + k - 256 ≡ k = omega arith in rw (le-ltb (256 + k) 256 (omega arith), symbol_of, e)

value-of : {n s : ℕ} {x : Unread Span} → Lies n s x → value_of x ≡ span_at (symbol x) s (size x)
value-of (first_end q e v) = v
value-of (last_end q e v) = v
value-of (within l h e v) = v

symbol-read : (x : Unread Span) → unread_of (symbol x) (value_of x) ≡ x
symbol-read (terminal_at a v) = refl
symbol-read (nonterminal_at k v) = refl

entry_read : (x : Entry Span) → stack_entry_of (mark_word x) (symbol (unmarked x)) (value_of (unmarked x)) ≡ x
entry_read (terminal_on true a v) = refl
entry_read (terminal_on false a v) = refl
entry_read (nonterminal_on k v) = refl

status-back : (s : Status) → status_of (status_word s) ≡ s
status-back running = refl
status-back (stuck no_relation) = refl
status-back (stuck no_rule) = refl
status-back (stuck not_axiom) = refl
status-back (stuck side_by_side) = refl

-- ---- a side of a chunk

module _ (t N n : ℕ) (few : t < 256) (words : List ℕ) where
  -- the words of an entry that stands at slot s
  record EntryAt (s : ℕ) (x : Entry Span) : Type 0 where
    symbol_at : slot_word words s 0 ≡ word x
    mark_at : slot_word words s 1 ≡ mark_word x
    size_at : slot_word words s 2 ≡ size (unmarked x)

  entry-words : (s : ℕ) (x : Entry Span) (after : List ℕ) → slots_from words s ≡ block (mark_word x) (unmarked x) ++ after → EntryAt s x
  unfolding block
  entry-words s x after d =
      let at : (k : ℕ) → slot_word words s k ≡ get_or (block (mark_word x) (unmarked x) ++ after) k 0 = λ k. get_d_past words (slots_at words + 4 * s) k _ d in
      record { symbol_at = at 0; mark_at = at 1; size_at = at 2 }

  entry-at : (s : ℕ) (x : Entry Span) → EntryStands t N n s x → EntryAt s x → stack_entry_at words s ≡ x
  entry-at s x st e =
      rw (e.symbol_at, e.mark_at, e.size_at, symbol-back t N few (symbol (unmarked x)) st.ranged, ← value-of st.lies) (entry_read x)

  unread-at : (s : ℕ) (x : Entry Span) → EntryStands t N n s x → EntryAt s x → unread_at words s ≡ unmarked x
  unread-at s x st e =
      rw (e.symbol_at, e.size_at, symbol-back t N few (symbol (unmarked x)) st.ranged, ← value-of st.lies) (symbol-read (unmarked x))

  stack-back : {s e : ℕ} {entries : List (Entry Span)} → Placed t N n s entries e → (fuel : ℕ) (below : List (Entry Span)) (after : List ℕ) → e ≤ s + fuel
      → slots_from words s ≡ rising_words entries ++ after → read_stack fuel words s e below ≡ reverse_aux entries below
  stack-back (no_more q) zero below after h d = refl
  stack-back {s} {e} (no_more q) (suc fuel) below after h d = rw (le-ltb s e (omega arith), read_stack)
  stack-back (then_stands {x = x} st p) zero below after h d = absurd (omega (arith, placed_end p))
  stack-back {s} {e} (then_stands {x = x} {entries = entries} st p) (suc fuel) below after h d =
      let own : List ℕ = block (mark_word x) (unmarked x) in
      let d₁ = d ∙ append_assoc own (rising_words entries) after in
      let w = entry-words s x (rising_words entries ++ after) d₁ in
      rw (lt-ltb s e (omega (arith, placed_end p)), read_stack, entry-at s x st w, w.size_at)
      (stack-back p fuel (x ∷ below) after (omega arith)
      (slots-past words s (size (unmarked x)) own (rising_words entries ++ after) (length-block (mark_word x) (unmarked x)) d₁))

  unread-back : {s e : ℕ} {entries : List (Entry Span)} → Placed t N n s entries e → (fuel : ℕ) (after : List ℕ) → e ≤ s + fuel
      → slots_from words s ≡ rising_words entries ++ after → read_unread fuel words s e ≡ map unmarked entries
  unread-back (no_more q) zero after h d = refl
  unread-back {s} {e} (no_more q) (suc fuel) after h d = rw (le-ltb s e (omega arith), read_unread)
  unread-back (then_stands {x = x} st p) zero after h d = absurd (omega (arith, placed_end p))
  unread-back {s} {e} (then_stands {x = x} {entries = entries} st p) (suc fuel) after h d =
      let own : List ℕ = block (mark_word x) (unmarked x) in
      let d₁ = d ∙ append_assoc own (rising_words entries) after in
      let w = entry-words s x (rising_words entries ++ after) d₁ in
      let d₂ = slots-past words s (size (unmarked x)) own (rising_words entries ++ after) (length-block (mark_word x) (unmarked x)) d₁ in
      rw (lt-ltb s e (omega (arith, placed_end p)), read_unread, unread-at s x st w, w.size_at, unread-back p fuel after (omega arith) d₂)

  -- ---- a chunk

  row_words : (c from : ℕ) (chunk : Option (Chunk Span)) (after : List ℕ) → drop (5 + 5 * c) words ≡ row from chunk ++ after
      → (k : ℕ) → k < 5 → row_word words c k ≡ get_or (row from chunk) k 0
  row_words c from chunk after d k h =
      get_d_past words (5 + 5 * c) k (row from chunk ++ after) d ∙ get_or-append (row from chunk) after 0 k (omega (arith, length-row from chunk))

  gone-back : (c from : ℕ) (after : List ℕ) → drop (5 + 5 * c) words ≡ row from none ++ after → chunk_of words c ≡ none
  gone-back c from after d =
      let e : eqb (row_word words c 0) 0 ≡ true = ap (λ x. eqb x 0) (row_words c from none after d 0 (omega arith)) in
      rw (e, chunk_of)

  live_back : (c from : ℕ) (chunk : Chunk Span) (after beyond : List ℕ) → ChunkFits t N n from chunk → drop (5 + 5 * c) words ≡ row from (some chunk) ++ after
      → slots_from words from ≡ chunk_words (some chunk) ++ beyond → chunk_of words c ≡ some chunk
  live_back c from chunk after beyond f d b =
      let head : ℕ = from + stack_size chunk.stack in
      let end : ℕ = from + chunk_size (some chunk) in
      let r = rising-stack chunk.stack in
      let p = plain-unread chunk.unread in
      let at : (k : ℕ) → k < 5 → row_word words c k ≡ get_or (row from (some chunk)) k 0 = row_words c from (some chunk) after d in
      let e : eqb (row_word words c 0) 0 ≡ false = ap (λ x. eqb x 0) (at 0 (omega arith)) ∙ status-word chunk.status in
      let b₁ = b ∙ append_assoc (stack_words chunk.stack) (unread_words chunk.unread) beyond in
      let b₂ = slots-past words from (stack_size chunk.stack) (stack_words chunk.stack) (unread_words chunk.unread ++ beyond) (length-stack chunk.stack) b₁ in
      let stack_is : read_stack (head - from) words from head [] ≡ chunk.stack =
      stack-back f.stack_stands (head - from) [] (unread_words chunk.unread ++ beyond) (omega arith) (rw r.words_are b₁)
      ∙ reverse-reverse chunk.stack in
      let unread_is : read_unread (end - head) words head end ≡ chunk.unread =
      unread-back f.unread_stands (end - head) beyond (omega arith) (rw p.words_are b₂) ∙ p.symbols_are in
      rw (e, chunk_of, at 0 (omega arith), at 1 (omega arith), at 2 (omega arith), at 3 (omega arith), stack_is, unread_is, status-back chunk.status)

  chunks-back : {from : ℕ} {chunks : List (Option (Chunk Span))} → AllFit t N n from chunks → (c : ℕ) (after beyond : List ℕ)
      → drop (5 + 5 * c) words ≡ rows from chunks ++ after → slots_from words from ≡ slots chunks ++ beyond
      → (i : ℕ) → i < length chunks → chunk_of words (c + i) ≡ get_or chunks i none
  chunks-back no_more_fit c after beyond d b i h = absurd (omega arith)
  chunks-back {from} (gone-fits {chunks = chunks} f) c after beyond d b zero h = rw (add-zero c) (gone-back c from (rows (from + 0) chunks ++ after) d)
  chunks-back {from} (gone-fits {chunks = chunks} f) c after beyond d b (suc i) h =
      let z : from + 0 ≡ from = omega arith in
      let j : c + suc i ≡ c + 1 + i = omega arith in
      let d₁ = drop_past words (5 + 5 * c) (5 + 5 * (c + 1)) (row from none) (rows (from + 0) chunks ++ after) (omega arith) d in
      rw j (chunks-back f (c + 1) after beyond (rw z at d₁) b i (omega arith))
  chunks-back {from} (live_fits {c = chunk} {chunks = chunks} f fs) c after beyond d b zero h =
      let b₁ = b ∙ append_assoc (chunk_words (some chunk)) (slots chunks) beyond in
      rw (add-zero c) (live_back c from chunk (rows (from + chunk_size (some chunk)) chunks ++ after) (slots chunks ++ beyond) f d b₁)
  chunks-back {from} (live_fits {c = chunk} {chunks = chunks} f fs) c after beyond d b (suc i) h =
      let j : c + suc i ≡ c + 1 + i = omega arith in
      let b₁ = b ∙ append_assoc (chunk_words (some chunk)) (slots chunks) beyond in
      let b₂ = slots-past words from (chunk_size (some chunk)) (chunk_words (some chunk)) (slots chunks ++ beyond) (length-chunk (some chunk)) b₁ in
      let others : List ℕ = rows (from + chunk_size (some chunk)) chunks ++ after in
      let d₁ = drop_past words (5 + 5 * c) (5 + 5 * (c + 1)) (row from (some chunk)) others (omega arith) d in
      rw j (chunks-back fs (c + 1) after beyond d₁ b₂ i (omega arith))

-- ---- the reductions

-- writing reductions, and reading these words
pub entries-back : (reductions : List (Reduction Span)) (words : List ℕ) (i : ℕ) (after : List ℕ) → drop i words ≡ report_words reductions ++ after
    → read_made (length reductions) words i ≡ reductions
entries-back [] words i after d = refl
entries-back (x ∷ reductions) words i after d =
    let z : get_or words i 0 ≡ get_or words (i + 0) 0 = ap (λ j. get_or words j 0) (sym (add-zero i)) in
    let at : (k : ℕ) → get_or words (i + k) 0 ≡ get_or (report_words (x ∷ reductions) ++ after) k 0 = λ k. get_d_past words i k _ d in
    let d₁ = drop_past words i (i + 3) (report_words (x ∷ [])) (report_words reductions ++ after) refl d in
    rw (z ∙ at 0, at 1, at 2, entries-back reductions words (i + 3) after d₁)

-- ---- the whole

module _ {t N n : ℕ} {s : State Span} (few : t < 256) (k : Kept t N n s) (rest : List ℕ) where
  -- decoding undoes encoding, whatever stands after the words
  pub decode-encode : decode (encode n s ++ rest) ≡ s
  unfolding decode
  decode-encode =
      let words : List ℕ = area n s rest in
      let at : (i : ℕ) → i < length s.chunks → chunk_of words i ≡ get_or s.chunks i none =
      λ i h. rw zero-add at (chunks-back t N n few words (kept-fits k) 0 (from_slots n s rest) (from_unused_slots n s rest) (table-at n s rest) (slots-at n s rest) i h) in
      let cs = ap (λ c. map (chunk_of words) (up_to c)) (chunks-at n s rest) ∙ map-up_to (chunk_of words) s.chunks none at in
      let ms =
      ap (λ m. read_made m words (made_at_word words)) (count_at n s rest)
      ∙ entries-back s.reductions words (made_at_word words) (from_unused_made n s rest) (made_at n s rest (within-slots k)) in
      λ i. record { chunks = cs i; reductions = ms i; moves = moves-at n s rest i }

-- no two states that keep the rules have the same words
pub encode-once : {t N n : ℕ} {s s' : State Span} → t < 256 → Kept t N n s → Kept t N n s' → encode n s ≡ encode n s' → s ≡ s'
encode-once few k k' e = sym (decode-encode few k []) ∙ ap (λ l. decode (l ++ [])) e ∙ decode-encode few k' []

-- an area in shape holds the state that it decodes to
pub decoded : (t N : ℕ) (words : List ℕ) → t < 256 → get_or words 2 0 < 65536 → area_in_shape t N words ≡ true → HoldsState t N words (decode words)
decoded t N words few low h =
    let r = shape-state t N words few low h in
    let k = r.holds_state in
    subst (λ s. HoldsState t N words s) (sym (decode-encode few k.kept (drop (need (get_or words 0 0) (get_or words 1 0)) words)) ∙ ap decode (sym k.is)) k

-- encoding undoes decoding, on the words that the state needs
pub encode-decode : (t N : ℕ) (words : List ℕ) → t < 256 → get_or words 2 0 < 65536 → area_in_shape t N words ≡ true
    → encode (get_or words 0 0) (decode words) ≡ take (need (get_or words 0 0) (get_or words 1 0)) words
encode-decode t N words few low h =
    let r = decoded t N words few low h in
    let n : ℕ = get_or words 0 0 in
    let k : ℕ = need n (get_or words 1 0) in
    let l : length (encode n (decode words)) ≡ k = encode-length r.kept ∙ ap (λ c. need n c) r.chunks_are in
    sym (ap (λ l. take k l) r.is ∙ take_at (encode n (decode words)) (drop k words) k l)
