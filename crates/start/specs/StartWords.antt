-- The words of a row's start in the order in which they are written: the front, a row of the table for each chunk, a slot for each
-- symbol, zeros for the reductions to come. They are the words of the machine's start.
-- Document 01, "Moves of a chunk": "Chunk 0 starts with # on its stack, others with nothing. The last chunk reads # after its
-- tokens"; docs/AREA.md gives the places.
-- Rests on StartKept, on layout's Layout and Lengths, and on machine's States and Starts.
--
-- Main definitions: start_rows, start_slots, start_words.
-- Main statements: start-words (those are the words of the machine's start), start-words-length (need n C of them).
use Rattle.std.specs.Prelude.{◌≡◌, refl, List, [], ◌∷◌, ◌++◌, map, ℕ, zero, suc, ◌+◌, ◌*◌, ◌-◌, ◌≤◌, length, take, drop}
use Rattle.std.proofs.Common.{ap, ◌∙◌, append-nil, arith, length-append, length-drop}
use Rattle.std.proofs.Math.Option.{Option}
use Rattle.std.proofs.lemmas.List.{length-replicate}
use Rattle.laws.specs.Parts.{flat}
use Rattle.language.specs.Trees.{Span}
use Rattle.machine.specs.Entries.{Unread, terminal_at}
use Rattle.machine.specs.Chunks.{Chunk}
use Rattle.machine.specs.States.{unread_from, pieces, start_chunk, start_chunks, start}
use Rattle.machine.proofs.Starts.{pieces-together}
use Rattle.layout.specs.Layout.{need, more, block, unread_size, unread_words, total, rows, slots, zeros, encode}
use Rattle.layout.specs.Lengths.{length-rows, length-slots, words_append}
use Rattle.start.specs.StartKept.{GoodCuts, no_cut, next_cut}

-- ---- the words

-- n, C, and 0 for the moves (low, high) and the reductions made
abbrev pub start_front : ℕ → ℕ → List ℕ
start_front n count = n ∷ count ∷ 0 ∷ 0 ∷ 0 ∷ []

-- a running chunk with no mark: status, from, head, end, marks
abbrev pub start_row : ℕ → ℕ → ℕ → List ℕ
start_row from head end = 1 ∷ from ∷ head ∷ end ∷ 0 ∷ []

-- the rows of the last chunks, the first of which starts at slot `from` and has its unread symbols from slot `head` on: a chunk
-- ends after the token before its cut, the last after the # of the end
abbrev pub start_rows : ℕ → ℕ → ℕ → List ℕ → List ℕ
start_rows n from head [] = start_row from head (n + 2)
start_rows n from head (cut ∷ cuts) = start_row from head (cut + 1) ++ start_rows n (cut + 1) (cut + 1) cuts

-- an unmarked terminal on one slot
abbrev pub start_slot : ℕ → List ℕ
start_slot a = a ∷ 0 ∷ 1 ∷ 1 ∷ []

-- the tokens and the # of the end
abbrev pub unread_slots : List ℕ → List ℕ
unread_slots [] = start_slot 0
unread_slots (a ∷ tokens) = start_slot a ++ unread_slots tokens

-- the # of chunk 0 stands before them
abbrev pub start_slots : List ℕ → List ℕ
start_slots tokens = start_slot 0 ++ unread_slots tokens

unfoldable pub start_words : List ℕ → List ℕ → List ℕ
start_words tokens cuts =
    start_front (length tokens) (length cuts + 1)
    ++ (start_rows (length tokens) 0 1 cuts ++ (start_slots tokens ++ zeros (3 * length tokens)))

-- ---- how many they are

pub length-start-rows : (n from head : ℕ) (cuts : List ℕ) → length (start_rows n from head cuts) ≡ 5 * (length cuts + 1)
length-start-rows n from head [] = refl
length-start-rows n from head (cut ∷ cuts) = omega (arith, length-start-rows n (cut + 1) (cut + 1) cuts)

pub length-unread-slots : (tokens : List ℕ) → length (unread_slots tokens) ≡ 4 * (length tokens + 1)
length-unread-slots [] = refl
length-unread-slots (a ∷ tokens) = omega (arith, length-unread-slots tokens)

pub length-start-slots : (tokens : List ℕ) → length (start_slots tokens) ≡ 4 * (length tokens + 2)
length-start-slots tokens = omega (arith, length-unread-slots tokens)

pub start-words-length : (tokens cuts : List ℕ) → length (start_words tokens cuts) ≡ need (length tokens) (length cuts + 1)
unfolding start_words
start-words-length tokens cuts =
    simp (length-append, length-start-rows, length-unread-slots, length-replicate) (omega arith)

-- ---- the slots

-- a token takes one slot
token-more : (a i : ℕ) → more (terminal_at a (record { first = i; after = suc i })) ≡ 0
token-more zero i = refl
token-more (suc a) i = omega arith

token_block : (a i : ℕ) → block 0 (terminal_at a (record { first = i; after = suc i })) ≡ start_slot a
unfolding block
token_block a i = rw (token-more a i)

-- .. and so does #
end-block : (v : Span) → block 0 (terminal_at 0 v) ≡ start_slot 0
unfolding block
end-block v = refl

unread-words : (i : ℕ) (tokens : List ℕ) → unread_words (unread_from i tokens) ≡ unread_slots tokens
unread-words i [] = rw end-block
unread-words i (a ∷ tokens) = rw (token_block a i, unread-words (suc i) tokens)

later-slots : (ps : List (List (Unread Span))) → slots (map (start_chunk []) ps) ≡ unread_words (flat ps)
later-slots [] = refl
later-slots (p ∷ ps) = rw (later-slots ps, words_append p (flat ps))

first-slots : (p : List (Unread Span)) (ps : List (List (Unread Span))) → slots (start_chunks (p ∷ ps)) ≡ start_slot 0 ++ unread_words (p ++ flat ps)
first-slots p ps = rw (end-block, later-slots ps, words_append p (flat ps))

-- the slots of a start's chunks are those of its symbols, however it is cut
start-slots : (tokens cuts : List ℕ) → slots (start_chunks (pieces 0 cuts (unread_from 0 tokens))) ≡ start_slots tokens
start-slots tokens [] = first-slots (unread_from 0 tokens) [] ∙ rw (append-nil (unread_from 0 tokens), unread-words 0 tokens)
start-slots tokens (cut ∷ cuts) =
    let row : List (Unread Span) = unread_from 0 tokens in
    first-slots (take (cut - 0) row) (pieces cut cuts (drop (cut - 0) row)) ∙ rw (pieces-together 0 (cut ∷ cuts) row, unread-words 0 tokens)

-- ---- the rows of the table

unread-size : (i : ℕ) (tokens : List ℕ) → unread_size (unread_from i tokens) ≡ length tokens + 1
unread-size i [] = refl
unread-size i (a ∷ tokens) = omega (arith, token-more a i, unread-size (suc i) tokens)

take-size : (k i : ℕ) (tokens : List ℕ) → k ≤ length tokens → unread_size (take k (unread_from i tokens)) ≡ k
take-size zero i tokens h = refl
take-size (suc k) i [] h = absurd (omega arith)
take-size (suc k) i (a ∷ tokens) h = omega (arith, token-more a i, take-size k (suc i) tokens (omega arith))

-- what is unread after k tokens
drop-unread : (k i j : ℕ) (tokens : List ℕ) → k ≤ length tokens → j ≡ i + k → drop k (unread_from i tokens) ≡ unread_from j (drop k tokens)
drop-unread zero i j tokens h e = let f : i ≡ j = omega arith in rw f
drop-unread (suc k) i j [] h e = absurd (omega arith)
drop-unread (suc k) i j (a ∷ tokens) h e = drop-unread k (suc i) j tokens (omega arith) (omega arith)

-- the rows of the chunks after place i, where the tokens from there on are left
later_rows : {n i : ℕ} {cuts : List ℕ} (tokens : List ℕ) → GoodCuts n i cuts → i + length tokens ≡ n
    → rows (i + 1) (map (start_chunk []) (pieces i cuts (unread_from i tokens))) ≡ start_rows n (i + 1) (i + 1) cuts
later_rows {n} {i} tokens no_cut e =
    let a : i + 1 + 0 ≡ i + 1 = omega arith in
    let b : i + 1 + (0 + unread_size (unread_from i tokens)) ≡ n + 2 = omega (arith, unread-size i tokens) in
    rw (a, b)
later_rows {n} {i} tokens (next_cut {cut = cut} p q g) e =
    let a : i + 1 + 0 ≡ i + 1 = omega arith in
    let b : i + 1 + (0 + unread_size (take (cut - i) (unread_from i tokens))) ≡ cut + 1 = omega (arith, take-size (cut - i) i tokens (omega arith)) in
    let d = drop-unread (cut - i) i cut tokens (omega arith) (omega arith) in
    rw (a, b, d, later_rows (drop (cut - i) tokens) g (omega (arith, length-drop (cut - i) tokens)))

start-rows : (tokens : List ℕ) {cuts : List ℕ} → GoodCuts (length tokens) 0 cuts
    → rows 0 (start_chunks (pieces 0 cuts (unread_from 0 tokens))) ≡ start_rows (length tokens) 0 1 cuts
start-rows tokens no_cut =
    let b : 0 + (1 + unread_size (unread_from 0 tokens)) ≡ length tokens + 2 = omega (arith, unread-size 0 tokens) in
    rw b
start-rows tokens (next_cut {cut = cut} p q g) =
    let b : 0 + (1 + unread_size (take (cut - 0) (unread_from 0 tokens))) ≡ cut + 1 = omega (arith, take-size (cut - 0) 0 tokens (omega arith)) in
    let d = drop-unread (cut - 0) 0 cut tokens (omega arith) (omega arith) in
    rw (b, d, later_rows (drop (cut - 0) tokens) g (omega (arith, length-drop (cut - 0) tokens)))

-- ---- the whole

-- the words that are written are the words of the machine's start
pub start-words : (tokens cuts : List ℕ) → GoodCuts (length tokens) 0 cuts → start_words tokens cuts ≡ encode (length tokens) (start tokens cuts)
unfolding start_words encode
start-words tokens cuts g =
    let chunks : List (Option (Chunk Span)) = start_chunks (pieces 0 cuts (unread_from 0 tokens)) in
    let table : rows 0 chunks ≡ start_rows (length tokens) 0 1 cuts = start-rows tokens g in
    let laid : slots chunks ≡ start_slots tokens = start-slots tokens cuts in
    let count : length chunks ≡ length cuts + 1 = omega (arith, length-rows 0 chunks, ap length table, length-start-rows (length tokens) 0 1 cuts) in
    let none_free : 4 * (length tokens + 2 - total chunks) ≡ 0 = omega (arith, length-slots chunks, ap length laid, length-start-slots tokens) in
    let all-free : 3 * (length tokens - 0) ≡ 3 * length tokens = omega arith in
    rw (count, table, laid, none_free, all-free)
