-- A start keeps the rules: of 1 to 16,384 tokens in 1..T, cut at no more than 63 places that never fall and are at most n.
-- Document 01, "Moves of a chunk": "Cuts are C-1 nondecreasing places from 0 to n; equal cuts give empty chunks. .. Chunk 0 starts with #
-- on its stack, others with nothing. The last chunk reads # after its tokens"; the table's 7, 8, 9 and 10.
-- Rests on Start, on layout's Kept and RowCounts, and on machine's Starts and results' Bounded.
--
-- Main definitions: GoodTokens, GoodCuts. Main statements: start-kept; few_tokens, no_end, few_cuts, cut-within, cuts-good, startable-kept.
use Rattle.std.specs.Prelude.{◌≡◌, refl, Bool, true, false, List, [], ◌∷◌, map, ℕ, zero, suc, ◌+◌, ◌-◌, ◌≤◌, ◌<◌, eqb, length, get_or, drop}
use Rattle.std.proofs.Common.{ap, arith, length-drop}
use Rattle.laws.specs.Tests.{ne_eqb, le-unless}
use Rattle.language.specs.Symbols.{terminal}
use Rattle.language.specs.Trees.{Span}
use Rattle.language.specs.Words.{count_t, too_low, too_high}
use Rattle.machine.specs.Entries.{Unread, terminal_at}
use Rattle.machine.specs.States.{live, unread_from, pieces, start_chunk, start}
use Rattle.machine.specs.Starts.{NoEnd, bottom, later_chunk, symbols_along}
use Rattle.machine.proofs.Starts.{later-symbols, row-length, begun}
use Rattle.results.specs.RunsEnd.{one_unless_end, terminals_unread}
use Rattle.results.specs.Bounded.{falls-start, potential-start}
use Rattle.layout.specs.Layout.{size}
use Rattle.layout.specs.Kept.{Lies, first_end, last_end, within, Tiles, tiled, tile, AllInRange, none_left, in_range, LastHolds, holds, later_holds}
use Rattle.layout.specs.Kept.{whole, not_stuck, AllStuckFine, no_chunk, and_chunk, FirstLive, first_live, Kept}
use Rattle.layout.specs.RowCounts.{terminals-of-row}
use Rattle.start.specs.Start.{StartInput, no_tokens, too_many, wrong_token, too_many_cuts, cut_above, cut_below, Startable}

-- every token is in 1..T
pub data GoodTokens (terminals : ℕ) : List ℕ → Type 0 where
  no_token : GoodTokens terminals []
  token : {a : ℕ} {tokens : List ℕ} → 1 ≤ a → a ≤ terminals → GoodTokens terminals tokens → GoodTokens terminals (a ∷ tokens)

-- cuts that never fall, from some place on, and are at most n
pub data GoodCuts (n : ℕ) : ℕ → List ℕ → Type 0 where
  no_cut : {from : ℕ} → GoodCuts n from []
  next_cut : {from cut : ℕ} {cuts : List ℕ} → from ≤ cut → cut ≤ n → GoodCuts n cut cuts → GoodCuts n from (cut ∷ cuts)

-- ---- the symbols of a start

-- a token at place i, and # at place i: on slot i+1
abbrev token_at : ℕ → ℕ → Unread Span
token_at i a = terminal_at a (record { first = i; after = suc i })

abbrev end_at : ℕ → Unread Span
end_at i = terminal_at 0 (record { first = i; after = i })

token-lies : {n : ℕ} (i a : ℕ) → i < n → Lies n (i + 1) (token_at i (suc a))
token-lies {n} i a h =
    let f : i ≡ i + 1 - 1 = omega arith in
    let l : suc i ≡ (i + 1 - 1) + size (token_at i (suc a)) = omega arith in
    within (omega arith) (omega arith) (λ c. not_end c) (λ k. record { first = f k; after = l k })
  where
    not_end : terminal (suc a) ≡ terminal 0 → ⊥
    not_end c = let z : suc a ≡ 0 = cc in omega arith

end-lies : {n : ℕ} (i : ℕ) → i ≡ n → Lies n (i + 1) (end_at i)
end-lies {n} i e = let f : i ≡ i + 1 - 1 = omega arith in last_end (omega arith) refl (λ k. record { first = f k; after = f k })

-- # and then the row
start-symbols : (tokens cuts : List ℕ) → symbols_along (live (start tokens cuts).chunks) ≡ end_at 0 ∷ unread_from 0 tokens
start-symbols tokens cuts =
    let b = begun tokens cuts in
    rw (b.chunks, later-symbols b.rest, b.row)

tokens-tile : {n t : ℕ} (i : ℕ) {tokens : List ℕ} → GoodTokens t tokens → i + length tokens ≡ n → Tiles n (i + 1) (unread_from i tokens) (n + 2)
tokens-tile {n} i no_token e = let z : n + 2 ≡ i + 1 + size (end_at i) = omega arith in rw z (tile (end-lies i (omega arith)) tiled)
tokens-tile i (token {a = zero} p q g) e = absurd (omega arith)
tokens-tile {n} i (token {a = suc a} {tokens = tokens} p q g) e =
    let z : i + 1 + size (token_at i (suc a)) ≡ suc i + 1 = omega arith in
    let rest : Tiles n (i + 1 + size (token_at i (suc a))) (unread_from (suc i) tokens) (n + 2) = rw z (tokens-tile (suc i) g (omega arith)) in
    tile (token-lies i a (omega arith)) rest

tokens-ranged : {t N : ℕ} (i : ℕ) {tokens : List ℕ} → GoodTokens t tokens → AllInRange t N (unread_from i tokens)
tokens-ranged {t} i no_token = let l : 0 ≤ t = omega arith in in_range l none_left
tokens-ranged i (token p q g) = in_range q (tokens-ranged (suc i) g)

one_at_most : (b : Bool) → one_unless_end b ≤ 1
one_at_most true = omega arith
one_at_most false = omega arith

terminals-at-most : (i : ℕ) (tokens : List ℕ) → terminals_unread (unread_from i tokens) ≤ length tokens
terminals-at-most i [] = omega arith
terminals-at-most i (a ∷ tokens) = omega (arith, one_at_most (eqb a 0), terminals-at-most (suc i) tokens)

good-no-end : {t : ℕ} {tokens : List ℕ} → GoodTokens t tokens → NoEnd tokens
good-no-end no_token = tt
good-no-end (token {a = a} p q g) = (ne_eqb a 0 (λ e. omega arith), good-no-end g)

-- ---- the chunks of a start

pieces-number : (i : ℕ) (cuts : List ℕ) (row : List (Unread Span)) → length (map (start_chunk []) (pieces i cuts row)) ≡ suc (length cuts)
pieces-number i [] row = refl
pieces-number i (cut ∷ cuts) row = ap suc (pieces-number cut cuts (drop (cut - i) row))

chunks-number : (tokens cuts : List ℕ) → length (start tokens cuts).chunks ≡ suc (length cuts)
chunks-number tokens [] = refl
chunks-number tokens (cut ∷ cuts) = ap suc (pieces-number cut cuts (drop (cut - 0) (unread_from 0 tokens)))

start_first : (tokens cuts : List ℕ) → FirstLive (start tokens cuts).chunks
start_first tokens [] = let l : 0 < length bottom = omega arith in first_live l
start_first tokens (cut ∷ cuts) = let l : 0 < length bottom = omega arith in first_live l

-- # is in the last piece
last-piece : {n : ℕ} {from : ℕ} {cuts : List ℕ} (row : List (Unread Span)) → GoodCuts n from cuts → from ≤ n → from + length row ≡ n + 1
    → LastHolds (live (map (start_chunk []) (pieces from cuts row)))
last-piece row no_cut l e = let z : 0 < 0 + length row = omega arith in holds z
last-piece {from = from} row (next_cut {cut = cut} p q g) l e = later_holds (last-piece (drop (cut - from) row) g q (omega (arith, length-drop (cut - from) row)))

start-holds : (tokens : List ℕ) {cuts : List ℕ} → GoodCuts (length tokens) 0 cuts → LastHolds (live (start tokens cuts).chunks)
start-holds tokens no_cut = let z : 0 < 1 + length (unread_from 0 tokens) = omega arith in holds z
start-holds tokens (next_cut {cut = cut} p q g) =
    later_holds (last-piece (drop (cut - 0) (unread_from 0 tokens)) g q (omega (arith, length-drop (cut - 0) (unread_from 0 tokens), row-length 0 tokens)))

later-fine : (pieces : List (List (Unread Span))) → AllStuckFine (map later_chunk pieces)
later-fine [] = no_chunk
later-fine (piece ∷ pieces) = and_chunk (not_stuck refl) (later-fine pieces)

start_fine : (tokens cuts : List ℕ) → AllStuckFine (live (start tokens cuts).chunks)
start_fine tokens cuts = let b = begun tokens cuts in rw b.chunks (and_chunk (not_stuck refl) (later-fine b.rest))

pub start-kept : {t N : ℕ} (tokens cuts : List ℕ) → 1 ≤ length tokens → length tokens ≤ 16384 → GoodTokens t tokens → GoodCuts (length tokens) 0 cuts → length cuts ≤ 63
    → Kept t N (length tokens) (start tokens cuts)
start-kept {t} {N} tokens cuts some few good cut-well few_cuts =
    let number = chunks-number tokens cuts in
    let none_below : 0 ≤ t = omega arith in
    record {
      some_token = some;
      few_tokens = few;
      few_chunks = omega arith;
      first = start_first tokens cuts;
      end = length tokens + 2;
      ending = whole (start-holds tokens cut-well);
      tiles = rw (start-symbols tokens cuts) (tile (first_end refl refl refl) (tokens-tile 0 good (omega arith)));
      ranged = rw (start-symbols tokens cuts) (in_range none_below (tokens-ranged 0 good));
      fine = (falls-start tokens cuts).fine;
      stuck_fine = start_fine tokens cuts;
      room = omega (arith, terminals-of-row (live (start tokens cuts).chunks), ap terminals_unread (start-symbols tokens cuts), terminals-at-most 0 tokens);
      bounded = rw number (omega (arith, potential-start tokens cuts (good-no-end good)));
    }

-- ---- a row that can start

-- tokens and cuts by their places
good-tokens : {t : ℕ} (tokens : List ℕ) → ((i : ℕ) → i < length tokens → (1 ≤ get_or tokens i 0) × (get_or tokens i 0 ≤ t)) → GoodTokens t tokens
good-tokens [] h = no_token
good-tokens (a ∷ tokens) h =
    let first = h 0 (omega arith) in
    token first.0 first.1 (good-tokens tokens (λ i l. h (suc i) (omega arith)))

good-cuts : {n : ℕ} (from : ℕ) (cuts : List ℕ) → (0 < length cuts → from ≤ get_or cuts 0 0) → ((i : ℕ) → i < length cuts → get_or cuts i 0 ≤ n)
    → ((i : ℕ) → suc i < length cuts → get_or cuts i 0 ≤ get_or cuts (suc i) 0) → GoodCuts n from cuts
good-cuts from [] h low up = no_cut
good-cuts from (cut ∷ cuts) h low up =
    next_cut (h (omega arith)) (low 0 (omega arith)) (good-cuts cut cuts (λ l. up 0 (omega arith)) (λ i l. low (suc i) (omega arith)) (λ i l. up (suc i) (omega arith)))

module _ {input : StartInput} (can : Startable input) where
  abbrev tokens : List ℕ
  tokens = input.tokens

  abbrev cuts : List ℕ
  cuts = input.cuts

  abbrev n : ℕ
  n = length tokens

  some_token : 1 ≤ n
  some_token = le-unless 1 n (λ h. can.some_token 0 (no_tokens (omega arith) refl))

  pub few_tokens : n ≤ 16384
  few_tokens = le-unless n 16384 (λ h. can.few_tokens 0 (too_many h refl))

  right-token : (i : ℕ) → i < n → (1 ≤ get_or tokens i 0) × (get_or tokens i 0 ≤ count_t input.words)
  right-token i l = (
    le-unless 1 (get_or tokens i 0) (λ h. can.right_tokens i (wrong_token l (too_low h))),
    le-unless (get_or tokens i 0) (count_t input.words) (λ h. can.right_tokens i (wrong_token l (too_high h))),
  )

  -- no token is #
  pub no_end : NoEnd tokens
  no_end = good-no-end (good-tokens tokens right-token)

  pub few_cuts : length cuts ≤ 63
  few_cuts = le-unless (length cuts) 63 (λ h. can.right_cuts 63 (too_many_cuts h))

  pub cut-within : (i : ℕ) → i < length cuts → get_or cuts i 0 ≤ n
  cut-within i l = le-unless (get_or cuts i 0) n (λ h. can.right_cuts i (cut_above few_cuts l h))

  cut-rises : (i : ℕ) → suc i < length cuts → get_or cuts i 0 ≤ get_or cuts (suc i) 0
  cut-rises i l = le-unless (get_or cuts i 0) (get_or cuts (suc i) 0) (λ h. can.right_cuts (suc i) (cut_below few_cuts l h))

  pub cuts-good : GoodCuts n 0 cuts
  cuts-good = good-cuts 0 cuts (λ l. omega arith) cut-within cut-rises

  -- what start leaves keeps the rules
  pub startable-kept : {N : ℕ} → Kept (count_t input.words) N n (start tokens cuts)
  startable-kept = start-kept tokens cuts some_token few_tokens (good-tokens tokens right-token) cuts-good few_cuts
