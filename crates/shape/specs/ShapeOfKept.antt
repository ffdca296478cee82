-- Every state that keeps the rules is in shape, whatever stands after its words: no rule is broken.
-- Document 01, 15 BAD STATE: "15 is given whenever one of them is broken and never otherwise".
-- t, N: how many terminals and nonterminals the grammar has; n: how many tokens the row has.
-- Rests on Rules.
--
-- Main statement: shape-complete.
use Rattle.std.specs.Prelude.{◌≡◌, true, List, [], ◌∷◌, ◌++◌, ℕ, ◌+◌, ◌*◌, ◌-◌, ◌≤◌, ◌<◌, length, drop}
use Rattle.std.proofs.Math.Option.{Option}
use Rattle.std.proofs.Common.{arith, length-append}
use Rattle.laws.specs.Tests.{le-leb}
use Rattle.laws.specs.Picks.{of-each}
use Rattle.language.specs.Trees.{Span}
use Rattle.machine.specs.Chunks.{Chunk}
use Rattle.machine.specs.States.{State, live}
use Rattle.results.specs.Bounded.{terminals_in, potential, most_moves}
use Rattle.area.specs.declared.shape.Walk.{Walk}
use Rattle.layout.specs.Layout.{need, total, encode, slots_at, made_at_word}
use Rattle.layout.specs.Kept.{FirstLive, first_live, Kept}
use Rattle.layout.specs.Lengths.{encode-length, total-is, within-slots}
use Rattle.area.specs.Shape.{rule_c, walk_of, first_fits, end_fits, rule_i, rule_j, blank, rule_k, area_in_shape}
use Rattle.shape.specs.Chunkwise.{kept-fits}
use Rattle.shape.specs.Encoded.{area, slots_from, from_slots, from_unused_slots, from_made, tokens-at, chunks-at, moves-at}
use Rattle.shape.specs.Encoded.{count_at, table-at, slots-at, unused-slots-at, unused-made-at}
use Rattle.shape.specs.Rules.{Counts, Walked, walk-counts, potential-is, first_to, end-to, blank-zeros}

some_chunk : {chunks : List (Option (Chunk Span))} → FirstLive chunks → 1 ≤ length chunks
some_chunk (first_live h) = omega arith

module _ {t N n : ℕ} {s : State Span} (few : t < 256) (k : Kept t N n s) (rest : List ℕ) where
  abbrev words : List ℕ
  words = area n s rest

  walked : Walked s.chunks (walk_of t N words)
  walked =
      walk-counts few (kept-fits k) words (from_slots n s rest) (from_unused_slots n s rest) (tokens-at n s rest) (chunks-at n s rest) (table-at n s rest)
      (slots-at n s rest)

  abbrev walk : Walk
  walk = walked.walk

  abbrev counts : Counts s.chunks walk
  counts = walked.counts

  rule-c : rule_c words ≡ true
  rule-c =
      rw (
        tokens-at n s rest,
        chunks-at n s rest,
        le-leb 1 n k.some_token,
        le-leb n 16384 k.few_tokens,
        le-leb 1 (length s.chunks) (some_chunk k.first),
        le-leb (length s.chunks) 64 k.few_chunks,
        le-leb (need n (length s.chunks)) (length words) (omega (arith, length-append (encode n s) rest, encode-length k)),
      )

  rule-i : rule_i words walk ≡ true
  rule-i = rw (count_at n s rest, counts.terminals_are, tokens-at n s rest) (le-leb (length s.reductions + terminals_in (live s.chunks)) n k.room)

  rule-j : rule_j words walk ≡ true
  rule-j =
      rw (moves-at n s rest, potential-is counts, tokens-at n s rest, chunks-at n s rest)
      (le-leb (s.moves + potential s) (most_moves n (length s.chunks)) k.bounded)

  unused-slots : (at : ℕ) → at ≡ total s.chunks → blank (made_at_word words - (slots_at words + 4 * at)) (slots_from words at) ≡ true
  unused-slots at q =
      let z : made_at_word words - (slots_at words + 4 * total s.chunks) ≡ 4 * (n + 2 - total s.chunks) = omega (arith, tokens-at n s rest) in
      rw (q, z, unused-slots-at n s rest) (blank-zeros (4 * (n + 2 - total s.chunks)) (from_made n s rest))

  unused-made : (made tokens : ℕ) → made ≡ length s.reductions → tokens ≡ n → blank (3 * (tokens - made)) (drop (made_at_word words + 3 * made) words) ≡ true
  unused-made made tokens q r = rw (q, r, unused-made-at n s rest (within-slots k)) (blank-zeros (3 * (n - length s.reductions)) rest)

  rule-k : rule_k words walk ≡ true
  rule-k = rw (unused-slots _ counts.at_is) (unused-made _ _ (count_at n s rest) (tokens-at n s rest))

  pub shape-complete : area_in_shape t N (encode n s ++ rest) ≡ true
  unfolding area_in_shape
  shape-complete =
      let first = first_to n s.moves s.reductions rest k.first in
      let last = end-to n s.moves s.reductions rest k.first counts (rw (total-is k) k.ending) in
      rw (rule-c, walked.is)
      (of-each (first_fits words ∷ end_fits words walk ∷ rule_i words walk ∷ rule_j words walk ∷ rule_k words walk ∷ [])
      (first, (last, (rule-i, (rule-j, (rule-k, tt))))))
