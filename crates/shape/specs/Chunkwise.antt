-- The rules that Kept states of all live symbols together, chunk by chunk: a state keeps them exactly where each of its chunks fits at
-- its first slot and the last ends as it should.
-- docs/AREA.md, rules (d) to (h).
-- t, N: how many terminals and nonterminals the grammar has; n: how many tokens the row has.
-- Rests on Walks and Tiling.
--
-- Main statements: kept-fits (from all together to each chunk); tiles-from, ranged-from, fine-from, stuck-from, last-from (back).
use Rattle.std.specs.Prelude.{◌≡◌, refl, List, [], ◌∷◌, ◌++◌, map, reverse, ℕ, ◌+◌, ◌≤◌, ◌<◌, length}
use Rattle.std.proofs.lemmas.List.{reverse-reverse}
use Rattle.std.proofs.Math.Option.{Option, none, some}
use Rattle.std.proofs.Common.{arith}
use Rattle.language.specs.Trees.{Span}
use Rattle.machine.specs.Entries.{Unread, Entry, stack_symbols}
use Rattle.machine.specs.Chunks.{Chunk}
use Rattle.machine.specs.States.{State, live}
use Rattle.machine.specs.Starts.{symbols_along}
use Rattle.results.specs.Bounded.{AllFine, all_fine_nil, all_fine_cons}
use Rattle.layout.specs.Layout.{stack_size, unread_size, chunk_size, total}
use Rattle.layout.specs.Kept.{Tiles, tiled, AllInRange, none_left, LastHolds, holds, later_holds, Ending, whole, accepted, AllStuckFine, no_chunk, and_chunk, Kept}
use Rattle.layout.specs.Lengths.{tiles-end, stack-size, symbols-size, unread-append}
use Rattle.shape.specs.Tiling.{tiles-split, tiles-join, ranged-split, ranged-join}
use Rattle.shape.specs.Sides.{placed_at}
use Rattle.shape.specs.Rising.{rising-stack, plain, plain-unread, fine-reverse, placed_of, tiles-of, ranged-of, fine_of}
use Rattle.shape.specs.Walks.{AllFit, no_more_fit, gone-fits, live_fits}

-- ---- from all together to each chunk

-- why no chunk of these, whose symbols end at slot `end`, starts after slot n+1
data Room (n : ℕ) (chunks : List (Chunk Span)) (end : ℕ) : Type 0 where
  nothing_live : chunks ≡ [] → Room n chunks end
  ends_early : end ≤ n + 1 → Room n chunks end
  last_holds : end ≤ n + 2 → LastHolds chunks → Room n chunks end

room_after : {n end : ℕ} {c : Chunk Span} {chunks : List (Chunk Span)} → Room n (c ∷ chunks) end → Room n chunks end
room_after (nothing_live q) = let z : ◌≡◌ {A = ℕ} 0 1 = cc in absurd (omega arith)
room_after (ends_early h) = ends_early h
room_after (last_holds h (holds k)) = nothing_live refl
room_after (last_holds h (later_holds k)) = last_holds h k

some-symbols : (stack : List (Entry Span)) (unread : List (Unread Span)) → 0 < length stack + length unread → 0 < stack_size stack + unread_size unread
some-symbols [] [] h = h
some-symbols [] (x ∷ unread) h = omega arith
some-symbols (x ∷ stack) unread h = omega arith

chunk-symbols : (c : Chunk Span) (chunks : List (Chunk Span)) → unread_size (symbols_along (c ∷ chunks)) ≡ chunk_size (some c) + unread_size (symbols_along chunks)
chunk-symbols c chunks =
    let rest : List (Unread Span) = symbols_along chunks in
    omega (arith, unread-append (stack_symbols c.stack) (c.unread ++ rest), unread-append c.unread rest, stack-size c.stack)

holds-some : {chunks : List (Chunk Span)} → LastHolds chunks → 0 < unread_size (symbols_along chunks)
holds-some (holds {c = c} h) = omega (arith, some-symbols c.stack c.unread h, chunk-symbols c [])
holds-some (later_holds {c = c} {chunks = chunks} k) = omega (arith, holds-some k, chunk-symbols c chunks)

room-begins : {n from end : ℕ} {c : Chunk Span} {chunks : List (Chunk Span)} → Room n (c ∷ chunks) end → Tiles n from (symbols_along (c ∷ chunks)) end
    → from ≤ n + 1
room-begins (nothing_live q) p = let z : ◌≡◌ {A = ℕ} 0 1 = cc in absurd (omega arith)
room-begins (ends_early h) p = omega (arith, tiles-end p)
room-begins (last_holds h k) p = omega (arith, tiles-end p, holds-some k)

ending-room : {n end : ℕ} {chunks : List (Chunk Span)} → Ending n chunks end → Room n chunks end
ending-room (whole h) = last_holds (omega arith) h
ending-room (accepted q) = ends_early (omega arith)

fits-of : {t N n from end : ℕ} (chunks : List (Option (Chunk Span))) → Tiles n from (symbols_along (live chunks)) end → AllInRange t N (symbols_along (live chunks))
    → AllFine (live chunks) → AllStuckFine (live chunks) → Room n (live chunks) end → AllFit t N n from chunks
fits-of [] p r f k m = no_more_fit
fits-of (none ∷ chunks) p r f k m = gone-fits (fits-of chunks p r f k m)
fits-of {t} {N} {n} {from} (some c ∷ chunks) p r (all_fine_cons f fs) (and_chunk k ks) m =
    let stack : List (Unread Span) = stack_symbols c.stack in
    let rest : List (Unread Span) = symbols_along (live chunks) in
    let s = rising-stack c.stack in
    let u = plain-unread c.unread in
    let p₁ = tiles-split stack (c.unread ++ rest) p in
    let p₂ = tiles-split c.unread rest p₁.right in
    let r₁ = ranged-split stack (c.unread ++ rest) r in
    let r₂ = ranged-split c.unread rest r₁.1 in
    let head-is : p₁.middle ≡ from + stack_size c.stack = omega (arith, tiles-end p₁.left, stack-size c.stack) in
    let end_is : p₂.middle ≡ from + (stack_size c.stack + unread_size c.unread) = omega (arith, tiles-end p₂.left) in
    live_fits
    (record {
      begins = room-begins m p;
      stack_stands =
          placed_at refl head-is (placed_of (reverse c.stack) (rw s.symbols_are p₁.left) (rw s.symbols_are r₁.0) (fine-reverse c.stack f));
      unread_stands = placed_at head-is end_is (placed_of (map plain c.unread) (rw u.symbols_are p₂.left) (rw u.symbols_are r₂.0) u.fine);
      stuck_fine = k;
    })
    (fits-of {from = from + (stack_size c.stack + unread_size c.unread)} chunks (rw end_is at p₂.right) r₂.1 fs ks (room_after m))

pub kept-fits : {t N n : ℕ} {s : State Span} → Kept t N n s → AllFit t N n 0 s.chunks
kept-fits {s = s} k = fits-of s.chunks k.tiles k.ranged k.fine k.stuck_fine (ending-room k.ending)

-- ---- back

pub tiles-from : {t N n from : ℕ} {chunks : List (Option (Chunk Span))} → AllFit t N n from chunks
    → Tiles n from (symbols_along (live chunks)) (from + total chunks)
tiles-from {from = from} no_more_fit = let z : from + 0 ≡ from = omega arith in rw z tiled
tiles-from {from = from} (gone-fits {chunks = chunks} f) = let z : from + (0 + total chunks) ≡ from + total chunks = omega arith in rw z (tiles-from f)
tiles-from {from = from} (live_fits {c = c} {chunks = chunks} f fs) =
    let z : from + (chunk_size (some c) + total chunks) ≡ from + chunk_size (some c) + total chunks = omega arith in
    let stack = rw (rising-stack c.stack).symbols_are at (tiles-of f.stack_stands) in
    let unread = rw (plain-unread c.unread).symbols_are at (tiles-of f.unread_stands) in
    rw z (tiles-join stack (tiles-join unread (tiles-from fs)))

pub ranged-from : {t N n from : ℕ} {chunks : List (Option (Chunk Span))} → AllFit t N n from chunks → AllInRange t N (symbols_along (live chunks))
ranged-from no_more_fit = none_left
ranged-from (gone-fits f) = ranged-from f
ranged-from (live_fits {c = c} f fs) =
    let stack = rw (rising-stack c.stack).symbols_are at (ranged-of f.stack_stands) in
    let unread = rw (plain-unread c.unread).symbols_are at (ranged-of f.unread_stands) in
    ranged-join stack (ranged-join unread (ranged-from fs))

pub fine-from : {t N n from : ℕ} {chunks : List (Option (Chunk Span))} → AllFit t N n from chunks → AllFine (live chunks)
fine-from no_more_fit = all_fine_nil
fine-from (gone-fits f) = fine-from f
fine-from (live_fits {c = c} f fs) =
    all_fine_cons (rw (reverse-reverse c.stack) at (fine-reverse (reverse c.stack) (fine_of f.stack_stands))) (fine-from fs)

pub stuck-from : {t N n from : ℕ} {chunks : List (Option (Chunk Span))} → AllFit t N n from chunks → AllStuckFine (live chunks)
stuck-from no_more_fit = no_chunk
stuck-from (gone-fits f) = stuck-from f
stuck-from (live_fits f fs) = and_chunk f.stuck_fine (stuck-from fs)

-- the last live chunk holds a symbol, where the chunks end after slot n+1
holds_of : (stack : List (Entry Span)) (unread : List (Unread Span)) → 0 < stack_size stack + unread_size unread → 0 < length stack + length unread
holds_of [] [] h = h
holds_of [] (x ∷ unread) h = omega arith
holds_of (x ∷ stack) unread h = omega arith

last-here : (n from : ℕ) (c : Chunk Span) (rest : List (Chunk Span)) → from ≤ n + 1 → from + (chunk_size (some c) + unread_size (symbols_along rest)) ≡ n + 2
    → (0 < length rest → LastHolds rest) → LastHolds (c ∷ rest)
last-here n from c [] h q k = holds (holds_of c.stack c.unread (omega arith))
last-here n from c (d ∷ rest) h q k = later_holds (k (omega arith))

pub last-from : {t N n from : ℕ} {chunks : List (Option (Chunk Span))} → AllFit t N n from chunks → from + total chunks ≡ n + 2 → 0 < length (live chunks)
    → LastHolds (live chunks)
last-from no_more_fit q h = absurd (omega arith)
last-from (gone-fits f) q h = last-from f (omega arith) h
last-from {n = n} {from = from} (live_fits {c = c} {chunks = chunks} f fs) q h =
    last-here n from c (live chunks) f.begins (omega (arith, symbols-size chunks)) (last-from fs (omega arith))
