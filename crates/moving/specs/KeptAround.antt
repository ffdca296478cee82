-- What the rules of a state say around one of its chunks: its stack and its unread symbols lie side by side on its slots, its
-- symbols are in range, no mark stands on a #, and what lies after it.
-- docs/AREA.md, rules (d) to (g) and (i).
-- Rests on layout's Kept, Lengths and RowCounts and shape's Tiling, and on machine's Allowed.
--
-- Main statements: symbols-around, stack-tiles, unread-tiles, stack-ranged, unread-ranged, marks-fine, stack-terminals, nothing_live.
use Rattle.std.specs.Prelude.{◌≡◌, refl, List, [], ◌∷◌, ◌++◌, ℕ, ◌+◌, ◌<◌, ◌≤◌, length}
use Rattle.std.proofs.Common.{ap, ◌∙◌, append_assoc, arith, length-append}
use Rattle.std.proofs.Math.Option.{Option, none, some}
use Rattle.language.specs.Trees.{Span}
use Rattle.machine.specs.Entries.{stack_symbols}
use Rattle.machine.specs.Chunks.{Chunk}
use Rattle.machine.specs.States.{State, live}
use Rattle.machine.specs.Starts.{symbols_along}
use Rattle.results.specs.RunsEnd.{terminals_on, MarksFine}
use Rattle.results.specs.Bounded.{terminals_in, AllFine, all_fine_cons}
use Rattle.machine.specs.Allowed.{AllGone, no_number, one_gone, Live}
use Rattle.layout.specs.Layout.{stack_size, total}
use Rattle.layout.specs.Kept.{Tiles, AllInRange, LastHolds, later_holds, Ending, whole, accepted, Kept}
use Rattle.layout.specs.Lengths.{stack-size, symbols-size, tiles-end}
use Rattle.layout.specs.RowCounts.{holds-some}
use Rattle.shape.specs.Tiling.{Split, tiles-split, ranged-split}

-- ---- lists of chunks

live-around : (earlier : List (Option (Chunk Span))) (chunk : Chunk Span) (later : List (Option (Chunk Span)))
    → live (earlier ++ (some chunk ∷ later)) ≡ live earlier ++ (chunk ∷ live later)
live-around [] chunk later = refl
live-around (none ∷ earlier) chunk later = live-around earlier chunk later
live-around (some d ∷ earlier) chunk later = ap (λ (chunks : List (Chunk Span)). d ∷ chunks) (live-around earlier chunk later)

symbols-append : (chunks others : List (Chunk Span)) → symbols_along (chunks ++ others) ≡ symbols_along chunks ++ symbols_along others
symbols-append [] others = refl
symbols-append (c ∷ chunks) others = rw (symbols-append chunks others, append_assoc, append_assoc)

fine-at : (chunks : List (Chunk Span)) (c : Chunk Span) (others : List (Chunk Span)) → AllFine (chunks ++ (c ∷ others)) → MarksFine c.stack
fine-at [] c others (all_fine_cons o os) = o
fine-at (d ∷ chunks) c others (all_fine_cons o os) = fine-at chunks c others os

terminals-at : (chunks : List (Chunk Span)) (c : Chunk Span) (others : List (Chunk Span)) → terminals_on c.stack ≤ terminals_in (chunks ++ (c ∷ others))
terminals-at [] c others = omega arith
terminals-at (d ∷ chunks) c others = omega (arith, terminals-at chunks c others)

-- the last of some chunks, where one is not the last
later_last : (chunks : List (Chunk Span)) (c d : Chunk Span) (others : List (Chunk Span)) → LastHolds (chunks ++ (c ∷ d ∷ others)) → LastHolds (d ∷ others)
later_last [] c d others (later_holds h) = h
later_last (e ∷ []) c d others (later_holds h) = later_last [] c d others h
later_last (e ∷ f ∷ chunks) c d others (later_holds h) = later_last (f ∷ chunks) c d others h

-- the last of several live chunks holds a symbol
several-hold : {n end : ℕ} {chunks : List (Chunk Span)} → 1 < length chunks → Ending n chunks end → LastHolds chunks
several-hold h (whole l) = l
several-hold h (accepted q) = absurd (omega arith)

none-live : (chunks : List (Option (Chunk Span))) → live chunks ≡ [] → AllGone chunks
none-live [] q = no_number
none-live (none ∷ chunks) q = one_gone (none-live chunks q)
none-live (some c ∷ chunks) q = let z : ◌≡◌ {A = ℕ} 0 1 = cc in absurd (omega arith)

-- ---- one chunk

module _ {t N n : ℕ} {s : State Span} (k : Kept t N n s) {c : ℕ} (l : Live s.chunks c) where
  live-are : live s.chunks ≡ live l.before ++ (l.chunk ∷ live l.after)
  live-are = ap live l.chunks_are ∙ live-around l.before l.chunk l.after

  -- the row's symbols, around those of the chunk
  pub symbols-around : symbols_along (live s.chunks)
      ≡ symbols_along (live l.before) ++ (stack_symbols l.chunk.stack ++ (l.chunk.unread ++ symbols_along (live l.after)))
  symbols-around = ap symbols_along live-are ∙ symbols-append (live l.before) (l.chunk ∷ live l.after)

  all-tiles : Tiles n 0 (symbols_along (live l.before) ++ (stack_symbols l.chunk.stack ++ (l.chunk.unread ++ symbols_along (live l.after)))) k.end
  all-tiles = rw symbols-around at k.tiles

  from-split : Split n 0 (symbols_along (live l.before)) (stack_symbols l.chunk.stack ++ (l.chunk.unread ++ symbols_along (live l.after))) k.end
  from-split = tiles-split (symbols_along (live l.before)) (stack_symbols l.chunk.stack ++ (l.chunk.unread ++ symbols_along (live l.after))) all-tiles

  head-split : Split n from-split.middle (stack_symbols l.chunk.stack) (l.chunk.unread ++ symbols_along (live l.after)) k.end
  head-split = tiles-split (stack_symbols l.chunk.stack) (l.chunk.unread ++ symbols_along (live l.after)) from-split.right

  from_is : from-split.middle ≡ total l.before
  from_is = omega (arith, tiles-end from-split.left, symbols-size l.before)

  head-is : head-split.middle ≡ total l.before + stack_size l.chunk.stack
  head-is = omega (arith, tiles-end head-split.left, stack-size l.chunk.stack, from_is)

  -- the stack's symbols, side by side from `from` to `head`
  pub stack-tiles : Tiles n (total l.before) (stack_symbols l.chunk.stack) (total l.before + stack_size l.chunk.stack)
  stack-tiles = rw (from_is, head-is) at head-split.left

  -- the unread symbols, side by side from `head` on, with what later chunks hold
  pub unread-tiles : Tiles n (total l.before + stack_size l.chunk.stack) (l.chunk.unread ++ symbols_along (live l.after)) k.end
  unread-tiles = rw head-is at head-split.right

  all-ranged : AllInRange t N (stack_symbols l.chunk.stack ++ (l.chunk.unread ++ symbols_along (live l.after)))
  all-ranged =
      (ranged-split (symbols_along (live l.before)) (stack_symbols l.chunk.stack ++ (l.chunk.unread ++ symbols_along (live l.after)))
      (rw symbols-around at k.ranged)).1

  pub stack-ranged : AllInRange t N (stack_symbols l.chunk.stack)
  stack-ranged = (ranged-split (stack_symbols l.chunk.stack) (l.chunk.unread ++ symbols_along (live l.after)) all-ranged).0

  pub unread-ranged : AllInRange t N l.chunk.unread
  unread-ranged =
      (ranged-split l.chunk.unread (symbols_along (live l.after))
      (ranged-split (stack_symbols l.chunk.stack) (l.chunk.unread ++ symbols_along (live l.after)) all-ranged).1).0

  pub marks-fine : MarksFine l.chunk.stack
  marks-fine = fine-at (live l.before) l.chunk (live l.after) (rw live-are at k.fine)

  pub stack-terminals : terminals_on l.chunk.stack ≤ terminals_in (live s.chunks)
  stack-terminals = rw live-are (terminals-at (live l.before) l.chunk (live l.after))

  -- where no later chunk holds a symbol, no later chunk is live
  pub nothing_live : symbols_along (live l.after) ≡ [] → AllGone l.after
  nothing_live h = go (live l.after) refl (rw live-are at k.ending) h
    where
      go : (others : List (Chunk Span)) → live l.after ≡ others → Ending n (live l.before ++ (l.chunk ∷ others)) k.end → symbols_along others ≡ [] → AllGone l.after
      go [] q e h = none-live l.after q
      go (d ∷ others) q e h =
          let two : 1 < length (live l.before ++ (l.chunk ∷ d ∷ others)) = omega (arith, length-append (live l.before) (l.chunk ∷ d ∷ others)) in
          absurd (omega (arith, ap length h, holds-some (later_last (live l.before) l.chunk d others (several-hold two e))))
