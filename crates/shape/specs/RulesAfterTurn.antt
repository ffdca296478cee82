-- Each rule of a row by itself, after a step or a join: as many chunk numbers; chunk 0 live, its stack not empty; symbols side by side
-- up to where the last live chunk ends; symbols in range; stuck chunks; and a terminal gone for each reduction.
-- Document 01, "Moves of a chunk"; docs/AREA.md, rules (d), (e), (f), (h) and (i).
-- Rests on Tiling and RowAfterTurn, and on layout's Kept and RowCounts, and on machine's Schedules and AllowedExactly and results' RunsEnd.
--
-- Main statements: same_number, first-of, holds_kept, whole_before, stands, ranged-kept, stuck-kept, terminals-fall.
use Rattle.std.specs.Prelude.{◌≡◌, refl, List, [], ◌∷◌, ◌++◌, ℕ, ◌+◌, ◌≤◌, ◌<◌, length, get_or}
use Rattle.std.proofs.Common.{ap, arith, length-append}
use Rattle.std.proofs.Math.Option.{Option, none, some}
use Rattle.language.specs.Trees.{Span, Reduction}
use Rattle.machine.specs.Entries.{Unread, Entry, stack_symbols}
use Rattle.machine.specs.Moves.{Table, Stuck, no_rule, sticks, Moved, by_rule_1_stuck, by_rule_3, by_rule_4_stuck, by_rule_5_stuck}
use Rattle.machine.proofs.Moves.{moved}
use Rattle.machine.specs.Laws.{EndMark}
use Rattle.machine.specs.Chunks.{Chunk, joined}
use Rattle.machine.specs.States.{State, live}
use Rattle.machine.specs.Starts.{symbols_along}
use Rattle.results.specs.RunsEnd.{terminals-cons, on-reading, on-replacing}
use Rattle.results.specs.Bounded.{terminals_in, terminals-append, terminals-of-stack, length-of-stack, reading-fills, AllFine, all_fine_nil, all_fine_cons}
use Rattle.machine.specs.Allowed.{HandleAbove, from_nonterminal, from_mark, up_to_unmarked, up_to_nonterminal, Steps, JoinsAt}
use Rattle.machine.specs.AllowedExactly.{HandleView, a_handle}
use Rattle.machine.proofs.AllowedExactly.{handle-view, step-exactly, join-exactly}
use Rattle.machine.specs.Schedules.{IsLive, first_stack, Turned, by_step, by_join, Made, has_read, has_replaced, got_stuck, Changed, moves_one, joins_two, further}
use Rattle.layout.specs.Layout.{marks}
use Rattle.layout.specs.Kept.{Tiles, AllInRange, in_range, LastHolds, holds, later_holds, Ending, whole, accepted, StuckFine}
use Rattle.layout.specs.Kept.{not_stuck, stuck_fine, AllStuckFine, no_chunk, and_chunk, FirstLive, first_live}
use Rattle.shape.specs.Tiling.{tiles-split, tiles-join, ranged-split, ranged-join, tiles-replaced, end-is-last}
use Rattle.layout.specs.RowCounts.{no_symbol}
use Rattle.shape.specs.RowAfterTurn.{Alone, alone, RowThen, same_symbols, handle_replaced, end_read}

-- ---- as many numbers, live and gone

module _ {table : Table Span} where
  pub same_number : {s s' : State Span} → Turned table s s' → length s'.chunks ≡ length s.chunks
  same_number {s} {s'} (by_step c q) = go ((step-exactly table c s s').1 q)
    where
      go : Steps table c s s' → length s'.chunks ≡ length s.chunks
      go h =
          let l = h.live in
          omega (
            arith,
            ap length h.chunks_then,
            ap length l.chunks_are,
            length-append l.before (some h.chunk' ∷ l.after),
            length-append l.before (some l.chunk ∷ l.after),
          )
  same_number {s} {s'} (by_join c q) = go ((join-exactly c s s').1 q)
    where
      go : JoinsAt c s s' → length s'.chunks ≡ length s.chunks
      go h =
          let l = h.live in
          let n = h.next in
          omega (
            arith,
            ap length h.chunks_then,
            ap length l.chunks_are,
            ap length n.after_is,
            length-append l.before (some h.chunk' ∷ (n.between ++ (none ∷ n.beyond))),
            length-append l.before (some l.chunk ∷ l.after),
            length-append n.between (none ∷ n.beyond),
            length-append n.between (some n.chunk ∷ n.beyond),
          )

-- ---- (e) the last chunk holds a symbol

joined-holds : (c d : Chunk Span) → 0 < length d.stack + length d.unread → 0 < length c.stack + length (joined c d).unread
joined-holds c d l =
    omega (
      arith,
      length-append c.unread (stack_symbols d.stack ++ d.unread),
      length-append (stack_symbols d.stack) d.unread,
      length-of-stack d.stack,
    )

module _ {table : Table Span} where
  made_holds : {c c' : Chunk Span} {made : List (Reduction Span)} → Made table c made c' → 0 < length c'.stack + length c'.unread
  made_holds (has_read {stack = stack} b h) = let l = reading-fills (rw h at (moved table stack b)) in omega arith
  made_holds (has_replaced b h) = omega arith
  made_holds (got_stuck b h) = omega arith

  pub holds_kept : {chunks chunks' : List (Chunk Span)} {made : List (Reduction Span)} → Changed table chunks made chunks' → LastHolds chunks → LastHolds chunks'
  holds_kept (moves_one m) (holds l) = holds (made_holds m)
  holds_kept (moves_one m) (later_holds h) = later_holds h
  holds_kept (joins_two {c = c} {d = d} a b) (later_holds (holds l)) = holds (joined-holds c d l)
  holds_kept (joins_two a b) (later_holds (later_holds h)) = later_holds h
  holds_kept (further m) (holds l) = elim m [ ]
  holds_kept (further m) (later_holds h) = later_holds (holds_kept m h)

  -- where the end is read, no chunk moves or joins any more
  nothing-moves : {c : Chunk Span} {chunks' : List (Chunk Span)} {made : List (Reduction Span)} → Changed table (c ∷ []) made chunks' → c.unread ≡ [] → ⊥
  nothing-moves (moves_one (has_read b h)) q = let z : ◌≡◌ {A = ℕ} 0 1 = cc in omega arith
  nothing-moves (moves_one (has_replaced b h)) q = let z : ◌≡◌ {A = ℕ} 0 1 = cc in omega arith
  nothing-moves (moves_one (got_stuck b h)) q = let z : ◌≡◌ {A = ℕ} 0 1 = cc in omega arith
  nothing-moves (further m) q = elim m [ ]

  pub whole_before : {n e : ℕ} {chunks chunks' : List (Chunk Span)} {made : List (Reduction Span)} → Changed table chunks made chunks' → Ending n chunks e
      → LastHolds chunks × (e ≡ n + 2)
  whole_before m (whole h) = (h, refl)
  whole_before m (accepted q) = absurd (nothing-moves m q)

-- ---- (h) stuck chunks

-- a handle starts at a mark
some-marks : {stack handle below : List (Entry Span)} → HandleAbove stack handle below → 0 < marks stack
some-marks from_nonterminal = omega arith
some-marks (from_mark h) = omega arith
some-marks (up_to_unmarked h) = omega (arith, some-marks h)
some-marks (up_to_nonterminal h) = omega (arith, some-marks h)

joined-fine : (c d : Chunk Span) → StuckFine c → StuckFine (joined c d)
joined-fine c d (not_stuck q) = not_stuck q
joined-fine c d (stuck_fine u m) =
    stuck_fine (λ q. u (no_symbol c.unread (omega (arith, ap length q, length-append c.unread (stack_symbols d.stack ++ d.unread))))) m

module _ {table : Table Span} where
  no-rule-marked : {stack : List (Entry Span)} {b : Unread Span} {why : Stuck} → Moved table stack b (sticks why) → why ≡ no_rule → 0 < marks stack
  no-rule-marked (by_rule_1_stuck t) q = let z : ◌≡◌ {A = ℕ} 0 1 = cc in absurd (omega arith)
  no-rule-marked (by_rule_3 t r) q = let z : ◌≡◌ {A = ℕ} 0 1 = cc in absurd (omega arith)
  no-rule-marked (by_rule_4_stuck t r i w) q = let z : ◌≡◌ {A = ℕ} 0 1 = cc in absurd (omega arith)
  no-rule-marked {stack} (by_rule_5_stuck found t r h m) q = go (rw h at (handle-view stack []))
    where
      go : HandleView stack [] (some found) → 0 < marks stack
      go (a_handle k p) = some-marks k

  made-fine : {c c' : Chunk Span} {made : List (Reduction Span)} → Made table c made c' → StuckFine c'
  made-fine (has_read b h) = not_stuck refl
  made-fine (has_replaced b h) = not_stuck refl
  made-fine (got_stuck {stack = stack} {why = why} b h) =
      stuck_fine (λ q. let z : ◌≡◌ {A = ℕ} 0 1 = cc in omega arith) (λ q. let e : why ≡ no_rule = cc in no-rule-marked (rw h at (moved table stack b)) e)

  pub stuck-kept : {chunks chunks' : List (Chunk Span)} {made : List (Reduction Span)} → AllStuckFine chunks → Changed table chunks made chunks' → AllStuckFine chunks'
  stuck-kept {made = made} no_chunk x3 = elim x3 [ ]
  stuck-kept (and_chunk f fs) (moves_one m) = and_chunk (made-fine m) fs
  stuck-kept (and_chunk f (and_chunk g fs)) (joins_two {c = c} {d = d} a b) = and_chunk (joined-fine c d f) fs
  stuck-kept (and_chunk f fs) (further m) = and_chunk f (stuck-kept fs m)

-- ---- (i) each reduction takes a terminal away

module _ {table : Table Span} (ends : EndMark table) where
  pub terminals-fall : {chunks chunks' : List (Chunk Span)} {made : List (Reduction Span)} → AllFine chunks → Changed table chunks made chunks'
      → length made + terminals_in chunks' ≤ terminals_in chunks
  terminals-fall {made = made} all_fine_nil x3 = elim x3 [ ]
  terminals-fall (all_fine_cons o os) (moves_one (has_read {stack = stack} {unread = unread} b h)) =
      let z = on-reading table ends o (rw h at (moved table stack b)) in omega (arith, z.terminals, terminals-cons b unread)
  terminals-fall (all_fine_cons o os) (moves_one (has_replaced {stack = stack} b h)) =
      let z = on-replacing table ends o (rw h at (moved table stack b)) in omega (arith, z.terminals)
  terminals-fall (all_fine_cons o os) (moves_one (got_stuck b h)) = omega arith
  terminals-fall (all_fine_cons o (all_fine_cons o' os)) (joins_two {c = c} {d = d} a b) =
      omega (
        arith,
        terminals-append c.unread (stack_symbols d.stack ++ d.unread),
        terminals-append (stack_symbols d.stack) d.unread,
        terminals-of-stack d.stack,
      )
  terminals-fall (all_fine_cons o os) (further m) = omega (arith, terminals-fall os m)

-- ---- (e) and (f) the row's symbols on its slots

-- where the last live chunk ends, and the symbols up to there
pub record RowStands (n : ℕ) (chunks : List (Chunk Span)) : Type 0 where
  pub end : ℕ
  pub ending : Ending n chunks end
  pub tiles : Tiles n 0 (symbols_along chunks) end

ending-alone : {n : ℕ} {chunks : List (Chunk Span)} → Alone chunks → Ending n chunks (n + 1)
ending-alone (alone q) = accepted q

module _ {N : ℕ} {chunks chunks' : List (Chunk Span)} where
  pub stands : {n : ℕ} → 0 < length (first_stack chunks) → LastHolds chunks → LastHolds chunks' → RowThen N chunks chunks' → Tiles n 0 (symbols_along chunks) (n + 2)
      → RowStands n chunks'
  stands {n} l h h' (same_symbols q) t = record { end = n + 2; ending = whole h'; tiles = rw q t }
  stands {n} l h h' (handle_replaced k before x xs b after i ne q q') t =
      let c = tiles-split before (x ∷ (xs ++ (b ∷ after))) (rw q at t) in
      record { end = n + 2; ending = whole h'; tiles = rw q' (tiles-join c.left (tiles-replaced k x xs b after ne c.right)) }
  stands {n} l h h' (end_read before x d y after hx hy q q' only) t =
      let r = end-is-last before after x d y hx hy (rw q at t) in
      record { end = n + 1; ending = ending-alone (only l h r.no_before r.no_after); tiles = rw (q', r.no_before, r.no_after) r.tiles }

  pub ranged-kept : {t : ℕ} → RowThen N chunks chunks' → AllInRange t N (symbols_along chunks) → AllInRange t N (symbols_along chunks')
  ranged-kept (same_symbols q) r = rw q r
  ranged-kept (handle_replaced k before x xs b after i ne q q') r =
      let p = ranged-split before (x ∷ (xs ++ (b ∷ after))) (rw q at r) in
      rw q' (ranged-join p.0 (in_range i (past p.1)))
    where
      past : {t : ℕ} → AllInRange t N (x ∷ (xs ++ (b ∷ after))) → AllInRange t N (b ∷ after)
      past (in_range j u) = (ranged-split xs (b ∷ after) u).1
  ranged-kept (end_read before x d y after hx hy q q' only) r =
      let p = ranged-split before (x ∷ d ∷ y ∷ after) (rw q at r) in
      rw q' (ranged-join p.0 (without p.1))
    where
      without : {t : ℕ} → AllInRange t N (x ∷ d ∷ y ∷ after) → AllInRange t N (x ∷ d ∷ after)
      without (in_range i (in_range j (in_range l u))) = in_range i (in_range j u)

-- ---- (d) chunk 0

pub first-of : (chunks : List (Option (Chunk Span))) → IsLive (get_or chunks 0 none) → 0 < length (first_stack (live chunks)) → FirstLive chunks
first-of [] i l = absurd i
first-of (none ∷ chunks) i l = absurd i
first-of (some c ∷ chunks) i l = first_live l

pub zero-live : {chunks : List (Option (Chunk Span))} → FirstLive chunks → IsLive (get_or chunks 0 none)
zero-live (first_live l) = tt

pub first-stack : {chunks : List (Option (Chunk Span))} → FirstLive chunks → 0 < length (first_stack (live chunks))
first-stack (first_live l) = l
