-- What stays while other words are stored: the count of moves while two chunks are joined, so that the join can be counted; the words below a
-- handle and the length while it is replaced, so that the hand's words are where they were.
-- Rests on MoveWords.
--
-- Main statements: one-ready, cleared-before, over-before, over-length, over_first, over_last, replaced-before.
use Rattle.std.specs.Prelude.{ℕ, zero, suc, ◌+◌, ◌*◌, ◌-◌, ◌<◌, ◌≤◌, ◌≡◌, List, ◌++◌, length, get_or, take, drop, set}
use Rattle.std.proofs.Common.{◌∙◌, length-append, length-take, length-drop, get_or-take}
use native.Mathlib.Omega.{arith}
use Rattle.std.proofs.Math.ListN.{length-set, get_or-append}
use Rattle.std.proofs.lemmas.List.{length-replicate}
use Rattle.std.proofs.Math.Seq.{get_or-set_other, get_or-set_same}
use Rattle.layout.specs.Layout.{zeros, table_at}
use Rattle.moving.specs.MoveWords.{from_of, head_of, end_of, marks_of, slot_at, unmark_words, gone_words}
use Rattle.moving.specs.MoveWords.{one_words, cleared_words, laid_words, over_words, replaced_words, Ticks, Reducible}

-- a store past word 3
pub ticks-set : (area : List ℕ) (i v : ℕ) {moves : ℕ} → 3 < i → Ticks area moves → Ticks (set area i v) moves
ticks-set area i v h t = record {
  long = simp length-set t.long;
  low = rw (get_or-set_other area i 2 v 0 (omega arith)) t.low;
  few = rw (get_or-set_other area i 3 v 0 (omega arith)) t.few;
  count = rw (get_or-set_other area i 2 v 0 (omega arith), get_or-set_other area i 3 v 0 (omega arith)) t.count;
}

-- ---- a join

unmark-ready : (area : List ℕ) (at count : ℕ) {moves : ℕ} → 3 < at → Ticks area moves → Ticks (unmark_words area at count) moves
unmark-ready area at zero h t = t
unmark-ready area at (suc count) h t = unmark-ready (set area at 0) (at + 4) count (omega arith) (ticks-set area at 0 h t)

gone-ready : (area : List ℕ) (d : ℕ) {moves : ℕ} → Ticks area moves → Ticks (gone_words area d) moves
unfolding gone_words
gone-ready area d t =
    ticks-set _ (table_at d 4) 0 (omega arith)
    (ticks-set _ (table_at d 3) 0 (omega arith)
    (ticks-set _ (table_at d 2) 0 (omega arith)
    (ticks-set _ (table_at d 1) 0 (omega arith)
    (ticks-set area (table_at d 0) 0 (omega arith) t))))

pub one-ready : (area : List ℕ) (c d moves : ℕ) → Ticks area moves → Ticks (one_words area c d) moves
unfolding one_words
one-ready area c d moves t =
    gone-ready _ d
    (ticks-set _ (table_at c 3) (end_of area d) (omega arith)
    (unmark-ready area (slot_at area (from_of area d) + 1) (head_of area d - from_of area d) (omega arith) t))

-- ---- a reduction

pub cleared-length : (area : List ℕ) (i count : ℕ) → i + count ≤ length area → length (cleared_words area i count) ≡ length area
unfolding cleared_words
cleared-length area i count h = simp (length-append, length-replicate, length-take, length-drop) (omega arith)

pub cleared-before : (area : List ℕ) (i count j : ℕ) → j < i → i ≤ length area → get_or (cleared_words area i count) j 0 ≡ get_or area j 0
unfolding cleared_words
cleared-before area i count j h l =
    get_or-append (take i area) (zeros count ++ drop (i + count) area) 0 j (omega (arith, length-take i area)) ∙ get_or-take i area j 0 h

laid-before : (area : List ℕ) (i symbol size j : ℕ) → j < i → 0 < size → get_or (laid_words area i symbol size) j 0 ≡ get_or area j 0
unfolding laid_words
laid-before area i symbol size j h l =
    get_or-set_other (set (set area i symbol) (i + 2) size) (i + 4 * size - 1) j size 0 (omega arith)
    ∙ get_or-set_other (set area i symbol) (i + 2) j size 0 (omega arith) ∙ get_or-set_other area i j symbol 0 (omega arith)

pub over-before : (area : List ℕ) (from head symbol j : ℕ) → j < slot_at area from → from < head → slot_at area from ≤ length area
    → get_or (over_words area from head symbol) j 0 ≡ get_or area j 0
over-before area from head symbol j h l r =
    laid-before (cleared_words area (slot_at area from) (slot_at area head - slot_at area from)) (slot_at area from) symbol (head - from) j h (omega arith)
    ∙ cleared-before area (slot_at area from) (slot_at area head - slot_at area from) j h r

pub over-length : (area : List ℕ) (from head symbol : ℕ) → slot_at area from + (slot_at area head - slot_at area from) ≤ length area
    → length (over_words area from head symbol) ≡ length area
unfolding laid_words
over-length area from head symbol r = simp length-set (cleared-length area (slot_at area from) (slot_at area head - slot_at area from) r)

-- the symbol and the size of what is laid
module _ (area : List ℕ) (from head symbol : ℕ) (l : from < head) (room : slot_at area head ≤ length area) where
  abbrev i : ℕ
  i = slot_at area from

  abbrev size : ℕ
  size = head - from

  abbrev cleared : List ℕ
  cleared = cleared_words area i (slot_at area head - slot_at area from)

  long-cleared : length cleared ≡ length area
  long-cleared = cleared-length area i (slot_at area head - slot_at area from) (omega arith)

  pub over_first : get_or (over_words area from head symbol) (slot_at area from + 0) 0 ≡ symbol
  unfolding laid_words
  over_first =
      let z : i + 0 ≡ i = omega arith in
      rw z (get_or-set_other (set (set cleared i symbol) (i + 2) size) (i + 4 * size - 1) i size 0 (omega arith)
      ∙ get_or-set_other (set cleared i symbol) (i + 2) i size 0 (omega arith) ∙ get_or-set_same cleared i symbol 0 (omega (arith, long-cleared)))

  pub over_last : get_or (over_words area from head symbol) (slot_at area head - 1) 0 ≡ head - from
  unfolding laid_words
  over_last =
      let z : slot_at area head - 1 ≡ i + 4 * size - 1 = omega arith in
      rw z (get_or-set_same (set (set cleared i symbol) (i + 2) size) (i + 4 * size - 1) size 0 (simp length-set (omega (arith, long-cleared))))

module _ (area : List ℕ) (c from symbol : ℕ) (h : Reducible area c from) where
  inside : slot_at area from + (slot_at area (head_of area c) - slot_at area from) ≤ length area
  inside = omega (arith, h.top, h.room.room, h.some)

  pub replaced-before : (j : ℕ) → j < 5 → get_or (replaced_words area c from symbol) j 0 ≡ get_or area j 0
  unfolding replaced_words
  replaced-before j l =
      get_or-set_other (over_words area from (head_of area c) symbol) (table_at c 4) j (marks_of area c - 1) 0 (omega arith)
      ∙ over-before area from (head_of area c) symbol j (omega arith) h.some (omega (arith, inside))
