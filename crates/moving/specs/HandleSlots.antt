-- A handle of a chunk that keeps the rules: it is the top part of the stack, with one mark, from a slot after slot 0 up to `head`;
-- the left side that replaces it covers just these slots, and its value is their span.
-- Document 01, "Moves of a chunk": "the handle runs from the topmost marked one to the top, with the nonterminal just below that mark
-- if there is one"; "The report": "rule, first place, place after the last".
-- Rests on KeptAround, Readings and MoveWords, on shape's Tiling and RowAfterTurn, and on machine's AllowedExactly.
--
-- Main definitions: SomeHandle, Covers.
-- Main statements: stack-words, stack-slots, stack-marks, upper-stands; handle-splits, handle-marks, marks-none, marks-some; handle-covers,
-- reductions-fit.
use Rattle.std.specs.Prelude.{◌≡◌, refl, true, false, List, [], ◌∷◌, ◌++◌, map, ℕ, ◌+◌, ◌*◌, ◌-◌, ◌<◌, length}
use Rattle.std.proofs.Common.{sym, ap, ◌∙◌, append_assoc, append-nil, arith, length-append}
use Rattle.std.proofs.Math.Option.{Option, none}
use Rattle.language.specs.Symbols.{terminal}
use Rattle.language.specs.Trees.{Span}
use Rattle.machine.specs.Entries.{Unread, terminal_at, nonterminal_at, Entry, terminal_on, nonterminal_on, symbol, value_of, stack_symbols, Handle, handle_of}
use Rattle.results.specs.RunsEnd.{terminals_on, MarksFine, fine_nonterminal, fine_unmarked, fine_marked}
use Rattle.machine.specs.Spans.{span_of}
use Rattle.machine.specs.States.{State, live}
use Rattle.machine.specs.Starts.{symbols_along}
use Rattle.machine.specs.Allowed.{HandleAbove, from_nonterminal, from_mark, up_to_unmarked, up_to_nonterminal, Live}
use Rattle.machine.specs.AllowedExactly.{HandleView, no_handle, a_handle}
use Rattle.machine.proofs.AllowedExactly.{handle-symbols, handle-view}
use Rattle.layout.specs.Layout.{size, stack_size, stack_words, marks, total}
use Rattle.layout.specs.Lengths.{length-stack, stack-size, tiles-end}
use Rattle.layout.specs.Kept.{Lies, first_end, last_end, within, Tiles, tile, Kept}
use Rattle.shape.specs.Tiling.{tiles-split, tiles-join, tiles-replaced}
use Rattle.shape.specs.RowAfterTurn.{handle-first}
use Rattle.moving.specs.MoveWords.{Stands}
use Rattle.moving.specs.Readings.{no_marks}
use Rattle.moving.specs.KeptAround.{stack-tiles, unread-tiles, marks-fine, stack-terminals}

-- ---- a handle on what is below it

pub stack-words : (handle below : List (Entry Span)) → stack_words (handle ++ below) ≡ stack_words below ++ stack_words handle
stack-words [] below = sym (append-nil (stack_words below))
stack-words (e ∷ handle) below = rw (stack-words handle below, append_assoc)

pub stack-slots : (handle below : List (Entry Span)) → stack_size (handle ++ below) ≡ stack_size below + stack_size handle
stack-slots [] below = omega arith
stack-slots (e ∷ handle) below = omega (arith, stack-slots handle below)

pub stack-marks : (handle below : List (Entry Span)) → marks (handle ++ below) ≡ marks below + marks handle
stack-marks [] below = omega arith
stack-marks (e ∷ handle) below = omega (arith, stack-marks handle below)

-- the upper part of a stack that stands there
pub upper-stands : {area : List ℕ} {i j : ℕ} (handle below : List (Entry Span)) (from : ℕ) → from ≡ i + 4 * stack_size below
    → Stands area i j (handle ++ below) → Stands area from j handle
upper-stands handle below from e s = record {
  below = s.below ++ stack_words below;
  above = s.above;
  is = s.is ∙ rw (stack-words handle below) (simp append_assoc);
  start = omega (arith, length-append s.below (stack_words below), length-stack below, s.start);
  stop = omega (arith, s.stop, stack-slots handle below);
}

-- ---- handles

pub handle-splits : {stack handle below : List (Entry Span)} → HandleAbove stack handle below → stack ≡ handle ++ below
handle-splits from_nonterminal = refl
handle-splits (from_mark h) = refl
handle-splits (up_to_unmarked {a = a} {v = v} h) = ap (λ (stack : List (Entry Span)). terminal_on false a v ∷ stack) (handle-splits h)
handle-splits (up_to_nonterminal {k = k} {v = v} h) = ap (λ (stack : List (Entry Span)). nonterminal_on k v ∷ stack) (handle-splits h)

-- it has one mark
pub handle-marks : {stack handle below : List (Entry Span)} → HandleAbove stack handle below → marks handle ≡ 1
handle-marks from_nonterminal = refl
handle-marks (from_mark h) = refl
handle-marks (up_to_unmarked h) = omega (arith, handle-marks h)
handle-marks (up_to_nonterminal h) = omega (arith, handle-marks h)

-- and on it stands another terminal than #, where no mark stands on a #
handle-terminals : {stack handle below : List (Entry Span)} → HandleAbove stack handle below → MarksFine stack → 0 < terminals_on stack
handle-terminals from_nonterminal (fine_marked i o) = rw i (omega arith)
handle-terminals (from_mark h) (fine_marked i o) = rw i (omega arith)
handle-terminals (up_to_unmarked h) (fine_unmarked o) = omega (arith, handle-terminals h o)
handle-terminals (up_to_nonterminal h) (fine_nonterminal o) = handle-terminals h o

-- a stack with no mark has no handle, and one with a mark has one
pub marks-none : (stack : List (Entry Span)) (above : List (Unread Span)) → marks stack ≡ 0 → handle_of stack above ≡ none
marks-none [] above h = refl
marks-none (nonterminal_on k v ∷ stack) above h = marks-none stack (nonterminal_at k v ∷ above) (omega arith)
marks-none (terminal_on false a v ∷ stack) above h = marks-none stack (terminal_at a v ∷ above) (omega arith)
marks-none (terminal_on true a v ∷ stack) above h = absurd (omega arith)

pub record SomeHandle (stack : List (Entry Span)) : Type 0 where
  pub handle : List (Entry Span)
  pub below : List (Entry Span)
  pub above : HandleAbove stack handle below

pub marks-some : (stack : List (Entry Span)) → 0 < marks stack → SomeHandle stack
marks-some stack h = go (handle-view stack [])
  where
    go : {found : Option (Handle Span)} → HandleView stack [] found → SomeHandle stack
    go (no_handle n) = absurd (omega (arith, no_marks n))
    go (a_handle {handle = handle} {found = found} a e) = record { handle = handle; below = found.below; above = a }

-- the span of the slots from `from` up to `head`
pub record Covers (from head left : ℕ) (v : Span) : Type 0 where
  pub low : 0 < from
  pub covers : from + size (nonterminal_at left v) ≡ head
  pub first : v.first ≡ from - 1
  pub after : v.after ≡ head - 1

lies_so : {n s left : ℕ} {v : Span} → Lies n s (nonterminal_at left v) → Covers s (s + size (nonterminal_at left v)) left v
lies_so (first_end q e is) = let z : ◌≡◌ {A = ℕ} 0 1 = cc in absurd (omega arith)
lies_so (last_end q e is) = let z : ◌≡◌ {A = ℕ} 0 1 = cc in absurd (omega arith)
lies_so (within p h e is) = record {
  low = p;
  covers = refl;
  first = ap (λ (w : Span). w.first) is;
  after = ap (λ (w : Span). w.after) is ∙ omega arith;
}

covers-so : {n from head e : ℕ} (left : ℕ) (x : Unread Span) (xs : List (Unread Span)) (b : Unread Span) (later : List (Unread Span)) → (symbol x ≡ terminal 0 → ⊥)
    → Tiles n from (x ∷ xs) head → Tiles n head (b ∷ later) e → Covers from head left (span_of (value_of x ∷ map value_of xs))
covers-so {n} {from} {head} {e} left x xs b later h t u = go (tiles-replaced left x xs b later h (tiles-join t u))
  where
    go : {v : Span} → Tiles n from (nonterminal_at left v ∷ b ∷ later) e → Covers from head left v
    go {v} (tile lies r) =
        let q : from + size (nonterminal_at left v) ≡ head = omega (arith, tiles-end r, tiles-end u) in
        rw q at (lies_so lies)

module _ {t N n : ℕ} {s : State Span} (k : Kept t N n s) {c : ℕ} (l : Live s.chunks c) {handle below : List (Entry Span)}
    (h : HandleAbove l.chunk.stack handle below) where
  -- one reduction more fits
  pub reductions-fit : length s.reductions < n
  reductions-fit = omega (arith, k.room, stack-terminals k l, handle-terminals h (marks-fine k l))

  -- the left side that replaces the handle, where some symbol is unread
  pub handle-covers : (left : ℕ) (b : Unread Span) (unread : List (Unread Span)) → l.chunk.unread ≡ b ∷ unread
      → Covers (total l.before + stack_size below) (total l.before + stack_size l.chunk.stack) left (span_of (map value_of (stack_symbols handle)))
  handle-covers left b unread next =
      let r = handle-first h (marks-fine k l) in
      let others : List (Unread Span) = unread ++ symbols_along (live l.after) in
      let split : Tiles n (total l.before) (stack_symbols below ++ stack_symbols handle) (total l.before + stack_size l.chunk.stack) =
      rw (handle-symbols h) at (stack-tiles k l) in
      let parts = tiles-split (stack_symbols below) (stack_symbols handle) split in
      let from_is : parts.middle ≡ total l.before + stack_size below = omega (arith, tiles-end parts.left, stack-size below) in
      let here : Tiles n (total l.before + stack_size below) (r.first ∷ r.others) (total l.before + stack_size l.chunk.stack) =
      rw (from_is, r.are) at parts.right in
      let then : Tiles n (total l.before + stack_size l.chunk.stack) (b ∷ others) k.end = rw next at (unread-tiles k l) in
      rw r.are (covers-so left r.first r.others b others r.not_end here then)
