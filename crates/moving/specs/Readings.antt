-- What the readings of an area's words say of the machine's stack: its words tell terminals from nonterminals; where its handle starts;
-- what the count of its marks says of a handle.
-- Document 01, "Moves of a chunk": "the handle runs from the topmost marked one to the top, with the nonterminal just below that mark
-- if there is one"; "Takes, no mark on the stack".
-- Rests on ReadWords, on machine's Allowed and on layout's Kept and shape's Tiling.
--
-- Main statements: told-ranged, told-upper, handle-below, no_marks.
use Rattle.std.specs.Prelude.{◌≡◌, refl, List, [], ◌∷◌, ◌++◌, ℕ, ◌<◌}
use Rattle.std.proofs.Common.{arith}
use Rattle.language.specs.Trees.{Span}
use Rattle.machine.specs.Entries.{terminal_at, nonterminal_at, Entry, terminal_on, nonterminal_on, stack_symbols}
use Rattle.machine.specs.Allowed.{TopNonterminal, top_nonterminal, NoMark, empty_stack, over_unmarked, over_nonterminal, HandleAbove}
use Rattle.machine.specs.Allowed.{from_nonterminal, from_mark, up_to_unmarked, up_to_nonterminal}
use Rattle.layout.specs.Layout.{marks}
use Rattle.layout.specs.Kept.{AllInRange, in_range}
use Rattle.shape.specs.Tiling.{ranged-split}
use Rattle.moving.specs.ReadWords.{Told, below_mark, handle_below}

-- a grammar has at most 63 terminals
pub told-ranged : {t N : ℕ} → t < 256 → (stack : List (Entry Span)) → AllInRange t N (stack_symbols stack) → Told stack
told-ranged few [] r = tt
told-ranged few (terminal_on mark a v ∷ stack) r =
    let k = ranged-split (stack_symbols stack) (terminal_at a v ∷ []) r in (top k.1 few, told-ranged few stack k.0)
  where
    top : {t N : ℕ} → AllInRange t N (terminal_at a v ∷ []) → t < 256 → a < 256
    top (in_range h r) few = omega arith
told-ranged few (nonterminal_on k v ∷ stack) r = told-ranged few stack (ranged-split (stack_symbols stack) (nonterminal_at k v ∷ []) r).0

-- the upper part of a stack
pub told-upper : (upper below : List (Entry Span)) → Told (upper ++ below) → Told upper
told-upper [] below t = tt
told-upper (terminal_on mark a v ∷ upper) below t = (t.0, told-upper upper below t.1)
told-upper (nonterminal_on k v ∷ upper) below t = told-upper upper below t

-- ---- the handle

below-is : (below : List (Entry Span)) → (TopNonterminal below → ⊥) → below_mark below ≡ below
below-is [] h = refl
below-is (terminal_on mark b w ∷ below) h = refl
below-is (nonterminal_on k w ∷ below) h = absurd (h top_nonterminal)

pub handle-below : {stack handle below : List (Entry Span)} → HandleAbove stack handle below → handle_below stack ≡ below
handle-below from_nonterminal = refl
handle-below (from_mark {below = below} h) = below-is below h
handle-below (up_to_unmarked h) = handle-below h
handle-below (up_to_nonterminal h) = handle-below h

pub no_marks : {stack : List (Entry Span)} → NoMark stack → marks stack ≡ 0
no_marks empty_stack = refl
no_marks (over_unmarked n) = omega (arith, no_marks n)
no_marks (over_nonterminal n) = omega (arith, no_marks n)
