-- What a move reads of an area's words: the topmost terminal of a chunk's stack, whether a nonterminal is on top, whether the
-- stack is # and an axiom, where the handle starts and how many symbols it has, and the next live chunk.
-- Document 01, "Moves of a chunk": "next symbol b and topmost stack terminal a"; "if the top is one too"; "the stack is # and
-- an axiom"; "the handle runs from the topmost marked one to the top, with the nonterminal just below that mark if there is one"; "the
-- next live chunk".
-- A reading of a stack is said of every stack that stands in the words.
-- Rests on MoveWords and Searches, on machine's Entries and Moves, and on laws' Least.
--
-- Main definitions: Told, Holds, HasStack; TopIs, top_word, terminal_of, top_after, NonterminalOnTop, EndAndAxiom, handle_below, HandleStarts, HandleIs, live_after.
use Rattle.std.specs.Prelude.{◌≡◌, Bool, true, false, List, [], ◌∷◌, ℕ, ◌+◌, ◌-◌, ◌<◌, ◌≤◌, ltb, length, get_or, Some, None}
use Rattle.std.specs.Prelude.{Option as Answered}
use Rattle.std.proofs.Math.Option.{Option}
use Rattle.laws.specs.Least.{first_from}
use Rattle.language.specs.Trees.{Span}
use Rattle.machine.specs.Entries.{Entry, terminal_on, nonterminal_on, top_terminal, top_is_nonterminal}
use Rattle.machine.specs.Moves.{Table, is_whole}
use Rattle.layout.specs.Layout.{stack_size, row_word}
use Rattle.moving.specs.MoveWords.{from_of, head_of, slot_at, Stands}
use Rattle.moving.specs.Searches.{found_of}

-- ---- a stack on slots

-- every terminal of a stack is below 256: words tell its terminals from its nonterminals
abbrev pub Told : List (Entry Span) → Type 0
Told [] = Unit {0}
Told (terminal_on mark a v ∷ stack) = (a < 256) × Told stack
Told (nonterminal_on k v ∷ stack) = Told stack

-- the slots from s up to e hold this stack
pub record Holds (area : List ℕ) (s e : ℕ) (stack : List (Entry Span)) : Type 0 where
  pub stands : Stands area (slot_at area s) (slot_at area e) stack
  pub told : Told stack

-- they hold some stack
pub record Stacked (area : List ℕ) (s e : ℕ) : Type 0 where
  pub stack : List (Entry Span)
  pub holds : Holds area s e stack
  pub room : slot_at area e ≤ length area

-- chunk c is one of the table, and its slots from its `from` up to its `head` hold a stack
pub record HasStack (area : List ℕ) (c : ℕ) : Type 0 where
  pub chunk : c < get_or area 1 0
  pub stacked : Stacked area (from_of area c) (head_of area c)

-- the last word before slot e: the size of the block that ends there
abbrev pub last_word : List ℕ → ℕ → ℕ
last_word area e = get_or area (slot_at area e - 1) 0

-- where that block starts
abbrev pub start_slot : List ℕ → ℕ → ℕ
start_slot area e = e - last_word area e

-- a block ends before slot e
pub record EndsBlock (area : List ℕ) (e : ℕ) : Type 0 where
  pub some : 0 < last_word area e
  pub fits : last_word area e ≤ e
  pub within : slot_at area e ≤ length area

-- ---- the top

-- "topmost stack terminal a", where there is one
pub record TopIs (area : List ℕ) (s e : ℕ) (top : Answered ℕ) : Type 0 where
  pub found : (stack : List (Entry Span)) → Holds area s e stack → top ≡ found_of (top_terminal stack)

-- its word at hand: 256, which is no terminal's, where there is none
abbrev pub top_word : Answered ℕ → ℕ
top_word None = 256
top_word (Some a) = a

-- .. and the terminal of that word
abbrev pub terminal_of : ℕ → Answered ℕ
terminal_of top = elim (ltb top 256) [ true ↦ Some top | false ↦ None ]

-- .. once a symbol of word b is put on
abbrev pub top_after : ℕ → ℕ → ℕ
top_after b top = elim (ltb b 256) [ true ↦ b | false ↦ top ]

-- "if the top is one too"
pub record NonterminalOnTop (area : List ℕ) (s e : ℕ) (on : Bool) : Type 0 where
  pub found : (stack : List (Entry Span)) → Holds area s e stack → on ≡ top_is_nonterminal stack

-- "the stack is # and an axiom"; the first `axioms` nonterminals are the axioms
pub record EndAndAxiom (area : List ℕ) (s e axioms : ℕ) (whole : Bool) : Type 0 where
  pub found : (stack : List (Entry Span)) → Holds area s e stack → (table : Table Span) → ((k : ℕ) → table.is_axiom k ≡ ltb k axioms) → whole ≡ is_whole table stack

-- ---- the handle

-- what lies below a mark, without "the nonterminal just below that mark if there is one"
abbrev pub below_mark : List (Entry Span) → List (Entry Span)
below_mark [] = []
below_mark (nonterminal_on k w ∷ stack) = stack
below_mark (terminal_on mark b w ∷ stack) = terminal_on mark b w ∷ stack

-- what lies below the handle; nothing where there is no mark
abbrev pub handle_below : List (Entry Span) → List (Entry Span)
handle_below [] = []
handle_below (nonterminal_on k v ∷ stack) = handle_below stack
handle_below (terminal_on false a v ∷ stack) = handle_below stack
handle_below (terminal_on true a v ∷ stack) = below_mark stack

-- the slot above what lies below a mark, for the stack under the mark, and how many of its symbols go with the handle
pub record BelowMark (area : List ℕ) (s e at more : ℕ) : Type 0 where
  pub found : (stack : List (Entry Span)) → Holds area s e stack → at ≡ s + stack_size (below_mark stack)
  pub counted : (stack : List (Entry Span)) → Holds area s e stack → more + length (below_mark stack) ≡ length stack

-- the slot where the handle starts
pub record HandleStarts (area : List ℕ) (s e at : ℕ) : Type 0 where
  pub found : (stack : List (Entry Span)) → Holds area s e stack → at ≡ s + stack_size (handle_below stack)

-- .. and how many symbols it has
pub record HandleIs (area : List ℕ) (s e start count : ℕ) : Type 0 where
  pub starts : HandleStarts area s e start
  pub counted : (stack : List (Entry Span)) → Holds area s e stack → count + length (handle_below stack) ≡ length stack

-- ---- the next live chunk

-- the status word of a live chunk is not 0
abbrev pub live_at : List ℕ → ℕ → Bool
live_at area d = ltb 0 (row_word area d 0)

-- the least live number after c
abbrev pub live_after : List ℕ → ℕ → Option ℕ
live_after area c = first_from (live_at area) (get_or area 1 0 - (c + 1)) (c + 1)
