-- A chunk's two sides as entries from the bottom up: a stack turned round, unread symbols as entries unmarked; their words and counts;
-- and what it means in the rules of a state that such entries stand side by side.
-- Document 01, "Moves of a chunk"; docs/AREA.md, rule (f).
-- Rests on Sides, and on layout's Kept.
--
-- Main definitions: plain. Main statements: rising-stack, plain-unread, plain_of, placed_of, tiles-of, ranged-of, fine_of.
use Rattle.std.specs.Prelude.{◌≡◌, refl, true, false, ℕ, ◌+◌, length}
use Rattle.std.proofs.Common.{sym, ap, ◌∙◌, arith}
use mathlib.Core.List.{List, [], ◌∷◌, ◌++◌, append_assoc, append-nil, map, reverse, reverse_aux}
use Rattle.std.proofs.lemmas.List.{length-reverse}
use Rattle.language.specs.Trees.{Span}
use Rattle.machine.specs.Entries.{Unread, terminal_at, nonterminal_at, Entry, terminal_on, nonterminal_on, unmarked, stack_symbols}
use Rattle.results.specs.RunsEnd.{terminals_on, terminals_unread, MarksFine, fine_empty, fine_nonterminal, fine_unmarked, fine_marked}
use Rattle.layout.specs.Layout.{size, block, mark_word, stack_size, stack_words, marks, unread_size, unread_words}
use Rattle.layout.specs.Kept.{Tiles, tiled, tile, AllInRange, none_left, in_range}
use Rattle.shape.specs.Sides.{rising_words, Placed, no_more, then_stands}

-- ---- a stack, bottom first

words-rising : (stack above : List (Entry Span)) → rising_words (reverse_aux stack above) ≡ stack_words stack ++ rising_words above
words-rising [] above = refl
words-rising (x ∷ stack) above = words-rising stack (x ∷ above) ∙ sym (append_assoc (stack_words stack) (block (mark_word x) (unmarked x)) (rising_words above))

-- a sum over entries is the same from either end
module _ (f : List (Entry Span) → ℕ) (one : Entry Span → ℕ) (empty : f [] ≡ 0)
    (and_one : (x : Entry Span) (entries : List (Entry Span)) → f (x ∷ entries) ≡ one x + f entries) where
  sum-rising : (stack above : List (Entry Span)) → f (reverse_aux stack above) ≡ f stack + f above
  sum-rising [] above = omega arith
  sum-rising (x ∷ stack) above = omega (arith, sum-rising stack (x ∷ above), and_one x above, and_one x stack)

  sum-reverse : (stack : List (Entry Span)) → f (reverse stack) ≡ f stack
  sum-reverse stack = omega (arith, sum-rising stack [])

terminals-one : (x : Entry Span) (entries : List (Entry Span)) → terminals_on (x ∷ entries) ≡ terminals_on (x ∷ []) + terminals_on entries
terminals-one (terminal_on mark a v) entries = omega arith
terminals-one (nonterminal_on k v) entries = omega arith

symbols-rising : (stack above : List (Entry Span)) → map unmarked (reverse_aux stack above) ≡ stack_symbols stack ++ map unmarked above
symbols-rising [] above = refl
symbols-rising (x ∷ stack) above = symbols-rising stack (x ∷ above) ∙ sym (append_assoc (stack_symbols stack) (unmarked x ∷ []) (map unmarked above))

-- what a stack's entries from the bottom up say of it
pub record Rising (stack : List (Entry Span)) : Type 0 where
  pub words_are : rising_words (reverse stack) ≡ stack_words stack
  pub size_is : stack_size (reverse stack) ≡ stack_size stack
  pub length_is : length (reverse stack) ≡ length stack
  pub terminals_are : terminals_on (reverse stack) ≡ terminals_on stack
  pub marks_are : marks (reverse stack) ≡ marks stack
  pub symbols_are : map unmarked (reverse stack) ≡ stack_symbols stack

pub rising-stack : (stack : List (Entry Span)) → Rising stack
rising-stack stack = record {
  words_are = words-rising stack [] ∙ append-nil (stack_words stack);
  size_is = sum-reverse stack_size (λ x. size (unmarked x)) refl (λ x entries. omega arith) stack;
  length_is = length-reverse stack;
  terminals_are = sum-reverse terminals_on (λ x. terminals_on (x ∷ [])) refl terminals-one stack;
  marks_are = sum-reverse marks mark_word refl (λ x entries. omega arith) stack;
  symbols_are = symbols-rising stack [] ∙ append-nil (stack_symbols stack);
}

-- no mark stands on a #, from either end
fine-first : {x : Entry Span} {entries : List (Entry Span)} → MarksFine (x ∷ entries) → MarksFine (x ∷ [])
fine-first (fine_nonterminal f) = fine_nonterminal fine_empty
fine-first (fine_unmarked f) = fine_unmarked fine_empty
fine-first (fine_marked i f) = fine_marked i fine_empty

fine-rest : {x : Entry Span} {entries : List (Entry Span)} → MarksFine (x ∷ entries) → MarksFine entries
fine-rest (fine_nonterminal f) = f
fine-rest (fine_unmarked f) = f
fine-rest (fine_marked i f) = f

fine-cons : {x : Entry Span} {entries : List (Entry Span)} → MarksFine (x ∷ []) → MarksFine entries → MarksFine (x ∷ entries)
fine-cons (fine_nonterminal g) f = fine_nonterminal f
fine-cons (fine_unmarked g) f = fine_unmarked f
fine-cons (fine_marked i g) f = fine_marked i f

fine-rising : (stack above : List (Entry Span)) → MarksFine stack → MarksFine above → MarksFine (reverse_aux stack above)
fine-rising [] above f g = g
fine-rising (x ∷ stack) above f g = fine-rising stack (x ∷ above) (fine-rest f) (fine-cons (fine-first f) g)

pub fine-reverse : (stack : List (Entry Span)) → MarksFine stack → MarksFine (reverse stack)
fine-reverse stack f = fine-rising stack [] f fine_empty

-- ---- unread symbols, as entries unmarked

abbrev pub plain : Unread Span → Entry Span
plain (terminal_at a v) = terminal_on false a v
plain (nonterminal_at k v) = nonterminal_on k v

-- what the entries of unread symbols say of them
pub record Plain (unread : List (Unread Span)) : Type 0 where
  pub words_are : rising_words (map plain unread) ≡ unread_words unread
  pub size_is : stack_size (map plain unread) ≡ unread_size unread
  pub length_is : length (map plain unread) ≡ length unread
  pub terminals_are : terminals_on (map plain unread) ≡ terminals_unread unread
  pub no_marks : marks (map plain unread) ≡ 0
  pub symbols_are : map unmarked (map plain unread) ≡ unread
  pub fine : MarksFine (map plain unread)

pub plain-unread : (unread : List (Unread Span)) → Plain unread
plain-unread [] = record { words_are = refl; size_is = refl; length_is = refl; terminals_are = refl; no_marks = refl; symbols_are = refl; fine = fine_empty }
plain-unread (terminal_at a v ∷ unread) =
    let r = plain-unread unread in
    record {
      words_are = ap (λ l. block 0 (terminal_at a v) ++ l) r.words_are;
      size_is = omega (arith, r.size_is);
      length_is = omega (arith, r.length_is);
      terminals_are = omega (arith, r.terminals_are);
      no_marks = omega (arith, r.no_marks);
      symbols_are = ap {B = List (Unread Span)} (λ l. terminal_at a v ∷ l) r.symbols_are;
      fine = fine_unmarked r.fine;
    }
plain-unread (nonterminal_at k v ∷ unread) =
    let r = plain-unread unread in
    record {
      words_are = ap (λ l. block 0 (nonterminal_at k v) ++ l) r.words_are;
      size_is = omega (arith, r.size_is);
      length_is = omega (arith, r.length_is);
      terminals_are = r.terminals_are;
      no_marks = omega (arith, r.no_marks);
      symbols_are = ap {B = List (Unread Span)} (λ l. nonterminal_at k v ∷ l) r.symbols_are;
      fine = fine_nonterminal r.fine;
    }

-- entries without a mark are those of their symbols
pub plain_of : (entries : List (Entry Span)) → marks entries ≡ 0 → map plain (map unmarked entries) ≡ entries
plain_of [] h = refl
plain_of (terminal_on true a v ∷ entries) h = absurd (omega arith)
plain_of (terminal_on false a v ∷ entries) h = ap {B = List (Entry Span)} (λ l. terminal_on false a v ∷ l) (plain_of entries (omega arith))
plain_of (nonterminal_on k v ∷ entries) h = ap {B = List (Entry Span)} (λ l. nonterminal_on k v ∷ l) (plain_of entries (omega arith))

-- ---- in place, in the words of Kept

pub placed_of : {t N n s e : ℕ} (entries : List (Entry Span)) → Tiles n s (map unmarked entries) e → AllInRange t N (map unmarked entries) → MarksFine entries
    → Placed t N n s entries e
placed_of [] tiled r f = no_more refl
placed_of {s = s} (x ∷ entries) (tile l p) (in_range i r) f = then_stands (record { lies = l; ranged = i; fine = fine-first f }) (placed_of {s = s + size (unmarked x)} entries p r (fine-rest f))

pub tiles-of : {t N n s e : ℕ} {entries : List (Entry Span)} → Placed t N n s entries e → Tiles n s (map unmarked entries) e
tiles-of (no_more q) = rw q tiled
tiles-of (then_stands h p) = tile h.lies (tiles-of p)

pub ranged-of : {t N n s e : ℕ} {entries : List (Entry Span)} → Placed t N n s entries e → AllInRange t N (map unmarked entries)
ranged-of (no_more q) = none_left
ranged-of (then_stands h p) = in_range h.ranged (ranged-of p)

pub fine_of : {t N n s e : ℕ} {entries : List (Entry Span)} → Placed t N n s entries e → MarksFine entries
fine_of (no_more q) = fine_empty
fine_of (then_stands h p) = fine-cons h.fine (fine_of p)
