-- The words that each move and each join leaves, exactly, as functions from an area's words to an area's words; and what each asks
-- of the words that it finds. No symbol moves: a push passes the boundary `head` over it, a join takes over an `end`, a reduction
-- lays one block over a handle's.
-- Document 01, "Moves of a chunk"; docs/AREA.md gives the places.
-- Rests on layout's Layout.
--
-- Main definitions: tick_words, mark_of, push_words, stick_words, accept_words, join_words, cleared_words, entry_words, reduce_words; put_words, ended_words, made_words (a
-- move not counted); Stands (a stack's words stand there); Ticks, Pushable, Stickable, Acceptable, Joinable, Laid, Roomy, Reducible (what each asks).
use Rattle.std.specs.Prelude.{◌≡◌, Bool, true, false, List, ◌++◌, ℕ, zero, suc, ◌+◌, ◌*◌, ◌-◌, ◌/◌, ◌%◌, ◌<◌, ◌≤◌, length, get_or, take, drop, set}
use Rattle.language.specs.Trees.{Span}
use Rattle.machine.specs.Entries.{Entry}
use Rattle.layout.specs.Layout.{stack_size, stack_words, zeros, table_at, row_word, slots_at, slot_word, made_at_word, moves_in}

-- ---- a chunk's row of the table

-- the slot where chunk c's stack starts, where its unread symbols start, and where they end; how many marks its stack has
abbrev pub from_of : List ℕ → ℕ → ℕ
from_of area c = row_word area c 1

abbrev pub head_of : List ℕ → ℕ → ℕ
head_of area c = row_word area c 2

abbrev pub end_of : List ℕ → ℕ → ℕ
end_of area c = row_word area c 3

abbrev pub marks_of : List ℕ → ℕ → ℕ
marks_of area c = row_word area c 4

-- the word where slot s starts
abbrev pub slot_at : List ℕ → ℕ → ℕ
slot_at area s = slots_at area + 4 * s

-- ---- the count of moves

-- one move more
unfoldable pub tick_words : List ℕ → List ℕ
tick_words area = set (set area 2 ((moves_in area + 1) % 65536)) 3 ((moves_in area + 1) / 65536)

-- a move more than this many can be counted
pub record Ticks (area : List ℕ) (moves : ℕ) : Type 0 where
  pub long : 5 ≤ length area
  pub low : get_or area 2 0 < 65536
  pub few : get_or area 3 0 < 65535
  pub count : moves ≡ moves_in area

-- ---- a symbol is put on a stack

-- the word of a mark
abbrev pub mark_of : Bool → ℕ
mark_of true = 1
mark_of false = 0

-- chunk c's next unread symbol is on its stack, with this mark (0 or 1); the move not counted
unfoldable pub put_words : List ℕ → ℕ → ℕ → List ℕ
put_words area c mark =
    set (set (set area (slot_at area (head_of area c) + 1) mark)
    (table_at c 2) (head_of area c + slot_word area (head_of area c) 2))
    (table_at c 4) (marks_of area c + mark)

-- "put b on, marked", "put b on, unmarked"
unfoldable pub push_words : List ℕ → ℕ → ℕ → List ℕ
push_words area c mark = tick_words (put_words area c mark)

pub record Pushable (area : List ℕ) (c mark : ℕ) : Type 0 where
  pub few : get_or area 3 0 < 65535
  pub chunk : c < get_or area 1 0
  pub slot : slot_at area (head_of area c) + 4 ≤ length area
  pub head : head_of area c + slot_word area (head_of area c) 2 < 65536
  pub marks : marks_of area c + mark < 65536
  pub low : from_of area c ≤ head_of area c
  pub some : 0 < slot_word area (head_of area c) 2
  pub last : get_or area (slot_at area (head_of area c + slot_word area (head_of area c) 2) - 1) 0 ≡ slot_word area (head_of area c) 2

-- ---- a chunk gets stuck

-- "Getting stuck is itself a move."
unfoldable pub stick_words : List ℕ → ℕ → ℕ → List ℕ
stick_words area c status = tick_words (set area (table_at c 0) status)

pub record Stickable (area : List ℕ) (c : ℕ) : Type 0 where
  pub few : get_or area 3 0 < 65535
  pub chunk : c < get_or area 1 0
  pub room : slots_at area ≤ length area

-- ---- the accepting move

-- chunk c's last slot is cleared, and its `end` is one less; the move not counted
unfoldable pub ended_words : List ℕ → ℕ → List ℕ
ended_words area c =
    set (set (set (set (set area (slot_at area (end_of area c - 1) + 0) 0) (slot_at area (end_of area c - 1) + 1) 0)
    (slot_at area (end_of area c - 1) + 2) 0) (slot_at area (end_of area c - 1) + 3) 0) (table_at c 3) (end_of area c - 1)

-- "for # over #, if the stack is # and an axiom read #, the stack unchanged"
unfoldable pub accept_words : List ℕ → ℕ → List ℕ
accept_words area c = tick_words (ended_words area c)

pub record Acceptable (area : List ℕ) (c : ℕ) : Type 0 where
  pub few : get_or area 3 0 < 65535
  pub chunk : c < get_or area 1 0
  pub some : 0 < end_of area c
  pub unread : head_of area c < end_of area c
  pub room : slot_at area (end_of area c) ≤ length area

-- ---- two chunks are joined

-- `count` words, four apart, are 0
abbrev pub unmark_words : List ℕ → ℕ → ℕ → List ℕ
unmark_words area at zero = area
unmark_words area at (suc count) = unmark_words (set area at 0) (at + 4) count

-- chunk d's row of the table is 0
unfoldable pub gone_words : List ℕ → ℕ → List ℕ
gone_words area d =
    set (set (set (set (set area (table_at d 0) 0) (table_at d 1) 0) (table_at d 2) 0) (table_at d 3) 0) (table_at d 4) 0

-- "Unread is what c had unread, then the other's stack symbols, then its unread symbols": d's stack is unmarked, c's `end` is d's, and
-- "the other number is gone"; the move not counted
unfoldable pub one_words : List ℕ → ℕ → ℕ → List ℕ
one_words area c d =
    gone_words
    (set (unmark_words area (slot_at area (from_of area d) + 1) (head_of area d - from_of area d)) (table_at c 3) (end_of area d)) d

-- "Joining chunk c to the next live chunk .. is one move."
unfoldable pub join_words : List ℕ → ℕ → ℕ → List ℕ
join_words area c d = tick_words (one_words area c d)

pub record Joinable (area : List ℕ) (c d : ℕ) : Type 0 where
  pub few : get_or area 3 0 < 65535
  pub left : c < get_or area 1 0
  pub right : d < get_or area 1 0
  pub from : from_of area d ≤ head_of area d
  pub room : slot_at area (head_of area d) ≤ length area

-- ---- a handle is replaced

-- the words from i up to j are those of this stack
pub record Stands (area : List ℕ) (i j : ℕ) (stack : List (Entry Span)) : Type 0 where
  pub below : List ℕ
  pub above : List ℕ
  pub is : area ≡ below ++ (stack_words stack ++ above)
  pub start : length below ≡ i
  pub stop : j ≡ i + 4 * stack_size stack

-- the words from i up to j are those of some stack
pub record Laid (area : List ℕ) (i j : ℕ) : Type 0 where
  pub stack : List (Entry Span)
  pub stands : Stands area i j stack

-- where the block that ends before word j starts, by its last word
abbrev pub start_of : List ℕ → ℕ → ℕ
start_of area j = j - 4 * get_or area (j - 1) 0

-- before word j stands a size of at least 1, and the words that it counts
pub record Tagged (area : List ℕ) (j : ℕ) : Type 0 where
  pub some : 0 < get_or area (j - 1) 0
  pub fits : 4 * get_or area (j - 1) 0 ≤ j
  pub within : j ≤ length area

-- the block that ends before word j is cleared: its first three words and its last one, the others being 0 already
unfoldable pub cleared_one : List ℕ → ℕ → List ℕ
cleared_one area j = set (set (set (set area (j - 1) 0) (start_of area j) 0) (start_of area j + 1) 0) (start_of area j + 2) 0

-- `count` words from word i on are 0
unfoldable pub cleared_words : List ℕ → ℕ → ℕ → List ℕ
cleared_words area i count = take i area ++ (zeros count ++ drop (i + count) area)

-- an unmarked symbol of `size` slots stands at word i, where zeros were
unfoldable pub laid_words : List ℕ → ℕ → ℕ → ℕ → List ℕ
laid_words area i symbol size = set (set (set area i symbol) (i + 2) size) (i + 4 * size - 1) size

-- .. over the slots from `from` up to `head`, their symbols cleared
abbrev pub over_words : List ℕ → ℕ → ℕ → ℕ → List ℕ
over_words area from head symbol =
    laid_words (cleared_words area (slot_at area from) (slot_at area head - slot_at area from)) (slot_at area from) symbol (head - from)

-- a reduction after the `made` before it: rule, first place, place after the last
abbrev pub entry_words : List ℕ → ℕ → ℕ → ℕ → ℕ → List ℕ
entry_words area made rule first after =
    set (set (set area (made_at_word area + 3 * made) rule) (made_at_word area + 3 * made + 1) first) (made_at_word area + 3 * made + 2) after

-- .. and counted
unfoldable pub noted_words : List ℕ → ℕ → ℕ → ℕ → List ℕ
noted_words area rule first after = set (entry_words area (get_or area 4 0) rule first after) 4 (get_or area 4 0 + 1)

-- one reduction more can be noted
pub record Roomy (area : List ℕ) : Type 0 where
  pub made : get_or area 4 0 < get_or area 0 0
  pub room : made_at_word area + 3 * get_or area 0 0 ≤ length area

-- the symbols of chunk c's stack from slot `from` up are one symbol, and a mark is gone; the reduction not noted, the move not counted
unfoldable pub replaced_words : List ℕ → ℕ → ℕ → ℕ → List ℕ
replaced_words area c from symbol = set (over_words area from (head_of area c) symbol) (table_at c 4) (marks_of area c - 1)

-- .. and the reduction noted, the move not counted: slot s is place s-1
abbrev pub made_words : List ℕ → ℕ → ℕ → ℕ → ℕ → List ℕ
made_words area c from symbol rule = noted_words (replaced_words area c from symbol) rule (from - 1) (head_of area c - 1)

-- "replace it by the left side of the least such rule, b staying unread"
unfoldable pub reduce_words : List ℕ → ℕ → ℕ → ℕ → ℕ → List ℕ
reduce_words area c from symbol rule = tick_words (made_words area c from symbol rule)

pub record Reducible (area : List ℕ) (c from : ℕ) : Type 0 where
  pub few : get_or area 3 0 < 65535
  pub chunk : c < get_or area 1 0
  pub low : 0 < from
  pub some : from < head_of area c
  pub marked : 0 < marks_of area c
  pub room : Roomy area
  pub top : head_of area c ≤ get_or area 0 0 + 2
  pub handle : Laid area (slot_at area from) (slot_at area (head_of area c))
