-- A work area, computed from the definitions: grammar K's row 1 2 3 1 2 1 4 5 cut at 4, as it starts, after two moves of chunk 0, and
-- finished. These are the words that docs/AREA.md shows.
-- Document 01, "Sample rows": "With K, 1 2 3 1 2 1 4 5 and 4".
-- Rests on layout's Layout and area's Shape, and on machine's Samples.
--
-- Main statements: started, two-moves, finished (one equation an area); each is in shape.
use Rattle.std.specs.Prelude.{◌≡◌, refl, true, false, List, [], ◌∷◌, ◌++◌, ℕ, length, drop}
use Rattle.language.specs.Trees.{Span}
use Rattle.machine.specs.States.{State, refused_run, ran, run, start}
use Rattle.machine.specs.Samples.{table_of_k, joined_on}
use Rattle.layout.specs.Layout.{need, block, zeros, encode, decode}
use Rattle.area.specs.Shape.{area_in_shape, walk_of, line_of, side, scan_slot}

abbrev at_start : State Span
at_start = start (1 ∷ 2 ∷ 3 ∷ 1 ∷ 2 ∷ 1 ∷ 4 ∷ 5 ∷ []) (4 ∷ [])

-- at most `budget` moves of chunk c
abbrev moved : ℕ → ℕ → State Span → State Span
moved c budget s = elim (run table_of_k c budget s) [ refused_run why ↦ s | ran j s' ↦ s' ]

-- "It moves chunk 0 until at rest, then 1, and so on, then joins chunk 0 rightwards, moving it to rest after each join"
abbrev at_end : State Span
at_end = moved 0 100 (joined_on (moved 1 100 (moved 0 100 at_start)))

-- the front, a line for each chunk, a line for each slot, the reductions
abbrev start_words : List ℕ
start_words =
    8 ∷ 2 ∷ 0 ∷ 0 ∷ 0
    ∷ 1 ∷ 0 ∷ 1 ∷ 5 ∷ 0
    ∷ 1 ∷ 5 ∷ 5 ∷ 10 ∷ 0
    ∷ 0 ∷ 0 ∷ 1 ∷ 1
    ∷ 1 ∷ 0 ∷ 1 ∷ 1
    ∷ 2 ∷ 0 ∷ 1 ∷ 1
    ∷ 3 ∷ 0 ∷ 1 ∷ 1
    ∷ 1 ∷ 0 ∷ 1 ∷ 1
    ∷ 2 ∷ 0 ∷ 1 ∷ 1
    ∷ 1 ∷ 0 ∷ 1 ∷ 1
    ∷ 4 ∷ 0 ∷ 1 ∷ 1
    ∷ 5 ∷ 0 ∷ 1 ∷ 1
    ∷ 0 ∷ 0 ∷ 1 ∷ 1
    ∷ zeros 24

started : encode 8 at_start ≡ start_words
unfolding encode block
started = refl

-- token 0 was put on, marked, and became I by rule 0
abbrev two_moves_words : List ℕ
two_moves_words =
    8 ∷ 2 ∷ 2 ∷ 0 ∷ 1
    ∷ 1 ∷ 0 ∷ 2 ∷ 5 ∷ 0
    ∷ 1 ∷ 5 ∷ 5 ∷ 10 ∷ 0
    ∷ 0 ∷ 0 ∷ 1 ∷ 1
    ∷ 256 ∷ 0 ∷ 1 ∷ 1
    ∷ 2 ∷ 0 ∷ 1 ∷ 1
    ∷ 3 ∷ 0 ∷ 1 ∷ 1
    ∷ 1 ∷ 0 ∷ 1 ∷ 1
    ∷ 2 ∷ 0 ∷ 1 ∷ 1
    ∷ 1 ∷ 0 ∷ 1 ∷ 1
    ∷ 4 ∷ 0 ∷ 1 ∷ 1
    ∷ 5 ∷ 0 ∷ 1 ∷ 1
    ∷ 0 ∷ 0 ∷ 1 ∷ 1
    ∷ 0 ∷ 0 ∷ 1
    ∷ zeros 21

two-moves : encode 8 (moved 0 2 at_start) ≡ two_moves_words
unfolding encode block
two-moves = refl

-- after 21 moves one symbol, L, covers all eight tokens, and the # of the end is read: chunk 0 ends at 9, slot 9 is zeros
abbrev end_words : List ℕ
end_words =
    8 ∷ 2 ∷ 21 ∷ 0 ∷ 6
    ∷ 1 ∷ 0 ∷ 9 ∷ 9 ∷ 0
    ∷ 0 ∷ 0 ∷ 0 ∷ 0 ∷ 0
    ∷ 0 ∷ 0 ∷ 1 ∷ 1
    ∷ 257 ∷ 0 ∷ 8 ∷ (zeros 28 ++ (8 ∷ []))
    ++ (zeros 4
    ++ (0 ∷ 0 ∷ 1
    ∷ 0 ∷ 5 ∷ 6
    ∷ 0 ∷ 3 ∷ 4
    ∷ 3 ∷ 3 ∷ 6
    ∷ 2 ∷ 2 ∷ 8
    ∷ 3 ∷ 0 ∷ 8
    ∷ zeros 6))

finished : encode 8 at_end ≡ end_words
unfolding encode block
finished = refl

-- need(8, 2)
lengths : length start_words ≡ need 8 2
lengths = refl

-- K has 5 terminals and 2 nonterminals
start-in-shape : area_in_shape 5 2 start_words ≡ true
unfolding area_in_shape walk_of line_of side scan_slot
start-in-shape = refl

end-in-shape : area_in_shape 5 2 end_words ≡ true
unfolding area_in_shape walk_of line_of side scan_slot
end-in-shape = refl

-- a word changed: a mark on # breaks rule (f)
marked-end : area_in_shape 5 2 (8 ∷ 2 ∷ 0 ∷ 0 ∷ 0 ∷ 1 ∷ 0 ∷ 1 ∷ 5 ∷ 1 ∷ 1 ∷ 5 ∷ 5 ∷ 10 ∷ 0 ∷ 0 ∷ 1 ∷ 1 ∷ 1 ∷ drop 19 start_words) ≡ false
unfolding area_in_shape walk_of line_of side scan_slot
marked-end = refl

decoded-back : decode two_moves_words ≡ moved 0 2 at_start
unfolding decode
decoded-back = refl
