-- The shape rules of docs/AREA.md, (c) to (k), each a test of the lent words; with (a) and (b), of the grammar words and the matrix, they are
-- all rules. They speak of ranges, lengths and counts alone, and mention neither a state nor its encoding. 15 is given exactly when one of
-- them is broken.
-- Document 01, 15 BAD STATE: "grammar, matrix or work area breaks the shape rules listed in docs/".
-- Rests on layout's places of words, and on matrix's GrammarShape.
--
-- Main definitions: rule_c; (d) to (h) in one walk of the chunk table, walked; rule_i, rule_j, rule_k; area_in_shape, in_shape.
use Rattle.std.specs.Prelude.{Bool, true, false, List, [], ◌∷◌, ℕ, zero, suc, ◌+◌, ◌*◌, ◌-◌, pred, leb, ltb, eqb, length, get_or, drop}
use Rattle.std.specs.Prelude.{Option, Some, None, option_and_then}
use Rattle.laws.specs.Picks.{pick, all_of}
use Rattle.language.specs.Words.{count_t, count_n}
use Rattle.results.specs.Bounded.{most_moves}
use Rattle.layout.specs.Layout.{need, slots_at, made_at_word, moves_in}
use Rattle.matrix.specs.GrammarShape.{grammar_in_shape}
use Rattle.area.specs.declared.shape.Scan.{Scan}
use Rattle.area.specs.declared.shape.Walk.{Walk}

-- ---- the sizes

-- (c) n in 1..16,384, C in 1..64, the area at least need(n, C) words
abbrev pub rule_c : List ℕ → Bool
rule_c area =
    all_of (leb 1 (get_or area 0 0) ∷ leb (get_or area 0 0) 16384 ∷ leb 1 (get_or area 1 0) ∷ leb (get_or area 1 0) 64
    ∷ leb (need (get_or area 0 0) (get_or area 1 0)) (length area) ∷ [])

-- (f) symbol and mark: # or a terminal to t; a nonterminal below n, unmarked; a mark is 0 or 1 and never on #
abbrev pub symbol_fits : ℕ → ℕ → ℕ → ℕ → Bool
symbol_fits t n s m =
    pick (eqb m 0) (pick (leb s t) true (pick (ltb s 256) false (ltb s (256 + n)))) (pick (eqb m 1) (pick (eqb s 0) false (leb s t)) false)

-- (f) symbol s of l slots at this slot of a row of that many tokens: # in slots 0 and n+1 and nowhere else, one slot long
abbrev pub place_fits : ℕ → ℕ → ℕ → ℕ → Bool
place_fits tokens slot s l =
    pick (eqb slot 0) (pick (eqb s 0) (eqb l 1) false)
    (pick (eqb slot (tokens + 1)) (pick (eqb s 0) (eqb l 1) false) (pick (eqb s 0) false (leb (slot + l) (tokens + 1))))

-- the last word of a slot, k slots before the end of its symbol, which has l slots
abbrev pub tag : ℕ → ℕ → ℕ
tag zero l = l
tag (suc k) l = 0

-- 1 for a terminal other than #
abbrev pub one_if_terminal : ℕ → ℕ
one_if_terminal s = pick (eqb s 0) 0 (pick (ltb s 256) 1 0)

-- a slot at which a symbol starts: symbol s, mark m, l slots, last word b; none where a word of it is wrong
abbrev pub opened : ℕ → ℕ → ℕ → ℕ → Scan → ℕ → ℕ → ℕ → ℕ → Option Scan
opened t n tokens slot st s m l b =
    pick (eqb l 0) None
    (pick (symbol_fits t n s m)
    (pick (place_fits tokens slot s l)
    (pick (eqb b (tag (l - 1) l))
    (Some (record { within = l - 1; size = l; symbols = st.symbols + 1; terminals = st.terminals + one_if_terminal s; marks = st.marks + m }))
    None) None) None)

-- a slot inside a symbol: its words are 0, but for the last of the last slot
abbrev pub inner : Scan → ℕ → ℕ → ℕ → ℕ → Option Scan
inner st s m l b =
    pick (eqb s 0) (pick (eqb m 0) (pick (eqb l 0)
    (pick (eqb b (tag (st.within - 1) st.size))
    (Some (record { within = st.within - 1; size = st.size; symbols = st.symbols; terminals = st.terminals; marks = st.marks }))
    None) None) None) None

-- one slot more
unfoldable pub scan_slot : ℕ → ℕ → ℕ → ℕ → Scan → ℕ → ℕ → ℕ → ℕ → Option Scan
scan_slot t n tokens slot st s m l b = pick (eqb st.within 0) (opened t n tokens slot st s m l b) (inner st s m l b)

-- that many slots more, from this slot on; ws is the words from there on
abbrev pub scanned : ℕ → ℕ → ℕ → ℕ → ℕ → List ℕ → Scan → Option Scan
scanned t n tokens zero slot ws st = Some st
scanned t n tokens (suc count) slot ws st =
    option_and_then (λ next. scanned t n tokens count (slot + 1) (drop 4 ws) next)
    (scan_slot t n tokens slot st (get_or ws 0 0) (get_or ws 1 0) (get_or ws 2 0) (get_or ws 3 0))

abbrev pub fresh_scan : Scan
fresh_scan = record { within = 0; size = 0; symbols = 0; terminals = 0; marks = 0 }

-- one side of a chunk: the slots from `from` up to `to`
unfoldable pub side : ℕ → ℕ → List ℕ → ℕ → ℕ → Option Scan
side t n area from to = scanned t n (get_or area 0 0) (to - from) from (drop (slots_at area + 4 * from) area) fresh_scan

-- (f) whole symbols
abbrev pub side_fits : Scan → Bool
side_fits st = eqb st.within 0

-- (d) 1 running; 17 to 20 stuck so
abbrev pub status_fits : ℕ → Bool
status_fits x = pick (eqb x 1) true (pick (ltb x 17) false (leb x 20))

-- (d) a gone chunk's row is zeros
abbrev pub gone_fits : ℕ → ℕ → ℕ → ℕ → Bool
gone_fits f h e y = all_of (eqb f 0 ∷ eqb h 0 ∷ eqb e 0 ∷ eqb y 0 ∷ [])

-- (e) from is the end of the live chunk before it and at most n+1; from, head, end in order, the end at most n+2
abbrev pub bounds_fit : ℕ → ℕ → ℕ → ℕ → ℕ → Bool
bounds_fit tokens at f h e = all_of (eqb f at ∷ leb f (tokens + 1) ∷ leb f h ∷ leb h e ∷ leb e (tokens + 2) ∷ [])

-- (h) a stuck chunk has something unread, one stuck with 18 has a mark
abbrev pub stuck_fits : ℕ → ℕ → ℕ → ℕ → Bool
stuck_fits x h e y = pick (eqb x 1) true (pick (ltb h e) (pick (eqb x 18) (leb 1 y) true) false)

-- (f), (g) and (h) of a live chunk, from the scans of its stack and of its unread side
abbrev pub sides_fit : Scan → Scan → ℕ → ℕ → ℕ → ℕ → Bool
sides_fit stack unread x h e y =
    all_of (side_fits stack ∷ side_fits unread ∷ eqb unread.marks 0 ∷ eqb y stack.marks ∷ stuck_fits x h e y ∷ [])

-- a live chunk's counts added
abbrev pub counted : Walk → Scan → Scan → ℕ → ℕ → Walk
counted w stack unread x e = record {
  at = e;
  live = w.live + 1;
  running = w.running + pick (eqb x 1) 1 0;
  unread = w.unread + unread.symbols;
  symbols = w.symbols + stack.symbols + unread.symbols;
  terminals = w.terminals + stack.terminals + unread.terminals;
}

-- both sides of a live chunk's row, where its bounds fit
abbrev pub both_sides : Walk → ℕ → ℕ → ℕ → ℕ → Option Scan → Option Scan → Option Walk
both_sides w x h e y below above =
    option_and_then (λ stack. option_and_then (λ unread. pick (sides_fit stack unread x h e y) (Some (counted w stack unread x e)) None) above) below

-- a live chunk's row: status x, from f, head h, end e, marks y; none where it breaks a rule
abbrev pub live_line : ℕ → ℕ → List ℕ → Walk → ℕ → ℕ → ℕ → ℕ → ℕ → Option Walk
live_line t n area w x f h e y =
    pick (status_fits x)
    (pick (bounds_fit (get_or area 0 0) w.at f h e) (both_sides w x h e y (side t n area f h) (side t n area h e)) None)
    None

-- one row of the table more
unfoldable pub line_of : ℕ → ℕ → List ℕ → Walk → ℕ → ℕ → ℕ → ℕ → ℕ → Option Walk
line_of t n area w x f h e y = pick (eqb x 0) (pick (gone_fits f h e y) (Some w) None) (live_line t n area w x f h e y)

-- that many rows more, from word i on
abbrev pub walked : ℕ → ℕ → List ℕ → ℕ → ℕ → Walk → Option Walk
walked t n area zero i w = Some w
walked t n area (suc count) i w =
    option_and_then (λ next. walked t n area count (i + 5) next)
    (line_of t n area w (get_or area i 0) (get_or area (i + 1) 0) (get_or area (i + 2) 0) (get_or area (i + 3) 0) (get_or area (i + 4) 0))

abbrev pub fresh_walk : Walk
fresh_walk = record { at = 0; live = 0; running = 0; unread = 0; symbols = 0; terminals = 0 }

-- (d) to (h) of every chunk
unfoldable pub walk_of : ℕ → ℕ → List ℕ → Option Walk
walk_of t n area = walked t n area (get_or area 1 0) 5 fresh_walk

-- (d) chunk 0 is live, with at least one stack slot
abbrev pub first_fits : List ℕ → Bool
first_fits area = pick (eqb (get_or area 5 0) 0) false (leb 1 (get_or area 7 0))

-- (e) the last live chunk's end is n+2, or n+1 if chunk 0 is the only live chunk and its head is n+1
abbrev pub end_fits : List ℕ → Walk → Bool
end_fits area w =
    pick (eqb w.at (get_or area 0 0 + 2)) true
    (all_of (eqb w.at (get_or area 0 0 + 1) ∷ eqb w.live 1 ∷ eqb (get_or area 7 0) (get_or area 0 0 + 1) ∷ []))

-- (i) the reductions made and the terminals other than # are at most n
abbrev pub rule_i : List ℕ → Walk → Bool
rule_i area w = leb (get_or area 4 0 + w.terminals) (get_or area 0 0)

-- (j) the moves made, and the most that can still come
abbrev pub potential_of : Walk → ℕ
potential_of w = w.unread + pred w.symbols * pred w.live + w.terminals + 2 * pred w.live + w.running

abbrev pub rule_j : List ℕ → Walk → Bool
rule_j area w = leb (moves_in area + potential_of w) (most_moves (get_or area 0 0) (get_or area 1 0))

-- that many words are 0
abbrev pub blank : ℕ → List ℕ → Bool
blank zero ws = true
blank (suc k) ws = pick (eqb (get_or ws 0 0) 0) (blank k (drop 1 ws)) false

-- (k) slots past the last end and unused reductions are zeros
abbrev pub rule_k : List ℕ → Walk → Bool
rule_k area w =
    pick (blank (made_at_word area - (slots_at area + 4 * w.at)) (drop (slots_at area + 4 * w.at) area))
    (blank (3 * (get_or area 0 0 - get_or area 4 0)) (drop (made_at_word area + 3 * get_or area 4 0) area)) false

-- (d) to (k), from a walk of the table
abbrev pub walk_fits : List ℕ → Option Walk → Bool
walk_fits area None = false
walk_fits area (Some w) = all_of (first_fits area ∷ end_fits area w ∷ rule_i area w ∷ rule_j area w ∷ rule_k area w ∷ [])

unfoldable pub area_in_shape : ℕ → ℕ → List ℕ → Bool
area_in_shape t n area = pick (rule_c area) (walk_fits area (walk_of t n area)) false

-- no rule is broken
unfoldable pub in_shape : List ℕ → List ℕ → List ℕ → Bool
in_shape words matrix area = pick (grammar_in_shape words matrix) (area_in_shape (count_t words) (count_n words) area) false
