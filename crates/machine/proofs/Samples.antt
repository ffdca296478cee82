-- What is proved of specs' Samples. Sample rows, computed from the definitions: grammar K's table written out, rows cut and uncut, outcomes and counts.
--
-- Main statements: one equation a row.
use Rattle.std.specs.Prelude.{◌≡◌, refl, List, [], ◌∷◌, map, ℕ}
use Rattle.refusals.specs.declared.Refusal.TheVariants.{NoRelation, NoRule, NotAxiom, SideBySide}
use Rattle.language.specs.Symbols.{terminal, nonterminal, blank, yields, equal, takes}
use Rattle.language.specs.Trees.{Span, Reduction}
use Rattle.machine.specs.Moves.{Table, no_relation, no_rule}
use Rattle.machine.specs.Chunks.{Status, stuck}
use Rattle.machine.specs.States.{State, refused_run, ran, run, live, start, refused_row, reported, place_of, outcome}
use Rattle.machine.specs.Samples.{joined_on, table_by, table_of_k}

-- the words 2 2 1 2, 6 10, 0 257 2 257, 1 1: 0 -> 1 "2" 1, and 1 -> "1"; 0 is the one axiom
abbrev table_of19 : Table Span
table_of19 =
    table_by
    ((equal ∷ yields ∷ yields ∷ []) ∷ (takes ∷ blank ∷ takes ∷ []) ∷ (takes ∷ yields ∷ blank ∷ []) ∷ [])
    (record { left = 0; right = nonterminal 1 ∷ terminal 2 ∷ nonterminal 1 ∷ [] } ∷ record { left = 1; right = terminal 1 ∷ [] } ∷ [])
    1

-- chunk c moved until at rest: no row here takes 100 moves
abbrev to_rest : Table Span → ℕ → State Span → State Span
to_rest table c s = elim (run table c 100 s) [ refused_run why ↦ s | ran j s' ↦ s' ]

-- "The front-to-back parse is C = 1"
abbrev uncut : Table Span → List ℕ → State Span
uncut table tokens = to_rest table 0 (start tokens [])

-- "It moves chunk 0 until at rest, then 1, and so on,": a row cut in two
abbrev apart : Table Span → ℕ → List ℕ → State Span
apart table cut tokens = to_rest table 1 (to_rest table 0 (start tokens (cut ∷ [])))

-- "then joins chunk 0 rightwards, moving it to rest after each join"
abbrev cut_in_two : Table Span → ℕ → List ℕ → State Span
cut_in_two table cut tokens = to_rest table 0 (joined_on (apart table cut tokens))

abbrev entry : ℕ → ℕ → ℕ → Reduction Span
entry r first after = record { rule = r; value = record { first = first; after = after } }

-- "1 -> report 0 0 1, 3 moves uncut."
row-of-one : outcome (uncut table_of_k (1 ∷ [])) ≡ reported (entry 0 0 1 ∷ []) 3
row-of-one = refl

-- "1 1 -> 17 at 1. 3 1 4 -> 17 at 3. 2 -> 18 at 1. 1 2 -> 18 at 2. 3 4 5 -> 18 at 3."
refused-rows : map (λ tokens. outcome (uncut table_of_k tokens)) ((1 ∷ 1 ∷ []) ∷ (3 ∷ 1 ∷ 4 ∷ []) ∷ (2 ∷ []) ∷ (1 ∷ 2 ∷ []) ∷ (3 ∷ 4 ∷ 5 ∷ []) ∷ [])
    ≡ refused_row (NoRelation 1) ∷ refused_row (NoRelation 3) ∷ refused_row (NoRule 1) ∷ refused_row (NoRule 2) ∷ refused_row (NoRule 3) ∷ []
refused-rows = refl

-- "1 2 4 1 1, cut at 3 -> 18 at 2,"
left-refusal : outcome (cut_in_two table_of_k 3 (1 ∷ 2 ∷ 4 ∷ 1 ∷ 1 ∷ [])) ≡ refused_row (NoRule 2)
left-refusal = refl

abbrev resting_on : State Span → List (Status × ℕ)
resting_on s = map (λ c. (c.status, place_of c.unread)) (live s.chunks)

-- "though chunk 1 rests on 17 at 4."
right-refusal : resting_on (apart table_of_k 3 (1 ∷ 2 ∷ 4 ∷ 1 ∷ 1 ∷ [])) ≡ (stuck no_rule, 2) ∷ (stuck no_relation, 4) ∷ []
right-refusal = refl

-- "Words 2 2 1 2, 6 10, 0 257 2 257, 1 1 and row 1 -> 19 at 1."
not-an-axiom : outcome (uncut table_of19 (1 ∷ [])) ≡ refused_row (NotAxiom 1)
not-an-axiom = refl

-- "With K, 1 2 3 1 2 1 4 5 and 4 it writes this": the report
abbrev long_report : List (Reduction Span)
long_report = entry 0 0 1 ∷ entry 0 3 4 ∷ entry 0 5 6 ∷ entry 3 3 6 ∷ entry 2 2 8 ∷ entry 3 0 8 ∷ []

-- "parse 8 2 21"
cut-row : outcome (cut_in_two table_of_k 4 (1 ∷ 2 ∷ 3 ∷ 1 ∷ 2 ∷ 1 ∷ 4 ∷ 5 ∷ [])) ≡ reported long_report 21
cut-row = refl

-- "Uncut it takes 15 moves."
uncut-row : outcome (uncut table_of_k (1 ∷ 2 ∷ 3 ∷ 1 ∷ 2 ∷ 1 ∷ 4 ∷ 5 ∷ [])) ≡ reported long_report 15
uncut-row = refl

-- the cut row's reductions in the order made, which is not the report's
cut-row-as-made : (cut_in_two table_of_k 4 (1 ∷ 2 ∷ 3 ∷ 1 ∷ 2 ∷ 1 ∷ 4 ∷ 5 ∷ [])).reductions
    ≡ entry 0 0 1 ∷ entry 0 5 6 ∷ entry 0 3 4 ∷ entry 3 3 6 ∷ entry 2 2 8 ∷ entry 3 0 8 ∷ []
cut-row-as-made = refl

-- why NeverSideBySide asks that no token is #: with one, which a start refuses with 9, two nonterminals can meet
end-inside : outcome (cut_in_two table_of_k 1 (1 ∷ 0 ∷ 1 ∷ [])) ≡ refused_row (SideBySide 2)
end-inside = refl
