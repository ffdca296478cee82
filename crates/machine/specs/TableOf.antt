-- The table that a reader uses: relations from the bytes of a matrix, rules and axioms from the grammar words, spans as values.
-- Document 01, "Sets and matrix": "one byte each, a over b at 64a + b"; "Moves of a chunk": "the least such rule".
-- It is there for any words and any bytes; for accepted words and their own matrix it has every law that demands 2 and 3 ask.
-- Rests on Moves, Laws and Spans, and on language's Loads and PassedWords.
--
-- Main definitions: relation_from, relation_at, table_of, own_table.
-- What is proved of them: proofs' TableOf.
use Rattle.std.specs.Prelude.{true, false, ◌&&◌, List, ℕ, zero, suc, ◌+◌, ◌*◌, ltb, get_or}
use Rattle.language.specs.Symbols.{Relation, blank, yields, equal, takes}
use Rattle.language.specs.Grammar.{left_side}
use Rattle.language.specs.Words.{count_a, grammar_of}
use Rattle.language.specs.Matrix.{matrix_of}
use Rattle.language.specs.Matching.{matching}
use Rattle.language.specs.Trees.{Span}
use Rattle.machine.specs.Moves.{Table}
use Rattle.machine.specs.Spans.{span_of}

-- the relation of a byte
abbrev pub relation_from : ℕ → Relation
relation_from zero = blank
relation_from (suc zero) = yields
relation_from (suc (suc zero)) = equal
relation_from (suc (suc (suc zero))) = takes
relation_from (suc (suc (suc (suc x)))) = blank

-- "a over b at 64a + b"; past 64 by 64 there is nothing
abbrev pub relation_at : List ℕ → ℕ → ℕ → Relation
relation_at bytes a b = elim (ltb a 64 && ltb b 64) [ true ↦ relation_from (get_or bytes (64 * a + b) 0) | false ↦ blank ]

abbrev pub table_of : List ℕ → List ℕ → Table Span
table_of words bytes = record {
  relation = relation_at bytes;
  matching = matching (grammar_of words);
  left_side = left_side (grammar_of words);
  is_axiom = λ k. ltb k (count_a words);
  value = λ r spans. span_of spans;
}

-- ---- accepted words with their own matrix, and anything beyond it

-- ---- .. and nothing beyond it

-- the table of the words with their own matrix: the one that the one-call parse uses
abbrev pub own_table : List ℕ → Table Span
own_table words = table_of words (matrix_of (grammar_of words))
