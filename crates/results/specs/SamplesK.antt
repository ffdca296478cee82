-- Samples worked out from the definitions: the sets, sizes, relations and matrix of grammar K, the conflict of K with one rule
-- more, and the grammar of Table 3.1 of document 000.
-- Document 01, "Sample rows": "K: left sets 10 and 14, right sets 34 and 38 (I, L); sizes 2, 3, 2, 3"; "K with a sixth rule
-- L -> I , L: 6, value 130"; and "What the library covers": "Table 3.1 of document 000 shows "(" taking precedence over # and #
-- yielding to ")"; its own definitions give neither."
-- Rests on language's SetMasks, Conflicts and Matrix, and on its CheckSamples for the words of K.
--
-- Main definitions: grammar_k, grammar_k6, expressions.
-- Main statements: words-K, sets-K, sizes-K, relations-K, matrix-K, conflict-K, conflict-K6; sets-expressions, table-3-1,
-- paren-over-end, end-over-paren.
use Rattle.std.specs.Prelude.{◌≡◌, refl, List, [], ◌∷◌, ◌++◌, ℕ, zero, suc}
use Rattle.std.proofs.Math.Option.{none, some}
use Rattle.laws.specs.Tabulate.{tabulate}
use Rattle.language.specs.Symbols.{Symbol, terminal, nonterminal, blank, relation_number}
use Rattle.language.specs.Grammar.{Rule, Grammar, in_play, mirrored}
use Rattle.language.specs.Words.{grammar_of}
use Rattle.language.specs.CheckSamples.{words_k}
use Rattle.language.specs.SetMasks.{left_member, left_set, right_set, left_size, right_size}
use Rattle.language.specs.RelationTests.{equal_test, yields_test, takes_test, relation_of}
use Rattle.language.specs.Conflicts.{clash, conflict_stage}
use Rattle.language.specs.Matrix.{matrix_of}

abbrev rule : ℕ → List Symbol → Rule
rule x w = record { left = x; right = w }

-- the sets of nonterminals 0 to n-1, left ones first
abbrev sets : Grammar → ℕ → List ℕ
sets g n = tabulate (left_set g) n ++ tabulate (right_set g) n

abbrev sizes : Grammar → ℕ → List ℕ
sizes g n = tabulate (left_size g) n ++ tabulate (right_size g) n

-- a row for each of 0 to n-1, with what stands over 0 to n-1
abbrev relations : Grammar → ℕ → List (List ℕ)
relations g n = tabulate (λ a. tabulate (λ b. relation_number (relation_of g a b)) n) n

-- the entries that are not 0, each with its place
abbrev nonzero : ℕ → List ℕ → List (ℕ × ℕ)
nonzero i [] = []
nonzero i (zero ∷ l) = nonzero (suc i) l
nonzero i (suc v ∷ l) = (i, suc v) ∷ nonzero (suc i) l

-- s = 1, comma = 2, "(" = 3, ")" = 4, count = 5; I = 0, L = 1
abbrev rules_k : List Rule
rules_k =
    rule 0 (terminal 1 ∷ [])
    ∷ rule 0 (terminal 3 ∷ nonterminal 0 ∷ terminal 4 ∷ terminal 5 ∷ [])
    ∷ rule 0 (terminal 3 ∷ nonterminal 1 ∷ terminal 4 ∷ terminal 5 ∷ [])
    ∷ rule 1 (nonterminal 0 ∷ terminal 2 ∷ nonterminal 0 ∷ [])
    ∷ rule 1 (nonterminal 1 ∷ terminal 2 ∷ nonterminal 0 ∷ [])
    ∷ []

abbrev pub grammar_k : Grammar
grammar_k = record { terminals = 5; nonterminals = 2; axioms = 2; rules = rules_k }

pub words-K : grammar_of words_k ≡ grammar_k
unfolding grammar_of
words-K = refl

pub sets-K : sets grammar_k 2 ≡ 10 ∷ 14 ∷ 34 ∷ 38 ∷ []
unfolding left_set left_member in_play mirrored
sets-K = refl

pub sizes-K : sizes grammar_k 2 ≡ 2 ∷ 3 ∷ 2 ∷ 3 ∷ []
unfolding left_set left_member in_play mirrored
sizes-K = refl

-- # s , ( ) count
pub relations-K : relations grammar_k 6
    ≡ (2 ∷ 1 ∷ 1 ∷ 1 ∷ 0 ∷ 0 ∷ [])
    ∷ (3 ∷ 0 ∷ 3 ∷ 0 ∷ 3 ∷ 0 ∷ [])
    ∷ (3 ∷ 1 ∷ 3 ∷ 1 ∷ 3 ∷ 0 ∷ [])
    ∷ (0 ∷ 1 ∷ 1 ∷ 1 ∷ 2 ∷ 0 ∷ [])
    ∷ (0 ∷ 0 ∷ 0 ∷ 0 ∷ 0 ∷ 2 ∷ [])
    ∷ (3 ∷ 0 ∷ 3 ∷ 0 ∷ 3 ∷ 0 ∷ [])
    ∷ []
unfolding left_member in_play mirrored relation_of equal_test yields_test takes_test
relations-K = refl

-- of the 4,096 entries these are not 0
pub matrix-K : nonzero 0 (matrix_of grammar_k)
    ≡ (0, 2) ∷ (1, 1) ∷ (2, 1) ∷ (3, 1)
    ∷ (64, 3) ∷ (66, 3) ∷ (68, 3)
    ∷ (128, 3) ∷ (129, 1) ∷ (130, 3) ∷ (131, 1) ∷ (132, 3)
    ∷ (193, 1) ∷ (194, 1) ∷ (195, 1) ∷ (196, 2)
    ∷ (261, 2)
    ∷ (320, 3) ∷ (322, 3) ∷ (324, 3)
    ∷ []
unfolding matrix_of left_member in_play mirrored relation_of equal_test yields_test takes_test
matrix-K = refl

pub conflict-K : conflict_stage grammar_k ≡ none
unfolding conflict_stage clash left_member in_play mirrored equal_test yields_test takes_test
conflict-K = refl

-- K with a sixth rule L -> I , L
abbrev pub grammar_k6 : Grammar
grammar_k6 = record { terminals = 5; nonterminals = 2; axioms = 2; rules = rules_k ++ (rule 1 (nonterminal 0 ∷ terminal 2 ∷ nonterminal 1 ∷ []) ∷ []) }

pub conflict-K6 : conflict_stage grammar_k6 ≡ some 130
unfolding conflict_stage clash left_member in_play mirrored equal_test yields_test takes_test
conflict-K6 = refl

-- document 000's parenthesized arithmetic expressions, S -> E, E -> E + T | T, T -> T × F | F, F -> ( E ) | a, with the terminals in
-- the order of Table 3.1: a = 1, "(" = 2, ")" = 3, + = 4, × = 5; S = 0, E = 1, T = 2, F = 3
abbrev pub expressions : Grammar
expressions = record {
  terminals = 5;
  nonterminals = 4;
  axioms = 1;
  rules =
      rule 0 (nonterminal 1 ∷ [])
      ∷ rule 1 (nonterminal 1 ∷ terminal 4 ∷ nonterminal 2 ∷ [])
      ∷ rule 1 (nonterminal 2 ∷ [])
      ∷ rule 2 (nonterminal 2 ∷ terminal 5 ∷ nonterminal 3 ∷ [])
      ∷ rule 2 (nonterminal 3 ∷ [])
      ∷ rule 3 (terminal 2 ∷ nonterminal 1 ∷ terminal 3 ∷ [])
      ∷ rule 3 (terminal 1 ∷ [])
      ∷ [];
}

-- the sets as document 000 prints them
pub sets-expressions : sets expressions 4 ≡ 54 ∷ 54 ∷ 38 ∷ 6 ∷ 58 ∷ 58 ∷ 42 ∷ 10 ∷ []
unfolding left_set left_member in_play mirrored
sets-expressions = refl

-- Table 3.1, # first: as printed but for two entries
pub table-3-1 : relations expressions 6
    ≡ (2 ∷ 1 ∷ 1 ∷ 0 ∷ 1 ∷ 1 ∷ [])
    ∷ (3 ∷ 0 ∷ 0 ∷ 3 ∷ 3 ∷ 3 ∷ [])
    ∷ (0 ∷ 1 ∷ 1 ∷ 2 ∷ 1 ∷ 1 ∷ [])
    ∷ (3 ∷ 0 ∷ 0 ∷ 3 ∷ 3 ∷ 3 ∷ [])
    ∷ (3 ∷ 1 ∷ 1 ∷ 3 ∷ 3 ∷ 1 ∷ [])
    ∷ (3 ∷ 1 ∷ 1 ∷ 3 ∷ 3 ∷ 3 ∷ [])
    ∷ []
unfolding left_member in_play mirrored relation_of equal_test yields_test takes_test
table-3-1 = refl

pub paren-over-end : relation_of expressions 2 0 ≡ blank
unfolding left_member in_play mirrored relation_of equal_test yields_test takes_test
paren-over-end = refl

pub end-over-paren : relation_of expressions 0 3 ≡ blank
unfolding left_member in_play mirrored relation_of equal_test yields_test takes_test
end-over-paren = refl
