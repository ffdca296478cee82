-- Symbols and relations: the vocabulary that everything else speaks in.
-- Document 01, "Numbers" and "The grammar words": terminals are 1 to T; 0 is the end mark #; nonterminals are 0 to N-1; in
-- words a terminal is its number, nonterminal k is 256 + k. "Sets and matrix": yields (1), equal (2), takes (3), blank (0).
-- Rests on laws' Tests.
--
-- Main definitions: Symbol, word_of, symbol_of, same_string, Relation, relation_number.
-- What is proved of them: proofs' Symbols.
use Rattle.std.specs.Prelude.{Bool, true, false, ◌&&◌, List, [], ◌∷◌, ℕ, ◌+◌, ◌-◌, eqb, ltb}

pub data Symbol : Type 0 where
  terminal : ℕ → Symbol
  nonterminal : ℕ → Symbol

-- "a terminal as its number, nonterminal k as 256 + k"
abbrev pub word_of : Symbol → ℕ
word_of (terminal a) = a
word_of (nonterminal k) = 256 + k

-- the symbol of a word: 0 to 255 is that terminal (0 is #), 256 + k is nonterminal k
abbrev pub symbol_of : ℕ → Symbol
symbol_of w = elim (ltb w 256) [ true ↦ terminal w | false ↦ nonterminal (w - 256) ]

abbrev pub same_symbol : Symbol → Symbol → Bool
same_symbol (terminal a) (terminal b) = eqb a b
same_symbol (terminal a) (nonterminal k) = false
same_symbol (nonterminal j) (terminal b) = false
same_symbol (nonterminal j) (nonterminal k) = eqb j k

abbrev pub same_string : List Symbol → List Symbol → Bool
same_string [] [] = true
same_string [] (y ∷ w) = false
same_string (x ∷ v) [] = false
same_string (x ∷ v) (y ∷ w) = same_symbol x y && same_string v w

-- what the table says of a pair of neighbouring terminals
pub data Relation : Type 0 where
  blank : Relation
  yields : Relation
  equal : Relation
  takes : Relation

-- "equal (2)", "yields (1)", "takes (3)", "blank (0)"
abbrev pub relation_number : Relation → ℕ
relation_number blank = 0
relation_number yields = 1
relation_number equal = 2
relation_number takes = 3
