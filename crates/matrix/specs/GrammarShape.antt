-- The shape rules of docs/AREA.md that speak of what a grammar is read from: (a) of its words and (b) of its matrix, each a test of the lent
-- words and bytes. They speak of ranges, lengths and counts alone.
-- Document 01, 15 BAD STATE: "grammar, matrix or work area breaks the shape rules listed in docs/", of the grammar and the matrix.
-- Rests on language's Checks.
--
-- Main definitions: rule_a, byte_fits, rule_b, grammar_in_shape.
use Rattle.std.specs.Prelude.{Bool, true, false, List, ℕ, ◌/◌, ◌%◌, leb, ltb, eqb, length, get_or, Ok, Err}
use Rattle.laws.specs.Tests.{all, up_to}
use Rattle.laws.specs.Picks.{pick}
use Rattle.refusals.specs.Answers.{Answer}
use Rattle.language.specs.Words.{count_t}
use Rattle.language.specs.Checks.{check_symbols}

abbrev pub is_done : Answer → Bool
is_done (Ok _) = true
is_done (Err refusal) = false

-- (a) the grammar words pass 1 to 3
abbrev pub rule_a : List ℕ → Bool
rule_a words = is_done (check_symbols words)

-- a byte of the matrix, a over b, of a grammar with t terminals: 0 past t; # over # is 2; # over b is 0 or 1; a over # is 0 or 3;
-- any other 0 to 3
abbrev pub byte_fits : ℕ → ℕ → ℕ → ℕ → Bool
byte_fits t a b x =
    pick (ltb t a) (eqb x 0)
    (pick (ltb t b) (eqb x 0)
    (pick (eqb a 0) (pick (eqb b 0) (eqb x 2) (leb x 1))
    (pick (eqb b 0) (pick (eqb x 0) true (eqb x 3)) (leb x 3))))

-- (b) the matrix has at least 4,096 bytes, of which only the first 4,096 are read
abbrev pub rule_b : ℕ → List ℕ → Bool
rule_b t matrix = pick (leb 4096 (length matrix)) (all (λ v. byte_fits t (v / 64) (v % 64) (get_or matrix v 0)) (up_to 4096)) false

-- the rules of the grammar and the matrix
unfoldable pub grammar_in_shape : List ℕ → List ℕ → Bool
grammar_in_shape words matrix = pick (rule_a words) (rule_b (count_t words) matrix) false
