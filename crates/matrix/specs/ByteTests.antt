-- The tests of the bytes of a matrix, place by place.
-- Document 01, 15 BAD STATE: "grammar, matrix or work area breaks the shape rules listed in docs/", of the matrix.
-- Rests on GrammarShape.
--
-- Main definitions: byte_at, zero_at.
use Rattle.std.specs.Prelude.{Bool, List, ℕ, ◌/◌, ◌%◌, eqb, get_or}
use Rattle.matrix.specs.GrammarShape.{byte_fits}

-- the byte of v / 64 over v % 64 fits
abbrev pub byte_at : ℕ → List ℕ → ℕ → Bool
byte_at t matrix v = byte_fits t (v / 64) (v % 64) (get_or matrix v 0)

-- the byte at v is 0
abbrev pub zero_at : List ℕ → ℕ → Bool
zero_at matrix v = eqb (get_or matrix v 0) 0
