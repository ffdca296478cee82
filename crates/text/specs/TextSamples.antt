-- Texts with what each says, computed from the definitions: one table.
-- Document 01, "Sample rows"; the sentences stand in Readings.
-- Rests on Readings, and on laws' Ascii.
--
-- Main statement: samples-read.
use Rattle.std.specs.Prelude.{◌≡◌, refl, List, [], ◌∷◌, ◌++◌, map, ℕ, zero, suc}
use Rattle.laws.specs.Ascii.{ascii}
use Rattle.text.specs.declared.reading.Line.TheVariants.{Words, Tokens, Cuts}
use Rattle.text.specs.Readings.{Reading, lines, bad_line, read_text}

pub record Sample : Type 0 where
  pub text : List ℕ
  pub says : Reading

abbrev sample : List ℕ → Reading → Sample
sample t r = record { text = t; says = r }

-- a line of so many zeros, and one more
abbrev zeros : ℕ → List ℕ
zeros zero = ascii "0\n"
zeros (suc n) = ascii "0 " ++ zeros n

abbrev noughts : ℕ → List ℕ
noughts zero = []
noughts (suc n) = 0 ∷ noughts n

abbrev texts : List Sample
texts =
    sample (ascii "5 2 2\n1 2 3 1\n4\n") (lines (5 ∷ 2 ∷ 2 ∷ []) (1 ∷ 2 ∷ 3 ∷ 1 ∷ []) (4 ∷ []))
    ∷ sample (ascii "\n\n\n") (lines [] [] [])
    ∷ sample (ascii "1\n\n007\nwhat follows is not read\n") (lines (1 ∷ []) [] (7 ∷ []))
    ∷ sample (ascii "65535\n000000000000065535\n\n") (lines (65535 ∷ []) (65535 ∷ []) [])
    ∷ sample (ascii "65536\n\n\n") (bad_line Words)
    ∷ sample (ascii "1\n99999999999999999999\n\n") (bad_line Tokens)
    ∷ sample (ascii "1 \n\n\n") (bad_line Words)
    ∷ sample (ascii "1\n 1\n\n") (bad_line Tokens)
    ∷ sample (ascii "1\n1\n1  2\n") (bad_line Cuts)
    ∷ sample (ascii "1\n1x\n\n") (bad_line Tokens)
    ∷ sample (ascii "1\r\n1\r\n\r\n") (bad_line Words)
    ∷ sample (ascii "1\nx\ny\n") (bad_line Tokens)
    ∷ sample (ascii "x\ny\nz\n") (bad_line Words)
    ∷ sample [] (bad_line Words)
    ∷ sample (ascii "1") (bad_line Words)
    ∷ sample (ascii "1\n") (bad_line Tokens)
    ∷ sample (ascii "1\n1\n") (bad_line Cuts)
    ∷ sample (ascii "1\n1\n1") (bad_line Cuts)
    ∷ sample (zeros 2563 ++ ascii "\n\n") (lines (noughts 2564) [] [])
    ∷ sample (zeros 2564 ++ ascii "\n\n") (bad_line Words)
    ∷ sample (ascii "\n" ++ zeros 1023 ++ ascii "\n") (lines [] (noughts 1024) [])
    ∷ sample (ascii "\n" ++ zeros 1024 ++ ascii "\n") (bad_line Tokens)
    ∷ sample (ascii "\n\n" ++ zeros 63) (lines [] [] (noughts 64))
    ∷ sample (ascii "\n\n" ++ zeros 64) (bad_line Cuts)
    ∷ []

pub samples-read : map (λ (s : Sample). read_text s.text) texts ≡ map (λ (s : Sample). s.says) texts
unfolding read_text
samples-read = refl
