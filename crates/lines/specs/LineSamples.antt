-- Lines of an answer with their bytes, computed from the definitions: one table.
-- Document 01, "Sample rows"; the sentences stand in AnswerLines.
-- Rests on AnswerLines, and on laws' Ascii and Decimals.
--
-- Main statement: samples-written.
use Rattle.std.specs.Prelude.{◌≡◌, refl, List, [], ◌∷◌, ◌++◌, map, ℕ}
use Rattle.laws.specs.Ascii.{ascii}
use Rattle.laws.specs.Decimals.{decimal}
use Rattle.lines.specs.AnswerLines.{parse_line, entry_line, refused_line, text_line}

pub record AnswerSample : Type 0 where
  pub bytes : List ℕ
  pub is : List ℕ

abbrev line : List ℕ → List ℕ → AnswerSample
line b w = record { bytes = b; is = w }

abbrev answers : List AnswerSample
answers =
    line (parse_line 8 2 21 ++ entry_line 0 0 1 ++ entry_line 0 3 4 ++ entry_line 0 5 6 ++ entry_line 3 3 6 ++ entry_line 2 2 8 ++ entry_line 3 0 8)
    (ascii "parse 8 2 21\n0 0 1\n0 3 4\n0 5 6\n3 3 6\n2 2 8\n3 0 8\n")
    ∷ line (refused_line 18 2) (ascii "refused 18 2\n")
    ∷ line (refused_line 11 115021) (ascii "refused 11 115021\n")
    ∷ line (text_line 3) (ascii "text 3\n")
    ∷ line (entry_line 255 0 16384) (ascii "255 0 16384\n")
    ∷ line (parse_line 10 100 4294967295) (ascii "parse 10 100 4294967295\n")
    ∷ []

pub samples-written : map (λ (l : AnswerSample). l.bytes) answers ≡ map (λ (l : AnswerSample). l.is) answers
unfolding decimal parse_line entry_line refused_line text_line
samples-written = refl
