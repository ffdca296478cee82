-- What a text says: three lines of decimal numbers, or the first bad line.
-- Document 01, "Sample rows": "The program `rows` reads three text lines of decimal numbers (leading zeros allowed) parted by single
-- spaces: grammar words, tokens, cuts. A line may be empty [..]. Text after the third line is not read. [..] A missing line, misplaced or
-- other character or number above 65,535 gives `text L`, L the first bad line of 1 to 3, before anything is loaded. A line without its line
-- feed is missing. Its own buffers hold 1,024 tokens, 2,564 grammar words and 64 cuts; longer lines give `text L` too."
-- A text is the list of all its bytes. Nothing here knows of pieces or of a state.
-- Rests on laws' Ascii and Decimals: the bytes that part a text, and what digits stand for.
--
-- Main definitions: lines_of, parts_of, number_of, line_of, good_line, Reading, read_text.
use Rattle.std.specs.Prelude.{Bool, true, false, ◌&&◌, List, [], ◌∷◌, ℕ, leb, eqb, length}
use Rattle.std.proofs.Math.Option.{Option, none, some}
use Rattle.std.proofs.Math.ListN.{get_elem?}
use Rattle.laws.specs.Ascii.{line_feed, space}
use Rattle.laws.specs.Decimals.{all_digits, value_from}
use Rattle.laws.specs.Picks.{pick}
use Rattle.text.specs.declared.reading.Line.{Line}
use Rattle.text.specs.declared.reading.Line.TheVariants.{Words, Tokens, Cuts}

-- where bytes are divided one more part starts in front; any other byte stands at the front of the first part, if there is one
abbrev pub divided : Bool → ℕ → List (List ℕ) → List (List ℕ)
divided true byte parts = [] ∷ parts
divided false byte [] = []
divided false byte (part ∷ parts) = (byte ∷ part) ∷ parts

-- the lines of a text, each ended by its line feed; what stands after the last line feed is in no line
abbrev pub lines_of : List ℕ → List (List ℕ)
lines_of [] = []
lines_of (byte ∷ text) = divided (eqb byte line_feed) byte (lines_of text)

-- the parts of a line between its spaces: k spaces part it in k + 1, each perhaps empty
abbrev pub parts_of : List ℕ → List (List ℕ)
parts_of [] = [] ∷ []
parts_of (byte ∷ line) = divided (eqb byte space) byte (parts_of line)

-- all digits, and the value at most 65,535
abbrev pub number_from : ℕ → List ℕ → Option ℕ
number_from value bytes = pick (all_digits bytes && leb (value_from value bytes) 65535) (some (value_from value bytes)) none

-- one number: at least one digit, leading zeros allowed
abbrev pub number_of : List ℕ → Option ℕ
number_of [] = none
number_of (byte ∷ bytes) = number_from 0 (byte ∷ bytes)

abbrev pub both : Option ℕ → Option (List ℕ) → Option (List ℕ)
both none others = none
both (some number) none = none
both (some number) (some numbers) = some (number ∷ numbers)

-- every part is a number
abbrev pub numbers_of : List (List ℕ) → Option (List ℕ)
numbers_of [] = some []
numbers_of (part ∷ parts) = both (number_of part) (numbers_of parts)

-- and there are not more than the limit
abbrev pub at_most : ℕ → Option (List ℕ) → Option (List ℕ)
at_most limit none = none
at_most limit (some numbers) = pick (leb (length numbers) limit) (some numbers) none

-- the numbers of a line: an empty line has none
abbrev pub line_of : ℕ → List ℕ → Option (List ℕ)
line_of limit [] = some []
line_of limit (byte ∷ line) = at_most limit (numbers_of (parts_of (byte ∷ line)))

-- a missing line is bad
abbrev pub present_line : ℕ → Option (List ℕ) → Option (List ℕ)
present_line limit none = none
present_line limit (some line) = line_of limit line

-- the numbers of the line that has k lines before it, unless it is bad
abbrev pub good_line : ℕ → ℕ → List (List ℕ) → Option (List ℕ)
good_line k limit text = present_line limit (get_elem? text k)

-- "Its own buffers hold 1,024 tokens, 2,564 grammar words and 64 cuts"
abbrev pub most_words : ℕ
most_words = 2564

abbrev pub most_tokens : ℕ
most_tokens = 1024

abbrev pub most_cuts : ℕ
most_cuts = 64

pub data Reading : Type 0 where
  lines : (words tokens cuts : List ℕ) → Reading
  bad_line : Line → Reading

-- the numbers of the first three lines, or the first of them that is bad
abbrev pub read_lines : List (List ℕ) → Reading
read_lines text =
    elim (good_line 0 most_words text) [
      | none ↦ bad_line Words
      | some words ↦ elim (good_line 1 most_tokens text) [
        | none ↦ bad_line Tokens
        | some tokens ↦ elim (good_line 2 most_cuts text) [ none ↦ bad_line Cuts | some cuts ↦ lines words tokens cuts ]
      ]
    ]

-- what a text says
unfoldable pub read_text : List ℕ → Reading
read_text text = read_lines (lines_of text)
