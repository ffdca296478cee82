-- What a whole text fed in pieces of any size leaves: the answer, and the buffers. That they are those of `read_text` is proved in
-- `proofs/TextFed.antt`.
-- Document 01, "Sample rows"; the sentences stand in Readings. "Text after the third line is not read": after the third line feed
-- nothing more is asked for.
-- Rests on Readings, Feeding.
--
-- Main definitions: answer_for, onto, after, after_pieces, TextFed, TextHeld, number_in, NumberFed, NumbersFed.
use Rattle.std.specs.Prelude.{◌≡◌, List, [], ◌∷◌, ◌++◌, ℕ, ◌<◌, length, drop, Option, Some, None, Result, Ok, Err}
use Rattle.std.proofs.Math.Option.{none, some}
use Rattle.std.proofs.lemmas.List.Edits.{sets}
use Rattle.text.specs.declared.reading.Counts.{Counts}
use Rattle.text.specs.declared.reading.Held.{Held}
use Rattle.text.specs.declared.reading.Line.{Line}
use Rattle.text.specs.declared.reading.Line.TheVariants.{Cuts}
use Rattle.text.specs.declared.reading.Phase.TheVariants.{Done}
use Rattle.text.specs.declared.reading.State.{State}
use Rattle.text.specs.Readings.{lines_of, good_line, most_words, most_tokens, most_cuts, Reading, lines, bad_line, read_text}
use Rattle.text.specs.Feeding.{held, start, fed_all, line_number, answer_of, finish_of}

-- how many numbers there are
abbrev pub counts_of : List ℕ → List ℕ → List ℕ → Counts
counts_of words tokens cuts = record { words = length words; tokens = length tokens; cuts = length cuts }

-- the answer for a reading: how many numbers there are, or the line
abbrev pub answer_for : Reading → Result Counts Line
answer_for (lines words tokens cuts) = Ok (counts_of words tokens cuts)
answer_for (bad_line l) = Err l

-- the number of the line that an answer names, if it names one
abbrev pub number_in : Option (Result Counts Line) → Option ℕ
number_in None = None
number_in (Some (Ok counts)) = None
number_in (Some (Err l)) = Some (line_number l)

-- a buffer with numbers at its front, the rest as it was
abbrev pub onto : List ℕ → List ℕ → List ℕ
onto numbers buffer = numbers ++ drop (length numbers) buffer

-- all three lines have been read
abbrev pub done : List ℕ → List ℕ → List ℕ → State
done words tokens cuts = record { line = Cuts; phase = Done; counts = counts_of words tokens cuts }

-- fed in pieces, one after the other
abbrev pub after_pieces : List (List ℕ) → Held → Held
after_pieces [] h = h
after_pieces (piece ∷ pieces) h = after_pieces pieces (fed_all h piece)

module _ (W T C : List ℕ) where
  -- the text so far, from the start and these buffers
  abbrev pub after : List ℕ → Held
  after text = fed_all (held start W T C) text

  -- what is said of a text
  pub record TextFed (text : List ℕ) : Type 0 where
    pub finished : finish_of (after text).state ≡ answer_for (read_text text)
    pub asked : 2 < length (lines_of text) → answer_of (after text).state ≡ Some (answer_for (read_text text))
    pub stored : (words tokens cuts : List ℕ) → read_text text ≡ lines words tokens cuts
        → after text ≡ held (done words tokens cuts) (sets W 0 words) (sets T 0 tokens) (sets C 0 cuts)

  -- what the buffers hold after a text
  pub record TextHeld (text W' T' C' : List ℕ) : Type 0 where
    pub words_held : W' ≡ (after text).words
    pub tokens_held : T' ≡ (after text).tokens
    pub cuts_held : C' ≡ (after text).cuts

  -- n is the number that is said of a text's line that is missing or bad: of the whole text, at its end, and as soon as three lines have come
  pub record NumberFed (text : List ℕ) (n : ℕ) : Type 0 where
    pub read : number_in (Some (answer_for (read_text text))) ≡ Some n
    pub at_end : number_in (Some (finish_of (after text).state)) ≡ Some n
    pub at_once : 2 < length (lines_of text) → number_in (answer_of (after text).state) ≡ Some n

  -- that number is 1, 2 or 3, and the lines before it are good
  pub record NumbersFed (text : List ℕ) : Type 0 where
    pub first_line : good_line 0 most_words (lines_of text) ≡ none → NumberFed text 1
    pub second_line : (words : List ℕ) → good_line 0 most_words (lines_of text) ≡ some words → good_line 1 most_tokens (lines_of text) ≡ none
        → NumberFed text 2
    pub third_line : (words tokens : List ℕ) → good_line 0 most_words (lines_of text) ≡ some words → good_line 1 most_tokens (lines_of text) ≡ some tokens
        → good_line 2 most_cuts (lines_of text) ≡ none → NumberFed text 3
