-- The bytes of the program's answers: the report of a row with its first line, a refusal, a bad line.
-- Document 01, "Sample rows": "it writes this, first line tokens, chunks, moves, then the report"; "A refusal is one line".
-- Rests on lines' AnswerLines, on text's Readings, and on Schedule.
--
-- Main definitions: entry_lines, row_lines, row_text, said_text, input_text.
use Rattle.std.specs.Prelude.{List, [], ◌++◌, ℕ, zero, suc, ◌+◌, ◌*◌, length, get_or, take, replicate, Result, Ok, Err}
use Rattle.refusals.specs.Refusals.{number_of, value_of}
use Rattle.refusals.specs.Answers.{ReportAnswer}
use Rattle.text.specs.declared.reading.Counts.{Counts}
use Rattle.text.specs.declared.reading.Line.{Line}
use Rattle.text.specs.Feeding.{line_number}
use Rattle.text.specs.Readings.{Reading, lines, bad_line, read_text}
use Rattle.lines.specs.AnswerLines.{parse_line, entry_line, refused_line, text_line}
use Rattle.rows.specs.Schedule.{row_answer, row_entries}

-- the first entries of a report's run, a line each
unfoldable pub entry_lines : List ℕ → ℕ → List ℕ
entry_lines run zero = []
entry_lines run (suc i) = entry_lines run i ++ entry_line (get_or run (3 * i) 0) (get_or run (3 * i + 1) 0) (get_or run (3 * i + 2) 0)

-- a row of so many tokens in so many chunks: what it gives, with the run of its report
abbrev pub row_lines : ℕ → ℕ → ReportAnswer → List ℕ → List ℕ
row_lines tokens chunks (Ok report) run = parse_line tokens chunks report.moves ++ entry_lines run report.entries
row_lines tokens chunks (Err refusal) run = refused_line (number_of refusal) (value_of refusal)

-- bytes enough for them: 18 for an entry, which has three numbers of at most five digits, and 48 for the first line, or for the refusal
abbrev pub row_room : ReportAnswer → ℕ
row_room (Ok report) = 18 * report.entries + 48
row_room (Err refusal) = 48

-- what is written for these words, tokens and cuts, from buffers of zeros
unfoldable pub row_text : List ℕ → List ℕ → List ℕ → List ℕ
row_text words tokens cuts =
    row_lines (length tokens) (length cuts + 1)
    (row_answer words tokens cuts (replicate 4096 0) (replicate 7501 0) 3072)
    (row_entries words tokens cuts (replicate 4096 0) (replicate 7501 0) (replicate 3072 0))

-- what is written for what a text says, with the numbers of its lines at the buffers' fronts
abbrev pub said_text : Result Counts Line → List ℕ → List ℕ → List ℕ → List ℕ
said_text (Ok counts) words tokens cuts = row_text (take counts.words words) (take counts.tokens tokens) (take counts.cuts cuts)
said_text (Err l) words tokens cuts = text_line (line_number l)

-- what is written for a reading of a text
abbrev pub reading_text : Reading → List ℕ
reading_text (bad_line l) = text_line (line_number l)
reading_text (lines words tokens cuts) = row_text words tokens cuts

-- what the program writes for an input
abbrev pub input_text : List ℕ → List ℕ
input_text text = reading_text (read_text text)
