-- A report's entries are in the run that was lent for them, and its lines are written where they have room.
use Rattle.std.specs.Prelude.{◌≡◌, List, ℕ, ◌+◌, ◌≤◌, length, replicate, Ok, Err}
use Rattle.std.proofs.Common.{arith}
use Rattle.refusals.specs.Answers.{ReportAnswer}
use Rattle.rows.specs.Answers.{row_lines, row_room, row_text}
use Rattle.rows.specs.Schedule.{Fits, row_answer, row_entries, fits-from}
use Rattle.rows.proofs.answer_row.Goals as goal

pub write_row-requires : goal.write_row-requires
write_row-requires g c =
    let a = c.args in
    let read = c.read_row-answer in
    fits-from a.words.now a.tokens.now a.cuts.now _ _ _ (length read.new.entries) read.result read.ensures.value read.auto.entries

row-has-room : (answer : ReportAnswer) (room : ℕ) → Fits answer room → room ≤ 3072 → row_room answer ≤ 18480
row-has-room (Ok report) room f h = omega arith
row-has-room (Err refusal) room f h = omega arith

row-is : (words tokens cuts : List ℕ) (answer : ReportAnswer) (run : List ℕ) → answer ≡ row_answer words tokens cuts (replicate 4096 0) (replicate 7501 0) 3072
    → run ≡ row_entries words tokens cuts (replicate 4096 0) (replicate 7501 0) (replicate 3072 0)
    → row_lines (length tokens) (length cuts + 1) answer run ≡ row_text words tokens cuts
unfolding row_text
row-is words tokens cuts answer run a r = rw (a, r)

pub returns : goal.returns
returns g c =
    let a = c.args in
    let read = c.read_row-answer in
    let is = row-is a.words.now a.tokens.now a.cuts.now read.result read.new.entries read.ensures.value read.ensures.entries_after in
    let fits = fits-from a.words.now a.tokens.now a.cuts.now _ _ _ (length read.new.entries) read.result read.ensures.value read.auto.entries in
    (rw is at c.write_row.ensures) (row-has-room read.result (length read.new.entries) fits (omega (arith, read.auto.entries)))
