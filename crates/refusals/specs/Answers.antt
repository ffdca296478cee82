-- What the calls answer: nothing, a set of terminals, a count of moves or a report; or else a refusal.
-- Document 01: "Load, start, move and join answer 0, 0 on success"; "Each report also gives the moves since start"; "Refusal numbers".
-- Rests on nothing.
--
-- Main definitions: Answer, SetAnswer, RunAnswer, ReportAnswer.
use Rattle.std.specs.Prelude.{ℕ, Result}
use Rattle.refusals.specs.declared.Refusal.{Refusal}
use Rattle.refusals.specs.declared.Report.{Report}
use Rattle.refusals.specs.declared.Terminals.{Terminals}

-- of load, start, one move and a join
abbrev pub Answer : Type 0
Answer = Result (Unit {0}) Refusal

-- of asking a set
abbrev pub SetAnswer : Type 0
SetAnswer = Result Terminals Refusal

-- of a run: how many moves it made
abbrev pub RunAnswer : Type 0
RunAnswer = Result ℕ Refusal

-- of a report, and of the one-call parse
abbrev pub ReportAnswer : Type 0
ReportAnswer = Result Report Refusal
