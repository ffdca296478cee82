-- The first line is within the bytes.
use Rattle.std.proofs.Common.{◌++◌, ◌≤◌, length, length-append, arith}
use Rattle.lines.specs.AnswerLines.{parse_line}
use Rattle.rows.specs.Answers.{entry_lines}
use Rattle.rows.specs.Schedule.{first-within}
use Rattle.rows.proofs.Writing.{parse-short, entries-short, report-put}
use Rattle.rows.proofs.output.write_report.Goals as goal

pub put_entries-end-requires : goal.put_entries-end-requires
put_entries-end-requires g c = (omega (arith, c.put_parse-first.auto.out, first-within _ _ _ c.put_parse-first.ensures.value), omega arith)

pub returns : goal.returns
returns g c =
    λ room.
    let a = c.args in
    let p = c.put_parse-first in
    let e = c.put_entries-end in
    let line = parse_line a.tokens a.chunks a.report.moves in
    let first = parse-short a.tokens a.chunks a.report.moves (omega arith) (omega arith) (omega arith) in
    let rest = entries-short a.entries.now (λ k. omega (arith, c.type_inv.entries k)) a.report.entries in
    let fits : length (line ++ entry_lines a.entries.now a.report.entries) ≤ length a.out.now =
    omega (arith, first, rest, room, length-append line (entry_lines a.entries.now a.report.entries))
    in
    rw
    (report-put a.out.now a.entries.now a.report.entries line p.result e.result p.new.out e.new.out fits p.ensures.value
    p.ensures.out_after
    p.auto.out
    e.ensures.put)
    at c.write_all.ensures.bytes
