-- The line is within the bytes.
use Rattle.std.proofs.Common.{◌≡◌, arith, length-take}
use Rattle.refusals.specs.Refusals.{number_of, value_of}
use Rattle.lines.specs.AnswerLines.{refused_line}
use Rattle.rows.specs.Schedule.{first-within}
use Rattle.rows.proofs.Writing.{line-alone, refused-short}
use Rattle.rows.proofs.output.write_refused.Goals as goal

pub slice_bounds-write_all-end : goal.slice_bounds-write_all-end
slice_bounds-write_all-end g c = omega (arith, c.put_refused-end.auto.out, first-within _ _ _ c.put_refused-end.ensures.value)

pub slice_bounds-write_all-end-2 : goal.slice_bounds-write_all-end-2
slice_bounds-write_all-end-2 g c =
    simp length-take (omega (arith, c.put_refused-end.auto.out, first-within _ _ _ c.put_refused-end.ensures.value))

pub returns : goal.returns
returns g c =
    λ room.
    let a = c.args in
    let p = c.put_refused-end in
    let line = refused_line c.number.result c.value.result in
    let same : line ≡ refused_line (number_of a.refusal) (value_of a.refusal) = rw (c.number.ensures, c.value.ensures) in
    let short = refused-short c.number.result c.value.result (omega arith) (omega arith) in
    rw (line-alone a.out.now line p.result p.new.out (omega (arith, short, room)) p.ensures.value p.ensures.out_after, same) at c.write_all.ensures.bytes
