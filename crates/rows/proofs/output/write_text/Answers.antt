-- The line is within the bytes.
use Rattle.std.proofs.Common.{arith, length-take}
use Rattle.rows.specs.Schedule.{first-within}
use Rattle.rows.proofs.Writing.{line-alone, text-short}
use Rattle.rows.proofs.output.write_text.Goals as goal

pub slice_bounds-out-end : goal.slice_bounds-out-end
slice_bounds-out-end g c = omega (arith, c.put_text-end.auto.out, first-within _ _ _ c.put_text-end.ensures.value)

pub slice_bounds-write_all-end : goal.slice_bounds-write_all-end
slice_bounds-write_all-end g c =
    simp length-take (omega (arith, c.put_text-end.auto.out, first-within _ _ _ c.put_text-end.ensures.value))

pub returns : goal.returns
returns g c =
    let p = c.put_text-end in
    rw (line-alone _ _ p.result p.new.out (text-short c.args.line (omega arith)) p.ensures.value p.ensures.out_after) at c.write_all.ensures.bytes
