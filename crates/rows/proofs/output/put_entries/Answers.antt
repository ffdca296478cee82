-- An entry more is put, and the place after its line is within the bytes.
use Rattle.std.proofs.Common.{◌<◌, List, ℕ, refl, ap, ◌∙◌, arith, length-take}
use Rattle.lines.specs.AnswerLines.{written, end_after}
use Rattle.rows.specs.Schedule.{line-within}
use Rattle.rows.proofs.Writing.{entry-is, none-put, one-put}
use Rattle.rows.proofs.output.put_entries.Goals as goal

pub loop-rule-init : goal.loop-rule-init
loop-rule-init c =
    let a = c.args in
    record { within = omega arith; same_length = refl; put = none-put a.out.now a.at a.entries.now a.count }

pub loop-rule-preserved : goal.loop-rule-preserved
loop-rule-preserved c =
    let a = c.args in
    let put = c.put_entry-end in
    let l = c.loop-rule in
    let inside : l.rule-index < a.count = omega (arith, simp length-take at c.loop-rule-test.true) in
    let line = entry-is a.entries.now c.as_chunks.result.0.now a.count l.rule-index _ _ _ c.as_chunks.ensures.front (omega arith) inside c.from.ensures c.from-in-loop-rule.ensures
    c.from-in-loop-rule-2.ensures
    in
    record {
      within = omega (arith, line-within _ _ _ _ put.ensures.value l.invariant.within);
      same_length = omega arith;
      put =
          one-put a.out.now a.at a.entries.now a.count l.rule-index l.end put.result l.out put.new.out inside l.invariant.same_length l.invariant.put
          (put.ensures.value ∙ ap (λ (bytes : List ℕ). end_after l.out l.end bytes) line)
          (put.ensures.out_after ∙ ap (λ (bytes : List ℕ). written l.out l.end bytes) line);
    }
