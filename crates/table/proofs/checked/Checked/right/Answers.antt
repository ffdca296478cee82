-- The body is in the run, and the right side is what follows its first word.
use Rattle.std.proofs.Common.{suc, arith, add-one}
use Rattle.laws.specs.Parts.{part_slice}
use Rattle.language.specs.Words.{entry, body_end}
use Rattle.words.specs.Bodies.{at_start, at_end}
use Rattle.table.specs.Sided.{passed-body}
use Rattle.table.proofs.checked.Checked.right.Goals as goal

pub overflow_add-result : goal.overflow_add-result
overflow_add-result c =
    omega (arith, at_start c.body_of-body.ensures, passed-body c.args.self.now.words.now c.args.self.now.passed c.args.r c.requires)

pub offset_bounds-self-body : goal.offset_bounds-self-body
offset_bounds-self-body c =
    omega (arith, at_start c.body_of-body.ensures, passed-body c.args.self.now.words.now c.args.self.now.passed c.args.r c.requires)

pub slice_bounds-result-count : goal.slice_bounds-result-count
slice_bounds-result-count c =
    omega (arith, at_start c.body_of-body.ensures, at_end c.body_of-body.ensures, passed-body c.args.self.now.words.now c.args.self.now.passed c.args.r c.requires)

pub slice_bounds-result-start : goal.slice_bounds-result-start
slice_bounds-result-start c =
    omega (arith, at_start c.body_of-body.ensures, at_end c.body_of-body.ensures, passed-body c.args.self.now.words.now c.args.self.now.passed c.args.r c.requires)

pub slice_bounds-result-end : goal.slice_bounds-result-end
slice_bounds-result-end c =
    omega (arith, at_end c.body_of-body.ensures, passed-body c.args.self.now.words.now c.args.self.now.passed c.args.r c.requires)

pub returns : goal.returns
returns c =
    let words = c.args.self.now.words.now in
    let l = passed-body words c.args.self.now.passed c.args.r c.requires in
    rw (at_start c.body_of-body.ensures, at_end c.body_of-body.ensures, add-one (entry words c.args.r))
    (part_slice (suc (entry words c.args.r)) (body_end words c.args.r) words (omega (arith, l)) l.1)
