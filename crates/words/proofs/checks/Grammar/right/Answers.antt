-- The body lies in the run, and the right side is what follows its first word.
use Rattle.std.proofs.Common.{suc, arith, add-one}
use Rattle.laws.specs.Parts.{part_slice}
use Rattle.language.specs.Words.{entry, body_end}
use Rattle.words.specs.Bodies.{at_start, at_end}
use Rattle.words.specs.Laid.{within, short}
use Rattle.words.proofs.checks.Grammar.right.Goals as goal

pub offset_bounds-self-body : goal.offset_bounds-self-body
offset_bounds-self-body c =
    let words = c.args.self.now.words.now in
    let l = c.args.self.now.laid in
    omega (arith, at_start c.body-body.ensures, l.least c.args.r c.requires, within words l c.args.r c.requires, short words l)

pub slice_bounds-result-end : goal.slice_bounds-result-end
slice_bounds-result-end c =
    let l = c.args.self.now.laid in
    omega (arith, at_end c.body-body.ensures, within c.args.self.now.words.now l c.args.r c.requires)

pub returns : goal.returns
returns c =
    let words = c.args.self.now.words.now in
    let l = c.args.self.now.laid in
    rw (at_start c.body-body.ensures, at_end c.body-body.ensures, add-one (entry words c.args.r))
    (part_slice (suc (entry words c.args.r)) (body_end words c.args.r) words (omega (arith, l.least c.args.r c.requires)) (within words l c.args.r c.requires))
