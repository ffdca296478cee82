-- 1 to 5 by `Checked::new`, then 21, then the set's mask and its count of ones.
use Rattle.std.proofs.Common.{ap, ◌∙◌, Err}
use Rattle.std.proofs.lemmas.Result.{err_from_is_err_and}
use Rattle.language.proofs.SetMasks.{left-ones}
use Rattle.language.specs.Words.{grammar_of}
use Rattle.table.specs.Loaded.{refused-set, no-such-set, given-set}
use Rattle.table.specs.Sided.{from_end, sided, side-rules}
use Rattle.table.specs.SetPasses.{members-set}
use Rattle.table.proofs.set_of.Goals as goal

pub returns-in_err-grammar : goal.returns-in_err-grammar
returns-in_err-grammar c =
    let words = c.args.words.now in
    let p = err_from_is_err_and c.from_residual.result c.from_residual.ensures.1 in
    p.1 ∙ ap Err p.2 ∙ refused-set words c.args.k (sided (from_end c.args.side) (grammar_of words)) _ c.in_err-grammar.ensures

pub returns-then-nonterminals-number : goal.returns-then-nonterminals-number
returns-then-nonterminals-number c =
    let words = c.args.words.now in
    let g = c.in_ok-grammar.ensures in
    no-such-set words c.args.k (sided (from_end c.args.side) (grammar_of words)) g.1 (rw (c.nonterminals.ensures.is, g.0) at c.if-nonterminals-number.true)

pub returns : goal.returns
returns c =
    let words = c.args.words.now in
    let k = c.args.k in
    let side = from_end c.args.side in
    let grammar = c.in_ok-grammar.grammar in
    let g = c.in_ok-grammar.ensures in
    let mask = rw g.0 at (members-set (side-rules grammar.words.now grammar.passed side) c.masks-masks.result c.masks-masks.ensures k) in
    rw (mask, left-ones (sided side (grammar_of words)) k)
    (given-set words k (sided side (grammar_of words)) g.1 (rw (c.nonterminals.ensures.is, g.0) at c.if-nonterminals-number.false))
