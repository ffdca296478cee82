-- The rows of # are what the definition says of it and the axioms.
use Rattle.language.specs.Words.{grammar_of}
use Rattle.table.specs.RelationRows.{ends-seen}
use Rattle.table.proofs.relations.Sets.ends_show.Goals as goal

pub returns : goal.returns
returns c =
    let s = c.args.self.now in
    let axioms = c.axioms-axioms.ensures.is in
    ends-seen (grammar_of s.grammar.words.now) s.left s.right s.are_sets c.union_of.result c.union_of-2.result (rw axioms at c.union_of.ensures) (rw axioms at c.union_of-2.ensures)
