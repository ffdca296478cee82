-- The walk over the right side: what the rows say, with what is still to come, is what they said before and what the right side shows.
use Rattle.language.specs.Words.{grammar_of}
use Rattle.table.specs.Walks.{Walking}
use Rattle.table.proofs.relations.Sets.right_shows.Given as goal

abbrev pub invariant-loop-i : goal.invariant-loop-i
invariant-loop-i l = Walking (grammar_of l.self.grammar.words.now) l.right l.i l.fn.rows l.rows
