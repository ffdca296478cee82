-- The rows hold what # and the rules so far show.
use Rattle.language.specs.Words.{grammar_of}
use Rattle.table.specs.RelationRows.{Seen}
use Rattle.table.proofs.relations.Sets.relations.Given as goal

abbrev pub invariant-loop-r : goal.invariant-loop-r
invariant-loop-r l = Seen (grammar_of l.self.grammar.words.now) l.r l.rows
