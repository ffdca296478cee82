-- The rows so far are the matrix's, and have no conflict.
use Rattle.language.specs.Words.{grammar_of}
use Rattle.table.specs.RelationRows.{Rows}
use Rattle.table.proofs.relations.write_matrix.Given as goal

abbrev pub invariant-loop-a : goal.invariant-loop-a
invariant-loop-a l = Rows (grammar_of l.fn.grammar.words.now) l.a l.matrix
