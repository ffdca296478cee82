-- Every mask stays sound, and either no rule so far changes anything or there are more ones than before.
use Rattle.language.specs.Words.{grammar_of}
use Rattle.table.specs.Sided.{from_end, sided}
use Rattle.table.specs.SetPasses.{gained, Sound, Grown}
use Rattle.table.proofs.sets.View.pass.Given as goal

abbrev pub invariant-loop-r : goal.invariant-loop-r
invariant-loop-r l = record {
  sound : Sound (sided (from_end l.self.side) (grammar_of l.self.grammar.words.now)) l.masks;
  grown : Grown (gained l.self.grammar.words.now (from_end l.self.side)) l.fn.masks l.masks l.r l.changed;
}
