-- The masks stay sound, and what is left of 64 times 64 ones falls at each pass that changes something.
use Rattle.std.proofs.Common.{◌-◌}
use Rattle.language.specs.Words.{grammar_of}
use Rattle.table.specs.MaskRows.{total}
use Rattle.table.specs.Sided.{from_end, sided}
use Rattle.table.specs.SetPasses.{Sound}
use Rattle.table.proofs.sets.View.masks.Given as goal

abbrev pub invariant-loop : goal.invariant-loop
invariant-loop l = Sound (sided (from_end l.self.side) (grammar_of l.self.grammar.words.now)) l.masks

abbrev pub decreases-loop : goal.decreases-loop
decreases-loop l = 4096 - total l.masks
