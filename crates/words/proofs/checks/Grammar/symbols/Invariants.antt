-- The places before the body at hand are good, and before place p of it; past the last body that is all places.
use Rattle.std.proofs.Common.{◌≤◌, ◌<◌, length}
use Rattle.language.specs.CheckSymbols.{bad_symbol}
use Rattle.language.specs.Words.{count_r, entry}
use Rattle.words.specs.Search.{Clear}
use Rattle.words.proofs.checks.Grammar.symbols.Given as goal

abbrev pub invariant-loop-r : goal.invariant-loop-r
invariant-loop-r l = record {
  before : l.r < count_r l.self.words.now → Clear (bad_symbol l.self.words.now) (entry l.self.words.now l.r);
  all : count_r l.self.words.now ≤ l.r → Clear (bad_symbol l.self.words.now) (length l.self.words.now);
}

abbrev pub invariant-loop-p : goal.invariant-loop-p
invariant-loop-p l = Clear (bad_symbol l.self.words.now) l.p
