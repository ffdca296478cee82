-- The rules that have been passed have no twin before them; of the rule at hand none that has been compared is a twin.
use Rattle.language.specs.CheckTwins.{bad_twin}
use Rattle.language.specs.Words.{grammar_of}
use Rattle.words.specs.Search.{Clear}
use Rattle.words.specs.Twins.{twin_of}
use Rattle.words.proofs.checks.Grammar.twins.Given as goal

abbrev pub invariant-loop-earlier : goal.invariant-loop-earlier
invariant-loop-earlier l = Clear (twin_of l.self.words.now l.later) l.earlier

abbrev pub invariant-loop-later : goal.invariant-loop-later
invariant-loop-later l = Clear (bad_twin (grammar_of l.self.words.now)) l.later
