-- Of two bodies of one size j words, the left sides aside, have been compared and are the same.
use Rattle.std.proofs.Common.{◌≡◌, ℕ, ◌+◌, ◌≤◌, ◌<◌, get_or}
use Rattle.words.proofs.checks.Grammar.same_right.Given as goal

abbrev pub invariant-loop-j : goal.invariant-loop-j
invariant-loop-j l = (k : ℕ) → 1 ≤ k → k < l.j → get_or l.self.words.now (l.one.start + k) 0 ≡ get_or l.self.words.now (l.other.start + k) 0
