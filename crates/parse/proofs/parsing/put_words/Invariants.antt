-- The first i words are those of `from`, the others as they were.
use Rattle.std.proofs.Common.{◌≡◌, ◌++◌, length, take, drop}
use Rattle.parse.proofs.parsing.put_words.Given as goal

abbrev pub invariant-loop-i : goal.invariant-loop-i
invariant-loop-i l = record {
  long : length l.to ≡ length l.initial.to;
  put : l.to ≡ take l.i l.from ++ drop l.i l.initial.to;
}
