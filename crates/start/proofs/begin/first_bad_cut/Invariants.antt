-- The search has passed only right cuts, and keeps the last.
use Rattle.std.proofs.Common.{◌≡◌, ltb, get_or}
use Rattle.start.specs.Start.{cut_falls, bad_cut_at}
use Rattle.start.specs.StartChecks.{Clear}
use Rattle.start.proofs.begin.first_bad_cut.Given as goal

abbrev pub invariant-loop-i : goal.invariant-loop-i
invariant-loop-i l = record {
  clear : Clear (bad_cut_at l.n l.cuts) l.i;
  last : cut_falls l.cuts l.i ≡ ltb (get_or l.cuts l.i 0) l.before;
}
