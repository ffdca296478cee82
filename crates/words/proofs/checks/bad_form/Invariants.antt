-- What is still to be found in the rest of the right side is what was to be found in all of it.
use Rattle.std.proofs.Common.{◌≡◌, map, drop}
use Rattle.language.specs.Symbols.{symbol_of}
use Rattle.words.specs.Forms.{bad_right, bad_from}
use Rattle.words.proofs.checks.bad_form.Given as goal

abbrev pub invariant-loop-w : goal.invariant-loop-w
invariant-loop-w l = bad_right (map symbol_of l.right) ≡ bad_from l.bare l.after (map symbol_of (drop l.w-index l.right))
