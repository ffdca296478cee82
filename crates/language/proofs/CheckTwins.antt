-- What is proved of specs' CheckTwins. Check 5, TWIN: "an earlier rule has the same right side"; value: "least rule for which this holds".
--
-- Main statement: twins-find.
use Rattle.std.specs.Prelude.{◌≡◌, Bool, true, ℕ, ◌<◌, length}
use Rattle.laws.specs.Least.{Finds, first_below, first_finds}
use Rattle.laws.specs.Tests.{any_below-iff}
use Rattle.language.specs.Symbols.{same_string}
use Rattle.language.proofs.Symbols.{same_string-eq, same_string-refl}
use Rattle.language.specs.Grammar.{Grammar, rule_at}
use Rattle.language.specs.CheckTwins.{BadTwin, bad_twin, twin}

pub twins-find : (g : Grammar) → Finds (BadTwin g) (first_below (bad_twin g) (length g.rules))
twins-find g = first_finds (bad_twin g) (length g.rules) (BadTwin g) to of
  where
    same : ℕ → ℕ → Bool
    same r earlier = same_string (rule_at g earlier).right (rule_at g r).right

    to : (r : ℕ) → r < length g.rules → bad_twin g r ≡ true → BadTwin g r
    to r h e = let k = (any_below-iff (same r) r).0 e in twin h k.1 (same_string-eq (rule_at g k.0).right (rule_at g r).right k.2)

    of : (r : ℕ) → BadTwin g r → (r < length g.rules) × (bad_twin g r ≡ true)
    of r (twin {earlier = q} h l e) = (h, (any_below-iff (same r) r).1 (q, l, rw e (same_string-refl (rule_at g r).right)))
