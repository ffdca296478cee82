-- What is proved of specs' Words. The grammar words: the head, the contents, the bodies, and the Grammar that they stand for.
use Rattle.std.specs.Prelude.{◌≡◌, true, ◌↔◌, ◌⊎◌, ℕ, ltb}
use Rattle.std.proofs.Common.{inl, inr}
use Rattle.laws.specs.Tests.{or_cases, or-first, or-second, ltb-true, lt-ltb}
use Rattle.language.specs.Words.{Outside, outside, too_high, too_low}

pub outside-iff : (low high v : ℕ) → (outside low high v ≡ true) ↔ Outside low high v
outside-iff low high v = (λ e. to (or_cases (ltb v low) (ltb high v) e), of)
  where
    to : (ltb v low ≡ true) ⊎ (ltb high v ≡ true) → Outside low high v
    to (inl e) = too_low (ltb-true v low e)
    to (inr e) = too_high (ltb-true high v e)

    of : Outside low high v → outside low high v ≡ true
    of (too_low h) = or-first (ltb v low) (ltb high v) (lt-ltb v low h)
    of (too_high h) = or-second (ltb v low) (ltb high v) (lt-ltb high v h)
