-- What is proved of specs' CheckHead. Check 1, HEAD: "one of the first 4 words is absent or outside 1..63, 1..64, 1..N, 1..256"; value: "first such word".
--
-- Main statement: head-finds.
use Rattle.std.specs.Prelude.{◌≡◌, true, ◌⊎◌, List, ℕ, ◌<◌, leb, length}
use Rattle.std.proofs.Common.{inl, inr}
use Rattle.laws.specs.Least.{Finds, first_finds}
use Rattle.laws.specs.Tests.{or_cases, or-first, or-second, leb-true, le-leb}
use Rattle.language.specs.Words.{word, outside}
use Rattle.language.proofs.Words.{outside-iff}
use Rattle.language.specs.CheckHead.{BadHead, bad_head, head_absent, head_outside, head_limit, head_stage}

pub head-finds : (words : List ℕ) → Finds (BadHead words) (head_stage.fails_at words)
head-finds words = first_finds (bad_head words) 4 (BadHead words) to of
  where
    to : (i : ℕ) → i < 4 → bad_head words i ≡ true → BadHead words i
    to i h e = go (or_cases (leb (length words) i) (outside 1 (head_limit words i) (word words i)) e)
      where
        go : (leb (length words) i ≡ true) ⊎ (outside 1 (head_limit words i) (word words i) ≡ true) → BadHead words i
        go (inl q) = head_absent h (leb-true (length words) i q)
        go (inr q) = head_outside h ((outside-iff 1 (head_limit words i) (word words i)).0 q)

    of : (i : ℕ) → BadHead words i → (i < 4) × (bad_head words i ≡ true)
    of i (head_absent h l) = (h, or-first (leb (length words) i) (outside 1 (head_limit words i) (word words i)) (le-leb (length words) i l))
    of i (head_outside h o) = (h, or-second (leb (length words) i) (outside 1 (head_limit words i) (word words i)) ((outside-iff 1 (head_limit words i) (word words i)).1 o))
