-- What is proved of specs' CheckContents. Check 2, CONTENTS: "an entry is absent, entry 0 isn't 4+R, an entry isn't 2 to 9 above the one before, or
-- the last body isn't 2 to 9 words"; value: "first such entry; R for the last body".
--
-- Main statement: contents-finds.
use Rattle.std.specs.Prelude.{◌≡◌, refl, Bool, true, false, ◌||◌, not, ◌⊎◌, List, ℕ, zero, suc, ◌+◌, ◌-◌, ◌<◌, leb, eqb, length}
use Rattle.std.proofs.lemmas.Bool.{false≢true}
use Rattle.std.proofs.Common.{inl, inr, arith}
use Rattle.laws.specs.Least.{Finds, first_finds}
use Rattle.laws.specs.Tests.{or_cases, or-first, or-second, leb-true, le-leb, eqb-true, eq-eqb, eqb-false, ne_eqb}
use Rattle.language.specs.Words.{count_r, entry, outside}
use Rattle.language.proofs.Words.{outside-iff}
use Rattle.language.specs.CheckContents.{BadContents, bad_contents, contents_stage, entry_step, entry_absent, entry_first, last_body, wrong_entry}

not-true : (b : Bool) → not b ≡ true → b ≡ false
not-true true e = absurd (false≢true e)
not-true false e = refl

module _ (words : List ℕ) where
  to-entry : (r : ℕ) → r < count_r words → (leb (length words) (4 + r) ≡ true) ⊎ (wrong_entry words r ≡ true) → BadContents words r
  to-entry r h (inl e) = entry_absent h (leb-true (length words) (4 + r) e)
  to-entry zero h (inr e) = entry_first h (eqb-false (entry words 0) (4 + count_r words) (not-true (eqb (entry words 0) (4 + count_r words)) e))
  to-entry (suc r) h (inr e) = entry_step h ((outside-iff (entry words r + 2) (entry words r + 9) (entry words (suc r))).0 e)

  to-bad : (r : ℕ) → r < suc (count_r words) → bad_contents words r ≡ true → BadContents words r
  to-bad r h = go (eqb r (count_r words)) refl
    where
      go : (b : Bool) → eqb r (count_r words) ≡ b
          → elim b [ true ↦ outside 2 9 (length words - entry words (count_r words - 1)) | false ↦ leb (length words) (4 + r) || wrong_entry words r ] ≡ true
          → BadContents words r
      go true q e =
          let z : r ≡ count_r words = eqb-true r (count_r words) q in
          rw z (last_body ((outside-iff 2 9 (length words - entry words (count_r words - 1))).0 e))
      go false q e =
          let z : r ≡ count_r words → ⊥ = eqb-false r (count_r words) q in
          to-entry r (omega arith) (or_cases (leb (length words) (4 + r)) (wrong_entry words r) e)

  -- below R an entry is asked
  entry-asked : (r : ℕ) → r < count_r words → (leb (length words) (4 + r) || wrong_entry words r) ≡ true → bad_contents words r ≡ true
  entry-asked r h e = let z : r ≡ count_r words → ⊥ = omega arith in rw (ne_eqb r (count_r words) z, bad_contents) e

  of-bad : (r : ℕ) → BadContents words r → (r < suc (count_r words)) × (bad_contents words r ≡ true)
  of-bad r (entry_absent h l) = (omega arith, entry-asked r h (or-first (leb (length words) (4 + r)) (wrong_entry words r) (le-leb (length words) (4 + r) l)))
  of-bad r (entry_first h n) =
      (omega arith, entry-asked 0 h (or-second (leb (length words) (4 + 0)) (wrong_entry words 0) (rw (ne_eqb (entry words 0) (4 + count_r words) n))))
  of-bad r (entry_step {r = q} h o) =
      let wrong = (outside-iff (entry words q + 2) (entry words q + 9) (entry words (suc q))).1 o in
      (omega arith, entry-asked (suc q) h (or-second (leb (length words) (4 + suc q)) (wrong_entry words (suc q)) wrong))
  of-bad r (last_body o) = (omega arith, rw (eq-eqb (count_r words) (count_r words) refl, bad_contents) ((outside-iff 2 9 (length words - entry words (count_r words - 1))).1 o))

pub contents-finds : (words : List ℕ) → Finds (BadContents words) (contents_stage.fails_at words)
contents-finds words = first_finds (bad_contents words) (suc (count_r words)) (BadContents words) (to-bad words) (of-bad words)
