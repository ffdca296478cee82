-- When an entry of a report stands, by the tests that code makes of its place and of its two words.
-- Document 01, "The report": "If the entry isn't wholly in the report run, its second word exceeds its third, or its third exceeds the token
-- count, the answer is the part of no tokens at place 0."
-- Rests on ReportCall.
--
-- Main statements: inside, outside (the test of the two words, failed and passed); entry-stands, entry-parts, entry-fails.
use Rattle.std.specs.Prelude.{◌≡◌, true, false, ◌&&◌, ◌||◌, List, ℕ, ◌+◌, ◌*◌, ◌≤◌, ◌<◌, ltb, leb, length}
use Rattle.std.proofs.Common.{⊎_elim, arith}
use Rattle.laws.specs.Tests.{and_both, both-and, or_cases, or-first, or-second, not-both, false-unless, leb-true, le-leb, ltb-true, ltb-false}
use Rattle.report.specs.ReportCall.{second_word, third_word, entry_stands}

module _ (report : List ℕ) (e count : ℕ) where
  abbrev first : ℕ
  first = second_word report e

  abbrev after : ℕ
  after = third_word report e

  pub inside : (ltb after first || ltb count after) ≡ false → (first ≤ after) × (after ≤ count)
  inside t = (
    ltb-false after first (false-unless _ (λ p. not-both _ (or-first _ (ltb count after) p) t)),
    ltb-false count after (false-unless _ (λ p. not-both _ (or-second (ltb after first) _ p) t)),
  )

  pub outside : (ltb after first || ltb count after) ≡ true → first ≤ after → after ≤ count → ⊥
  outside t b d =
      ⊎_elim (λ p. let h : after < first = ltb-true after first p in omega arith) (λ p. let h : count < after = ltb-true count after p in omega arith)
      (or_cases (ltb after first) (ltb count after) t)

  pub entry-stands : 3 * e + 3 ≤ length report → first ≤ after → after ≤ count → entry_stands report e count ≡ true
  entry-stands a b d = both-and _ _ (le-leb _ _ a) (both-and _ _ (le-leb _ _ b) (le-leb _ _ d))

  pub entry-parts : entry_stands report e count ≡ true → (3 * e + 3 ≤ length report) × (first ≤ after) × (after ≤ count)
  entry-parts t =
      let p = and_both (leb (3 * e + 3) (length report)) (leb first after && leb after count) t in
      let q = and_both (leb first after) (leb after count) p.1 in
      (leb-true (3 * e + 3) (length report) p.0, leb-true first after q.0, leb-true after count q.1)

  pub entry-fails : (3 * e + 3 ≤ length report → first ≤ after → after ≤ count → ⊥) → entry_stands report e count ≡ false
  entry-fails never = false-unless _ (λ t. let p = entry-parts t in never p.0 p.1 p.2)
