-- What `parsing::outcome` reads and writes.
-- Rests on ParseLaws and outcomes' EntryWords.
--
-- Main statements: is-alone, written (the row's outcome).
use Rattle.std.proofs.Common.{◌≡◌, true, List, ℕ, ◌+◌, ◌*◌, ◌-◌, ◌<◌, get_or, take, drop, sym, ap, ◌∙◌, arith}
use Rattle.language.specs.Reports.{put_in_order, report_words}
use Rattle.layout.specs.Layout.{made_at_word, read_made}
use Rattle.outcomes.specs.EntryWords.{entries-words}
use Rattle.outcomes.specs.OutcomeWords.{none_live}
use Rattle.parse.specs.ParseLaws.{Finished}

module _ {area : List ℕ} (f : Finished area) where
  pub is-alone : true ≡ none_live (get_or area 1 0 - 1) area 10
  is-alone = let e : get_or area 1 0 - 1 ≡ 0 = omega (arith, f.one_chunk) in rw e

  -- the reductions, copied as they stand, are the report
  pub written : get_or area 5 0 < 17
      → take (18 + 4 * get_or area 0 0 + 3 * get_or area 4 0 - (18 + 4 * get_or area 0 0)) (drop (18 + 4 * get_or area 0 0) area)
      ≡ report_words (put_in_order (read_made (get_or area 4 0) area (made_at_word area)))
  written h =
      let at : 18 + 4 * get_or area 0 0 ≡ made_at_word area = omega (arith, f.one_chunk) in
      let long : 18 + 4 * get_or area 0 0 + 3 * get_or area 4 0 - (18 + 4 * get_or area 0 0) ≡ 3 * get_or area 4 0 = omega arith in
      ap (λ k. take k (drop (18 + 4 * get_or area 0 0) area)) long ∙ ap (λ i. take (3 * get_or area 4 0) (drop i area)) at
      ∙ sym (entries-words (get_or area 4 0) area (made_at_word area) f.readable.within_area) ∙ ap report_words (sym (f.ordered h))
