-- Where the tokens of an entry stand: from its second word up to its third where the entry stands, and at no place otherwise; and the
-- tokens there.
-- Main statements: beyond, unfit, fit; place-within; tokens-there.
use Rattle.std.proofs.Common.{◌≡◌, refl, sym, ap, ◌∙◌, Bool, true, false, ◌||◌, List, ℕ, ◌-◌, ◌/◌, ◌≤◌, ◌<◌, ltb, length, get_or, take, drop, arith}
use Rattle.std.specs.Simd.{first_chunks}
use Rattle.laws.specs.Parts.{part_slice}
use Rattle.report.specs.ReportCall.{second_word, third_word, entry_stands, entry_start, entry_end, entry_tokens}
use Rattle.report.specs.EntryTests.{inside, outside, entry-stands, entry-parts, entry-fails}
use Rattle.report.proofs.ChunkLaw.{chunk-word}

module _ (report : List ℕ) (e count : ℕ) where
  abbrev pub NoPlace : Type 0
  NoPlace = (0 ≡ entry_start report e count) × (0 ≡ entry_end report e count)

  no-place : entry_stands report e count ≡ false → NoPlace
  unfolding entry_start entry_end
  no-place f = rw (f, entry_start, entry_end) (refl, refl)

  -- read by chunks of three words
  module _ {chunks : List (List ℕ)} (are : chunks ≡ first_chunks 3 (length report / 3) report) (long : length chunks ≡ length report / 3) where
    pub beyond : length chunks ≤ e → NoPlace
    beyond h = no-place (entry-fails report e count (λ a b d. omega arith))

    module _ (words : List ℕ) (h : e < length chunks) (is : words ≡ get_or chunks e words) where
      second : get_or words 1 0 ≡ second_word report e
      second = ap (λ w. get_or w 1 0) is ∙ ap (λ l. get_or (get_or l e words) 1 0) are ∙ chunk-word (length report / 3) e report words 1 (omega arith) (omega arith)

      third : get_or words 2 0 ≡ third_word report e
      third = ap (λ w. get_or w 2 0) is ∙ ap (λ l. get_or (get_or l e words) 2 0) are ∙ chunk-word (length report / 3) e report words 2 (omega arith) (omega arith)

      same : (ltb (get_or words 2 0) (get_or words 1 0) || ltb count (get_or words 2 0))
          ≡ (ltb (third_word report e) (second_word report e) || ltb count (third_word report e))
      same = rw (second, third)

      pub unfit : (ltb (get_or words 2 0) (get_or words 1 0) || ltb count (get_or words 2 0)) ≡ true → NoPlace
      unfit t = no-place (entry-fails report e count (λ a. outside report e count (sym same ∙ t)))

      pub fit : (ltb (get_or words 2 0) (get_or words 1 0) || ltb count (get_or words 2 0)) ≡ false
          → (get_or words 1 0 ≡ entry_start report e count) × (get_or words 2 0 ≡ entry_end report e count)
      unfolding entry_start entry_end
      fit t =
          let p = inside report e count (sym same ∙ t) in
          rw (entry-stands report e count (omega arith) p.0 p.1, entry_start, entry_end) (second, third)

-- they stand within the tokens
pub place-within : (report : List ℕ) (e count : ℕ) → (entry_start report e count ≤ entry_end report e count) × (entry_end report e count ≤ count)
unfolding entry_start entry_end
place-within report e count = go (entry_stands report e count) refl
  where
    go : (b : Bool) → entry_stands report e count ≡ b → (entry_start report e count ≤ entry_end report e count) × (entry_end report e count ≤ count)
    go false f = rw (f, entry_start, entry_end) (omega arith, omega arith)
    go true t = let p = entry-parts report e count t in rw (t, entry_start, entry_end) (p.1, p.2)

-- the tokens there
pub tokens-there : (report : List ℕ) (e : ℕ) (tokens : List ℕ)
    → take (entry_end report e (length tokens) - entry_start report e (length tokens)) (drop (entry_start report e (length tokens)) tokens) ≡ entry_tokens report e tokens
unfolding entry_start entry_end entry_tokens
tokens-there report e tokens = go (entry_stands report e (length tokens)) refl
  where
    go : (b : Bool) → entry_stands report e (length tokens) ≡ b
        → take (entry_end report e (length tokens) - entry_start report e (length tokens)) (drop (entry_start report e (length tokens)) tokens) ≡ entry_tokens report e tokens
    go false f = rw (f, entry_start, entry_end, entry_tokens)
    go true t =
        let p = entry-parts report e (length tokens) t in
        rw (t, entry_start, entry_end, entry_tokens) (part_slice (second_word report e) (third_word report e) tokens p.1 p.2)
