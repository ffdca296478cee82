-- What the steps of the module `outcome` find and write.
-- Main statements: none-alive; report-written.
use Rattle.std.proofs.Common.{◌≡◌, refl, sym, ap, ◌∙◌, Bool, true, false, ◌&&◌, List, [], ◌++◌, append-nil, ℕ, zero, suc, ◌+◌, ◌*◌, ◌-◌, ◌/◌, ◌≤◌, eqb, length, get_or, take, drop, arith}
use Rattle.std.specs.List.{list_all, range_with_len}
use Rattle.laws.specs.Picks.{pick}
use Rattle.language.specs.Trees.{Span, Reduction}
use Rattle.language.specs.Reports.{put_in_order, report_words}
use Rattle.layout.specs.Layout.{read_made}
use Rattle.layout.specs.Lengths.{length-report}
use Rattle.outcomes.specs.EntryWords.{entries, entries-words, entries-length}
use Rattle.outcomes.specs.OutcomeWords.{none_live}
use Rattle.report.proofs.SortLaw.{front-is}

-- each of so many chunks, from this one on, is looked at
none-more : (b : Bool) {rest more : Bool} → rest ≡ more → (b && rest) ≡ pick b more false
none-more true e = e
none-more false e = refl

pub none-alive : (area : List ℕ) (count chunk i : ℕ) → 5 + 5 * chunk ≡ i
    → list_all (λ c. eqb (get_or area (5 + 5 * c) 0) 0) (range_with_len chunk count) ≡ none_live count area i
none-alive area zero chunk i e = refl
none-alive area (suc count) chunk i e =
    none-more (eqb (get_or area (5 + 5 * chunk) 0) 0) (none-alive area count (chunk + 1) (i + 5) (omega (arith, e)))
    ∙ ap (λ j. pick (eqb (get_or area j 0) 0) (none_live count area (i + 5)) false) e

-- the reductions copied to a run, and put in order there
pub report-written : (area : List ℕ) (made count : ℕ) {copied last : List ℕ} → made + 3 * count ≤ length area
    → copied ≡ take (made + 3 * count - made) (drop made area) → last ≡ report_words (put_in_order (entries copied 0 (length copied / 3)))
    → last ≡ report_words (put_in_order (read_made count area made))
report-written area made count {copied} h c e =
    let l : List (Reduction Span) = read_made count area made in
    let n : length l ≡ count = entries-length count area made in
    let m : made + 3 * count - made ≡ 3 * count = omega arith in
    let k : copied ≡ report_words l ++ [] =
    c ∙ ap (λ i. take i (drop made area)) m ∙ sym (entries-words count area made h) ∙ sym (append-nil (report_words l)) in
    let long : length copied ≡ 3 * count = ap length (k ∙ append-nil (report_words l)) ∙ length-report l ∙ ap (λ i. 3 * i) n in
    let so_many : length copied / 3 ≡ count = omega arith in
    e ∙ ap (λ i. report_words (put_in_order (entries copied 0 i))) so_many
    ∙ ap (λ ws. report_words (put_in_order (entries ws 0 count))) k ∙ ap (λ x. report_words (put_in_order x)) (front-is l [] count n)
