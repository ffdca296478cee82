-- A report entry's tokens by a place and a count, as the façade gives them where a part of a run cannot cross: the tokens from that place
-- on, so many, are the part that `entry_tokens` gives.
-- Document 01: "A viewer may ask for the tokens of one report entry: the answer is that part of the caller's own token run."
-- Rests on report's ReportCall and EntryTests.
--
-- Main statement: entry-part.
use Rattle.std.specs.Prelude.{◌≡◌, refl, Bool, true, false, List, [], ℕ, ◌≤◌, length, take, drop}
use Rattle.std.proofs.Math.Seq.{slice, length-slice}
use Rattle.laws.specs.Parts.{part_slice}
use Rattle.report.specs.ReportCall.{second_word, third_word, entry_stands, entry_start, entry_tokens}
use Rattle.report.specs.EntryTests.{entry-parts}

-- an entry that stands, and one that does not
abbrev given : Bool → ℕ → ℕ → List ℕ → List ℕ
given stands f t l = elim stands [ true ↦ slice f t l | false ↦ [] ]

abbrev start : Bool → ℕ → ℕ
start stands f = elim stands [ true ↦ f | false ↦ 0 ]

by : (b : Bool) (f t : ℕ) (l : List ℕ) → (b ≡ true → (f ≤ t) × (t ≤ length l)) → take (length {A = ℕ} (given b f t l)) (drop (start b f) l) ≡ given b f t l
by true f t l h =
    let fits = h refl in
    rw (length-slice f t l fits.1) (part_slice f t l fits.0 fits.1)
by false f t l h = refl

pub entry-part : (report : List ℕ) (e : ℕ) (tokens : List ℕ)
    → take (length {A = ℕ} (entry_tokens report e tokens)) (drop (entry_start report e (length tokens)) tokens) ≡ entry_tokens report e tokens
unfolding entry_tokens entry_start
entry-part report e tokens =
    by (entry_stands report e (length tokens)) (second_word report e) (third_word report e) tokens
    (λ t. let p = entry-parts report e (length tokens) t in (p.1, p.2))
