-- A search upwards, one number at a time: what is left of it from number i on; and what code answers of a search.
-- Rests on laws' Least.
--
-- Main definition: found_of. Main statements: first-here (i passes), first_past (i does not), first_end (nothing is left); found-some, found-none (what the
-- answer tells).
use Rattle.std.specs.Prelude.{ℕ, suc, ◌+◌, ◌-◌, ◌<◌, ◌≤◌, ◌≡◌, refl, Bool, true, false, Some, None}
use Rattle.std.specs.Prelude.{Option as Answered}
use Rattle.std.proofs.Common.{sym, ap, ◌∙◌, arith, add-one}
use Rattle.std.proofs.Math.Option.{Option, none, some}
use Rattle.laws.specs.Least.{first_from}

module _ (test : ℕ → Bool) (n i : ℕ) where
  step : i < n → first_from test (n - i) i ≡ elim (test i) [ true ↦ some i | false ↦ first_from test (n - suc i) (suc i) ]
  step h = let e : n - i ≡ suc (n - suc i) = omega arith in rw e

  pub first-here : i < n → test i ≡ true → first_from test (n - i) i ≡ some i
  first-here h t = step h ∙ rw t

  pub first_past : i < n → test i ≡ false → first_from test (n - i) i ≡ first_from test (n - (i + 1)) (i + 1)
  first_past h t = step h ∙ rw (t, add-one i)

  pub first_end : n ≤ i → first_from test (n - i) i ≡ none
  first_end h = let e : n - i ≡ 0 = omega arith in rw e

-- the number that is found, as code answers it
abbrev pub found_of : Option ℕ → Answered ℕ
found_of none = None
found_of (some i) = Some i

pub found-some : (i : ℕ) (o : Option ℕ) → Some i ≡ found_of o → o ≡ some i
found-some i none e = let z : ◌≡◌ {A = ℕ} 0 1 = cc in absurd (omega arith)
found-some i (some j) e = let p : i ≡ j = cc in ap some (sym p)

pub found-none : (o : Option ℕ) → None ≡ found_of o → o ≡ none
found-none none e = refl
found-none (some j) e = let z : ◌≡◌ {A = ℕ} 0 1 = cc in absurd (omega arith)
