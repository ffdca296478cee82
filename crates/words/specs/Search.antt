-- A search that goes up from 0 and stops at the first failure of a check finds the least value at which the check fails.
-- Document 01, "Refusal numbers": "first such word", "first such entry", "first such rule", "least rule for which this holds".
-- Rests on laws' Least and Tests, and on language's Stages.
--
-- Main definitions: Found; of laws, Clear.
-- Main statements: found_at, found_nowhere (what is answered where the search finds that), fails-below, clear-below (a search that answers yes
-- or no), find-within, find-some, find-none (std's `find` over a range).
use Rattle.std.specs.Prelude.{◌≡◌, Bool, true, false, ℕ, ◌≤◌, ◌<◌, Some, None, Err, MatchOption}
use Rattle.std.specs.Prelude as Prelude
use Rattle.std.proofs.Common.{sym, ap, subst, ◌∙◌, arith}
use Rattle.std.proofs.Math.Option.{Option}
use Rattle.laws.specs.Least.{first_below, first-at, first-nowhere}
pub use Rattle.laws.specs.Least.{Clear, clear-more}
use Rattle.laws.specs.Tests.{not-both, false-unless, any_below, any_below-iff}
use Rattle.refusals.specs.declared.Refusal.{Refusal}
use Rattle.refusals.specs.Answers.{Answer}
use Rattle.language.specs.Stages.{refused_by}

module _ (fails : ℕ → Bool) where
  pub found_at : (refusal : ℕ → Refusal) (later : Answer) (n i : ℕ) → i < n → Clear fails i → fails i ≡ true → Err (refusal i) ≡ refused_by refusal (first_below fails n) later
  found_at refusal later n i h clear e = ap (λ (found : Option ℕ). refused_by refusal found later) (sym (first-at fails n i h clear e))

  pub found_nowhere : (refusal : ℕ → Refusal) (later : Answer) (n i : ℕ) → n ≤ i → Clear fails i → later ≡ refused_by refusal (first_below fails n) later
  found_nowhere refusal later n i h clear = ap (λ (found : Option ℕ). refused_by refusal found later) (sym (first-nowhere fails n i h clear))

  -- a search that only asks whether the check fails
  pub fails-below : (n i : ℕ) → i < n → fails i ≡ true → true ≡ any_below fails n
  fails-below n i h e = sym ((any_below-iff fails n).1 (i, h, e))

  pub clear-below : (n i : ℕ) → n ≤ i → Clear fails i → false ≡ any_below fails n
  clear-below n i h clear =
      sym (false-unless (any_below fails n) (λ e. let k = (any_below-iff fails n).0 e in not-both (fails k.0) k.2 (clear k.0 (omega (arith, k.1)))))

-- what std's `find` over 0..m answers: the least place that passes a test, or none
abbrev pub Found : (ℕ → Bool) → ℕ → Prelude.Option ℕ → Type 0
Found test m r = MatchOption r ((k : ℕ) → 0 ≤ k → k < m → test k ≡ false) (λ i. (0 ≤ i) × (i < m) × (test i ≡ true) × ((k : ℕ) → 0 ≤ k → k < i → test k ≡ false))

-- what it finds below m is the first failure, wherever m stands up to n
pub find-within : (fails : ℕ → Bool) (refusal : ℕ → Refusal) (later : Answer) {m : ℕ} {r : Prelude.Option ℕ} → Found fails m r → (n : ℕ) → m ≤ n → (i : ℕ) → r ≡ Some i
    → Err (refusal i) ≡ refused_by refusal (first_below fails n) later
find-within fails refusal later {m} found n within i e =
    let h : Found fails m (Some i) = subst (Found fails m) e found in
    found_at fails refusal later n i (omega (arith, h.1)) (λ k l. h.3 k (omega arith) l) h.2

-- .. where a test below n is whether the check fails
module _ (fails test : ℕ → Bool) (n m : ℕ) (is : m ≡ n) (same : (k : ℕ) → k < n → fails k ≡ test k) (refusal : ℕ → Refusal) (later : Answer) {r : Prelude.Option ℕ} (found : Found test m r) where
  pub find-some : (i : ℕ) → r ≡ Some i → (i < m) × (Err (refusal i) ≡ refused_by refusal (first_below fails n) later)
  find-some i e =
      let h : Found test m (Some i) = subst (Found test m) e found in
      (h.1, found_at fails refusal later n i (omega (arith, h.1)) (λ k l. same k (omega (arith, h.1)) ∙ h.3 k (omega arith) l) (same i (omega (arith, h.1)) ∙ h.2))

  pub find-none : r ≡ None → later ≡ refused_by refusal (first_below fails n) later
  find-none e =
      let h : Found test m None = subst (Found test m) e found in
      found_nowhere fails refusal later n n (omega arith) (λ k l. same k l ∙ h k (omega arith) (omega arith))
