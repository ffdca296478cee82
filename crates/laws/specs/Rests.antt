-- A rising chain comes to rest: n passes are enough to settle which of n things are in a least set.
-- Document 01, "Sets and matrix": the left and right sets are least sets; they are computed by as many passes as there are
-- nonterminals, for one terminal at a time.
-- Rests on nothing.
--
-- Main definitions: iterate, is_in, Within, passed, settled.
-- Main statements: rests (after n steps nothing changes), settled_at (what n passes settle is closed under the pass, and nothing
-- else is in it), settled-sound (whatever n passes let in has every property that a pass keeps).
use Rattle.std.specs.Prelude.{◌≡◌, refl, ◌⊎◌, Bool, true, false, List, [], ◌∷◌, get_or, replicate}
use Rattle.std.proofs.Math.Path.{sym}
use Rattle.std.proofs.Common.{ap, ◌∙◌, arith}
use Rattle.std.proofs.Math.Logic.{inl, inr}
use Rattle.std.proofs.lemmas.Bool.{false≢true}
use Prim.Native.Nat.{ℕ, zero, suc, ◌≤◌, ◌<◌}
use Rattle.std.proofs.Math.ListN.{length}
use Rattle.std.proofs.lemmas.List.{length-replicate}

-- f, k times over
abbrev pub iterate : {A : Type 0} → ℕ → (A → A) → A → A
iterate zero f x = x
iterate (suc k) f x = f (iterate k f x)

pub iterate-keeps : {A : Type 0} (P : A → Type 0) (f : A → A) (x : A) → P x → ((y : A) → P y → P (f y)) → (k : ℕ) → P (iterate k f x)
iterate-keeps P f x p h zero = p
iterate-keeps P f x p h (suc k) = h (iterate k f x) (iterate-keeps P f x p h k)

-- k is in, by this list of answers; past its end nothing is
abbrev pub is_in : List Bool → ℕ → Bool
is_in xs k = get_or xs k false

-- whatever is in by xs is in by ys
abbrev pub Within : List Bool → List Bool → Type 0
Within xs ys = (k : ℕ) → is_in xs k ≡ true → is_in ys k ≡ true

-- how many are in
abbrev count : List Bool → ℕ
count [] = 0
count (true ∷ xs) = suc (count xs)
count (false ∷ xs) = count xs

count-le : (xs : List Bool) → count xs ≤ length xs
count-le [] = omega arith
count-le (true ∷ xs) = omega (arith, count-le xs)
count-le (false ∷ xs) = omega (arith, count-le xs)

-- a list within another of its length is that list, or has fewer in
more-in : (xs ys : List Bool) → length xs ≡ length ys → Within xs ys → (xs ≡ ys) ⊎ (count xs < count ys)
more-in [] [] e w = inl refl
more-in [] (y ∷ ys) e w = absurd (omega arith)
more-in (x ∷ xs) [] e w = absurd (omega arith)
more-in (x ∷ xs) (y ∷ ys) e w = go x y (w 0) (more-in xs ys (omega arith) (λ k. w (suc k)))
  where
    go : (x y : Bool) → (x ≡ true → y ≡ true) → (xs ≡ ys) ⊎ (count xs < count ys) → (x ∷ xs ≡ y ∷ ys) ⊎ (count (x ∷ xs) < count (y ∷ ys))
    go true true h (inl q) = inl (rw q)
    go true true h (inr l) = inr (omega arith)
    go true false h r = absurd (false≢true (h refl))
    go false true h (inl q) = inr (omega (arith, ap count q))
    go false true h (inr l) = inr (omega arith)
    go false false h (inl q) = inl (rw q)
    go false false h (inr l) = inr l

none_in : (n k : ℕ) → is_in (replicate n false) k ≡ false
none_in zero k = refl
none_in (suc n) zero = refl
none_in (suc n) (suc k) = none_in n k

module _ (n : ℕ) (step : List Bool → List Bool) (keeps : (xs : List Bool) → length xs ≡ n → length (step xs) ≡ n)
    (rises : (xs ys : List Bool) → length xs ≡ n → length ys ≡ n → Within xs ys → Within (step xs) (step ys)) where
  chain : ℕ → List Bool
  chain k = iterate k step (replicate n false)

  chain_length : (k : ℕ) → length (chain k) ≡ n
  unfolding chain
  chain_length k = iterate-keeps (λ xs. length xs ≡ n) step (replicate n false) (length-replicate n false) keeps k

  chain-rises : (k : ℕ) → Within (chain k) (chain (suc k))
  unfolding chain
  chain-rises zero = λ i e. absurd (false≢true (sym (none_in n i) ∙ e))
  chain-rises (suc k) = rises (chain k) (chain (suc k)) (chain_length k) (chain_length (suc k)) (chain-rises k)

  changes : (k : ℕ) → (chain k ≡ chain (suc k)) ⊎ (count (chain k) < count (chain (suc k)))
  changes k = more-in (chain k) (chain (suc k)) (chain_length k ∙ sym (chain_length (suc k))) (chain-rises k)

  -- the chain has come to rest, or has gained one a step
  still : (k : ℕ) → (chain k ≡ chain (suc k)) ⊎ (k ≤ count (chain k))
  unfolding chain
  still zero = inr (omega arith)
  still (suc k) = go (still k) (changes k)
    where
      go : (chain k ≡ chain (suc k)) ⊎ (k ≤ count (chain k)) → (chain k ≡ chain (suc k)) ⊎ (count (chain k) < count (chain (suc k)))
          → (chain (suc k) ≡ chain (suc (suc k))) ⊎ (suc k ≤ count (chain (suc k)))
      go (inl q) c = inl (ap step q)
      go (inr l) (inl q) = inl (ap step q)
      go (inr l) (inr c) = inr (omega arith)

  -- after n steps from nothing, one more changes nothing
  pub rests : (k : ℕ) → n ≤ k → step (iterate k step (replicate n false)) ≡ iterate k step (replicate n false)
  unfolding chain
  rests k h = go (still k) (changes k)
    where
      go : (chain k ≡ chain (suc k)) ⊎ (k ≤ count (chain k)) → (chain k ≡ chain (suc k)) ⊎ (count (chain k) < count (chain (suc k))) → step (chain k) ≡ chain k
      go (inl q) c = sym q
      go (inr l) (inl q) = sym q
      go (inr l) (inr c) = absurd (omega (arith, count-le (chain (suc k)), chain_length (suc k)))

-- the answers of a test at 0 to n-1
abbrev pub answers : (ℕ → Bool) → ℕ → List Bool
answers f zero = []
answers f (suc n) = f 0 ∷ answers (λ k. f (suc k)) n

answers-length : (f : ℕ → Bool) (n : ℕ) → length (answers f n) ≡ n
answers-length f zero = refl
answers-length f (suc n) = ap suc (answers-length (λ k. f (suc k)) n)

pub answers_at : (f : ℕ → Bool) (n k : ℕ) → k < n → is_in (answers f n) k ≡ f k
answers_at f zero k h = absurd (omega arith)
answers_at f (suc n) zero h = refl
answers_at f (suc n) (suc k) h = answers_at (λ j. f (suc j)) n k (omega arith)

answers-in : (f : ℕ → Bool) (n k : ℕ) → is_in (answers f n) k ≡ true → (k < n) × (f k ≡ true)
answers-in f zero k e = absurd (false≢true e)
answers-in f (suc n) zero e = (omega arith, e)
answers-in f (suc n) (suc k) e = let r = answers-in (λ j. f (suc j)) n k e in (omega arith, r.1)

-- a pass says, from which are in so far, which of 0 to n-1 are in next
module _ (n : ℕ) (pass : (ℕ → Bool) → ℕ → Bool) where
  abbrev pub passed : List Bool → List Bool
  passed xs = answers (pass (is_in xs)) n

  -- n passes, from nothing
  abbrev pub settled : List Bool
  settled = iterate n passed (replicate n false)

  -- what a pass keeps, all that is settled has
  pub settled-sound : (P : ℕ → Type 0) → ((f : ℕ → Bool) → ((k : ℕ) → f k ≡ true → P k) → (k : ℕ) → k < n → pass f k ≡ true → P k)
      → (k : ℕ) → is_in settled k ≡ true → P k
  settled-sound P h = iterate-keeps (λ xs. (k : ℕ) → is_in xs k ≡ true → P k) passed (replicate n false) start next n
    where
      start : (k : ℕ) → is_in (replicate n false) k ≡ true → P k
      start k e = absurd (false≢true (sym (none_in n k) ∙ e))

      next : (xs : List Bool) → ((k : ℕ) → is_in xs k ≡ true → P k) → (k : ℕ) → is_in (passed xs) k ≡ true → P k
      next xs ih k e = let r = answers-in (pass (is_in xs)) n k e in h (is_in xs) ih k r.0 r.1

  -- one more pass changes nothing
  pub settled_at : ((f g : ℕ → Bool) → ((k : ℕ) → f k ≡ true → g k ≡ true) → (k : ℕ) → pass f k ≡ true → pass g k ≡ true)
      → (k : ℕ) → k < n → is_in settled k ≡ pass (is_in settled) k
  settled_at rises k h = ap (λ (xs : List Bool). is_in xs k) (sym still-settled) ∙ answers_at (pass (is_in settled)) n k h
    where
      more : (xs ys : List Bool) → length xs ≡ n → length ys ≡ n → Within xs ys → Within (passed xs) (passed ys)
      more xs ys e e' w i p =
          let r = answers-in (pass (is_in xs)) n i p in
          answers_at (pass (is_in ys)) n i r.0 ∙ rises (is_in xs) (is_in ys) w i r.1

      still-settled : passed settled ≡ settled
      still-settled = rests n passed (λ xs e. answers-length (pass (is_in xs)) n) more n (omega arith)
