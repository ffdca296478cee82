-- What the proofs of this crate's functions share: what the answer to 1 to 3 makes of the rules; what a test of a run of bytes tells of a
-- row, and of all.
-- Rests on specs' GrammarShape, ByteTests and EndMarkOfShape, and on laws' Looks.
--
-- Main statements: passed, refused; all-fold, part-told, range-told; range-passes, range-fails; byte-here, row-told, row-tests,
-- row-fit, row-lacks; short-fails, rows_more, rows-fit, part-fails, whole-told.
use Rattle.std.specs.Prelude.{Ok, Err}
use Rattle.std.proofs.Common.{◌≡◌, refl, sym, ap, subst, ◌∙◌, ◌⊎◌, inl, inr, Bool, true, false, ◌&&◌, fold, List, [], ◌∷◌, ℕ, zero, suc, ◌-◌, ◌+◌, ◌*◌, ◌/◌, ◌%◌, ◌<◌, ◌≤◌, leb, ltb, length, get_or, take, drop, arith, length-drop, length-take-le}
use Rattle.std.proofs.lemmas.List.{get_or-take, get_or-drop}
use Rattle.std.specs.List.{list_all, AllWithin, HoldsAt, range_with_len}
use Rattle.std.specs.Bool.{MatchBool}
use Rattle.std.proofs.lemmas.List.FromFn.{length-range_with_len, get_or-range_with_len}
use Rattle.std.proofs.Math.Decide.{dec_lt}
use Rattle.laws.specs.Tests.{all, up_to, false-unless, not-both, same_test, and_both, both-and, lt-leb, le-leb, lt-ltb, le-ltb}
use Rattle.laws.specs.Looks.{TellsAll}
use Rattle.laws.specs.Picks.{pick, both-pick}
use Rattle.refusals.specs.declared.Refusal.{Refusal}
use Rattle.refusals.specs.Answers.{Answer}
use Rattle.language.specs.Words.{count_t}
use Rattle.language.specs.Checks.{check_symbols}
use Rattle.matrix.specs.GrammarShape.{is_done, byte_fits, rule_b, grammar_in_shape}
use Rattle.matrix.specs.ByteTests.{byte_at, zero_at}
use Rattle.matrix.specs.EndMarkOfShape.{each-bytes, byte-fits}

-- ---- (a)

module _ (words matrix : List ℕ) where
  pub passed : check_symbols words ≡ Ok tt → grammar_in_shape words matrix ≡ rule_b (count_t words) matrix
  unfolding grammar_in_shape
  passed e = ap (λ (answer : Answer). pick (is_done answer) (rule_b (count_t words) matrix) false) e

  pub refused : {refusal : Refusal} → check_symbols words ≡ Err refusal → grammar_in_shape words matrix ≡ false
  unfolding grammar_in_shape
  refused e = ap (λ (answer : Answer). pick (is_done answer) (rule_b (count_t words) matrix) false) e

-- ---- (b), a run of bytes

module _ {X : Type 0} (test : X → Bool) where
  -- a look at all elements, after elements that all pass or not
  pub all-fold : (before : Bool) (xs : List X) → fold (λ b x. b && test x) before xs ≡ (before && list_all test xs)
  all-fold true [] = refl
  all-fold false [] = refl
  all-fold true (x ∷ xs) = all-fold (test x) xs
  all-fold false (x ∷ xs) = all-fold false xs

module _ (test : ℕ → Bool) where
  all-at : (xs : List ℕ) → list_all test xs ≡ true → (v : ℕ) → v < length xs → test (get_or xs v 0) ≡ true
  all-at [] e v h = absurd (omega arith)
  all-at (x ∷ xs) e zero h = (and_both (test x) (list_all test xs) e).0
  all-at (x ∷ xs) e (suc v) h = all-at xs (and_both (test x) (list_all test xs) e).1 v (omega arith)

  at-all : (xs : List ℕ) → ((v : ℕ) → v < length xs → test (get_or xs v 0) ≡ true) → list_all test xs ≡ true
  at-all [] p = refl
  at-all (x ∷ xs) p = both-and (test x) (list_all test xs) (p 0 (omega arith)) (at-all xs (λ v h. p (suc v) (omega arith)))

  -- a look at a part of a list
  pub part-told : (xs : List ℕ) (from end : ℕ) → end ≤ length xs
      → TellsAll (λ v. test (get_or xs v 0)) from end (list_all test (take (end - from) (drop from xs)))
  part-told xs from end h = (
    λ e v i j. let there = all-at part e (v - from) (omega (arith, long)) in
        let at : from + (v - from) ≡ v = omega arith in
        rw (get_or-take (end - from) (drop from xs) (v - from) 0 (omega arith), get_or-drop from xs (v - from) 0, at) at there,
    λ p. at-all part (λ v i.
        rw (get_or-take (end - from) (drop from xs) v 0 (omega (arith, long)), get_or-drop from xs v 0) (p (from + v) (omega arith) (omega (arith, long)))),
  )
    where
      part : List ℕ
      part = take (end - from) (drop from xs)

      long : length part ≡ end - from
      long = length-take-le (end - from) (drop from xs) (omega (arith, length-drop from xs))

  -- .. and at the numbers below n
  pub range-told : (n : ℕ) → TellsAll test 0 n (list_all test (range_with_len 0 n))
  range-told n = (
    λ e v i j. subst (λ w. test w ≡ true) (omega (arith, get_or-range_with_len 0 n v 0 j)) (all-at (range_with_len 0 n) e v (omega (arith, length-range_with_len 0 n))),
    λ p. at-all (range_with_len 0 n) (λ v i.
        let h : v < n = omega (arith, length-range_with_len 0 n) in
        subst (λ w. test w ≡ true) (omega (arith, get_or-range_with_len 0 n v 0 h)) (p v (omega arith) h)),
  )

  -- the places before mid pass, and from there on another test tells the same
  rest-told : (other : ℕ → Bool) (from mid end : ℕ) (r : Bool) → from ≤ mid → ((v : ℕ) → from ≤ v → v < mid → test v ≡ true)
      → ((v : ℕ) → mid ≤ v → v < end → other v ≡ test v) → TellsAll other mid end r → TellsAll test from end r
  rest-told other from mid end r h before same tells =
      (λ e v i j. place e v i j (dec_lt v mid), λ p. tells.1 (λ v i j. same v i j ∙ p v (omega arith) j))
    where
      place : r ≡ true → (v : ℕ) → from ≤ v → v < end → Dec (v < mid) → test v ≡ true
      place e v i j (yes l) = before v i l
      place e v i j (no l) = sym (same v (omega arith) j) ∙ tells.0 e v (omega arith) j

-- what std's `all` over 0..n tells
module _ (Yes No : ℕ → Type 0) (n : ℕ) (r : Bool) (told : MatchBool r (AllWithin Yes (range_with_len 0 n) 0 (length (range_with_len 0 n))) ((k : ℕ) × (k < length (range_with_len 0 n)) × HoldsAt No (range_with_len 0 n) k)) where
  abbrev Told : Bool → Type 0
  Told b = MatchBool b (AllWithin Yes (range_with_len 0 n) 0 (length (range_with_len 0 n))) ((k : ℕ) × (k < length (range_with_len 0 n)) × HoldsAt No (range_with_len 0 n) k)

  pub range-passes : r ≡ true → (k : ℕ) → k < n → Yes k
  range-passes e k h =
      let all : Told true = subst Told e told in
      subst Yes (omega (arith, get_or-range_with_len 0 n k 0 h)) (all k 0 (omega arith) (omega (arith, length-range_with_len 0 n)))

  pub range-fails : r ≡ false → (k : ℕ) × (k < n) × No k
  range-fails e =
      let one : Told false = subst Told e told in
      let h : one.0 < n = omega (arith, one.1, length-range_with_len 0 n) in
      (one.0, h, subst No (omega (arith, get_or-range_with_len 0 n one.0 0 h)) (one.2 0))

module _ (t : ℕ) (matrix : List ℕ) where
  pub byte-here : (a b : ℕ) → b < 64 → byte_at t matrix (64 * a + b) ≡ byte_fits t a b (get_or matrix (64 * a + b) 0)
  byte-here a b h =
      let p : (64 * a + b) / 64 ≡ a = omega arith in
      let q : (64 * a + b) % 64 ≡ b = omega arith in
      rw (p, q)

  -- a byte past t
  past : (v : ℕ) → (t < v / 64) ⊎ (t < v % 64) → zero_at matrix v ≡ byte_at t matrix v
  past v (inl h) = rw (lt-ltb t (v / 64) h)
  past v (inr h) = rw (lt-ltb t (v % 64) h) (go (ltb t (v / 64)))
    where
      go : (b : Bool) → zero_at matrix v ≡ pick b (zero_at matrix v) (zero_at matrix v)
      go true = refl
      go false = refl

  -- a row, where the bytes up to t fit
  pub row-told : (a : ℕ) (r : Bool) → t < 64 → ((v : ℕ) → 64 * a ≤ v → v < 64 * a + (t + 1) → byte_at t matrix v ≡ true)
      → TellsAll (zero_at matrix) (64 * a + (t + 1)) (64 * a + 64) r → TellsAll (byte_at t matrix) (64 * a) (64 * a + 64) r
  row-told a r h before zeros =
      rest-told (byte_at t matrix) (zero_at matrix) (64 * a) (64 * a + (t + 1)) (64 * a + 64) r (omega arith) before (λ v i j. past v (inr (omega arith))) zeros

  -- the test of a over b that needs no t is that of its bytes up to t, and tells of all of them
  pub row-tests : (a : ℕ) {r : Bool} → t < 64 → a ≤ t → r ≡ list_all (λ b. byte_fits (a + b) a b (get_or matrix (64 * a + b) 0)) (range_with_len 0 (t + 1))
      → TellsAll (λ b. byte_at t matrix (64 * a + b)) 0 (t + 1) r
  row-tests a few h e =
      rw e (rest-told (λ b. byte_at t matrix (64 * a + b)) (λ b. byte_fits (a + b) a b (get_or matrix (64 * a + b) 0)) 0 0 (t + 1) _ (omega arith)
      (λ v i j. absurd (omega arith)) same (range-told (λ b. byte_fits (a + b) a b (get_or matrix (64 * a + b) 0)) (t + 1)))
    where
      same : (b : ℕ) → 0 ≤ b → b < t + 1 → byte_fits (a + b) a b (get_or matrix (64 * a + b) 0) ≡ byte_at t matrix (64 * a + b)
      same b i j = rw (byte-here a b (omega arith), le-ltb t a h, le-ltb t b (omega arith), le-ltb (a + b) a (omega arith), le-ltb (a + b) b (omega arith))

  -- its bytes up to t fit, byte by byte
  pub row-fit : (a : ℕ) → ((b : ℕ) → b < t + 1 → byte_at t matrix (64 * a + b) ≡ true) → (v : ℕ) → 64 * a ≤ v → v < 64 * a + (t + 1) → byte_at t matrix v ≡ true
  row-fit a bytes v i j = subst (λ w. byte_at t matrix w ≡ true) (omega arith) (bytes (v - 64 * a) (omega arith))

  -- .. or not all of them
  pub row-lacks : (a : ℕ) (r : Bool) → t < 64 → TellsAll (λ b. byte_at t matrix (64 * a + b)) 0 (t + 1) r → r ≡ false → TellsAll (byte_at t matrix) (64 * a) (64 * a + 64) r
  row-lacks a r few tells e = (λ p. absurd (not-both r p e), λ all. tells.1 (λ b i j. all (64 * a + b) (omega arith) (omega arith)))

  -- ---- (b), every byte

  -- the rows before a fit, and a too
  pub rows_more : (a : ℕ) (r : Bool) → ((v : ℕ) → v < 64 * a → byte_at t matrix v ≡ true) → TellsAll (byte_at t matrix) (64 * a) (64 * a + 64) r → r ≡ true
      → (v : ℕ) → v < 64 * (a + 1) → byte_at t matrix v ≡ true
  rows_more a r before tells e v h = go (dec_lt v (64 * a))
    where
      go : Dec (v < 64 * a) → byte_at t matrix v ≡ true
      go (yes l) = before v l
      go (no l) = tells.0 e v (omega arith) (omega arith)

  -- every row before the n-th fits
  pub rows-fit : (n : ℕ) → ((a : ℕ) → a < n → TellsAll (byte_at t matrix) (64 * a) (64 * a + 64) true) → (v : ℕ) → v < 64 * n → byte_at t matrix v ≡ true
  rows-fit zero rows v h = absurd (omega arith)
  rows-fit (suc n) rows v h = rows_more n true (rows-fit n (λ a i. rows a (omega arith))) (rows n (omega arith)) refl v (omega arith)

  pub short-fails : length matrix < 4096 → rule_b t matrix ≡ false
  short-fails h = ap (λ (b : Bool). pick b (all (byte_at t matrix) (up_to 4096)) false) (lt-leb 4096 (length matrix) h)

  -- a part of them that does not fit
  pub part-fails : (from end : ℕ) (r : Bool) → end ≤ 4096 → TellsAll (byte_at t matrix) from end r → r ≡ false → rule_b t matrix ≡ false
  part-fails from end r h tells e = false-unless (rule_b t matrix) (λ p. not-both r (tells.1 (λ v i j. byte-fits t matrix p v (omega arith))) e)

  -- all of them, where the rows up to t fit
  pub whole-told : (a : ℕ) (r : Bool) → 4096 ≤ length matrix → t < a → ((v : ℕ) → v < 64 * a → byte_at t matrix v ≡ true)
      → TellsAll (zero_at matrix) (64 * a) 4096 r → r ≡ rule_b t matrix
  whole-told a r long h before zeros =
      let tells = rest-told (byte_at t matrix) (zero_at matrix) 0 (64 * a) 4096 r (omega arith) (λ v i j. before v j) (λ v i j. past v (inl (omega arith))) zeros in
      same_test r (rule_b t matrix)
      (λ e. both-pick (leb 4096 (length matrix)) (all (byte_at t matrix) (up_to 4096)) (le-leb 4096 (length matrix) long)
      (each-bytes (byte_at t matrix) 4096 (λ v j. tells.0 e v (omega arith) j)))
      (λ e. tells.1 (λ v i j. byte-fits t matrix e v j))
