-- Rows of masks: the bits of a row that gains a mask, how many ones the rows have in all, and a mask whose high bits are clear.
-- Document 01, "Sets and matrix": the left and right sets are masks, bit t for terminal t; a pass that changes one of them adds
-- a member, so that passes come to an end.
-- Rests on laws' Masks.
--
-- Main definitions: gains, total. Main statements: gains-bit, none-bit, union_more, gains-grows, total-most, mask_low, one_shifted.
use Rattle.std.specs.Prelude.{◌≡◌, refl, ◌⊎◌, Bool, true, false, ◌&&◌, ◌||◌, List, [], ◌∷◌, ℕ, zero, suc, ◌+◌, ◌*◌, ◌%◌, ◌^◌, ◌≤◌, ◌<◌, eqb, length, get_or, set, replicate}
use Rattle.std.proofs.Common.{sym, ap, ◌∙◌, inl, inr, arith, suc-mul, lt_of_lt_of_le, one-mul, mod-eq_of_lt, add-one, get_or-set_same, get_or-set_other, pow_mono}
use Rattle.std.proofs.Math.Bool.{or-false, or-true}
use Rattle.std.proofs.Math.Decide.{dec_lt, ℕ_discrete}
use Rattle.std.specs.Int.Bits.{bit_or}
use Rattle.std.specs.Int.Count.{ones}
use Rattle.std.proofs.lemmas.Nat.{ones-le}
use Rattle.std.proofs.Math.Pow.{pow-lt}
use Rattle.laws.specs.Tests.{eq-eqb, ne_eqb, lt-ltb, le-ltb, any_below}
use Rattle.laws.specs.Masks.{bit, bit-zero, mask_of, mask_of-lt, bit-mask_of, mask-ext, bit-or, below-pow, union-grows}

-- row i gains the members of m
abbrev pub gains : List ℕ → ℕ → ℕ → List ℕ
gains rows i m = set rows i (bit_or (get_or rows i 0) m)

pub gains-bit : (rows : List ℕ) (i m x t : ℕ) → i < length rows → bit (get_or (gains rows i m) x 0) t ≡ (bit (get_or rows x 0) t || (eqb x i && bit m t))
gains-bit rows i m x t h = go (ℕ_discrete x i)
  where
    go : Dec (x ≡ i) → bit (get_or (gains rows i m) x 0) t ≡ (bit (get_or rows x 0) t || (eqb x i && bit m t))
    go (yes e) = rw (e, get_or-set_same rows i (bit_or (get_or rows i 0) m) 0 h, eq-eqb i i refl) (bit-or (get_or rows i 0) m t)
    go (no n) = rw (get_or-set_other rows i x (bit_or (get_or rows i 0) m) 0 n, ne_eqb x i n) (sym (or-false (bit (get_or rows x 0) t)))

-- rows of zeros have no member
pub none-bit : (n x t : ℕ) → bit (get_or (replicate n 0) x 0) t ≡ false
none-bit n x t = ap (λ (m : ℕ). bit m t) (none n x) ∙ bit-zero t
  where
    none : (n x : ℕ) → ◌≡◌ {A = ℕ} (get_or (replicate n 0) x 0) 0
    none zero x = refl
    none (suc n) zero = refl
    none (suc n) (suc x) = none n x

-- the union of the first rows, one more
pub union_more : (rows : List ℕ) (all n : ℕ) → ((t : ℕ) → bit all t ≡ any_below (λ x. bit (get_or rows x 0) t) n)
    → (t : ℕ) → bit (bit_or all (get_or rows n 0)) t ≡ any_below (λ x. bit (get_or rows x 0) t) (n + 1)
union_more rows all n h t = bit-or all (get_or rows n 0) t ∙ rw (h t, add-one n) (go (bit (get_or rows n 0) t))
  where
    go : (b : Bool) → ◌≡◌ {A = Bool} (any_below (λ x. bit (get_or rows x 0) t) n || b) (elim b [ true ↦ true | false ↦ any_below (λ x. bit (get_or rows x 0) t) n ])
    go true = or-true (any_below (λ x. bit (get_or rows x 0) t) n)
    go false = or-false (any_below (λ x. bit (get_or rows x 0) t) n)

-- the ones of all rows
abbrev pub total : List ℕ → ℕ
total [] = 0
total (m ∷ rows) = ones m + total rows

total-set : (rows : List ℕ) (i v : ℕ) → i < length rows → total (set rows i v) + ones (get_or rows i 0) ≡ total rows + ones v
total-set [] i v h = absurd (omega arith)
total-set (m ∷ rows) zero v h = omega arith
total-set (m ∷ rows) (suc i) v h = omega (arith, total-set rows i v (omega arith))

-- a row that gains is as it was, or there are more ones
pub gains-grows : (rows : List ℕ) (i m : ℕ) → i < length rows → (bit_or (get_or rows i 0) m ≡ get_or rows i 0) ⊎ (total rows < total (gains rows i m))
gains-grows rows i m h = go (union-grows (get_or rows i 0) m)
  where
    go : (bit_or (get_or rows i 0) m ≡ get_or rows i 0) ⊎ (ones (get_or rows i 0) < ones (bit_or (get_or rows i 0) m))
        → (bit_or (get_or rows i 0) m ≡ get_or rows i 0) ⊎ (total rows < total (gains rows i m))
    go (inl e) = inl e
    go (inr l) = inr (omega (arith, total-set rows i (bit_or (get_or rows i 0) m) h))

-- rows of a width have no more ones than there is room for
pub total-most : (k : ℕ) (rows : List ℕ) → ((x : ℕ) → get_or rows x 0 < 2 ^ k) → total rows ≤ length rows * k
total-most k [] h = omega arith
total-most k (m ∷ rows) h = omega (arith, ones-le k m (h 0), total-most k rows (λ x. h (suc x)), suc-mul (length rows) k)

-- a mask with no member at k or above is below 2 ^ k
pub mask_low : (k m : ℕ) → ((t : ℕ) → k ≤ t → bit m t ≡ false) → m < 2 ^ k
mask_low k m h =
    let e : m ≡ mask_of (bit m) k = mask-ext (m + k) m (mask_of (bit m) k) (lt_of_lt_of_le (below-pow m) (pow_mono (omega arith)))
    (lt_of_lt_of_le (mask_of-lt (bit m) k) (pow_mono (omega arith))) (λ t l. same t (dec_lt t k)) in
    rw e (mask_of-lt (bit m) k)
  where
    same : (t : ℕ) → Dec (t < k) → bit m t ≡ bit (mask_of (bit m) k) t
    same t (yes l) = sym (bit-mask_of (bit m) k t ∙ rw (lt-ltb t k l))
    same t (no l) = h t (omega arith) ∙ sym (bit-mask_of (bit m) k t ∙ rw (le-ltb t k (omega arith)))

-- the mask of one member, as code shifts it
pub one_shifted : (t : ℕ) → t < 64 → 1 * 2 ^ t % 2 ^ 64 ≡ 2 ^ t
one_shifted t h = rw (one-mul (2 ^ t)) (mod-eq_of_lt {n = 2 ^ t} {m = 2 ^ 64} (pow-lt h))
