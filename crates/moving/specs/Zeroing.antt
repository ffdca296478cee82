-- Words put to 0 one after the other: where that has come to, and where it stands for the stores of a move.
-- Rests on MoveWords.
--
-- Main statements: zeroed-none (it begins), zeroed-next (one word more); ended-zeroed, one-zeroed (the words of a last move and of a join).
use Rattle.std.specs.Prelude.{◌≡◌, refl, get_or}
use Rattle.std.proofs.Common.{sym, ◌∙◌, length-set, length-append, take-append-drop, drop-cons}
use Rattle.std.proofs.Math.Path.{ap}
use mathlib.Core.List.{List, ◌∷◌, ◌++◌, append_assoc}
use Prim.Native.Nat.{ℕ, zero, suc, ◌+◌, ◌*◌, ◌-◌, ◌<◌, ◌≤◌}
use native.Mathlib.Omega.{arith}
use Rattle.std.proofs.Math.ListN.{length, take, drop, set, length-take}
use Rattle.std.proofs.lemmas.List.{length-replicate}
use Rattle.std.proofs.Math.Seq.{set_at}
use Rattle.layout.specs.Layout.{zeros, table_at}
use Rattle.moving.specs.BlockWords.{zeros-snoc}
use Rattle.moving.specs.MoveWords.{from_of, head_of, end_of, slot_at, cleared_words, ended_words, unmark_words, gone_words, one_words, Acceptable, Joinable}

module _ (area : List ℕ) (i : ℕ) where
  pub zeroed-none : area ≡ cleared_words area i 0
  unfolding cleared_words
  zeroed-none = let e : i + 0 ≡ i = omega arith in rw e (sym (take-append-drop i area))

  pub zeroed-next : (k : ℕ) → i + k < length area → set (cleared_words area i k) (i + k) 0 ≡ cleared_words area i (k + 1)
  unfolding cleared_words
  zeroed-next k h =
      let rest : List ℕ = drop (suc (i + k)) area in
      let long : length (take i area ++ zeros k) ≡ i + k = simp (length-append, length-take, length-replicate) (omega arith) in
      let e : suc (i + k) ≡ i + (k + 1) = omega arith in
      let z : suc k ≡ k + 1 = omega arith in
      ap (λ (l : List ℕ). set (take i area ++ (zeros k ++ l)) (i + k) 0) (drop-cons area (i + k) 0 h)
      ∙ ap (λ (l : List ℕ). set l (i + k) 0) (sym (append_assoc (take i area) (zeros k) (get_or area (i + k) 0 ∷ rest)))
      ∙ set_at (take i area ++ zeros k) (get_or area (i + k) 0) rest 0 (i + k) long
      ∙ append_assoc (take i area) (zeros k) (0 ∷ rest)
      ∙ ap (λ (l : List ℕ). take i area ++ l) (zeros-snoc k rest)
      ∙ ap (λ (j : ℕ). take i area ++ (zeros (suc k) ++ drop j area)) e
      ∙ ap (λ (j : ℕ). take i area ++ (zeros j ++ drop (i + (k + 1)) area)) z

  four : i + 4 ≤ length area → set (set (set (set area (i + 0) 0) (i + 1) 0) (i + 2) 0) (i + 3) 0 ≡ cleared_words area i 4
  four h =
      ap (λ (l : List ℕ). set (set (set (set l (i + 0) 0) (i + 1) 0) (i + 2) 0) (i + 3) 0) zeroed-none
      ∙ ap (λ (l : List ℕ). set (set (set l (i + 1) 0) (i + 2) 0) (i + 3) 0) (zeroed-next 0 (omega arith))
      ∙ ap (λ (l : List ℕ). set (set l (i + 2) 0) (i + 3) 0) (zeroed-next 1 (omega arith))
      ∙ ap (λ (l : List ℕ). set l (i + 3) 0) (zeroed-next 2 (omega arith)) ∙ zeroed-next 3 (omega arith)

  five : i + 5 ≤ length area → set (set (set (set (set area (i + 0) 0) (i + 1) 0) (i + 2) 0) (i + 3) 0) (i + 4) 0 ≡ cleared_words area i 5
  five h = ap (λ (l : List ℕ). set l (i + 4) 0) (four (omega arith)) ∙ zeroed-next 4 (omega arith)

-- the last move: four words of a slot
pub ended-zeroed : (area : List ℕ) (c : ℕ) → Acceptable area c
    → set (cleared_words area (slot_at area (end_of area c - 1)) 4) (table_at c 3) (end_of area c - 1) ≡ ended_words area c
unfolding ended_words
ended-zeroed area c h =
    ap (λ (l : List ℕ). set l (table_at c 3) (end_of area c - 1)) (sym (four area (slot_at area (end_of area c - 1)) (omega (arith, h.some, h.room))))

unmark-length : (area : List ℕ) (at count : ℕ) → length (unmark_words area at count) ≡ length area
unmark-length area at zero = refl
unmark-length area at (suc count) = unmark-length (set area at 0) (at + 4) count ∙ simp length-set

-- the join: the five words of a row of the table
pub one-zeroed : (area : List ℕ) (c d : ℕ) → Joinable area c d
    → cleared_words (set (unmark_words area (slot_at area (from_of area d) + 1) (head_of area d - from_of area d)) (table_at c 3) (end_of area d)) (5 + 5 * d) 5 ≡ one_words area c d
unfolding one_words gone_words
one-zeroed area c d h =
    let l = unmark-length area (slot_at area (from_of area d) + 1) (head_of area d - from_of area d) in
    sym (five _ (5 + 5 * d) (simp length-set (omega (arith, l, h.right, h.room))))
