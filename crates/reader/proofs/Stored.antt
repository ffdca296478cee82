-- A part of the area stored as a whole: what it leaves is what stores of its words leave, one after the other.
-- Rests on nothing.
--
-- Main statement: filled-three (three words filled with zeros).
use Rattle.std.specs.Prelude.{◌≡◌, List, [], ◌∷◌, ℕ, suc, ◌+◌, ◌-◌, ◌≤◌, length, take, drop, set}
use Rattle.std.proofs.Common.{refl, sym, ◌∙◌, append_assoc, drop-drop, length-drop, length-take-le, replicate, arith}
use Rattle.std.proofs.lemmas.List.Edits.{sets, sets-eq}
use borrow.Rule.Slice.PartMut.{put_mid}

module _ (area : List ℕ) (at : ℕ) where
  stored : (k : ℕ) (part : List ℕ) → length part ≡ k → at + k ≤ length area → put_mid at (at + k - at) area part ≡ sets area at part
  stored k part e h =
      let size : at + k - at ≡ k = omega arith in
      let rest : drop k (drop at area) ≡ drop (at + length part) area = rw (e, drop-drop k at area) in
      rw size (sym (sets-eq part area at (omega (arith, e, h)) ∙ rw (rest, append_assoc (take at area) part (drop (at + length part) area))))

  one : at + 1 ≡ suc at
  one = omega arith

  two : at + 2 ≡ suc (suc at)
  two = omega arith

  stored-three : (a b c : ℕ) → at + 3 ≤ length area → put_mid at (at + 3 - at) area (a ∷ b ∷ c ∷ []) ≡ set (set (set area at a) (at + 1) b) (at + 2) c
  stored-three a b c h = stored 3 (a ∷ b ∷ c ∷ []) refl h ∙ rw (one, two) refl

  pub filled-three : (part : List ℕ) → at + 3 ≤ length area → part ≡ replicate (length (take (at + 3 - at) (drop at area))) 0
      → put_mid at (at + 3 - at) area part ≡ set (set (set area at 0) (at + 1) 0) (at + 2) 0
  filled-three part h e =
      let size : at + 3 - at ≡ 3 = omega arith in
      let long : length (take 3 (drop at area)) ≡ 3 = length-take-le 3 (drop at area) (omega (arith, length-drop at area, h)) in
      let zeros : part ≡ 0 ∷ 0 ∷ 0 ∷ [] = rw long at (rw size at e) in
      rw zeros (stored-three 0 0 0 h)
