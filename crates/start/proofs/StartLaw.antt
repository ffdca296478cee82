-- Words stored one after another: what is still to be stored after the slots, after one word more; and the whole of a start in the
-- order of its parts.
-- Rests on Start, StartWords and StartChecks.
--
-- Main statements: slots-first, slots-last (where the slots begin and end), none-found, part-stored, zeros-stored, slots-stored, start-stored; area_kept, area-started (what start leaves).
use Rattle.std.proofs.Common.{Bool, true, not, position, drop-drop, append_assoc, take, replicate, length-drop, length-take-le, ◌≡◌, sym, ap, ◌∙◌, List, ◌++◌, ℕ, ◌+◌, ◌*◌, ◌-◌, ◌≤◌, ◌<◌, length, drop, drop_of_length-le, arith}
use Rattle.std.specs.Prelude.{None, Ok, Err}
use Rattle.std.specs.List.{list_all, position_or_len}
use Rattle.std.proofs.lemmas.List.Folds.{list_all_at}
use Rattle.std.proofs.lemmas.List.{length-replicate}
use Rattle.std.proofs.lemmas.List.Sums.{passes_at_first}
use Rattle.std.proofs.Math.Decide.{dec_lt}
use Rattle.laws.specs.Tests.{not-both, le-ltb}
use Rattle.std.proofs.Math.Numerals.{add-four}
use Rattle.std.proofs.lemmas.List.Edits.{sets, sets-eq}
use borrow.Rule.Slice.PartMut.{put_mid}
use Rattle.laws.specs.Parts.{sets-append}
use Rattle.refusals.specs.declared.Refusal.{Refusal}
use Rattle.layout.specs.Layout.{need, zeros}
use Rattle.start.specs.Start.{start_answer, started_area, start_area}
use Rattle.start.specs.StartWords.{start_front, start_rows, start_slot, unread_slots, start_slots, start_words, length-start-rows, length-start-slots}
use Rattle.start.specs.StartWords.{start-words, start-words-length}
use Rattle.start.specs.StartChecks.{writable, right_cuts}

pub slots-last : (area tokens : List ℕ) (at i : ℕ) → length tokens ≤ i → sets area at (unread_slots (drop i tokens)) ≡ sets area at (start_slot 0)
slots-last area tokens at i h = rw (drop_of_length-le tokens {i = i} h)

pub slots-first : (area tokens : List ℕ) (base : ℕ) → sets (sets area base (start_slot 0)) (base + 4) (unread_slots tokens) ≡ sets area base (start_slots tokens)
slots-first area tokens base = rw (add-four base)

-- a search of elements that all fail the test
pub none-found : (test : ℕ → Bool) (xs : List ℕ) → list_all (λ x. not (test x)) xs ≡ true → None ≡ position test xs
none-found test xs e = go (dec_lt (position_or_len test xs) (length xs))
  where
    go : Dec (position_or_len test xs < length xs) → None ≡ position test xs
    go (yes h) = absurd (not-both (list_all (λ x. not (test x)) xs) e (list_all_at (λ x. not (test x)) xs (position_or_len test xs) 0 h (ap not (passes_at_first test xs 0 h))))
    go (no h) = rw (le-ltb (position_or_len test xs) (length xs) (omega arith))

-- a part of the area, stored as a whole
pub part-stored : (area part : List ℕ) (at k : ℕ) → length part ≡ k → at + k ≤ length area → put_mid at k area part ≡ sets area at part
part-stored area part at k e h =
    let d : drop k (drop at area) ≡ drop (at + length part) area = rw (e, drop-drop k at area) in
    sym (sets-eq part area at (omega (arith, e)) ∙ rw (d, append_assoc (take at area) part (drop (at + length part) area)))

-- a part of the area that is filled with zeros
pub zeros-stored : (area part : List ℕ) (at count : ℕ) → at + count ≤ length area → part ≡ replicate (length (take (at + count - at) (drop at area))) 0
    → put_mid at (at + count - at) area part ≡ sets area at (zeros count)
zeros-stored area part at count h e =
    let k : at + count - at ≡ count = omega arith in
    let l : length (take count (drop at area)) ≡ count = length-take-le count (drop at area) (omega (arith, length-drop at area)) in
    let f : part ≡ zeros count = rw l at (rw k at e) in
    rw (k, f) (part-stored area (zeros count) at count (length-replicate count 0) h)

-- the slots and then the zeros, one after the other
pub slots-stored : (area tokens : List ℕ) (base made : ℕ) → made ≡ base + 4 * (length tokens + 2)
    → sets (sets area base (start_slots tokens)) made (zeros (3 * length tokens)) ≡ sets area base (start_slots tokens ++ zeros (3 * length tokens))
slots-stored area tokens base made e =
    let m : made ≡ base + length (start_slots tokens) = omega (arith, length-start-slots tokens) in
    sym (sets-append area base (start_slots tokens) (zeros (3 * length tokens)) ∙ ap (λ k. sets (sets area base (start_slots tokens)) k (zeros (3 * length tokens))) (sym m))

-- ---- the whole

-- the front, the table, and the slots with the reductions, one after the other
pub start-stored : (area tokens cuts : List ℕ)
    → sets (sets (sets area 0 (start_front (length tokens) (length cuts + 1))) 5 (start_rows (length tokens) 0 1 cuts)) (5 + 5 * (length cuts + 1))
    (start_slots tokens ++ zeros (3 * length tokens))
    ≡ sets area 0 (start_words tokens cuts)
unfolding start_words
start-stored area tokens cuts =
    let front : List ℕ = start_front (length tokens) (length cuts + 1) in
    let table : List ℕ = start_rows (length tokens) 0 1 cuts in
    let rest : List ℕ = start_slots tokens ++ zeros (3 * length tokens) in
    let a : 5 + 5 * (length cuts + 1) ≡ 5 + length table = omega (arith, length-start-rows (length tokens) 0 1 cuts) in
    sym (sets-append (sets area 0 front) 5 table rest ∙ ap (λ k. sets (sets (sets area 0 front) 5 table) k rest) (sym a))

module _ (words matrix tokens cuts area : List ℕ) where
  -- a refusal leaves the area as it was
  pub area_kept : (refusal : Refusal) → Err refusal ≡ start_answer words matrix tokens cuts (length area) → area ≡ start_area words matrix tokens cuts area
  unfolding start_area
  area_kept refusal e = ap (λ answer. started_area answer tokens cuts area) e

  -- a row that starts leaves the words of the machine's start, and what stood beyond
  pub area-started : Ok tt ≡ start_answer words matrix tokens cuts (length area) → sets area 0 (start_words tokens cuts) ≡ start_area words matrix tokens cuts area
  unfolding start_area
  area-started e =
      let l = start-words-length tokens cuts in
      let room = (writable words matrix tokens cuts (length area) (sym e)).enough in
      let all : 0 + length (start_words tokens cuts) ≡ need (length tokens) (length cuts + 1) = omega arith in
      sets-eq (start_words tokens cuts) area 0 (omega arith)
      ∙ rw (all, start-words tokens cuts (right_cuts words matrix tokens cuts (length area) (sym e))) (ap (λ answer. started_area answer tokens cuts area) e)
