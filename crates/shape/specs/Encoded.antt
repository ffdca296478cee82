-- Where each part of a state's words stands in an area that begins with them and goes on with any others.
-- docs/AREA.md, the layout: front, table, slots, reductions.
-- Rests on layout's Layout and Lengths.
--
-- Main definitions: slots_from, area. Main statements: slots-past; area_is; tokens-at, chunks-at, moves-at, count_at (the front); table-at,
-- slots-at, unused-slots-at, made_at, unused-made-at, rest_at.
use Rattle.std.specs.Prelude.{◌≡◌, ℕ, ◌+◌, ◌*◌, ◌-◌, ◌%◌, ◌≤◌, length, get_or, drop}
use Rattle.std.proofs.Math.Path.{refl}
use Rattle.std.proofs.Common.{ap, zero-add}
use mathlib.Core.List.{List, ◌++◌, append_assoc}
use native.Mathlib.Omega.{arith}
use Rattle.std.proofs.lemmas.List.{length-replicate}
use Rattle.laws.specs.Parts.{drop_past}
use Rattle.language.specs.Trees.{Span}
use Rattle.language.specs.Reports.{report_words}
use Rattle.machine.specs.States.{State}
use Rattle.layout.specs.Layout.{need, front, rows, slots, total, zeros, encode, slots_at, made_at_word, moves_in}
use Rattle.layout.specs.Lengths.{length-rows, length-slots, length-report, parts-length}

-- the words from slot s on
abbrev pub slots_from : List ℕ → ℕ → List ℕ
slots_from words s = drop (slots_at words + 4 * s) words

-- .. and from k slots further on
pub slots-past : (words : List ℕ) (s k : ℕ) (p q : List ℕ) → length p ≡ 4 * k → slots_from words s ≡ p ++ q → slots_from words (s + k) ≡ q
slots-past words s k p q l d = drop_past words (slots_at words + 4 * s) (slots_at words + 4 * (s + k)) p q (omega arith) d

module _ (n : ℕ) (s : State Span) (rest : List ℕ) where
  abbrev pub area : List ℕ
  area = encode n s ++ rest

  -- the words from each part on
  abbrev pub from_unused_made : List ℕ
  from_unused_made = zeros (3 * (n - length s.reductions)) ++ rest

  abbrev pub from_made : List ℕ
  from_made = report_words s.reductions ++ from_unused_made

  abbrev pub from_unused_slots : List ℕ
  from_unused_slots = zeros (4 * (n + 2 - total s.chunks)) ++ from_made

  abbrev pub from_slots : List ℕ
  from_slots = slots s.chunks ++ from_unused_slots

  pub area_is : area ≡ front n (length s.chunks) s.moves (length s.reductions) ++ (rows 0 s.chunks ++ from_slots)
  unfolding encode
  area_is = simp append_assoc

  pub tokens-at : get_or area 0 0 ≡ n
  unfolding encode
  tokens-at = refl

  pub chunks-at : get_or area 1 0 ≡ length s.chunks
  unfolding encode
  chunks-at = refl

  pub moves-at : moves_in area ≡ s.moves
  unfolding encode
  moves-at = omega arith

  pub low-moves-at : get_or area 2 0 ≡ s.moves % 65536
  unfolding encode
  low-moves-at = refl

  pub count_at : get_or area 4 0 ≡ length s.reductions
  unfolding encode
  count_at = refl

  pub table-at : drop 5 area ≡ rows 0 s.chunks ++ from_slots
  table-at = ap (λ l. drop 5 l) area_is

  pub slots_at-is : slots_at area ≡ 5 + 5 * length s.chunks
  slots_at-is = ap (λ k. 5 + 5 * k) chunks-at

  pub slots-at : slots_from area 0 ≡ from_slots
  slots-at = drop_past area 5 (slots_at area + 4 * 0) (rows 0 s.chunks) from_slots (omega (arith, slots_at-is, length-rows 0 s.chunks)) table-at

  pub unused-slots-at : slots_from area (total s.chunks) ≡ from_unused_slots
  unused-slots-at = rw zero-add at (slots-past area 0 (total s.chunks) (slots s.chunks) from_unused_slots (length-slots s.chunks) slots-at)

  module _ (few : total s.chunks ≤ n + 2) where
    pub made_at : drop (made_at_word area) area ≡ from_made
    made_at =
        drop_past area (slots_at area + 4 * total s.chunks) (made_at_word area) (zeros (4 * (n + 2 - total s.chunks))) from_made
        (omega (arith, tokens-at, length-replicate {A = ℕ} (4 * (n + 2 - total s.chunks)) 0)) unused-slots-at

    pub unused-made-at : drop (made_at_word area + 3 * length s.reductions) area ≡ from_unused_made
    unused-made-at =
        drop_past area (made_at_word area) (made_at_word area + 3 * length s.reductions) (report_words s.reductions) from_unused_made
        (omega (arith, length-report s.reductions)) made_at

    pub rest_at : length s.reductions ≤ n → drop (need n (length s.chunks)) area ≡ rest
    rest_at m = drop_past area 0 (need n (length s.chunks)) (encode n s) rest (omega (arith, parts-length n s few m)) refl
