-- The search for a handle's rule, on words: the right sides in the grammar words against the symbol words of the handle's blocks, where
-- both stand.
-- Document 01, "Moves of a chunk", 5: "If a rule has this right side, replace it by the left side of the least such rule".
-- Rests on layout's Layout, on language's Words and laws' Least.
--
-- Main definitions: symbol_words, handle_words, match_words; Readable, Whole (what the search asks).
-- Main statements: whole_le, handle-none, handle-cons (the walk up the blocks, step by step).
use Rattle.std.specs.Prelude.{◌≡◌, Bool, true, false, ◌&&◌, eqb, ltb, length}
use Rattle.std.proofs.Math.Path.{refl, ap}
use Rattle.std.proofs.Common.{sym, ◌∙◌, arith}
use mathlib.Core.List.{List, [], ◌∷◌}
use Rattle.std.proofs.Math.Option.{Option}
use Prim.Native.Nat.{ℕ, zero, suc, ◌+◌, ◌-◌, ◌<◌, ◌≤◌}
use Rattle.laws.specs.Least.{first_below}
use Rattle.laws.specs.Tests.{lt-ltb, le-ltb}
use Rattle.language.specs.Words.{count_r, entry, right_words}
use Rattle.layout.specs.Layout.{slot_word}

-- the symbol words of the blocks on the slots from s up to e, bottom first; at most `fuel` blocks
abbrev pub symbol_words : ℕ → List ℕ → ℕ → ℕ → List ℕ
symbol_words zero area s e = []
symbol_words (suc fuel) area s e =
    elim (ltb s e) [ true ↦ slot_word area s 0 ∷ symbol_words fuel area (s + slot_word area s 2) e | false ↦ [] ]

-- the handle on the slots from s up to e: no more blocks than slots
unfoldable pub handle_words : List ℕ → ℕ → ℕ → List ℕ
handle_words area s e = symbol_words (e - s) area s e

abbrev pub same_words : List ℕ → List ℕ → Bool
same_words [] [] = true
same_words [] (y ∷ w) = false
same_words (x ∷ v) [] = false
same_words (x ∷ v) (y ∷ w) = eqb x y && same_words v w

-- rule r has this right side
abbrev pub has_right : List ℕ → List ℕ → ℕ → Bool
has_right words handle r = same_words (right_words words r) handle

-- the least rule that has this right side
unfoldable pub match_words : List ℕ → List ℕ → Option ℕ
match_words words handle = first_below (has_right words handle) (count_r words)

-- the contents are there, of one rule at least, and every body starts within the run
pub record Readable (words : List ℕ) : Type 0 where
  pub some_rule : 0 < count_r words
  pub long : 4 + count_r words ≤ length words
  pub within : (r : ℕ) → r < count_r words → entry words r ≤ length words

-- the slots from s up to e are whole blocks
pub data Whole (area : List ℕ) (e : ℕ) : ℕ → Type 0 where
  no_block : {s : ℕ} → s ≡ e → Whole area e s
  a_block : {s : ℕ} → 0 < slot_word area s 2 → Whole area e (s + slot_word area s 2) → Whole area e s

-- ---- the walk up the blocks

pub handle-none : (area : List ℕ) (s e : ℕ) → e ≤ s → handle_words area s e ≡ []
unfolding handle_words
handle-none area s e l = let q : e - s ≡ 0 = omega arith in rw q

module _ {area : List ℕ} {e : ℕ} where
  pub whole_le : {s : ℕ} → Whole area e s → s ≤ e
  whole_le (no_block q) = omega arith
  whole_le (a_block h w) = omega (arith, whole_le w)

  -- there is fuel enough
  walked : {s : ℕ} → Whole area e s → List ℕ
  walked (no_block q) = []
  walked (a_block {s = s} h w) = slot_word area s 0 ∷ walked w

  enough : (fuel : ℕ) {s : ℕ} (w : Whole area e s) → e - s ≤ fuel → symbol_words fuel area s e ≡ walked w
  unfolding walked
  enough zero (no_block q) l = refl
  enough zero (a_block h w) l = absurd (omega (arith, whole_le w))
  enough (suc fuel) (no_block {s = s} q) l = rw (symbol_words, le-ltb s e (omega arith))
  enough (suc fuel) (a_block {s = s} h w) l =
      let k : s < e = omega (arith, whole_le w) in
      rw (symbol_words, lt-ltb s e k) (ap (λ (v : List ℕ). slot_word area s 0 ∷ v) (enough fuel w (omega arith)))

  pub handle-cons : {s : ℕ} → Whole area e s → s < e → handle_words area s e ≡ slot_word area s 0 ∷ handle_words area (s + slot_word area s 2) e
  unfolding handle_words walked
  handle-cons (no_block q) l = absurd (omega arith)
  handle-cons (a_block {s = s} h w) l =
      enough (e - s) (a_block h w) (omega arith)
      ∙ ap (λ (v : List ℕ). slot_word area s 0 ∷ v) (sym (enough (e - (s + slot_word area s 2)) w (omega arith)))

  -- a block is passed
  pub whole-rest : {s : ℕ} → Whole area e s → s < e → Whole area e (s + slot_word area s 2)
  whole-rest (no_block q) l = absurd (omega arith)
  whole-rest (a_block h w) l = w
