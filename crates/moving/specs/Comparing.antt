-- A rule's right side compared with a handle, word by word, from word i of it and slot s of the area on.
-- Rests on MatchWords and on words' Laid.
--
-- Main statements: body-next, body-last (where a right side ends); part-slice (its words); count_fits (a handle has no more symbols than slots); same_length (a right
-- side of another length), same-there, same-past, same-differ (the next word and the next block), same-both (both end); same-there-at, counts-on-at,
-- same-past-at, same-differ-at, same-both-at (the same of words i up to `end` of the grammar).
use Rattle.std.specs.Prelude.{ℕ, suc, ◌+◌, ◌-◌, ◌<◌, ◌≤◌, ◌≡◌, refl, Bool, true, false, ◌&&◌, List, [], ◌∷◌, eqb, length, get_or, take, drop}
use Rattle.std.proofs.Common.{sym, ap, ◌∙◌, arith, add-one, drop_of_length-le, drop-cons, length-take, length-drop}
use Rattle.std.proofs.Math.Seq.{slice}
use Rattle.std.proofs.lemmas.List.{drop-take, get_or-take, length-take-le}
use Rattle.laws.specs.Tests.{eq-eqb, ne_eqb}
use Rattle.language.specs.Words.{count_r, entry, body_end}
use Rattle.words.specs.Laid.{ends_next, ends_last}
use Rattle.layout.specs.Layout.{slot_word}
use Rattle.moving.specs.MatchWords.{handle_words, same_words, Whole, no_block, a_block, handle-none, handle-cons, whole_le}

-- where a rule's body ends
pub body-next : (words : List ℕ) (r : ℕ) → r + 1 < count_r words → body_end words r ≡ entry words (r + 1)
body-next words r h = ends_next words r (omega arith) ∙ rw (add-one r)

pub body-last : (words : List ℕ) (r : ℕ) → count_r words ≤ r + 1 → body_end words r ≡ length words
body-last words r h = ends_last words r (omega arith)

and-false : (b : Bool) → (b && false) ≡ false
and-false true = refl
and-false false = refl

-- the part of the words that a right side is
pub part-slice : (words : List ℕ) (i end : ℕ) → i ≤ end → take (end - i) (drop i words) ≡ slice i end words
part-slice words i end h = let e : i + (end - i) ≡ end = omega arith in sym (drop-take i (end - i) words) ∙ rw e

-- lists of different lengths differ
unlike : (v w : List ℕ) → (length v ≡ length w → ⊥) → same_words v w ≡ false
unlike [] [] d = absurd (d refl)
unlike [] (y ∷ w) d = refl
unlike (x ∷ v) [] d = refl
unlike (x ∷ v) (y ∷ w) d = rw (unlike v w (λ e. d (ap suc e))) (and-false (eqb x y))

module _ {area : List ℕ} {head s : ℕ} (w : Whole area head s) where
  -- the symbols left to count
  count-more : s < head → length (handle_words area s head) ≡ length (handle_words area (s + slot_word area s 2) head) + 1
  count-more l = rw (handle-cons w l, add-one (length (handle_words area (s + slot_word area s 2) head)))

count_none : (area : List ℕ) (s head : ℕ) → head ≤ s → length (handle_words area s head) ≡ 0
count_none area s head l = rw (handle-none area s head l)

count-some : {area : List ℕ} {head s : ℕ} → Whole area head s → 0 < length (handle_words area s head) → s < head
count-some {area} {head} (no_block {s = s} q) l = absurd (omega (arith, count_none area s head (omega arith)))
count-some (a_block h w) l = omega (arith, whole_le w)

count-end : {area : List ℕ} {head s : ℕ} → Whole area head s → length (handle_words area s head) ≤ 0 → head ≤ s
count-end (no_block q) l = omega arith
count-end (a_block h w) l = absurd (omega (arith, count-more (a_block h w) (omega (arith, whole_le w))))

-- no more than slots
pub count_fits : {area : List ℕ} {head s : ℕ} → Whole area head s → s + length (handle_words area s head) ≤ head
count_fits {area} {head} (no_block {s = s} q) = omega (arith, count_none area s head (omega arith))
count_fits (a_block h w) = omega (arith, count-more (a_block h w) (omega (arith, whole_le w)), count_fits w)

-- as many words as symbols, or no match
pub same_length : (words : List ℕ) (end : ℕ) → end ≤ length words → (area : List ℕ) (head i s : ℕ) → Whole area head s → s < head
    → (end ≡ i + length (handle_words area s head) → ⊥) → same_words (slice i end words) (handle_words area s head) ≡ false
same_length words end fits area head i s w l d =
    unlike (slice i end words) (handle_words area s head)
    (λ e. d (omega (arith, e, count-more w l, length-drop i (take end words), length-take end words)))

module _ (right area : List ℕ) (head i s : ℕ) where
  abbrev same : Bool
  same = same_words (drop i right) (handle_words area s head)

  module _ (w : Whole area head s) (there : i < length right) (counts : i + length (handle_words area s head) ≡ length right) where
    -- there is a symbol for the next word
    pub same-there : s < head
    same-there = count-some w (omega (arith, counts))

    pub counts-on : i + 1 + length (handle_words area (s + slot_word area s 2) head) ≡ length right
    counts-on = omega (arith, counts, count-more w same-there)

    next : same ≡ (eqb (get_or right i 0) (slot_word area s 0) && same_words (drop (i + 1) right) (handle_words area (s + slot_word area s 2) head))
    next = rw (drop-cons right i 0 there, handle-cons w same-there, add-one i)

    pub same-past : get_or right i 0 ≡ slot_word area s 0 → same ≡ same_words (drop (i + 1) right) (handle_words area (s + slot_word area s 2) head)
    same-past e = next ∙ rw (eq-eqb (get_or right i 0) (slot_word area s 0) e)

    pub same-differ : (get_or right i 0 ≡ slot_word area s 0 → ⊥) → same ≡ false
    same-differ d = next ∙ rw (ne_eqb (get_or right i 0) (slot_word area s 0) d)

  pub same-both : Whole area head s → length right ≤ i → i + length (handle_words area s head) ≡ length right → same ≡ true
  same-both w l counts = rw (drop_of_length-le right {i = i} l, handle-none area s head (count-end w (omega (arith, counts))))

-- where the right side is words i up to `end` of the grammar, which are those of `take end words` from word i on
module _ (words : List ℕ) (end : ℕ) (fits : end ≤ length words) (area : List ℕ) (head : ℕ) (i s : ℕ) where
  long : length (take end words) ≡ end
  long = length-take-le end words fits

  module _ (w : Whole area head s) (there : i < end) (counts : i + length (handle_words area s head) ≡ end) where
    there-of : i < length (take end words)
    there-of = omega (arith, there, long)

    counts-of : i + length (handle_words area s head) ≡ length (take end words)
    counts-of = counts ∙ sym long

    word-of : get_or (take end words) i 0 ≡ get_or words i 0
    word-of = get_or-take end words i 0 there

    pub same-there-at : s < head
    same-there-at = same-there (take end words) area head i s w there-of counts-of

    pub counts-on-at : i + 1 + length (handle_words area (s + slot_word area s 2) head) ≡ end
    counts-on-at = counts-on (take end words) area head i s w there-of counts-of ∙ long

    pub same-past-at : get_or words i 0 ≡ slot_word area s 0
        → same_words (slice i end words) (handle_words area s head) ≡ same_words (slice (i + 1) end words) (handle_words area (s + slot_word area s 2) head)
    same-past-at e = same-past (take end words) area head i s w there-of counts-of (word-of ∙ e)

    pub same-differ-at : (get_or words i 0 ≡ slot_word area s 0 → ⊥) → same_words (slice i end words) (handle_words area s head) ≡ false
    same-differ-at d = same-differ (take end words) area head i s w there-of counts-of (λ e. d (sym word-of ∙ e))

  pub same-both-at : Whole area head s → end ≤ i → i + length (handle_words area s head) ≡ end → same_words (slice i end words) (handle_words area s head) ≡ true
  same-both-at w l counts = same-both (take end words) area head i s w (omega (arith, l, long)) (counts ∙ sym long)
