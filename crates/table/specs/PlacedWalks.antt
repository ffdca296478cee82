-- The walk over the words of rule r's right side by their places in the run: p is the place of a pair's second symbol.
-- Document 01, "Sets and matrix": "some right side has a then b, or a, one nonterminal, b", "a then nonterminal D", "nonterminal D
-- then b".
-- Rests on Walks, Sided and Edges, and on words' Laid, Rules and PlacedForms.
--
-- Main definition: WalkingAt. Main statements: walking_start-at, walking-end-at; pair-at, pair-around-at (what is asked of a pair),
-- step-alone-at, step-around-at (what the walk has shown).
use Rattle.std.specs.Prelude.{◌≡◌, true, false, ◌&&◌, List, map, ℕ, suc, ◌+◌, ◌-◌, ◌≤◌, ◌<◌, leb, ltb, length, get_or, take, drop}
use Rattle.std.proofs.Common.{sym, ap, ◌∙◌, subst, arith, drop-drop}
use Rattle.std.proofs.Math.Decide.{dec_lt}
use Rattle.std.proofs.Math.Seq.{slice, length-slice}
use Rattle.laws.specs.Tests.{and_both, ltb-true, lt-ltb, le-ltb}
use Rattle.language.specs.Symbols.{Symbol, symbol_of}
use Rattle.language.specs.Grammar.{rule_at}
use Rattle.language.specs.Words.{word, count_r, entry, body_end, right_words, grammar_of}
use Rattle.language.specs.Checks.{Passed}
use Rattle.words.specs.Laid.{within}
use Rattle.words.specs.Rules.{right_of}
use Rattle.words.specs.PlacedForms.{symbols_in}
use Rattle.table.specs.Sided.{part_at, passed-laid, side-rules}
use Rattle.table.specs.Edges.{RightSide, right_side}
use Rattle.table.specs.SetPasses.{AreSets}
use Rattle.table.specs.Shown.{Adds, here, anywhere, pair_shown, Paired, Walked, walked_none}
use Rattle.table.specs.Walks.{Walking, walking-end, pair, pair-around, step-alone, step-around}

-- before p every pair is shown
pub record WalkingAt (words : List ℕ) (r end p : ℕ) (before rows : List ℕ) : Type 0 where
  pub starts : suc (entry words r) < p
  pub end_is : end ≡ body_end words r
  pub fits_in : end ≤ length words
  pub walked : Walked (grammar_of words) (symbols_in words (suc (entry words r)) (body_end words r)) (symbols_in words (p - 1) (body_end words r)) before rows

module _ (words : List ℕ) (passed : Passed words) (r : ℕ) (h : r < count_r words) where
  abbrev start : ℕ
  start = suc (entry words r)

  abbrev side : List ℕ
  side = right_words words r

  right : RightSide side
  right = right_side (side-rules words passed false) r h

  long : length side ≡ body_end words r - start
  long = length-slice start (body_end words r) words (within words (passed-laid words passed) r h)

  -- the words of the right side from place p of the run on, and the first of them
  tail : (p : ℕ) → start ≤ p → drop (p - start) side ≡ slice p (body_end words r) words
  tail p l = let e : start + (p - start) ≡ p = omega arith in drop-drop (p - start) start (take (body_end words r) words) ∙ ap (λ (i : ℕ). drop i (take (body_end words r) words)) e

  read : (p : ℕ) → start ≤ p → p < body_end words r → get_or side (p - start) 0 ≡ word words p
  read p l k = let e : start + (p - start) ≡ p = omega arith in part_at words start (body_end words r) (p - start) (omega arith) ∙ ap (word words) e

  pub walking_start-at : {first end : ℕ} (rows : List ℕ) → length rows ≡ 192 → first ≡ entry words r → end ≡ body_end words r → WalkingAt words r end (first + 2) rows rows
  walking_start-at {first} {end} rows long e q =
      let one : suc (entry words r) ≡ first + 2 - 1 = omega arith in
      record {
        starts = omega arith;
        end_is = q;
        fits_in = omega (arith, within words (passed-laid words passed) r h);
        walked = rw (← one) (walked_none (grammar_of words) (symbols_in words (suc (entry words r)) (body_end words r)) rows long);
      }

  module _ {end p : ℕ} {before rows : List ℕ} (w : WalkingAt words r end p before rows) where
    -- the walk by places of the right side
    walk : Walking (grammar_of words) side (p - start) before rows
    walk =
        let e : p - 1 - start ≡ p - start - 1 = omega (arith, w.starts) in
        record {
          starts = omega (arith, w.starts);
          walked = rw e at (subst (λ (ws : List ℕ). Walked (grammar_of words) (map symbol_of side) (map symbol_of ws) before rows) (sym (tail (p - 1) (omega (arith, w.starts)))) w.walked);
        }

    onward : {after : List ℕ} → Walking (grammar_of words) side (p - start + 1) before after → WalkingAt words r end (p + 1) before after
    onward {after} v =
        let e : p - start + 1 - 1 ≡ p + 1 - 1 - start = omega (arith, w.starts) in
        record {
          starts = omega (arith, w.starts);
          end_is = w.end_is;
          fits_in = w.fits_in;
          walked = subst (λ (ws : List ℕ). Walked (grammar_of words) (map symbol_of side) (map symbol_of ws) before after) (tail (p + 1 - 1) (omega (arith, w.starts))) (rw e at v.walked);
        }

    -- at the end the whole right side is shown
    pub walking-end-at : end ≤ p → Adds (λ k a b. anywhere (here (grammar_of words) k a b) (rule_at (grammar_of words) r).right) before rows
    walking-end-at l =
        subst (λ (s : List Symbol). Adds (λ k a b. anywhere (here (grammar_of words) k a b) s) before rows) (sym (right_of words r h))
        (walking-end (grammar_of words) side walk (omega (arith, long, w.end_is, w.starts)))

    module _ {a b : ℕ} (k : p < end) (first : a ≡ word words (p - 1)) (second : b ≡ word words p) where
      below : p - start < length side
      below = omega (arith, long, w.starts, w.end_is)

      first_at : a ≡ get_or side (p - start - 1) 0
      first_at =
          let e : p - 1 - start ≡ p - start - 1 = omega (arith, w.starts) in
          first ∙ sym (read (p - 1) (omega (arith, w.starts)) (omega (arith, w.end_is))) ∙ ap (λ (i : ℕ). get_or side i 0) e

      second_at : b ≡ get_or side (p - start) 0
      second_at = second ∙ sym (read p (omega (arith, w.starts)) (omega (arith, w.end_is)))

      -- whether a word stands behind the pair
      behind : ltb (p - start + 1) (length side) ≡ ltb (p + 1) end
      behind = go (dec_lt (p + 1) end)
        where
          go : Dec (p + 1 < end) → ltb (p - start + 1) (length side) ≡ ltb (p + 1) end
          go (yes l) = lt-ltb (p - start + 1) (length side) (omega (arith, long, w.starts, w.end_is)) ∙ sym (lt-ltb (p + 1) end l)
          go (no l) = le-ltb (p - start + 1) (length side) (omega (arith, long, w.starts, w.end_is)) ∙ sym (le-ltb (p + 1) end (omega arith))

      pub pair-at : Paired a b
      pair-at = pair (grammar_of words) side right walk below first_at second_at

      module _ (c : ℕ) (third : c ≡ word words (p + 1)) (around : (leb 256 b && ltb (p + 1) end) ≡ true) where
        third_at : c ≡ get_or side (p - start + 1) 0
        third_at =
            let l = ltb-true (p + 1) end (and_both (leb 256 b) (ltb (p + 1) end) around).1 in
            let e : p + 1 - start ≡ p - start + 1 = omega (arith, w.starts) in
            third ∙ sym (read (p + 1) (omega (arith, w.starts)) (omega (arith, w.end_is, l))) ∙ ap (λ (i : ℕ). get_or side i 0) e

        around_at : (leb 256 b && ltb (p - start + 1) (length side)) ≡ true
        around_at = rw behind around

        pub pair-around-at : Paired a c
        pair-around-at = pair-around (grammar_of words) side right walk below first_at second_at c third_at around_at

      module _ (left_sets right_sets : List ℕ) (sets : AreSets (grammar_of words) left_sets right_sets) {after : List ℕ} where
        pub step-alone-at : (leb 256 b && ltb (p + 1) end) ≡ false → after ≡ pair_shown left_sets right_sets a b rows → WalkingAt words r end (p + 1) before after
        step-alone-at alone e = onward (step-alone (grammar_of words) side right walk below first_at second_at left_sets right_sets sets (rw behind alone) e)

        pub step-around-at : (c : ℕ) (third : c ≡ word words (p + 1)) (around : (leb 256 b && ltb (p + 1) end) ≡ true) {shown : List ℕ}
            → shown ≡ pair_shown left_sets right_sets a b rows → after ≡ pair_shown left_sets right_sets a c shown → WalkingAt words r end (p + 1) before after
        step-around-at c third around e q =
            onward (step-around (grammar_of words) side right walk below first_at second_at left_sets right_sets sets c (third_at c third around) (around_at c third around) e q)
