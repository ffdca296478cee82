-- Blocks are cleared from the top down: what stands where a clearing has come to.
-- Rests on StackWords.
--
-- Main definition: Clearing. Main statements: clearing (it begins), clearing-tagged and clearing-more (one block), clearing-done (it ends).
use Rattle.std.specs.Prelude.{ℕ, ◌+◌, ◌*◌, ◌-◌, ◌<◌, ◌≤◌, ◌≡◌, length}
use Rattle.std.proofs.Common.{sym, ap, ◌∙◌, arith, length-append, take_at, drop_at}
use mathlib.Core.List.{List, [], ◌∷◌, ◌++◌, append_assoc}
use Rattle.std.proofs.Math.ListN.{take, drop}
use Rattle.language.specs.Trees.{Span}
use Rattle.machine.specs.Entries.{Entry, unmarked}
use Rattle.layout.specs.Layout.{size, stack_words, zeros}
use Rattle.layout.specs.Lengths.{length-stack}
use Rattle.moving.specs.MoveWords.{Stands, start_of, cleared_one, cleared_words, Laid, Tagged}
use Rattle.moving.specs.BlockWords.{zeros-join}
use Rattle.moving.specs.StackWords.{top_start, top-tagged, top-cleared}

-- the blocks of `old` on words i up to j, of which those from word `at` on are cleared
pub record Clearing (old : List ℕ) (i j : ℕ) (area : List ℕ) (at : ℕ) : Type 0 where
  pub stack : List (Entry Span)
  pub stands : Stands area i at stack
  pub last : at ≤ j
  pub front : take i old ≡ stands.below
  pub rest : stands.above ≡ zeros (j - at) ++ drop j old

pub clearing : {area : List ℕ} {i j : ℕ} → Laid area i j → Clearing area i j area j
clearing {area} {i} {j} h =
    let s = h.stands in
    let p : List ℕ = s.below ++ stack_words h.stack in
    let long : length p ≡ j = omega (arith, length-append s.below (stack_words h.stack), length-stack h.stack, s.start, s.stop) in
    let none : j - j ≡ 0 = omega arith in
    let after : drop j area ≡ s.above = rw (s.is, ← append_assoc s.below (stack_words h.stack) s.above) (drop_at p s.above j long) in
    record {
      stack = h.stack;
      stands = s;
      last = omega arith;
      front = rw s.is (take_at s.below (stack_words h.stack ++ s.above) i s.start);
      rest = rw none (sym after);
    }

module _ {old : List ℕ} {i j : ℕ} {area : List ℕ} {at : ℕ} (h : Clearing old i j area at) where
  pub clearing-tagged : i < at → Tagged area at
  clearing-tagged l = go h.stack h.stands
    where
      go : (stack : List (Entry Span)) → Stands area i at stack → Tagged area at
      go [] s = absurd (omega (arith, s.stop))
      go (x ∷ stack) s = top-tagged x stack s

  pub clearing-more : i < at → Clearing old i j (cleared_one area at) (start_of area at)
  clearing-more l = go h.stack h.stands h.front h.rest
    where
      go : (stack : List (Entry Span)) (s : Stands area i at stack) → take i old ≡ s.below → s.above ≡ zeros (j - at) ++ drop j old
          → Clearing old i j (cleared_one area at) (start_of area at)
      go [] s f r = absurd (omega (arith, s.stop))
      go (x ∷ stack) s f r =
          let more : 4 * size (unmarked x) + (j - at) ≡ j - start_of area at = omega (arith, top_start x stack s, s.stop, h.last) in
          record {
            stack = stack;
            stands = record {
              below = s.below;
              above = zeros (4 * size (unmarked x)) ++ s.above;
              is = top-cleared x stack s;
              start = s.start;
              stop = top_start x stack s;
            };
            last = omega (arith, h.last);
            front = f;
            rest = ap (λ (l : List ℕ). zeros (4 * size (unmarked x)) ++ l) r ∙ zeros-join (4 * size (unmarked x)) (j - at) (drop j old)
                ∙ ap (λ (k : ℕ). zeros k ++ drop j old) more;
          }

  pub clearing-done : at ≤ i → area ≡ cleared_words old i (j - i)
  unfolding cleared_words
  clearing-done l = go h.stack h.stands h.front h.rest
    where
      go : (stack : List (Entry Span)) (s : Stands area i at stack) → take i old ≡ s.below → s.above ≡ zeros (j - at) ++ drop j old
          → area ≡ cleared_words old i (j - i)
      go (x ∷ stack) s f r = absurd (omega (arith, s.stop))
      go [] s f r =
          let e : j - at ≡ j - i = omega (arith, s.stop) in
          let g : i + (j - i) ≡ j = omega (arith, s.stop, h.last) in
          s.is ∙ rw (r, f, e, g)
