-- The walk over the words of one right side, pair by pair.
-- Document 01, "Sets and matrix": "some right side has a then b, or a, one nonterminal, b", "a then nonterminal D", "nonterminal D
-- then b".
-- Rests on Shown and Edges.
--
-- Main definition: Walking. Main statements: walking_start, walking-end; pair, pair-around (what code asks of a pair), step-alone, step-around
-- (what the walk has shown).
use Rattle.std.specs.Prelude.{◌≡◌, true, false, ◌&&◌, List, ◌∷◌, map, ℕ, ◌+◌, ◌-◌, ◌≤◌, ◌<◌, leb, ltb, length, get_or, drop}
use Rattle.std.proofs.Common.{ap, ◌∙◌, subst, arith, add-one, drop-cons, length-drop, get_or-drop}
use Rattle.std.proofs.lemmas.List.{length-map}
use Rattle.laws.specs.Tests.{and_both, leb-true, ltb-true, ltb-false, le-leb}
use Rattle.language.specs.Symbols.{Symbol, symbol_of, Relation}
use Rattle.language.specs.Grammar.{Grammar}
use Rattle.table.specs.Edges.{RightSide}
use Rattle.table.specs.SetPasses.{AreSets}
use Rattle.table.specs.Shown.{Adds, here, anywhere, pair_shown, Neighbours, neighbours, Paired, paired, paired-around}
use Rattle.table.specs.Shown.{pair-adds, around-adds, Walked, walked_none, walked_step, walked_end}

module _ (g : Grammar) (ws : List ℕ) (side : RightSide ws) where
  module _ (p : ℕ) (k : p + 1 < length ws) where
    near : Neighbours (drop p ws)
    near = neighbours ws side p (omega arith)

    first : get_or (drop p ws) 0 0 ≡ get_or ws p 0
    first = let e : p + 0 ≡ p = omega arith in get_or-drop p ws 0 0 ∙ ap (λ (i : ℕ). get_or ws i 0) e

    second : get_or (drop p ws) 1 0 ≡ get_or ws (p + 1) 0
    second = get_or-drop p ws 1 0

    third : get_or (drop p ws) 2 0 ≡ get_or ws (p + 2) 0
    third = get_or-drop p ws 2 0

    pair-at : Paired (get_or ws p 0) (get_or ws (p + 1) 0)
    pair-at = rw (first, second) at (paired near)

    around-at : 256 ≤ get_or ws (p + 1) 0 → p + 2 < length ws → Paired (get_or ws p 0) (get_or ws (p + 2) 0)
    around-at n m =
        let there : 2 < length (drop p ws) = omega (arith, length-drop p ws) in
        rw (first, third) at (paired-around near (rw second n) there)

    front : map symbol_of (drop p ws) ≡ symbol_of (get_or ws p 0) ∷ map symbol_of (drop (p + 1) ws)
    front = rw (drop-cons ws p 0 (omega arith), add-one p)

    module _ (left right : List ℕ) (sets : AreSets g left right) {whole : List Symbol} {before rows after : List ℕ} where
      -- what is shown at p is added, and the walk goes on behind p
      step : Walked g whole (map symbol_of (drop p ws)) before rows → Adds (λ (m : Relation) (a b : ℕ). here g m a b (map symbol_of (drop p ws))) rows after
          → Walked g whole (map symbol_of (drop (p + 1) ws)) before after
      step walked adds =
          walked_step (subst (λ (w : List Symbol). Walked g whole w before rows) front walked)
          (subst (λ (w : List Symbol). Adds (λ (m : Relation) (a b : ℕ). here g m a b w) rows after) front adds)

      -- the neighbours at p, where no two terminals stand around the second
      walk_step : Walked g whole (map symbol_of (drop p ws)) before rows → (256 ≤ get_or ws (p + 1) 0 → length ws ≤ p + 2)
          → after ≡ pair_shown left right (get_or ws p 0) (get_or ws (p + 1) 0) rows → Walked g whole (map symbol_of (drop (p + 1) ws)) before after
      walk_step walked alone e =
          step walked (rw (e, ← first, ← second) (pair-adds g left right sets rows walked.long near (λ n. omega (arith, length-drop p ws, alone (rw second at n)))))

      -- and where they do
      walk-around : Walked g whole (map symbol_of (drop p ws)) before rows → 256 ≤ get_or ws (p + 1) 0 → p + 2 < length ws
          → after ≡ pair_shown left right (get_or ws p 0) (get_or ws (p + 2) 0) (pair_shown left right (get_or ws p 0) (get_or ws (p + 1) 0) rows)
          → Walked g whole (map symbol_of (drop (p + 1) ws)) before after
      walk-around walked n m e =
          let there : 2 < length (drop p ws) = omega (arith, length-drop p ws) in
          step walked (rw (e, ← first, ← second, ← third) (around-adds g left right sets rows walked.long near (rw second n) there))

-- ---- the walk as code goes: i is the place of a pair's second word

-- before i every pair is shown
pub record Walking (g : Grammar) (ws : List ℕ) (i : ℕ) (before rows : List ℕ) : Type 0 where
  pub starts : 1 ≤ i
  pub walked : Walked g (map symbol_of ws) (map symbol_of (drop (i - 1) ws)) before rows

module _ (g : Grammar) (ws : List ℕ) where
  pub walking_start : (rows : List ℕ) → length rows ≡ 192 → Walking g ws 1 rows rows
  walking_start rows long = record { starts = omega arith; walked = walked_none g (map symbol_of ws) rows long }

  module _ (side : RightSide ws) {i a b : ℕ} {before rows : List ℕ} (w : Walking g ws i before rows) (k : i < length ws) (first : a ≡ get_or ws (i - 1) 0) (second : b ≡ get_or ws i 0) where
    next : i - 1 + 1 ≡ i
    next = omega (arith, w.starts)

    next-next : i - 1 + 2 ≡ i + 1
    next-next = omega (arith, w.starts)

    below : i - 1 + 1 < length ws
    below = omega (arith, w.starts)

    second_at : b ≡ get_or ws (i - 1 + 1) 0
    second_at = rw next second

    pub pair : Paired a b
    pair = rw (first, second_at) (pair-at g ws side (i - 1) below)

    module _ (c : ℕ) (third : c ≡ get_or ws (i + 1) 0) (around : (leb 256 b && ltb (i + 1) (length ws)) ≡ true) where
      big : 256 ≤ get_or ws (i - 1 + 1) 0
      big = rw (← second_at) (leb-true 256 b (and_both (leb 256 b) (ltb (i + 1) (length ws)) around).0)

      behind : i - 1 + 2 < length ws
      behind = omega (arith, next-next, ltb-true (i + 1) (length ws) (and_both (leb 256 b) (ltb (i + 1) (length ws)) around).1)

      third_at : c ≡ get_or ws (i - 1 + 2) 0
      third_at = rw next-next third

      pub pair-around : Paired a c
      pair-around = rw (first, third_at) (around-at g ws side (i - 1) below big behind)

    module _ (left right : List ℕ) (sets : AreSets g left right) {after : List ℕ} where
      onward : Walked g (map symbol_of ws) (map symbol_of (drop (i - 1 + 1) ws)) before after → Walking g ws (i + 1) before after
      onward walked = let one : i - 1 + 1 ≡ i + 1 - 1 = omega (arith, w.starts) in record { starts = omega (arith, w.starts); walked = rw one at walked }

      pub step-alone : (leb 256 b && ltb (i + 1) (length ws)) ≡ false → after ≡ pair_shown left right a b rows → Walking g ws (i + 1) before after
      step-alone alone e = onward (walk_step g ws side (i - 1) below left right sets w.walked last (rw (first, second_at) at e))
        where
          last : 256 ≤ get_or ws (i - 1 + 1) 0 → length ws ≤ i - 1 + 2
          last n =
              let big : 256 ≤ b = rw second_at n in
              omega (arith, next-next, ltb-false (i + 1) (length ws) (rw (le-leb 256 b big) at alone))

      pub step-around : (c : ℕ) (third : c ≡ get_or ws (i + 1) 0) (around : (leb 256 b && ltb (i + 1) (length ws)) ≡ true) {shown : List ℕ}
          → shown ≡ pair_shown left right a b rows → after ≡ pair_shown left right a c shown → Walking g ws (i + 1) before after
      step-around c third around e q =
          onward (walk-around g ws side (i - 1) below left right sets w.walked (big c third around) (behind c third around)
          (rw (e, first, second_at, third_at c third around) at q))

  -- at the end the whole right side is shown
  pub walking-end : {i : ℕ} {before rows : List ℕ} → Walking g ws i before rows → length ws ≤ i → Adds (λ k a b. anywhere (here g k a b) (map symbol_of ws)) before rows
  walking-end {i} w l = walked_end w.walked (omega (arith, w.starts, length-map (drop (i - 1) ws) symbol_of, length-drop (i - 1) ws))
