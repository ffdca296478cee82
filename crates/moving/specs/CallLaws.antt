-- What the tests of code find in words that are in shape: a number that is live or not, a chunk that is at rest or has a move.
-- Document 01: "a move or run 15, 12, 13; a join 15, 12, 14"; "All return number and value and leave lent memory unchanged".
-- Rests on Moved and OneMove, and on machine's GivenExactly.
--
-- Main statements: live-true, live-false, rests-true, rests-false; table-there, the_live, none-live, at-rest-there, movable; there.
use Rattle.std.specs.Prelude.{◌≡◌, refl, Bool, true, false, List, ℕ, ◌<◌, ◌≤◌, eqb, leb, length, get_or, drop}
use Rattle.std.proofs.Common.{sym, subst, arith}
use Rattle.std.proofs.lemmas.Bool.{false≢true}
use Rattle.laws.specs.Tests.{ltb-true, leb-true, ltb-not, leb-not, eqb-true, eq-eqb}
use Rattle.machine.specs.Allowed.{Live}
use Rattle.machine.proofs.AllowedExactly.{rests-from}
use Rattle.machine.specs.GivenExactly.{LiveAtRest}
use Rattle.layout.specs.Layout.{need, decode, row_word, slots_at}
use Rattle.area.specs.Shape.{in_shape}
use Rattle.shape.specs.InShape.{in-shape-parts, in-shape-holds}
use Rattle.moving.specs.MoveWords.{head_of, end_of}
use Rattle.moving.specs.AroundChunk.{slots-within}
use Rattle.moving.specs.OneMove.{Held, live-held, held-live, runs-held, rests-held, Movable}
use Rattle.moving.specs.Moved.{live_by, live_in, rests_by, rests_in}

-- ---- the tests

module _ (area : List ℕ) (c : ℕ) where
  pub live-true : live_in area c ≡ true → (c < get_or area 1 0) × (0 < row_word area c 0)
  live-true e = go (leb (get_or area 1 0) c) refl e
    where
      go : (t : Bool) → leb (get_or area 1 0) c ≡ t → live_by t (row_word area c 0) ≡ true → (c < get_or area 1 0) × (0 < row_word area c 0)
      go true p q = absurd (false≢true q)
      go false p q = ((leb-not (get_or area 1 0) c).0 p, ltb-true 0 (row_word area c 0) q)

  pub live-false : live_in area c ≡ false → c < get_or area 1 0 → 0 < row_word area c 0 → ⊥
  live-false e l k = go (leb (get_or area 1 0) c) refl e
    where
      go : (t : Bool) → leb (get_or area 1 0) c ≡ t → live_by t (row_word area c 0) ≡ false → ⊥
      go true p q = omega (arith, leb-true (get_or area 1 0) c p)
      go false p q = omega (arith, (ltb-not 0 (row_word area c 0)).0 q)

  pub rests-true : rests_in area c ≡ true → row_word area c 0 ≡ 1 → end_of area c ≤ head_of area c
  rests-true e k = go (eqb (row_word area c 0) 1) (eq-eqb (row_word area c 0) 1 k) e
    where
      go : (t : Bool) → t ≡ true → rests_by t (end_of area c) (head_of area c) ≡ true → end_of area c ≤ head_of area c
      go true p q = leb-true (end_of area c) (head_of area c) q
      go false p q = absurd (false≢true p)

  pub rests-false : rests_in area c ≡ false → (row_word area c 0 ≡ 1) × (head_of area c < end_of area c)
  rests-false e = go (eqb (row_word area c 0) 1) refl e
    where
      go : (t : Bool) → eqb (row_word area c 0) 1 ≡ t → rests_by t (end_of area c) (head_of area c) ≡ false
          → (row_word area c 0 ≡ 1) × (head_of area c < end_of area c)
      go true p q = (eqb-true (row_word area c 0) 1 p, (leb-not (end_of area c) (head_of area c)).0 q)
      go false p q = absurd (false≢true (sym q))

module _ {words bytes area : List ℕ} (h : Held words bytes area) where
  -- its table is there
  pub table-there : (2 ≤ length area) × (slots_at area ≤ length area)
  table-there =
      let p : slots_at area ≤ length area = subst (λ a. slots_at a ≤ length a) (sym h.area_is) (omega (arith, slots-within h.kept h.rest)) in
      (omega arith, p)

module _ {words bytes area : List ℕ} {c : ℕ} (h : Held words bytes area) where
  abbrev pub the_live : live_in area c ≡ true → Live h.state.chunks c
  the_live e = let p = live-true area c e in live-held h p.0 p.1

  pub none-live : live_in area c ≡ false → Live h.state.chunks c → ⊥
  none-live e l = let p = held-live h l in live-false area c e p.0 p.1

  pub at-rest-there : live_in area c ≡ true → rests_in area c ≡ true → LiveAtRest c h.state
  at-rest-there e r = let l = the_live e in record { live = l; rests = rests-from l.chunk (rests-held h l (rests-true area c r)) }

  -- a live chunk that is not at rest has a move
  abbrev pub movable : live_in area c ≡ true → rests_in area c ≡ false → Movable words bytes area c
  movable e r = let p = rests-false area c r in record { held = h; live = the_live e; runs = runs-held h (the_live e) p.0 p.1 }

-- ---- the state that the area decodes to

module _ (words bytes area : List ℕ) (c : ℕ) (low : get_or area 2 0 < 65536) (shape : in_shape words bytes area ≡ true) where
  abbrev pub there : Held words bytes area
  there = record {
    tokens = get_or area 0 0;
    state = decode area;
    rest = drop (need (get_or area 0 0) (get_or area 1 0)) area;
    area_is = (in-shape-holds words bytes area low shape).is;
    grammar = (in-shape-parts words bytes area shape).0;
    kept = (in-shape-holds words bytes area low shape).kept;
  }
