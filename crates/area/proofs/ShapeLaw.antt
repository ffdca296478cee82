-- What the proofs of the shape check's functions share: each test one step on, and the bounds that its counts keep.
-- Rests on specs' Shape and ShapeCode.
--
-- Main statements: sized_of; shape-left, shape-kept; scan-more, side-few; both-blank; countable, line-within; scan-step, walk-step.
use Rattle.std.proofs.Common.{ℕ, zero, suc, ◌+◌, ◌*◌, ◌-◌, ◌<◌, ◌≤◌, ◌≡◌, refl, sym, ◌∙◌, Bool, true, false, ◌&&◌}
use Rattle.std.proofs.Common.{List, [], ◌∷◌, length, get_or, take, drop, leb, ltb, eqb, ap, arith, length-drop}
use Rattle.std.specs.Prelude.{Option, Some, None, option_and_then}
use Rattle.std.specs.List.{list_all}
use Rattle.std.proofs.lemmas.Bool.{false≢true, true≢false, leb-true, eqb-true, ne_eqb}
use Rattle.std.proofs.Math.Decide.{dec_le}
use Rattle.std.proofs.lemmas.List.{drop-drop, get_or-drop}
use Rattle.laws.specs.Picks.{pick, each_of, pick-with}
use Rattle.language.specs.Words.{count_t, count_n}
use Rattle.layout.specs.Layout.{need, slots_at, made_at_word}
use Rattle.matrix.specs.GrammarShape.{grammar_in_shape}
use Rattle.area.specs.declared.shape.Slot.{Slot}
use Rattle.area.specs.declared.shape.Row.{Row}
use Rattle.area.specs.declared.shape.Scan.{Scan}
use Rattle.area.specs.declared.shape.Walk.{Walk}
use Rattle.area.specs.Shape.{rule_c, symbol_fits, place_fits, tag, one_if_terminal, opened, inner}
use Rattle.area.specs.Shape.{scan_slot, scanned, fresh_scan, side, bounds_fit, status_fits, gone_fits, sides_fit, counted, both_sides, line_of, walked, walk_of, blank, rule_k}
use Rattle.area.specs.Shape.{walk_fits, area_in_shape, in_shape}
use Rattle.area.proofs.Joined.{row-gone, row-wrong, row-live, row-bounds}
use Rattle.area.specs.ShapeCode.{slot_of, row_of, Sized, Few, Within, Countable}

-- ---- (c)

pub sized_of : (area : List ℕ) → rule_c area ≡ true → Sized area
sized_of area h =
    let n = get_or area 0 0 in
    let count = get_or area 1 0 in
    let e = each_of (leb 1 n ∷ leb n 16384 ∷ leb 1 count ∷ leb count 64 ∷ leb (need n count) (length area) ∷ []) h in
    record {
      some_token = leb-true _ _ e.0;
      few_tokens = leb-true _ _ e.1.0;
      some_chunk = leb-true _ _ e.1.1.0;
      few_chunks = leb-true _ _ e.1.1.1.0;
      long = leb-true _ _ e.1.1.1.1.0;
    }

-- ---- the whole

module _ (words matrix area : List ℕ) where
  pub shape-left : (grammar_in_shape words matrix && rule_c area) ≡ false → false ≡ in_shape words matrix area
  unfolding in_shape area_in_shape
  shape-left h = go (grammar_in_shape words matrix) (rule_c area) h
    where
      go : (a b : Bool) → (a && b) ≡ false → false ≡ pick a (pick b (walk_fits area (walk_of (count_t words) (count_n words) area)) false) false
      go true true h = absurd (true≢false h)
      go true false h = refl
      go false b h = refl

  pub shape-kept : grammar_in_shape words matrix ≡ true → rule_c area ≡ true → walk_fits area (walk_of (count_t words) (count_n words) area) ≡ in_shape words matrix area
  unfolding in_shape area_in_shape
  shape-kept d e = rw (d, e)

-- ---- a slot more

pub scan-more : (t n tokens count slot at : ℕ) (xs : List ℕ) (st : Scan)
    → scanned t n tokens (suc count) slot (drop at xs) st
    ≡ option_and_then (λ next. scanned t n tokens count (slot + 1) (drop (at + 4) xs) next)
    (scan_slot t n tokens slot st (get_or xs at 0) (get_or xs (at + 1) 0) (get_or xs (at + 2) 0) (get_or xs (at + 3) 0))
scan-more t n tokens count slot at xs st =
    let z : at + 0 ≡ at = omega arith in
    rw (drop-drop 4 at xs, get_or-drop at xs 0 0, get_or-drop at xs 1 0, get_or-drop at xs 2 0, get_or-drop at xs 3 0, z)

pub mark-small : (t n s m : ℕ) → symbol_fits t n s m ≡ true → m ≤ 1
mark-small t n s m h = go (dec_le m 1)
  where
    go : Dec (m ≤ 1) → m ≤ 1
    go (yes k) = k
    go (no k) = absurd (false≢true (simp (ne_eqb m 0 (λ e. k (omega arith)), ne_eqb m 1 (λ e. k (omega arith))) at h))

pub one-small : (s : ℕ) → one_if_terminal s ≤ 1
one-small s =
    pick-with (λ v. v ≤ 1) (eqb s 0) (λ e. omega arith) (λ e. pick-with (λ v. v ≤ 1) (ltb s 256) (λ i. omega arith) (λ i. omega arith))

-- a scan that goes on has counted at most k of each
abbrev pub FewOf : ℕ → Option Scan → Type 0
FewOf k None = Unit {0}
FewOf k (Some st) = Few k st

pub few-some : (k : ℕ) {o : Option Scan} {st : Scan} → FewOf k o → o ≡ Some st → Few k st
few-some k few e = rw e at few

module _ (t n tokens slot : ℕ) (st : Scan) (s m l b k : ℕ) (few : Few k st) where
  abbrev More : Option Scan → Type 0
  More r = FewOf (k + 1) r

  open-few : More (opened t n tokens slot st s m l b)
  open-few =
      pick-with More (eqb l 0) (λ e. tt)
      (λ e. pick-with More (symbol_fits t n s m)
      (λ fits. pick-with More (place_fits tokens slot s l)
      (λ i. pick-with More (eqb b (tag (l - 1) l))
      (λ j. record { symbols = omega arith; terminals = omega (arith, one-small s); marks = omega (arith, mark-small t n s m fits) })
      (λ j. tt))
      (λ i. tt))
      (λ i. tt))

  inner-few : More (inner st s m l b)
  inner-few =
      pick-with More (eqb s 0)
      (λ e. pick-with More (eqb m 0)
      (λ f. pick-with More (eqb l 0)
      (λ g. pick-with More (eqb b (tag (st.within - 1) st.size))
      (λ i. record { symbols = omega arith; terminals = omega arith; marks = omega arith })
      (λ i. tt))
      (λ g. tt))
      (λ f. tt))
      (λ e. tt)

  pub slot-few : More (scan_slot t n tokens slot st s m l b)
  unfolding scan_slot
  slot-few = pick-with More (eqb st.within 0) (λ i. open-few) (λ i. inner-few)

scanned-few : (t n tokens count slot : ℕ) (ws : List ℕ) (st : Scan) (k : ℕ) → Few k st → FewOf (k + count) (scanned t n tokens count slot ws st)
scanned-few t n tokens zero slot ws st k few = record { symbols = omega arith; terminals = omega arith; marks = omega arith }
scanned-few t n tokens (suc count) slot ws st k few =
    go (scan_slot t n tokens slot st (get_or ws 0 0) (get_or ws 1 0) (get_or ws 2 0) (get_or ws 3 0))
    (slot-few t n tokens slot st (get_or ws 0 0) (get_or ws 1 0) (get_or ws 2 0) (get_or ws 3 0) k few)
    (λ next h. scanned-few t n tokens count (slot + 1) (drop 4 ws) next (k + 1) h)
  where
    go : (o : Option Scan) → FewOf (k + 1) o → ((next : Scan) → Few (k + 1) next → FewOf (k + 1 + count) (scanned t n tokens count (slot + 1) (drop 4 ws) next))
        → FewOf (k + suc count) (option_and_then (λ next. scanned t n tokens count (slot + 1) (drop 4 ws) next) o)
    go None h rest = tt
    go (Some next) h rest = let e : k + suc count ≡ k + 1 + count = omega arith in rw e (rest next h)

-- a side of a chunk has at most as many symbols, terminals and marks as slots
pub side-few : (t n : ℕ) (area : List ℕ) (from to : ℕ) → FewOf (to - from) (side t n area from to)
unfolding side
side-few t n area from to =
    let none : Few 0 fresh_scan = record { symbols = omega arith; terminals = omega arith; marks = omega arith } in
    let e : 0 + (to - from) ≡ to - from = omega arith in
    rw e at (scanned-few t n (get_or area 0 0) (to - from) from (drop (slots_at area + 4 * from) area) fresh_scan 0 none)

-- ---- words that are 0

and-pick : (a b : Bool) → (a && b) ≡ pick a b false
and-pick true b = refl
and-pick false b = refl

-- the first words of a list
blank-part : (k : ℕ) (ws : List ℕ) → k ≤ length ws → list_all (λ x. eqb x 0) (take k ws) ≡ blank k ws
blank-part zero ws h = refl
blank-part (suc k) [] h = absurd (omega arith)
blank-part (suc k) (x ∷ ws) h = and-pick (eqb x 0) (list_all (λ x. eqb x 0) (take k ws)) ∙ ap (λ b. pick (eqb x 0) b false) (blank-part k ws (omega arith))

-- .. and the words between two places
blank-range : (from to : ℕ) (ws : List ℕ) → to ≤ length ws → list_all (λ x. eqb x 0) (take (to - from) (drop from ws)) ≡ blank (to - from) (drop from ws)
blank-range from to ws h = blank-part (to - from) (drop from ws) (omega (arith, length-drop from ws))

-- (k), from the tests of both runs of words
pub both-blank : (area : List ℕ) (w : Walk) {tokens made from : ℕ} {slots reductions : Bool} → Sized area → tokens ≡ get_or area 0 0
    → made ≡ slots_at area + 4 * (tokens + 2) → from ≡ slots_at area + 4 * w.at
    → slots ≡ list_all (λ x. eqb x 0) (take (made - from) (drop from area))
    → reductions ≡ list_all (λ x. eqb x 0) (take (made + 3 * tokens - (made + 3 * get_or area 4 0)) (drop (made + 3 * get_or area 4 0) area))
    → (slots && reductions) ≡ rule_k area w
both-blank area w {tokens} {made} {from} sized t m f d e =
    let made-is : made_at_word area ≡ made = omega (arith, t, m) in
    let from-is : slots_at area + 4 * w.at ≡ from = sym f in
    let count : 3 * (get_or area 0 0 - get_or area 4 0) ≡ made + 3 * tokens - (made + 3 * get_or area 4 0) = omega (arith, t) in
    let below = sized.long in
    rw (d ∙ blank-range from made area (omega (arith, t, m, below)), e ∙ blank-range (made + 3 * get_or area 4 0) (made + 3 * tokens) area (omega (arith, t, m, below)), made-is, from-is, count)
    (and-pick (blank (made - from) (drop from area)) (blank (made + 3 * tokens - (made + 3 * get_or area 4 0)) (drop (made + 3 * get_or area 4 0) area)))

-- ---- a row of the table more

-- from is the end before it; from, head, end in order, and the end within the slots
pub record Bounded (tokens at f h e : ℕ) : Type 0 where
  pub starts : f ≡ at
  pub low : f ≤ tokens + 1
  pub head : f ≤ h
  pub end : h ≤ e
  pub last : e ≤ tokens + 2

pub bounded_of : (tokens at f h e : ℕ) → bounds_fit tokens at f h e ≡ true → Bounded tokens at f h e
bounded_of tokens at f h e p =
    let q = each_of (eqb f at ∷ leb f (tokens + 1) ∷ leb f h ∷ leb h e ∷ leb e (tokens + 2) ∷ []) p in
    record {
      starts = eqb-true _ _ q.0;
      low = leb-true _ _ q.1.0;
      head = leb-true _ _ q.1.1.0;
      end = leb-true _ _ q.1.1.1.0;
      last = leb-true _ _ q.1.1.1.1.0;
    }

-- a walk that goes on has counted at most k chunks
abbrev pub WithinOf : ℕ → Option Walk → Type 0
WithinOf k None = Unit {0}
WithinOf k (Some w) = Within k w

pub within-some : (k : ℕ) {o : Option Walk} {w : Walk} → WithinOf k o → o ≡ Some w → Within k w
within-some k within e = rw e at within

module _ (t n : ℕ) (area : List ℕ) (sized : Sized area) (k : ℕ) (w : Walk) (within : Within k w) (x f h e y : ℕ) where
  pub countable : Bounded (get_or area 0 0) w.at f h e → {stack unread : Scan} → side t n area f h ≡ Some stack → side t n area h e ≡ Some unread
      → Countable k e w stack unread
  countable bounded p q =
      let below = few-some (h - f) (side-few t n area f h) p in
      let above = few-some (e - h) (side-few t n area h e) q in
      record {
        end_low = omega arith;
        live = within.live;
        running = within.running;
        unread_low = omega arith;
        symbols_low = omega arith;
        terminals_low = omega arith;
      }

  abbrev One : Option Walk → Type 0
  One r = WithinOf (k + 1) r

  same-within : One (Some w)
  same-within =
      record {
        at = within.at;
        live = omega arith;
        running = omega arith;
        unread = within.unread;
        symbols = within.symbols;
        terminals = within.terminals;
      }

  counted-within : {stack unread : Scan} → Countable k e w stack unread → Within (k + 1) (counted w stack unread x e)
  counted-within can =
      record {
        at = can.end_low;
        live = omega arith;
        running = pick-with (λ v. w.running + v ≤ k + 1) (eqb x 1) (λ i. omega arith) (λ i. omega arith);
        unread = can.unread_low;
        symbols = can.symbols_low;
        terminals = can.terminals_low;
      }

  sides-within : Bounded (get_or area 0 0) w.at f h e → One (both_sides w x h e y (side t n area f h) (side t n area h e))
  sides-within bounded = go (side t n area f h) (side t n area h e) refl refl
    where
      go : (below above : Option Scan) → side t n area f h ≡ below → side t n area h e ≡ above → One (both_sides w x h e y below above)
      go None above p q = tt
      go (Some stack) None p q = tt
      go (Some stack) (Some unread) p q = pick-with One (sides_fit stack unread x h e y) (λ s. counted-within (countable bounded p q)) (λ s. tt)

  pub line-within : One (line_of t n area w x f h e y)
  unfolding line_of
  line-within =
      pick-with One (eqb x 0)
      (λ j. pick-with One (gone_fits f h e y) (λ g. same-within) (λ g. tt))
      (λ j. pick-with One (status_fits x)
      (λ s. pick-with One (bounds_fit (get_or area 0 0) w.at f h e)
      (λ p. sides-within (bounded_of (get_or area 0 0) w.at f h e p))
      (λ p. tt))
      (λ s. tt))

-- ---- a row of the table, from the values that the code holds

-- a status that fits is not that of a gone chunk
status-some : (x : ℕ) → status_fits x ≡ true → eqb x 0 ≡ false
status-some x e = ne_eqb x 0 (λ z. false≢true (rw z at e))

module _ (t n : ℕ) (area : List ℕ) (w : Walk) (x f h e y : ℕ) where
  abbrev status : Bool
  status = status_fits x

  abbrev bounds : Bool
  bounds = bounds_fit (get_or area 0 0) w.at f h e

  abbrev next : Option Walk
  next = both_sides w x h e y (side t n area f h) (side t n area h e)

  pub line-gone : pick (eqb x 0) (gone_fits f h e y) false ≡ true → Some w ≡ line_of t n area w x f h e y
  unfolding line_of
  line-gone g = row-gone next (Some w) None (eqb x 0) (gone_fits f h e y) status bounds g

  -- where `p` is what the tests of the status and the bounds are, over the first word
  module _ {tokens : ℕ} {p : Bool} (z : tokens ≡ get_or area 0 0) (d : p ≡ pick status (bounds_fit tokens w.at f h e) false) where
    pub line-unfit : pick (eqb x 0) (gone_fits f h e y) false ≡ false → p ≡ false → None ≡ line_of t n area w x f h e y
    unfolding line_of
    line-unfit g k = row-wrong next (Some w) None (eqb x 0) (gone_fits f h e y) status bounds g (rw (d, z) at k)

    module _ (k : p ≡ true) where
      pub line-bounded : Bounded (get_or area 0 0) w.at f h e
      line-bounded = bounded_of (get_or area 0 0) w.at f h e (row-bounds status bounds (rw (d, z) at k))

      by-sides : next ≡ line_of t n area w x f h e y
      unfolding line_of
      by-sides = row-live next (Some w) None (eqb x 0) (gone_fits f h e y) status bounds (rw (d, z) at k) (status-some x)

      pub stack-broken : side t n area f h ≡ None → None ≡ line_of t n area w x f h e y
      stack-broken p = (let q : next ≡ None = rw p in sym q) ∙ by-sides

      module _ {stack : Scan} (ss : side t n area f h ≡ Some stack) where
        pub unread-broken : side t n area h e ≡ None → None ≡ line_of t n area w x f h e y
        unread-broken p = (let q : next ≡ None = rw (ss, p) in sym q) ∙ by-sides

        module _ {unread : Scan} (us : side t n area h e ≡ Some unread) {r : Bool} (rs : r ≡ sides_fit stack unread x h e y) where
          pub sides-unfit : r ≡ false → None ≡ line_of t n area w x f h e y
          sides-unfit j = (let q : next ≡ None = rw (ss, us, sym rs ∙ j) in sym q) ∙ by-sides

          pub line-fit : r ≡ true → Some (counted w stack unread x e) ≡ line_of t n area w x f h e y
          line-fit j = (let q : next ≡ Some (counted w stack unread x e) = rw (ss, us, sym rs ∙ j) in sym q) ∙ by-sides

-- ---- the loops over slots and over rows

-- what is left of a scan of the slots up to `to`, one slot on
module _ (t n tokens to slot : ℕ) (area : List ℕ) (st : Scan) (h : slot < to) where
  abbrev slot_here : Slot
  slot_here = slot_of area slot

  abbrev scan_left : ℕ → Scan → Option Scan
  scan_left at scan = scanned t n tokens (to - at) at (drop (slots_at area + 4 * at) area) scan

  pub scan-step : {o : Option Scan} → scan_slot t n tokens slot st slot_here.symbol slot_here.mark slot_here.size slot_here.last ≡ o
      → scan_left slot st ≡ option_and_then (λ next. scan_left (slot + 1) next) o
  scan-step e =
      let p : to - slot ≡ suc (to - (slot + 1)) = omega arith in
      let q : slots_at area + 4 * (slot + 1) ≡ slots_at area + 4 * slot + 4 = omega arith in
      rw (p, q)
      (scan-more t n tokens (to - (slot + 1)) slot (slots_at area + 4 * slot) area st
      ∙ ap (λ o. option_and_then (λ next. scanned t n tokens (to - (slot + 1)) (slot + 1) (drop (slots_at area + 4 * slot + 4) area) next) o) e)

-- what is left of a walk, one row on
module _ (t n c : ℕ) (area : List ℕ) (w : Walk) (h : c < get_or area 1 0) where
  abbrev row_here : Row
  row_here = row_of area (5 + 5 * c)

  abbrev walk_left : ℕ → Walk → Option Walk
  walk_left i walk = walked t n area (get_or area 1 0 - i) (5 + 5 * i) walk

  pub walk-step : {o : Option Walk} → line_of t n area w row_here.status row_here.from row_here.head row_here.end row_here.marks ≡ o
      → walk_left c w ≡ option_and_then (λ next. walk_left (c + 1) next) o
  walk-step e =
      let p : get_or area 1 0 - c ≡ suc (get_or area 1 0 - (c + 1)) = omega arith in
      let q : 5 + 5 * (c + 1) ≡ 5 + 5 * c + 5 = omega arith in
      rw (p, q) (ap (λ o. option_and_then (λ next. walked t n area (get_or area 1 0 - (c + 1)) (5 + 5 * c + 5) next) o) e)

  pub within-here : Sized area → Within c w → Within 63 w
  within-here sized within =
      let k : c ≤ 63 = omega (arith, sized.few_chunks) in
      record {
        at = within.at;
        live = omega (arith, within.live);
        running = omega (arith, within.running);
        unread = within.unread;
        symbols = within.symbols;
        terminals = within.terminals;
      }
