-- Symbols side by side on slots: parts of a row side by side; a handle replaced by one symbol over its slots; and the # of the end
-- after # and one symbol, which is then the whole row.
-- Document 01, "The report": "rule, first place, place after the last"; docs/AREA.md, rules (e) and (f).
-- Rests on layout's Kept and Lengths, and on machine's Spans.
--
-- Main statements: tiles-split, tiles-join, ranged-split, ranged-join, tiles-replaced, end-is-last.
use Rattle.std.specs.Prelude.{◌≡◌, refl, List, [], ◌∷◌, ◌++◌, map, ℕ, zero, suc, ◌+◌, ◌-◌, ◌≤◌, ◌<◌}
use Rattle.std.proofs.Common.{ap, ◌∙◌, arith}
use Rattle.language.specs.Symbols.{Symbol, terminal, nonterminal}
use Rattle.language.specs.Trees.{Span}
use Rattle.machine.specs.Entries.{Unread, nonterminal_at, symbol, value_of}
use Rattle.machine.specs.Spans.{last_after, span_of}
use Rattle.layout.specs.Layout.{size, span_at}
use Rattle.layout.specs.Kept.{Lies, first_end, last_end, within, Tiles, tiled, tile, AllInRange, none_left, in_range}
use Rattle.layout.specs.Lengths.{no-slots, tiles-end}

-- ---- parts of a row side by side

pub record Split (n s : ℕ) (xs ys : List (Unread Span)) (e : ℕ) : Type 0 where
  pub middle : ℕ
  pub left : Tiles n s xs middle
  pub right : Tiles n middle ys e

module _ {n : ℕ} where
  pub tiles-split : {s e : ℕ} (xs ys : List (Unread Span)) → Tiles n s (xs ++ ys) e → Split n s xs ys e
  tiles-split {s} [] ys t = record { middle = s; left = tiled; right = t }
  tiles-split {s} (x ∷ xs) ys (tile l t) =
      let k = tiles-split {s = s + size x} xs ys t in record { middle = k.middle; left = tile l k.left; right = k.right }

  pub tiles-join : {s m e : ℕ} {xs ys : List (Unread Span)} → Tiles n s xs m → Tiles n m ys e → Tiles n s (xs ++ ys) e
  tiles-join tiled u = u
  tiles-join (tile l t) u = tile l (tiles-join t u)

module _ {t k : ℕ} where
  pub ranged-split : (xs ys : List (Unread Span)) → AllInRange t k (xs ++ ys) → AllInRange t k xs × AllInRange t k ys
  ranged-split [] ys r = (none_left, r)
  ranged-split (x ∷ xs) ys (in_range i r) = let p = ranged-split xs ys r in (in_range i p.0, p.1)

  pub ranged-join : {xs ys : List (Unread Span)} → AllInRange t k xs → AllInRange t k ys → AllInRange t k (xs ++ ys)
  ranged-join none_left r = r
  ranged-join (in_range i q) r = in_range i (ranged-join q r)

-- what # after # and one symbol tells of a row: nothing stands before them or after
pub record EndRead (n : ℕ) (before after : List (Unread Span)) (x d : Unread Span) : Type 0 where
  pub no_before : before ≡ []
  pub no_after : after ≡ []
  pub tiles : Tiles n 0 (x ∷ d ∷ []) (n + 1)

-- ---- one symbol

never-end : (k : ℕ) → nonterminal k ≡ terminal 0 → ⊥
never-end k c = let z : ◌≡◌ {A = ℕ} 0 1 = cc in omega arith

span-of-slots : (y : Symbol) (s k : ℕ) → (y ≡ terminal 0 → ⊥) → span_at y s k ≡ record { first = s - 1; after = (s - 1) + k }
span-of-slots (terminal zero) s k h = absurd (h refl)
span-of-slots (terminal (suc a)) s k h = refl
span-of-slots (nonterminal j) s k h = refl

module _ {n : ℕ} where
  -- a symbol starts on a slot of the row
  pub starts-within : {s : ℕ} {x : Unread Span} → Lies n s x → s ≤ n + 1
  starts-within (first_end q e v) = omega arith
  starts-within (last_end q e v) = omega arith
  starts-within (within p h e v) = omega arith

  -- another symbol than # stands after slot 0
  after_first : {s : ℕ} {x : Unread Span} → (symbol x ≡ terminal 0 → ⊥) → Lies n s x → 0 < s
  after_first h (first_end q e v) = absurd (h e)
  after_first h (last_end q e v) = absurd (h e)
  after_first h (within p l e v) = p

  -- # stands in slot 0 or n+1
  end-stands : {s : ℕ} {x : Unread Span} → symbol x ≡ terminal 0 → Lies n s x → 0 < s → s ≡ n + 1
  end-stands h (first_end q e v) p = absurd (omega arith)
  end-stands h (last_end q e v) p = q
  end-stands h (within l m e v) p = absurd (e h)

  -- between slots 0 and n+1 a symbol's value is the span of its slots
  inner-value : {s : ℕ} {x : Unread Span} → 0 < s → s + size x ≤ n + 1 → Lies n s x → value_of x ≡ record { first = s - 1; after = (s - 1) + size x }
  inner-value p h (first_end q e v) = absurd (omega arith)
  inner-value p h (last_end q e v) = absurd (omega arith)
  inner-value {s} {x} p h (within l m e v) = v ∙ span-of-slots (symbol x) s (size x) e

  -- ---- a handle

  -- the last of some symbols side by side ends where they end
  last-ends : {s e : ℕ} {xs : List (Unread Span)} (v : Span) → 0 < s → e ≤ n + 1 → v.after ≡ s - 1 → Tiles n s xs e → last_after v (map value_of xs) ≡ e - 1
  last-ends v p h q tiled = q
  last-ends {s} v p h q (tile {x = x} l t) =
      let f : s + size x ≤ n + 1 = omega (arith, tiles-end t) in
      let a : (value_of x).after ≡ s + size x - 1 = ap (λ (w : Span). w.after) (inner-value p f l) ∙ omega arith in
      last-ends (value_of x) (omega arith) h a t

  -- the value of a left side: the span of the handle's slots
  handle-span : {s e : ℕ} {x : Unread Span} {xs : List (Unread Span)} → 0 < s → e ≤ n + 1 → Lies n s x → Tiles n (s + size x) xs e
      → span_of (value_of x ∷ map value_of xs) ≡ record { first = s - 1; after = e - 1 }
  handle-span {s} {e} {x} {xs} p h l t =
      let f : s + size x ≤ n + 1 = omega (arith, tiles-end t) in
      let v = inner-value p f l in
      let a : last_after (value_of x) (map value_of xs) ≡ e - 1 = last-ends (value_of x) (omega arith) h (ap (λ (w : Span). w.after) v ∙ omega arith) t in
      λ i. record { first = (v i).first; after = a i }

  -- a nonterminal over the slots from s up to e
  over-slots : (k : ℕ) {s e : ℕ} {v : Span} → 0 < s → s < e → e ≤ n + 1 → v ≡ record { first = s - 1; after = e - 1 }
      → Lies n s (nonterminal_at k v) × (s + size (nonterminal_at k v) ≡ e)
  over-slots k {s} {e} {v} p l h q =
      let f : v.first ≡ s - 1 = ap (λ (w : Span). w.first) q in
      let a : v.after ≡ e - 1 = ap (λ (w : Span). w.after) q in
      let z : s + size (nonterminal_at k v) ≡ e = omega arith in
      let w : e - 1 ≡ (s - 1) + size (nonterminal_at k v) = omega arith in
      (within p (omega arith) (λ c. never-end k c) (q ∙ (λ i. record { first = s - 1; after = w i })), z)

  -- a handle, of which the first is not #, and which some symbol follows, gives way to one nonterminal with its span
  pub tiles-replaced : (k : ℕ) {s e : ℕ} (x : Unread Span) (xs : List (Unread Span)) (b : Unread Span) (after : List (Unread Span)) → (symbol x ≡ terminal 0 → ⊥)
      → Tiles n s (x ∷ (xs ++ (b ∷ after))) e → Tiles n s (nonterminal_at k (span_of (value_of x ∷ map value_of xs)) ∷ b ∷ after) e
  tiles-replaced k {s} {e} x xs b after h (tile l t) = let c = tiles-split xs (b ∷ after) t in go c.left c.right
    where
      go : {m : ℕ} → Tiles n (s + size x) xs m → Tiles n m (b ∷ after) e → Tiles n s (nonterminal_at k (span_of (value_of x ∷ map value_of xs)) ∷ b ∷ after) e
      go u (tile lb tb) =
          let p = after_first h l in
          let f = starts-within lb in
          let o = over-slots k p (omega (arith, tiles-end u)) f (handle-span p f l u) in
          let rest : Tiles n (s + size (nonterminal_at k (span_of (value_of x ∷ map value_of xs)))) (b ∷ after) e = rw o.1 (tile lb tb) in
          tile o.0 rest

  -- ---- the # of the end

  first-stands : {s : ℕ} {x : Unread Span} → symbol x ≡ terminal 0 → Lies n s x → s < n + 1 → s ≡ 0
  first-stands h (first_end q e v) p = q
  first-stands h (last_end q e v) p = absurd (omega arith)
  first-stands h (within l m e v) p = absurd (e h)

  nothing-after : {s e : ℕ} {xs : List (Unread Span)} → n + 2 ≤ s → Tiles n s xs e → xs ≡ []
  nothing-after h tiled = refl
  nothing-after h (tile l t) = absurd (omega (arith, starts-within l))

  -- # after # and one symbol: these are the whole row
  pub end-is-last : {e : ℕ} (before after : List (Unread Span)) (x d y : Unread Span) → symbol x ≡ terminal 0 → symbol y ≡ terminal 0
      → Tiles n 0 (before ++ (x ∷ d ∷ y ∷ after)) e → EndRead n before after x d
  end-is-last {e} before after x d y hx hy t = let c = tiles-split before (x ∷ d ∷ y ∷ after) t in go c.left c.right
    where
      go : {m : ℕ} → Tiles n 0 before m → Tiles n m (x ∷ d ∷ y ∷ after) e → EndRead n before after x d
      go {m} u (tile lx (tile ld (tile ly ta))) =
          let last : m + size x + size d ≡ n + 1 = end-stands hy ly (omega arith) in
          let first : m ≡ 0 = first-stands hx lx (omega arith) in
          let from : 0 + size x + size d ≡ n + 1 = omega arith in
          record {
            no_before = no-slots before (omega (arith, tiles-end u));
            no_after = nothing-after (omega arith) ta;
            tiles = rw (← from) (rw first at (tile lx (tile ld tiled)));
          }
