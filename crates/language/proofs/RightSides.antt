-- What is proved of specs' RightSides. Tests on a right side: what it starts with, and what stands in it somewhere; each proved to say just that.
--
-- Main statements: has_part, starts-with-exactly, starts-after-exactly, starts-within-exactly, has-then-exactly, has-around-exactly,
-- has-before-exactly, has-after-exactly.
use Rattle.std.specs.Prelude.{◌≡◌, refl, Bool, true, false, List, [], ◌∷◌, ◌++◌, ◌↔◌, ◌⊎◌, ℕ}
use Rattle.std.proofs.Common.{sym, ap, ◌∙◌, append_assoc, inl, inr}
use Rattle.std.proofs.lemmas.Bool.{false≢true}
use Rattle.laws.specs.Tests.{eqb-true, eq-eqb, or_cases, or-first, or-second}
use Rattle.language.specs.Symbols.{Symbol, terminal, nonterminal}
use Rattle.language.specs.Grammar.{Has}
use Rattle.language.specs.RightSides.{HasAfter, HasAround, HasBefore, Passing, Pattern, StartsAfter, StartsWith, StartsWithin, and_this, and_one, done, fits}
use Rattle.language.specs.RightSides.{has_after, has_around, has_before, has_then, one, passes, somewhere, starts_after, starts_with, starts_within, this}

record Starting (ps : List Pattern) (w : List Symbol) : Type 0 where
  part : List Symbol
  passing : Passing ps part
  starts : StartsWith part w

record Having (ps : List Pattern) (w : List Symbol) : Type 0 where
  part : List Symbol
  passing : Passing ps part
  has : Has part w

starts-later : (x : Symbol) {part w : List Symbol} → StartsWith part w → StartsWith (x ∷ part) (x ∷ w)
starts-later x s = record { after = s.after; is = ap {B = List Symbol} (λ v. x ∷ v) s.is }

starting-more : (p : Pattern) (x : Symbol) {ps : List Pattern} {w : List Symbol} → passes p x ≡ true → Starting ps w → Starting (p ∷ ps) (x ∷ w)
starting-more (this a) (terminal b) q s =
    let e : b ≡ a = sym (eqb-true a b q) in
    rw e (record { part = terminal a ∷ s.part; passing = and_this s.passing; starts = starts-later (terminal a) s.starts })
starting-more (this a) (nonterminal k) q s = absurd (false≢true q)
starting-more (one has) (terminal b) q s = absurd (false≢true q)
starting-more (one has) (nonterminal k) q s =
    record { part = nonterminal k ∷ s.part; passing = and_one q s.passing; starts = starts-later (nonterminal k) s.starts }

fits_out : (ps : List Pattern) (w : List Symbol) → fits ps w ≡ true → Starting ps w
fits_out [] w q = record { part = []; passing = done; starts = record { after = w; is = refl } }
fits_out (p ∷ ps) [] q = absurd (false≢true q)
fits_out (p ∷ ps) (x ∷ w) q = go (passes p x) refl q (fits_out ps w)
  where
    go : (b : Bool) → passes p x ≡ b → (elim b as (λ c. Bool) [ false ↦ false | true ↦ fits ps w ]) ≡ true → (fits ps w ≡ true → Starting ps w) → Starting (p ∷ ps) (x ∷ w)
    go false e t rest = absurd (false≢true t)
    go true e t rest = starting-more p x e (rest t)

fits_more : (p : Pattern) (x : Symbol) (ps : List Pattern) (w : List Symbol) → passes p x ≡ true → fits ps w ≡ true → fits (p ∷ ps) (x ∷ w) ≡ true
fits_more p x ps w e t = rw (e, fits) t

fits_in : {ps : List Pattern} {part : List Symbol} (after : List Symbol) → Passing ps part → fits ps (part ++ after) ≡ true
fits_in after done = refl
fits_in after (and_this {a = a} {ps = ps} {part = part} s) = fits_more (this a) (terminal a) ps (part ++ after) (eq-eqb a a refl) (fits_in after s)
fits_in after (and_one {has = has} {k = k} {ps = ps} {part = part} h s) = fits_more (one has) (nonterminal k) ps (part ++ after) h (fits_in after s)

-- what stands in a string stands in a longer one
pub has-later : (x : Symbol) {part w : List Symbol} → Has part w → Has part (x ∷ w)
has-later x h = record { before = x ∷ h.before; after = h.after; is = ap {B = List Symbol} (λ v. x ∷ v) h.is }

-- and so does a part of it
pub has_part : (front part back : List Symbol) {w : List Symbol} → Has (front ++ (part ++ back)) w → Has part w
has_part front part back h = record { before = h.before ++ front; after = back ++ h.after; is = h.is ∙ simp append_assoc }

starting-has : {ps : List Pattern} {w : List Symbol} → Starting ps w → Having ps w
starting-has s = record { part = s.part; passing = s.passing; has = record { before = []; after = s.starts.after; is = s.starts.is } }

somewhere-out : (ps : List Pattern) (w : List Symbol) → somewhere ps w ≡ true → Having ps w
somewhere-out ps [] q = starting-has (fits_out ps [] q)
somewhere-out ps (x ∷ w) q = go (or_cases (fits ps (x ∷ w)) (somewhere ps w) q) (somewhere-out ps w)
  where
    go : (fits ps (x ∷ w) ≡ true) ⊎ (somewhere ps w ≡ true) → (somewhere ps w ≡ true → Having ps w) → Having ps (x ∷ w)
    go (inl t) rest = starting-has (fits_out ps (x ∷ w) t)
    go (inr t) rest = let h = rest t in record { part = h.part; passing = h.passing; has = has-later x h.has }

fits-somewhere : (ps : List Pattern) (before w : List Symbol) → fits ps w ≡ true → somewhere ps (before ++ w) ≡ true
fits-somewhere ps [] [] q = q
fits-somewhere ps [] (x ∷ w) q = or-first (fits ps (x ∷ w)) (somewhere ps w) q
fits-somewhere ps (x ∷ before) w q = or-second (fits ps (x ∷ (before ++ w))) (somewhere ps (before ++ w)) (fits-somewhere ps before w q)

somewhere-in : {ps : List Pattern} {part w : List Symbol} → Passing ps part → Has part w → somewhere ps w ≡ true
somewhere-in {ps} {part} s h = rw h.is (fits-somewhere ps h.before (part ++ h.after) (fits_in h.after s))

starts-in : {ps : List Pattern} {part w : List Symbol} → Passing ps part → StartsWith part w → fits ps w ≡ true
starts-in s e = rw e.is (fits_in e.after s)

pub starts-with-exactly : {a : ℕ} {w : List Symbol} → starts_with a w ≡ true ↔ StartsWith (terminal a ∷ []) w
starts-with-exactly {a} {w} = (λ t. let s = fits_out (this a ∷ []) w t in out s.passing s.starts, starts-in (and_this done))
  where
    out : {part : List Symbol} → Passing (this a ∷ []) part → StartsWith part w → StartsWith (terminal a ∷ []) w
    out (and_this done) s = s

pub starts-after-exactly : {a : ℕ} {w : List Symbol} → starts_after a w ≡ true ↔ StartsAfter a w
starts-after-exactly {a} {w} =
    (λ t. let s = fits_out (one (λ k. true) ∷ this a ∷ []) w t in out s.passing s.starts, λ s. starts-in (and_one refl (and_this done)) s.starts)
  where
    out : {part : List Symbol} → Passing (one (λ k. true) ∷ this a ∷ []) part → StartsWith part w → StartsAfter a w
    out (and_one {k = k} h (and_this done)) s = record { number = k; starts = s }

pub starts-within-exactly : {has : ℕ → Bool} {w : List Symbol} → starts_within has w ≡ true ↔ StartsWithin has w
starts-within-exactly {has} {w} =
    (λ t. let s = fits_out (one has ∷ []) w t in out s.passing s.starts, λ s. starts-in (and_one s.holds done) s.starts)
  where
    out : {part : List Symbol} → Passing (one has ∷ []) part → StartsWith part w → StartsWithin has w
    out (and_one {k = k} h done) s = record { number = k; starts = s; holds = h }

pub has-then-exactly : {a b : ℕ} {w : List Symbol} → has_then a b w ≡ true ↔ Has (terminal a ∷ terminal b ∷ []) w
has-then-exactly {a} {b} {w} = (λ t. let h = somewhere-out (this a ∷ this b ∷ []) w t in out h.passing h.has, somewhere-in (and_this (and_this done)))
  where
    out : {part : List Symbol} → Passing (this a ∷ this b ∷ []) part → Has part w → Has (terminal a ∷ terminal b ∷ []) w
    out (and_this (and_this done)) h = h

pub has-around-exactly : {a b : ℕ} {w : List Symbol} → has_around a b w ≡ true ↔ HasAround a b w
has-around-exactly {a} {b} {w} = (
  λ t. let h = somewhere-out (this a ∷ one (λ k. true) ∷ this b ∷ []) w t in out h.passing h.has,
  λ h. somewhere-in (and_this (and_one refl (and_this done))) h.has,
)
  where
    out : {part : List Symbol} → Passing (this a ∷ one (λ k. true) ∷ this b ∷ []) part → Has part w → HasAround a b w
    out (and_this (and_one {k = k} t (and_this done))) h = record { number = k; has = h }

pub has-before-exactly : {a : ℕ} {has : ℕ → Bool} {w : List Symbol} → has_before a has w ≡ true ↔ HasBefore a has w
has-before-exactly {a} {has} {w} =
    (λ t. let h = somewhere-out (this a ∷ one has ∷ []) w t in out h.passing h.has, λ h. somewhere-in (and_this (and_one h.holds done)) h.is)
  where
    out : {part : List Symbol} → Passing (this a ∷ one has ∷ []) part → Has part w → HasBefore a has w
    out (and_this (and_one {k = k} t done)) h = record { number = k; is = h; holds = t }

pub has-after-exactly : {has : ℕ → Bool} {b : ℕ} {w : List Symbol} → has_after has b w ≡ true ↔ HasAfter has b w
has-after-exactly {has} {b} {w} =
    (λ t. let h = somewhere-out (one has ∷ this b ∷ []) w t in out h.passing h.has, λ h. somewhere-in (and_one h.holds (and_this done)) h.is)
  where
    out : {part : List Symbol} → Passing (one has ∷ this b ∷ []) part → Has part w → HasAfter has b w
    out (and_one {k = k} t (and_this done)) h = record { number = k; is = h; holds = t }
