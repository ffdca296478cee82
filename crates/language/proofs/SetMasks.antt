-- What is proved of specs' SetMasks. Left and right sets worked out: for one terminal a list of Booleans over the nonterminals, passed over until it
-- rests; the sets as masks, bit t for terminal t, and their sizes; proved equal to the least sets, over any count of terminals.
--
-- Main statements: left-exactly, right-exactly (the masks' bits are the least sets), left-members, right-members (so are the
-- members that the sizes count), left-set-is (no other mask has these bits), left-ones (the size is the count of ones).
use Rattle.std.specs.Prelude.{◌≡◌, refl, Bool, true, ◌&&◌, ◌||◌, ◌↔◌, ◌⊎◌, ℕ, suc, ◌^◌, ◌<◌, ◌≤◌, eqb, ltb}
use Rattle.std.proofs.Common.{sym, ◌∙◌, inl, inr, arith}
use Rattle.std.proofs.Math.Bool.{or-true}
use mathlib.Core.List.{List, [], ◌∷◌, Memᴰ}
use Rattle.std.specs.Int.Count.{ones}
use Rattle.laws.specs.Tests.{eqb-true, eq-eqb, lt-ltb, and_both, both-and, or_cases, same_test, any_some, some-any}
use Rattle.laws.specs.Rests.{is_in, settled, settled-sound, settled_at}
use Rattle.laws.specs.Masks.{bit, members_of, bit-mask_of, mask_of-lt, mask_is, member-iff, ones-size}
use Rattle.language.specs.Symbols.{Symbol, terminal, nonterminal}
use Rattle.language.specs.Grammar.{Grammar, rule_at, left_side, in_play, Spells, mirrored, Has}
use Rattle.language.specs.Sets.{InLeft, starts, starts-after, starts-within, InRight}
use Rattle.language.proofs.Mirror.{mirrored-left, spells-mirrored, has-turned}
use Rattle.language.specs.RightSides.{StartsWith, starts_with, StartsAfter, starts_after}
use Rattle.language.proofs.RightSides.{starts-with-exactly}
use Rattle.language.specs.RightSides.{StartsWithin, starts_within}
use Rattle.language.proofs.RightSides.{starts-after-exactly, starts-within-exactly}
use Rattle.language.specs.SetMasks.{InRange, SomeRule, any_rule, brings, brings_to, left_member, left_pass, left_set, left_size, right_set}

pub any-rule-exactly : (g : Grammar) (test : ℕ → List Symbol → Bool) → any_rule g test ≡ true ↔ SomeRule g test
any-rule-exactly g test = (out, back)
  where
    at_rule : ℕ → Bool
    at_rule r = test r (rule_at g r).right

    out : any_rule g test ≡ true → SomeRule g test
    out t = let m = any_some at_rule (in_play g) t in
        record { rule = m.0; right = (rule_at g m.0).right; spelled = record { plays = m.1; spelling = refl }; holds = m.2 }

    back : SomeRule g test → any_rule g test ≡ true
    back s = some-any at_rule s.spelled.plays (rw s.spelled.spelling s.holds)

-- a right side that brings a, in the three ways
data Brings (a : ℕ) (has : ℕ → Bool) (w : List Symbol) : Type 0 where
  by_start : StartsWith (terminal a ∷ []) w → Brings a has w
  by_second : StartsAfter a w → Brings a has w
  by_set : StartsWithin has w → Brings a has w

brings-out : (a : ℕ) (has : ℕ → Bool) (w : List Symbol) → brings a has w ≡ true → Brings a has w
brings-out a has w t = go (or_cases (starts_with a w || starts_after a w) (starts_within has w) t)
  where
    early : (starts_with a w ≡ true) ⊎ (starts_after a w ≡ true) → Brings a has w
    early (inl q) = by_start (starts-with-exactly.0 q)
    early (inr q) = by_second (starts-after-exactly.0 q)

    go : ((starts_with a w || starts_after a w) ≡ true) ⊎ (starts_within has w ≡ true) → Brings a has w
    go (inl q) = early (or_cases (starts_with a w) (starts_after a w) q)
    go (inr q) = by_set (starts-within-exactly.0 q)

brings-in : {a : ℕ} {has : ℕ → Bool} {w : List Symbol} → Brings a has w → brings a has w ≡ true
brings-in (by_start s) = rw (starts-with-exactly.1 s)
brings-in {a} {has} {w} (by_second s) = rw (starts-after-exactly.1 s, or-true (starts_with a w))
brings-in {a} {has} {w} (by_set s) = rw (starts-within-exactly.1 s) (or-true (starts_with a w || starts_after a w))

brings-more : {a : ℕ} {has more : ℕ → Bool} {w : List Symbol} → ((k : ℕ) → has k ≡ true → more k ≡ true) → Brings a has w → Brings a more w
brings-more h (by_start s) = by_start s
brings-more h (by_second s) = by_second s
brings-more h (by_set s) = by_set (record { number = s.number; starts = s.starts; holds = h s.number s.holds })

-- a rule X -> w that brings a
record Gains (g : Grammar) (a : ℕ) (has : ℕ → Bool) (x : ℕ) : Type 0 where
  rule : ℕ
  right : List Symbol
  spelled : Spells g rule right
  of : left_side g rule ≡ x
  brought : Brings a has right

module _ (g : Grammar) (a : ℕ) where
  pass-out : (has : ℕ → Bool) (x : ℕ) → left_pass g a has x ≡ true → Gains g a has x
  pass-out has x t =
      let m = (any-rule-exactly g (brings_to g a has x)).0 t in
      let b = and_both (eqb (left_side g m.rule) x) (brings a has m.right) m.holds in
      record { rule = m.rule; right = m.right; spelled = m.spelled; of = eqb-true (left_side g m.rule) x b.0; brought = brings-out a has m.right b.1 }

  pass-in : {has : ℕ → Bool} {x : ℕ} → Gains g a has x → left_pass g a has x ≡ true
  pass-in {has} {x} s =
      let here = both-and (eqb (left_side g s.rule) x) (brings a has s.right) (eq-eqb (left_side g s.rule) x s.of) (brings-in s.brought) in
      (any-rule-exactly g (brings_to g a has x)).1 (record { rule = s.rule; right = s.right; spelled = s.spelled; holds = here })

  -- a pass on more gives more
  pass-rises : (has more : ℕ → Bool) → ((k : ℕ) → has k ≡ true → more k ≡ true) → (x : ℕ) → left_pass g a has x ≡ true → left_pass g a more x ≡ true
  pass-rises has more h x t =
      let s = pass-out has x t in
      pass-in (record { rule = s.rule; right = s.right; spelled = s.spelled; of = s.of; brought = brings-more h s.brought })

  -- a pass on what is in the left sets gives what is in them
  brings-sound : {has : ℕ → Bool} {r : ℕ} {w : List Symbol} → ((k : ℕ) → has k ≡ true → InLeft g k a) → Spells g r w → Brings a has w → InLeft g (left_side g r) a
  brings-sound sound s (by_start b) = starts (rw b.is at s)
  brings-sound sound s (by_second b) = starts-after (rw b.starts.is at s)
  brings-sound sound s (by_set b) = starts-within (rw b.starts.is at s) (sound b.number b.holds)

  pass-sound : (has : ℕ → Bool) → ((k : ℕ) → has k ≡ true → InLeft g k a) → (x : ℕ) → left_pass g a has x ≡ true → InLeft g x a
  pass-sound has sound x t = let s = pass-out has x t in rw (← s.of) (brings-sound sound s.spelled s.brought)

  -- what a pass leaves as it is has all of the left sets
  module _ (range : InRange g) (has : ℕ → Bool) (rests : (x : ℕ) → x < g.nonterminals → has x ≡ left_pass g a has x) where
    brings-complete : {r : ℕ} {w : List Symbol} → Spells g r w → Brings a has w → has (left_side g r) ≡ true
    brings-complete {r} {w} s b =
        rests (left_side g r) (range.left_below s) ∙ pass-in (record { rule = r; right = w; spelled = s; of = refl; brought = b })

    rest-complete : {x : ℕ} → InLeft g x a → has x ≡ true
    rest-complete (starts {w = w} s) = brings-complete s (by_start (record { after = w; is = refl }))
    rest-complete (starts-after {k = k} {w = w} s) = brings-complete s (by_second (record { number = k; starts = record { after = w; is = refl } }))
    rest-complete (starts-within {k = k} {w = w} s h) =
        brings-complete s (by_set (record { number = k; starts = record { after = w; is = refl }; holds = rest-complete h }))

-- what stands after N passes is membership in the least set
pub left-member-exactly : {g : Grammar} → InRange g → (x a : ℕ) → left_member g x a ≡ true ↔ InLeft g x a
unfolding left_member
left-member-exactly {g} range x a = (
  settled-sound g.nonterminals (left_pass g a) (λ k. InLeft g k a) (λ has sound k h. pass-sound g a has sound k) x,
  rest-complete g a range (is_in (settled g.nonterminals (left_pass g a))) (settled_at g.nonterminals (left_pass g a) (pass-rises g a)),
)

pub terminal-in : {g : Grammar} → InRange g → {r a : ℕ} {w : List Symbol} → Spells g r w → Has (terminal a ∷ []) w → (1 ≤ a) × (a ≤ g.terminals)
terminal-in range s h = (range.terminal_positive s h, range.terminal_within s h)

-- only terminals are in a left set
pub left-within : {g : Grammar} → InRange g → {x a : ℕ} → InLeft g x a → (1 ≤ a) × (a ≤ g.terminals)
left-within range (starts {a = a} {w = w} s) = terminal-in range s (record { before = []; after = w; is = refl })
left-within range (starts-after {a = a} {k = k} {w = w} s) = terminal-in range s (record { before = nonterminal k ∷ []; after = w; is = refl })
left-within range (starts-within s h) = left-within range h

-- the mask has a bit for each member of the least set, and no other
pub left-exactly : {g : Grammar} → InRange g → (x a : ℕ) → bit (left_set g x) a ≡ true ↔ InLeft g x a
unfolding left_set
left-exactly {g} range x a = (out, back)
  where
    bits : bit (left_set g x) a ≡ (ltb a (suc g.terminals) && left_member g x a)
    bits = bit-mask_of (left_member g x) (suc g.terminals) a

    out : bit (left_set g x) a ≡ true → InLeft g x a
    out t = (left-member-exactly range x a).0 (and_both (ltb a (suc g.terminals)) (left_member g x a) (sym bits ∙ t)).1

    back : InLeft g x a → bit (left_set g x) a ≡ true
    back h =
        let below : a < suc g.terminals = omega (arith, (left-within range h).1) in
        bits ∙ both-and (ltb a (suc g.terminals)) (left_member g x a) (lt-ltb a (suc g.terminals) below) ((left-member-exactly range x a).1 h)

-- the members that the size counts, each listed once, are those of the least set
pub left-members : {g : Grammar} → InRange g → (x a : ℕ) → Memᴰ a (members_of (suc g.terminals) (left_set g x)) ↔ InLeft g x a
left-members {g} range x a = (
  λ m. (left-exactly range x a).0 ((member-iff (suc g.terminals) (left_set g x) a).0 m).1,
  λ h. (member-iff (suc g.terminals) (left_set g x) a).1 (omega (arith, (left-within range h).1), (left-exactly range x a).1 h),
)

-- a mask with these bits is the set
pub left-set-is : {g : Grammar} → InRange g → (x m : ℕ) → m < 2 ^ suc g.terminals → ((a : ℕ) → bit m a ≡ true ↔ InLeft g x a) → m ≡ left_set g x
unfolding left_set
left-set-is {g} range x m h e = mask_is (left_member g x) (suc g.terminals) m h
    (λ a k. same_test (bit m a) (left_member g x a) (λ t. (left-member-exactly range x a).1 ((e a).0 t)) (λ t. (e a).1 ((left-member-exactly range x a).0 t)))

-- a set's size is the count of its mask's ones
pub left-ones : (g : Grammar) (x : ℕ) → ones (left_set g x) ≡ left_size g x
unfolding left_set
left-ones g x = ones-size (suc g.terminals) (left_set g x) (mask_of-lt (left_member g x) (suc g.terminals))

-- a mirrored grammar has the same symbols
pub in-range-mirrored : {g : Grammar} → InRange g → InRange (mirrored g)
unfolding mirrored
in-range-mirrored {g} range = record {
  left_below = λ {r} s. rw (mirrored-left g r) (range.left_below (spells-mirrored s));
  nonterminal_below = λ s h. range.nonterminal_below (spells-mirrored s) (has-turned h);
  terminal_positive = λ s h. range.terminal_positive (spells-mirrored s) (has-turned h);
  terminal_within = λ s h. range.terminal_within (spells-mirrored s) (has-turned h);
}

pub right-within : {g : Grammar} → InRange g → {x a : ℕ} → InRight g x a → (1 ≤ a) × (a ≤ g.terminals)
unfolding mirrored
right-within range h = left-within (in-range-mirrored range) h

pub right-exactly : {g : Grammar} → InRange g → (x a : ℕ) → bit (right_set g x) a ≡ true ↔ InRight g x a
right-exactly range = left-exactly (in-range-mirrored range)

pub right-members : {g : Grammar} → InRange g → (x a : ℕ) → Memᴰ a (members_of (suc g.terminals) (right_set g x)) ↔ InRight g x a
unfolding mirrored
right-members range = left-members (in-range-mirrored range)
