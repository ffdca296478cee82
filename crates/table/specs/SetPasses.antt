-- Passes over the rules: what each rule brings to the set of its left side, seen from one side; a pass that changes nothing has
-- worked out the sets.
-- Document 01, "Sets and matrix": "The left set of X is the least set such that, for every rule X -> w: if w starts with terminal
-- a, or with a nonterminal and then a, then a is in it; and if w starts with nonterminal Y, all of Y's left set is. The right set
-- mirrors this from the end. All R rules count."
-- Rests on Edges and MaskRows, on words' Rules and on language's SetMasks.
--
-- Main definitions: brought, gained, Sound, Changed, Grown, Members, AreSets.
-- Main statements: gained-sound (no pass brings anything else), gained-changed (a rule that changes a mask adds a member),
-- rests-members (masks that no rule changes are the sets), members-set (and equal the definition's mask).
use Rattle.std.specs.Prelude.{◌≡◌, refl, ◌↔◌, ◌⊎◌, Bool, true, false, ◌&&◌, ◌||◌, not, List, ◌∷◌, map, ℕ, suc, ◌+◌, ◌-◌, ◌^◌, ◌≤◌, ◌<◌, ltb, eqb, length, get_or, replicate}
use Rattle.std.proofs.Common.{sym, ap, ◌∙◌, inl, inr, true≢false, arith, length-set, below_more}
use Rattle.std.proofs.lemmas.Bool.{false≢true}
use Rattle.std.proofs.Math.Decide.{ℕ_discrete}
use Rattle.std.proofs.lemmas.List.{length-replicate, set-get_or}
use Rattle.std.specs.Int.Bits.{bit_or}
use Rattle.laws.specs.Picks.{pick}
use Rattle.laws.specs.Tests.{lt-ltb, le-ltb, eqb-true, eq-eqb, ne_eqb, and_both, both-and, or_cases, or-first, or-second, not-both, false-unless, same_test}
use Rattle.laws.specs.Masks.{bit, bit-or, bit-pow}
use Rattle.language.specs.Symbols.{Symbol, terminal, nonterminal, symbol_of}
use Rattle.language.specs.Grammar.{Grammar, left_side, Spells, mirrored}
use Rattle.language.specs.Sets.{InLeft, starts, starts-after, starts-within}
use Rattle.language.specs.SetMasks.{left_member, left_set}
use Rattle.language.proofs.SetMasks.{left-member-exactly, left-within, left-set-is}
use Rattle.words.specs.Rules.{is_terminal, is_nonterminal}
use Rattle.table.specs.MaskRows.{gains, gains-bit, none-bit, total, gains-grows, total-most, mask_low}
use Rattle.table.specs.Sided.{RulesOf, left_of, side_words}
use Rattle.table.specs.Edges.{spelled, right_side, Front, terminal_first, nonterminal_first, front}

-- what a right side brings that starts with these two words: its first terminal, and all of the set of a nonterminal before it
abbrev pub brought : List ℕ → ℕ → ℕ → ℕ
brought masks near next = pick (ltb near 256) (2 ^ near) (bit_or (2 ^ next) (get_or masks (near - 256) 0))

-- the masks after rule r
abbrev pub gained_by : (ℕ → ℕ) → (ℕ → List ℕ) → List ℕ → ℕ → List ℕ
gained_by left right masks r = gains masks (left r) (brought masks (get_or (right r) 0 0) (get_or (right r) 1 0))

-- rule r of words, whose right side is seen from one side
abbrev pub gained : List ℕ → Bool → List ℕ → ℕ → List ℕ
gained words from_end = gained_by (left_of words) (side_words words from_end)

-- 64 masks, and whatever is in a mask is in the set
pub record Sound (g : Grammar) (masks : List ℕ) : Type 0 where
  pub rows : length masks ≡ 64
  pub within : (x a : ℕ) → bit (get_or masks x 0) a ≡ true → InLeft g x a

-- the masks are the sets
abbrev pub Members : Grammar → List ℕ → Type 0
Members g masks = (x a : ℕ) → bit (get_or masks x 0) a ≡ left_member g x a

-- these masks are the left sets, and those are the right sets
pub record AreSets (g : Grammar) (left right : List ℕ) : Type 0 where
  pub lefts : Members g left
  pub rights : Members (mirrored g) right

-- ---- what a rule brings

module _ (masks : List ℕ) (a : ℕ) where
  brought-terminal : (w next : ℕ) → w < 64 → bit (brought masks w next) a ≡ eqb a w
  brought-terminal w next h = let l : w < 256 = omega arith in rw (lt-ltb w 256 l) (bit-pow w a)

  brought-nonterminal : (w next : ℕ) → 256 ≤ w → bit (brought masks w next) a ≡ (eqb a next || bit (get_or masks (w - 256) 0) a)
  brought-nonterminal w next h = rw (le-ltb w 256 h) (bit-or (2 ^ next) (get_or masks (w - 256) 0) a ∙ rw (bit-pow next a))

  brought-first : {ws : List ℕ} {w : List Symbol} → Front ws → map symbol_of ws ≡ terminal a ∷ w → bit (brought masks (get_or ws 0 0) (get_or ws 1 0)) a ≡ true
  brought-first (terminal_first {a = b} {ws = ws} h) e = let q : a ≡ b = cc (is_terminal b (omega arith)) in brought-terminal b (get_or ws 0 0) h ∙ eq-eqb a b q
  brought-first (nonterminal_first {w = n} h l k) e = let z : ◌≡◌ {A = ℕ} 0 1 = cc (is_nonterminal n h) in absurd (omega arith)

  brought-second : {ws : List ℕ} {k : ℕ} {w : List Symbol} → Front ws → map symbol_of ws ≡ nonterminal k ∷ terminal a ∷ w
      → bit (brought masks (get_or ws 0 0) (get_or ws 1 0)) a ≡ true
  brought-second (terminal_first {a = b} h) e = let z : ◌≡◌ {A = ℕ} 0 1 = cc (is_terminal b (omega arith)) in absurd (omega arith)
  brought-second (nonterminal_first {w = n} {a = b} h l k) e =
      let q : a ≡ b = cc (is_terminal b (omega arith)) in
      brought-nonterminal n b h ∙ or-first (eqb a b) (bit (get_or masks (n - 256) 0) a) (eq-eqb a b q)

  brought-within : {ws : List ℕ} {k : ℕ} {w : List Symbol} → Front ws → map symbol_of ws ≡ nonterminal k ∷ w → bit (get_or masks k 0) a ≡ true
      → bit (brought masks (get_or ws 0 0) (get_or ws 1 0)) a ≡ true
  brought-within (terminal_first {a = b} h) e t = let z : ◌≡◌ {A = ℕ} 0 1 = cc (is_terminal b (omega arith)) in absurd (omega arith)
  brought-within {k = d} (nonterminal_first {w = n} {a = b} h l k) e t =
      let q : d ≡ n - 256 = cc (is_nonterminal n h) in
      brought-nonterminal n b h ∙ or-second (eqb a b) (bit (get_or masks (n - 256) 0) a) (rw q at t)

  brought-sound : {g : Grammar} {r : ℕ} {ws : List ℕ} → Front ws → Spells g r (map symbol_of ws) → Sound g masks
      → bit (brought masks (get_or ws 0 0) (get_or ws 1 0)) a ≡ true → InLeft g (left_side g r) a
  brought-sound {g} {r} (terminal_first {a = b} {ws = ws} h) s sound e =
      let q : a ≡ b = eqb-true a b (sym (brought-terminal b (get_or ws 0 0) h) ∙ e) in
      rw q (starts (rw (is_terminal b (omega arith)) at s))
  brought-sound {g} {r} (nonterminal_first {w = n} {a = b} h l k) s sound e =
      go (or_cases (eqb a b) (bit (get_or masks (n - 256) 0) a) (sym (brought-nonterminal n b h) ∙ e))
    where
      go : (eqb a b ≡ true) ⊎ (bit (get_or masks (n - 256) 0) a ≡ true) → InLeft g (left_side g r) a
      go (inl t) =
          let q : a ≡ b = eqb-true a b t in
          rw q (starts-after (rw (is_nonterminal n h, is_terminal b (omega arith)) at s))
      go (inr t) = starts-within (rw (is_nonterminal n h) at s) (sound.within (n - 256) a t)

-- ---- one rule after another

-- the masks have changed, with more ones, or not
pub data Changed (old new : List ℕ) : Bool → Type 0 where
  same : new ≡ old → Changed old new false
  more : total old < total new → Changed old new true

-- after the first r rules: nothing has changed and none of them changes anything, or there are more ones
pub data Grown (rule : List ℕ → ℕ → List ℕ) (old new : List ℕ) (r : ℕ) : Bool → Type 0 where
  rests : new ≡ old → ((q : ℕ) → q < r → rule old q ≡ old) → Grown rule old new r false
  grows : total old < total new → Grown rule old new r true

pub grown-none : (rule : List ℕ → ℕ → List ℕ) (masks : List ℕ) → Grown rule masks masks 0 false
grown-none rule masks = rests refl (λ q h. absurd (omega arith))

-- what is so at the end of a pass
module _ {rule : List ℕ → ℕ → List ℕ} {old new : List ℕ} {r : ℕ} where
  pub has-grown : {b : Bool} → Grown rule old new r b → b ≡ true → total old < total new
  has-grown (rests e k) q = absurd (false≢true q)
  has-grown (grows l) q = l

  pub has-rested : {b : Bool} → Grown rule old new r b → b ≡ false → (q : ℕ) → q < r → rule new q ≡ new
  has-rested (rests e k) p = rw e k
  has-rested (grows l) p = absurd (true≢false p)

-- rule r after them
pub grown-more : (rule : List ℕ → ℕ → List ℕ) (old masks new : List ℕ) (r : ℕ) → new ≡ rule masks r → {before now : Bool} → Grown rule old masks r before → Changed masks new now
    → Grown rule old new (r + 1) (before || now)
grown-more rule old masks new r is (rests f k) (same q) = rests (q ∙ f) (below_more (λ n. rule old n ≡ old) r k (rw f at (sym is ∙ q)))
grown-more rule old masks new r is (rests f k) (more l) = grows (omega (arith, ap total f))
grown-more rule old masks new r is (grows m) (same q) = grows (omega (arith, ap total q))
grown-more rule old masks new r is (grows m) (more l) = grows (omega arith)

module _ {g : Grammar} {count : ℕ} {left : ℕ → ℕ} {right : ℕ → List ℕ} (rules : RulesOf g count left right) where
  abbrev rule : List ℕ → ℕ → List ℕ
  rule = gained_by left right

  pub front_of : (r : ℕ) → r < count → Front (right r)
  front_of r h = front (right r) (right_side rules r h)

  pub left-low : (r : ℕ) → r < count → left r < 64
  left-low r h = omega (arith, rules.range.left_below (spelled rules r h), rules.left_is r h, rules.nonterminals)

  -- the bits after rule r
  module _ (masks : List ℕ) (r : ℕ) (h : r < count) (long : length masks ≡ 64) where
    abbrev new : ℕ
    new = brought masks (get_or (right r) 0 0) (get_or (right r) 1 0)

    after : (x a : ℕ) → bit (get_or (rule masks r) x 0) a ≡ (bit (get_or masks x 0) a || (eqb x (left r) && bit new a))
    after x a = gains-bit masks (left r) new x a (omega (arith, left-low r h))

    pub gained-sound : Sound g masks → Sound g (rule masks r)
    gained-sound sound = record {
      rows = length-set masks (left r) (bit_or (get_or masks (left r) 0) new) ∙ long;
      within = λ x a e. go x a (or_cases (bit (get_or masks x 0) a) (eqb x (left r) && bit new a) (sym (after x a) ∙ e));
    }
      where
        go : (x a : ℕ) → (bit (get_or masks x 0) a ≡ true) ⊎ ((eqb x (left r) && bit new a) ≡ true) → InLeft g x a
        go x a (inl t) = sound.within x a t
        go x a (inr t) =
            let b = and_both (eqb x (left r)) (bit new a) t in
            let q : x ≡ left_side g r = eqb-true x (left r) b.0 ∙ sym (rules.left_is r h) in
            rw q (brought-sound masks a (front_of r h) (spelled rules r h) sound b.1)

    -- a rule that changes a mask adds a member
    pub gained-changed : Changed masks (rule masks r) (not (eqb (bit_or (get_or masks (left r) 0) new) (get_or masks (left r) 0)))
    gained-changed = go (gains-grows masks (left r) new (omega (arith, left-low r h))) (ℕ_discrete (bit_or (get_or masks (left r) 0) new) (get_or masks (left r) 0))
      where
        go : (bit_or (get_or masks (left r) 0) new ≡ get_or masks (left r) 0) ⊎ (total masks < total (rule masks r))
            → Dec (bit_or (get_or masks (left r) 0) new ≡ get_or masks (left r) 0)
            → Changed masks (rule masks r) (not (eqb (bit_or (get_or masks (left r) 0) new) (get_or masks (left r) 0)))
        go c (yes e) = rw (eq-eqb (bit_or (get_or masks (left r) 0) new) (get_or masks (left r) 0) e) (same (rw e (set-get_or masks (left r) 0)))
        go (inl e) (no n) = absurd (n e)
        go (inr l) (no n) = rw (ne_eqb (bit_or (get_or masks (left r) 0) new) (get_or masks (left r) 0) n) (more l)

  -- ---- at rest

  module _ (masks : List ℕ) (sound : Sound g masks) where
    -- where no rule changes anything, each set holds what the rules bring
    module _ (still : (q : ℕ) → q < count → rule masks q ≡ masks) where
      closed : (r a : ℕ) → r < count → bit (brought masks (get_or (right r) 0 0) (get_or (right r) 1 0)) a ≡ true → bit (get_or masks (left_side g r) 0) a ≡ true
      closed r a h e =
          rw (rules.left_is r h) (ap (λ (rows : List ℕ). bit (get_or rows (left r) 0) a) (sym (still r h)) ∙ after masks r h sound.rows (left r) a
          ∙ or-second (bit (get_or masks (left r) 0) a) (eqb (left r) (left r) && bit (new masks r h sound.rows) a)
          (both-and (eqb (left r) (left r)) (bit (new masks r h sound.rows) a) (eq-eqb (left r) (left r) refl) e))

      spells-words : {r : ℕ} {w : List Symbol} → Spells g r w → (r < count) × (map symbol_of (right r) ≡ w)
      spells-words {r} s = let h = rules.below r s.plays in (h, sym (rules.right_is r h) ∙ s.spelling)

      complete : {x a : ℕ} → InLeft g x a → bit (get_or masks x 0) a ≡ true
      complete (starts {r = r} {a = a} s) = let w = spells-words s in closed r a w.0 (brought-first masks a (front_of r w.0) w.1)
      complete (starts-after {r = r} {a = a} s) = let w = spells-words s in closed r a w.0 (brought-second masks a (front_of r w.0) w.1)
      complete (starts-within {r = r} {a = a} s i) =
          let w = spells-words s in closed r a w.0 (brought-within masks a (front_of r w.0) w.1 (complete i))

      -- masks that are sound and at rest are the sets
      pub rests-members : Members g masks
      rests-members x a = same_test (bit (get_or masks x 0) a) (left_member g x a)
          (λ t. (left-member-exactly rules.range x a).1 (sound.within x a t)) (λ t. complete ((left-member-exactly rules.range x a).0 t))

    -- sound masks have no more than 64 times 64 members
    pub sound-most : total masks ≤ 4096
    sound-most = rw sound.rows at (total-most 64 masks low)
      where
        low : (x : ℕ) → get_or masks x 0 < 2 ^ 64
        low x = mask_low 64 (get_or masks x 0) (λ t h. false-unless (bit (get_or masks x 0) t)
            (λ e. let w = left-within rules.range (sound.within x t e) in omega (arith, rules.terminals)))

  -- the mask of a set is the definition's
  pub members-set : (masks : List ℕ) → Members g masks → (x : ℕ) → get_or masks x 0 ≡ left_set g x
  members-set masks members x =
      left-set-is rules.range x (get_or masks x 0) (mask_low (suc g.terminals) (get_or masks x 0) (λ t h. false-unless (bit (get_or masks x 0) t) (λ e. high t h ((is t).0 e)))) is
    where
      is : (a : ℕ) → bit (get_or masks x 0) a ≡ true ↔ InLeft g x a
      is a = let e = left-member-exactly rules.range x a in (λ t. e.0 (sym (members x a) ∙ t), λ i. members x a ∙ e.1 i)

      high : (t : ℕ) → suc g.terminals ≤ t → InLeft g x t → ⊥
      high t h i = omega (arith, (left-within rules.range i).1)

-- no mask has a member at first
pub none-sound : (g : Grammar) → Sound g (replicate 64 0)
none-sound g = record { rows = length-replicate {A = ℕ} 64 0; within = λ x a e. absurd (not-both (bit (get_or (replicate 64 0) x 0) a) e (none-bit 64 x a)) }
