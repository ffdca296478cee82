-- What is proved of specs' Mirror. The mirrored grammar: its rules are the grammar's rules with every right side turned round; what it spells is what
-- the grammar spells, turned round; and so right sets in document 01's own words, from the end of a right side.
--
-- Main statements: mirrored-plays, mirrored-left, mirrored-spells, spells-mirrored, has-turned; right-ends, right-ends-before,
-- right-ends-within, and that the right set is the least with these three, right-least.
use Rattle.std.specs.Prelude.{◌≡◌, List, [], ◌∷◌, ◌++◌, reverse, ℕ}
use Rattle.std.proofs.Common.{sym, ap, ◌∙◌, append_assoc}
use Rattle.std.proofs.lemmas.List.{reverse-append, reverse-reverse, length-map}
use Rattle.std.proofs.Math.ListN.{get_or-map}
use Rattle.language.specs.Symbols.{Symbol, terminal, nonterminal}
use Rattle.language.specs.Grammar.{Grammar, Rule, rule_at, left_side, up_to, in_play, Spells, Has, mirrored_rule, mirrored}
use Rattle.language.specs.Sets.{starts, starts-after, starts-within, InRight}
use Rattle.language.specs.Mirror.{Ending, EndsWith}

-- the same rules are in play
pub mirrored-plays : (g : Grammar) → in_play (mirrored g) ≡ in_play g
unfolding in_play mirrored
mirrored-plays g = ap up_to (length-map g.rules mirrored_rule)

pub mirrored-rule : (g : Grammar) (r : ℕ) → rule_at (mirrored g) r ≡ mirrored_rule (rule_at g r)
unfolding mirrored
mirrored-rule g r = get_or-map mirrored_rule g.rules r (record { left = 0; right = [] })

pub mirrored-left : (g : Grammar) (r : ℕ) → left_side (mirrored g) r ≡ left_side g r
mirrored-left g r = ap (λ (x : Rule). x.left) (mirrored-rule g r)

pub mirrored-spells : {g : Grammar} {r : ℕ} {w : List Symbol} → Spells g r w → Spells (mirrored g) r (reverse w)
mirrored-spells {g} {r} s = record {
  plays = rw (mirrored-plays g) s.plays;
  spelling = ap (λ (x : Rule). x.right) (mirrored-rule g r) ∙ ap reverse s.spelling;
}

-- and back
pub spells-mirrored : {g : Grammar} {r : ℕ} {w : List Symbol} → Spells (mirrored g) r w → Spells g r (reverse w)
spells-mirrored {g} {r} s = record {
  plays = rw (mirrored-plays g) at s.plays;
  spelling = sym (reverse-reverse (rule_at g r).right) ∙ ap reverse (sym (ap (λ (x : Rule). x.right) (mirrored-rule g r)) ∙ s.spelling);
}

-- what ends with a string starts, turned round, with that string turned round
starts-turned : {g : Grammar} {r : ℕ} {part w : List Symbol} → Spells g r w → (e : EndsWith part w) → Spells (mirrored g) r (reverse part ++ reverse e.before)
starts-turned {part = part} s e = rw (e.is, reverse-append e.before part) at (mirrored-spells s)

-- and back
ends_turned : (part w : List Symbol) → EndsWith (reverse part) (reverse (part ++ w))
ends_turned part w = record { before = reverse w; is = reverse-append part w }

-- what stands in a string stands in it turned round, turned round
pub has-turned : {part w : List Symbol} → Has part w → Has (reverse part) (reverse w)
has-turned {part} h = record {
  before = reverse h.after;
  after = reverse h.before;
  is = rw (h.is, reverse-append h.before (part ++ h.after), reverse-append part h.after) (append_assoc (reverse h.after) (reverse part) (reverse h.before));
}

-- "The right set mirrors this from the end": if w ends with terminal a, it is in the right set
pub right-ends : {g : Grammar} {r a : ℕ} {w : List Symbol} → Spells g r w → EndsWith (terminal a ∷ []) w → InRight g (left_side g r) a
right-ends {g} {r} s e = rw (← mirrored-left g r) (starts (starts-turned s e))

-- or with a and then a nonterminal
pub right-ends-before : {g : Grammar} {r a k : ℕ} {w : List Symbol} → Spells g r w → EndsWith (terminal a ∷ nonterminal k ∷ []) w → InRight g (left_side g r) a
right-ends-before {g} {r} s e = rw (← mirrored-left g r) (starts-after (starts-turned s e))

-- and if w ends with nonterminal Y, all of Y's right set is
pub right-ends-within : {g : Grammar} {r a k : ℕ} {w : List Symbol} → Spells g r w → EndsWith (nonterminal k ∷ []) w → InRight g k a → InRight g (left_side g r) a
right-ends-within {g} {r} s e h = rw (← mirrored-left g r) (starts-within (starts-turned s e) h)

pub right-least : {g : Grammar} {P : ℕ → ℕ → Type 0} → Ending g P → {x a : ℕ} → InRight g x a → P x a
right-least {g} E (starts {r = r} {a = a} {w = w} s) =
    rw (mirrored-left g r) (E.ends (spells-mirrored s) (ends_turned (terminal a ∷ []) w))
right-least {g} E (starts-after {r = r} {a = a} {k = k} {w = w} s) =
    rw (mirrored-left g r) (E.ends_before (spells-mirrored s) (ends_turned (nonterminal k ∷ terminal a ∷ []) w))
right-least {g} E (starts-within {r = r} {a = a} {k = k} {w = w} s h) =
    rw (mirrored-left g r) (E.ends_within (spells-mirrored s) (ends_turned (nonterminal k ∷ []) w) (right-least E h))

pub right-ending : (g : Grammar) → Ending g (InRight g)
right-ending g = record { ends = right-ends; ends_before = right-ends-before; ends_within = right-ends-within }
