-- The grammar of checked words seen from one side: as it is, or with every right side turned round, its rules by their words.
-- Document 01, "Sets and matrix": "The right set mirrors this from the end." One piece of code works out both sets: it looks at
-- right sides from their start or from their end.
-- Rests on words' Laid, and on language's Words, Mirror, WordsInRange and Checks.
--
-- Main definitions: from_end, turned, sided, RulesOf. Main statements: part_at, from_start, from-the-end, side-length, passed-laid, passed-long, passed-body, side-rules.
use Rattle.std.specs.Prelude.{◌≡◌, refl, Bool, true, false, ℕ, suc, ◌+◌, ◌-◌, ◌≤◌, ◌<◌, length, get_or, take}
use Rattle.std.proofs.Common.{sym, ◌∙◌, arith, get_or-take, get_or-drop}
use Rattle.std.proofs.Math.Path.{ap}
use mathlib.Core.List.{List, [], ◌∷◌, map, reverse, reverse_aux, Memᴰ, reverse_aux-eq, reverse-reverse}
use Rattle.std.proofs.Math.Decide.{dec_lt}
use Rattle.std.proofs.lemmas.List.{length-reverse, length-map, get_or_at}
use Rattle.std.proofs.Math.Seq.{slice, length-slice}
use Rattle.laws.specs.Tests.{up_to-below, below-up_to}
use Rattle.laws.specs.Least.{Nowhere, finds-none}
use Rattle.language.specs.Symbols.{Symbol, symbol_of}
use Rattle.language.specs.Grammar.{Grammar, Rule, rule_at, left_side, in_play, Has, mirrored_rule, mirrored}
use Rattle.language.specs.Words.{word, count_r, entry, body_end, right_words, grammar_of}
use Rattle.language.proofs.CheckHead.{head-finds}
use Rattle.language.proofs.CheckContents.{contents-finds}
use Rattle.language.specs.CheckForm.{BadForm, form_adjacent, form_bare}
use Rattle.language.specs.Checks.{Passed}
use Rattle.language.proofs.Mirror.{mirrored-plays, mirrored-left, mirrored-rule, has-turned}
use Rattle.language.specs.SetMasks.{InRange}
use Rattle.language.proofs.SetMasks.{in-range-mirrored}
use Rattle.language.proofs.WordsInRange.{rules-count, rule-at, in_range, few-terminals, few-nonterminals}
use Rattle.words.specs.Laid.{Laid, headed, laid, within, short}
use Rattle.table.specs.declared.sets.Side.{Side}
use Rattle.table.specs.declared.sets.Side.TheVariants.{Left, Right}

-- the side of right sets is the end
abbrev pub from_end : Side → Bool
from_end Left = false
from_end Right = true

-- a string seen from its start, or from its end
abbrev pub turned : {A : Type 0} → Bool → List A → List A
turned false l = l
turned true l = reverse l

-- a grammar whose right sides are seen so
abbrev pub sided : Bool → Grammar → Grammar
sided false g = g
sided true g = mirrored g

-- ---- turned strings

-- from the end: what stands before r, turned round
reversed-at : (l r : List ℕ) (i : ℕ) → i < length l → get_or (reverse_aux l r) i 0 ≡ get_or l (length l - 1 - i) 0
reversed-at [] r i h = absurd (omega arith)
reversed-at (x ∷ l) r i h = go (dec_lt i (length l)) (reversed-at l (x ∷ r) i)
  where
    go : Dec (i < length l) → (i < length l → get_or (reverse_aux l (x ∷ r)) i 0 ≡ get_or l (length l - 1 - i) 0)
        → get_or (reverse_aux l (x ∷ r)) i 0 ≡ get_or (x ∷ l) (suc (length l) - 1 - i) 0
    go (yes k) rest = let e : suc (length l) - 1 - i ≡ suc (length l - 1 - i) = omega arith in rest k ∙ rw e
    go (no k) rest =
        let e : suc (length l) - 1 - i ≡ 0 = omega arith in
        let q : length (reverse l) ≡ i = length-reverse l ∙ omega arith in
        ap (λ (w : List ℕ). get_or w i 0) (reverse_aux-eq l (x ∷ r)) ∙ get_or_at (reverse l) x r 0 i q ∙ rw e

-- word i of the words from start to end
pub part_at : (words : List ℕ) (start end i : ℕ) → i < end - start → get_or (slice start end words) i 0 ≡ get_or words (start + i) 0
part_at words start end i h = get_or-drop start (take end words) i 0 ∙ get_or-take end words (start + i) 0 (omega arith)

-- and counted from one side
module _ (words : List ℕ) (start end i : ℕ) (fits : end ≤ length words) where
  pub from_start : (from_end : Bool) → from_end ≡ false → i < end - start → get_or (turned from_end (slice start end words)) i 0 ≡ get_or words (start + i) 0
  from_start from_end e h = rw e (part_at words start end i h)

  pub from-the-end : (from_end : Bool) → from_end ≡ true → i < end - start → get_or (turned from_end (slice start end words)) i 0 ≡ get_or words (end - 1 - i) 0
  from-the-end from_end e h =
      let long = length-slice start end words fits in
      let there : start + (length (slice start end words) - 1 - i) ≡ end - 1 - i = omega arith in
      rw e (reversed-at (slice start end words) [] i (omega arith) ∙ part_at words start end (length (slice start end words) - 1 - i) (omega arith) ∙ rw there)

map-reverse : (l : List ℕ) → map symbol_of (reverse l) ≡ reverse (map symbol_of l)
map-reverse l = go l []
  where
    go : (l r : List ℕ) → map symbol_of (reverse_aux l r) ≡ reverse_aux (map symbol_of l) (map symbol_of r)
    go [] r = refl
    go (x ∷ l) r = go l (x ∷ r)

-- ---- the rules of a grammar by their words

-- the grammar has `count` rules; rule r has that left side, and a right side spelled by those words; it passes the checks
pub record RulesOf (g : Grammar) (count : ℕ) (left : ℕ → ℕ) (right : ℕ → List ℕ) : Type 0 where
  pub plays : (r : ℕ) → r < count → Memᴰ r (in_play g)
  pub below : (r : ℕ) → Memᴰ r (in_play g) → r < count
  pub left_is : (r : ℕ) → r < count → left_side g r ≡ left r
  pub right_is : (r : ℕ) → r < count → (rule_at g r).right ≡ map symbol_of (right r)
  pub range : InRange g
  pub forms : Nowhere (BadForm g)
  pub terminals : g.terminals ≤ 63
  pub nonterminals : g.nonterminals ≤ 64

module _ (words : List ℕ) where
  abbrev pub left_of : ℕ → ℕ
  left_of r = word words (entry words r)

  abbrev pub side_words : Bool → ℕ → List ℕ
  side_words from_end r = turned from_end (right_words words r)

  pub side-length : (from_end : Bool) (r : ℕ) → body_end words r ≤ length words → length (side_words from_end r) ≡ body_end words r - suc (entry words r)
  side-length false r fits = length-slice (suc (entry words r)) (body_end words r) words fits
  side-length true r fits = length-reverse (right_words words r) ∙ length-slice (suc (entry words r)) (body_end words r) words fits

  module _ (passed : Passed words) where
    -- checked words have their bodies in rule order
    pub passed-laid : Laid words
    passed-laid = laid words (headed words ((finds-none (head-finds words)).1 passed.head)) ((finds-none (contents-finds words)).1 passed.contents)

    -- .. so the four head words are there
    pub passed-long : 4 ≤ length words
    passed-long = passed-laid.headed.present

    -- .. and each body: two words at least, of a run of few
    pub passed-body : (r : ℕ) → r < count_r words → (entry words r + 2 ≤ body_end words r) × (body_end words r ≤ length words) × (length words ≤ 2564)
    passed-body r h = (passed-laid.least r h, within words passed-laid r h, short words passed-laid)

    front-rules : RulesOf (grammar_of words) (count_r words) left_of (right_words words)
    unfolding grammar_of in_play
    front-rules = record {
      plays = λ r h. below-up_to (length (grammar_of words).rules) r (omega (arith, rules-count words));
      below = λ r m. omega (arith, up_to-below (length (grammar_of words).rules) r m, rules-count words);
      left_is = λ r h. ap (λ (rule : Rule). rule.left) (rule-at words r h);
      right_is = λ r h. ap (λ (rule : Rule). rule.right) (rule-at words r h);
      range = in_range words passed.head passed.symbols;
      forms = passed.forms;
      terminals = (few-terminals words passed.head).1;
      nonterminals = (few-nonterminals words passed.head).1;
    }

-- a mirrored grammar has the words turned round
mirrored-forms : {g : Grammar} → Nowhere (BadForm g) → Nowhere (BadForm (mirrored g))
unfolding mirrored
mirrored-forms {g} n r b = go b
  where
    right : List Symbol
    right = (rule_at g r).right

    turn : (rule_at (mirrored g) r).right ≡ reverse right
    turn = ap (λ (rule : Rule). rule.right) (mirrored-rule g r)

    back : {part : List Symbol} → Has part (rule_at (mirrored g) r).right → Has (reverse part) right
    back h = rw (turn, reverse-reverse right) at (has-turned h)

    forth : {part : List Symbol} → Has part right → Has (reverse part) (rule_at (mirrored g) r).right
    forth h = rw turn (has-turned h)

    below : r < length (mirrored g).rules → r < length g.rules
    below h = rw (length-map g.rules mirrored_rule) at h

    go : BadForm (mirrored g) r → ⊥
    go (form_adjacent h a) = n r (form_adjacent (below h) (record { one = a.other; other = a.one; stand = back a.stand }))
    go (form_bare h bare) = n r (form_bare (below h) (λ a k. bare a (forth k)))

mirrored-rules : {g : Grammar} {count : ℕ} {left : ℕ → ℕ} {right : ℕ → List ℕ} → RulesOf g count left right → RulesOf (mirrored g) count left (λ r. reverse (right r))
unfolding mirrored
mirrored-rules {g} {count} {left} {right} rules = record {
  plays = λ r h. rw (mirrored-plays g) (rules.plays r h);
  below = λ r m. rules.below r (rw (mirrored-plays g) at m);
  left_is = λ r h. mirrored-left g r ∙ rules.left_is r h;
  right_is = λ r h. ap (λ (rule : Rule). rule.right) (mirrored-rule g r) ∙ ap reverse (rules.right_is r h) ∙ sym (map-reverse (right r));
  range = in-range-mirrored rules.range;
  forms = mirrored-forms rules.forms;
  terminals = rules.terminals;
  nonterminals = rules.nonterminals;
}

pub side-rules : (words : List ℕ) → Passed words → (from_end : Bool) → RulesOf (sided from_end (grammar_of words)) (count_r words) (left_of words) (side_words words from_end)
side-rules words passed false = front-rules words passed
side-rules words passed true = mirrored-rules (front-rules words passed)
