-- Rule (b), of the matrix, and the machine: any bytes that keep it say of # what the machine asks of a table; and the matrix of an
-- accepted load keeps it, whatever bytes stand beyond.
-- Document 01: 15 "is never given to a start with the words and matrix of an accepted load"; "Any other state that keeps the shape
-- rules gets the move named above".
-- Rests on GrammarShape and WordsOfShape, on machine's TableOf, and on language's Matrix and Loads.
--
-- Main statements: each-bytes, byte-fits; end-mark-of-shape, grammar-in-shape, end-mark-in-shape, matrix-in-shape, own-shape.
use Rattle.std.specs.Prelude.{◌≡◌, refl, Bool, true, false, ◌⊎◌, List, [], ◌++◌, ℕ, zero, suc, ◌+◌, ◌*◌, ◌/◌, ◌%◌, ◌≤◌, ◌<◌, eqb, ltb, leb, length, get_or}
use Rattle.std.proofs.Common.{sym, ap, ◌∙◌, inl, inr, append-nil, length-append, arith}
use Rattle.std.proofs.Math.Decide.{dec_lt}
use Rattle.std.proofs.Math.ListN.{get_or-append}
use Rattle.laws.specs.Tests.{all, all-each, each_all, up_to, up_to-below, below-up_to, ltb-true, leb-true, eqb-true, eqb-false, lt-ltb, le-ltb, le-leb, eq-eqb}
use Rattle.laws.specs.Picks.{pick, both-pick}
use Rattle.laws.specs.Passed.{both}
use Rattle.language.specs.Symbols.{yields, equal, takes, Relation}
use Rattle.language.specs.Grammar.{Grammar}
use Rattle.language.specs.SetMasks.{InRange}
use Rattle.language.specs.Words.{count_t, grammar_of}
use Rattle.language.specs.Matrix.{matrix_of}
use Rattle.language.proofs.Matrix.{matrix-length, matrix-small, matrix-unused, matrix-end, matrix-end-left, matrix-end-right}
use Rattle.language.proofs.WordsInRange.{in_range}
use Rattle.language.specs.Loads.{Accepted}
use Rattle.machine.specs.Laws.{EndMark}
use Rattle.machine.specs.TableOf.{relation_from, relation_at, table_of}
use Rattle.matrix.specs.GrammarShape.{rule_a, byte_fits, rule_b, grammar_in_shape}
use Rattle.matrix.specs.WordsOfShape.{rule-a-exactly}

-- ---- every byte below k

bytes-each : (test : ℕ → Bool) (k : ℕ) → all test (up_to k) ≡ true → (v : ℕ) → v < k → test v ≡ true
bytes-each test k e v h = all-each test (below-up_to k v h) e

pub each-bytes : (test : ℕ → Bool) (k : ℕ) → ((v : ℕ) → v < k → test v ≡ true) → all test (up_to k) ≡ true
each-bytes test k h = each_all test (up_to k) (λ v m. h v (up_to-below k v m))

-- ---- what the bytes of # may be

-- a over #: blank or takes, or # over # equal
data ToEnd (a x : ℕ) : Type 0 where
  to_nothing : x ≡ 0 → ToEnd a x
  to_taken : x ≡ 3 → ToEnd a x
  to_equal : a ≡ 0 → x ≡ 2 → ToEnd a x

-- # over b: blank or yields, or # over # equal
data FromEnd (b x : ℕ) : Type 0 where
  from_nothing : x ≡ 0 → FromEnd b x
  from_yields : x ≡ 1 → FromEnd b x
  from_equal : b ≡ 0 → x ≡ 2 → FromEnd b x

to_end : (t a x : ℕ) → byte_fits t a 0 x ≡ true → ToEnd a x
to_end t a x e = go (ltb t a) (ltb t 0) (eqb a 0) (eqb x 0) refl refl e
  where
    go : (p q r z : Bool) → eqb a 0 ≡ r → eqb x 0 ≡ z
        → pick p z (pick q z (pick r (eqb x 2) (pick z true (eqb x 3)))) ≡ true → ToEnd a x
    go true q r z ha hx h = to_nothing (eqb-true x 0 (hx ∙ h))
    go false true r z ha hx h = to_nothing (eqb-true x 0 (hx ∙ h))
    go false false true z ha hx h = to_equal (eqb-true a 0 ha) (eqb-true x 2 h)
    go false false false true ha hx h = to_nothing (eqb-true x 0 hx)
    go false false false false ha hx h = to_taken (eqb-true x 3 h)

small : (b x : ℕ) → x ≤ 1 → FromEnd b x
small b zero h = from_nothing refl
small b (suc zero) h = from_yields refl
small b (suc (suc x)) h = absurd (omega arith)

from_end : (t b x : ℕ) → byte_fits t 0 b x ≡ true → FromEnd b x
from_end t b x e = go (ltb t 0) (ltb t b) (eqb b 0) refl e
  where
    go : (p q r : Bool) → eqb b 0 ≡ r → pick p (eqb x 0) (pick q (eqb x 0) (pick r (eqb x 2) (leb x 1))) ≡ true → FromEnd b x
    go true q r hb h = from_nothing (eqb-true x 0 h)
    go false true r hb h = from_nothing (eqb-true x 0 h)
    go false false true hb h = from_equal (eqb-true b 0 hb) (eqb-true x 2 h)
    go false false false hb h = small b x (leb-true x 1 h)

to-yields : {a x : ℕ} → ToEnd a x → relation_from x ≡ yields → ⊥
to-yields (to_nothing e) q = let z : ◌≡◌ {A = ℕ} 0 1 = cc (ap relation_from e) in omega arith
to-yields (to_taken e) q = let z : ◌≡◌ {A = ℕ} 0 1 = cc (ap relation_from e) in omega arith
to-yields (to_equal i e) q = let z : ◌≡◌ {A = ℕ} 0 1 = cc (ap relation_from e) in omega arith

to-equals : {a x : ℕ} → ToEnd a x → relation_from x ≡ equal → a ≡ 0
to-equals (to_nothing e) q = let z : ◌≡◌ {A = ℕ} 0 1 = cc (ap relation_from e) in absurd (omega arith)
to-equals (to_taken e) q = let z : ◌≡◌ {A = ℕ} 0 1 = cc (ap relation_from e) in absurd (omega arith)
to-equals (to_equal i e) q = i

from-takes : {b x : ℕ} → FromEnd b x → relation_from x ≡ takes → ⊥
from-takes (from_nothing e) q = let z : ◌≡◌ {A = ℕ} 0 1 = cc (ap relation_from e) in omega arith
from-takes (from_yields e) q = let z : ◌≡◌ {A = ℕ} 0 1 = cc (ap relation_from e) in omega arith
from-takes (from_equal i e) q = let z : ◌≡◌ {A = ℕ} 0 1 = cc (ap relation_from e) in omega arith

from-equals : {b x : ℕ} → FromEnd b x → relation_from x ≡ equal → b ≡ 0
from-equals (from_nothing e) q = let z : ◌≡◌ {A = ℕ} 0 1 = cc (ap relation_from e) in absurd (omega arith)
from-equals (from_yields e) q = let z : ◌≡◌ {A = ℕ} 0 1 = cc (ap relation_from e) in absurd (omega arith)
from-equals (from_equal i e) q = i

-- ---- any bytes that keep (b)

module _ (t : ℕ) (bytes : List ℕ) (fits : rule_b t bytes ≡ true) where
  pub byte-fits : (v : ℕ) → v < 4096 → byte_fits t (v / 64) (v % 64) (get_or bytes v 0) ≡ true
  byte-fits = bytes-each (λ v. byte_fits t (v / 64) (v % 64) (get_or bytes v 0)) 4096
      (both (leb 4096 (length bytes)) (all (λ v. byte_fits t (v / 64) (v % 64) (get_or bytes v 0)) (up_to 4096)) fits).good

  byte-at : (a b : ℕ) → a < 64 → b < 64 → byte_fits t a b (get_or bytes (64 * a + b) 0) ≡ true
  byte-at a b ha hb =
      let p : (64 * a + b) / 64 ≡ a = omega arith in
      let q : (64 * a + b) % 64 ≡ b = omega arith in
      rw (p, q) at (byte-fits (64 * a + b) (omega arith))

  record Says (Allowed : ℕ → Type 0) (r : Relation) : Type 0 where
    byte : ℕ
    is : r ≡ relation_from byte
    allowed : Allowed byte

  says-to-end : (a : ℕ) → Says (ToEnd a) (relation_at bytes a 0)
  says-to-end a = go (dec_lt a 64)
    where
      go : Dec (a < 64) → Says (ToEnd a) (relation_at bytes a 0)
      go (yes h) = record { byte = get_or bytes (64 * a + 0) 0; is = rw (lt-ltb a 64 h, relation_at); allowed = to_end t a _ (byte-at a 0 h (omega arith)) }
      go (no h) = record { byte = 0; is = rw (le-ltb a 64 (omega arith), relation_at); allowed = to_nothing refl }

  says-from-end : (b : ℕ) → Says (FromEnd b) (relation_at bytes 0 b)
  says-from-end b = go (dec_lt b 64)
    where
      go : Dec (b < 64) → Says (FromEnd b) (relation_at bytes 0 b)
      go (yes h) = record { byte = get_or bytes (64 * 0 + b) 0; is = rw (lt-ltb b 64 h, relation_at); allowed = from_end t b _ (byte-at 0 b (omega arith) h) }
      go (no h) = record { byte = 0; is = rw (le-ltb b 64 (omega arith), relation_at); allowed = from_nothing refl }

  -- # takes over nothing, nothing yields to it, and it is equal to itself alone
  pub end-mark-of-shape : (words : List ℕ) → EndMark (table_of words bytes)
  end-mark-of-shape words = record {
    nothing_yields = λ a q. let s = says-to-end a in to-yields s.allowed (sym s.is ∙ q);
    never_takes = λ b q. let s = says-from-end b in from-takes s.allowed (sym s.is ∙ q);
    equal_after = λ b q. let s = says-from-end b in from-equals s.allowed (sym s.is ∙ q);
    equal_before = λ a q. let s = says-to-end a in to-equals s.allowed (sym s.is ∙ q);
  }

-- the rules of grammar and matrix are (a) and (b)
pub grammar-in-shape : (words bytes : List ℕ) → grammar_in_shape words bytes ≡ true → (rule_a words ≡ true) × (rule_b (count_t words) bytes ≡ true)
unfolding grammar_in_shape
grammar-in-shape words bytes h = let p = both (rule_a words) (rule_b (count_t words) bytes) h in (p.passes, p.good)

pub end-mark-in-shape : (words bytes : List ℕ) → grammar_in_shape words bytes ≡ true → EndMark (table_of words bytes)
end-mark-in-shape words bytes h = end-mark-of-shape (count_t words) bytes (grammar-in-shape words bytes h).1 words

-- ---- the matrix of an accepted load

-- what (b) asks of the byte x of a over b
record Fitting (t a b x : ℕ) : Type 0 where
  unused : (t < a) ⊎ (t < b) → x ≡ 0
  both_ends : a ≡ 0 → b ≡ 0 → x ≡ 2
  over : a ≡ 0 → 1 ≤ b → x ≤ 1
  under : b ≡ 0 → 1 ≤ a → (x ≡ 0) ⊎ (x ≡ 3)
  within : x ≤ 3

fitting : {t a b x : ℕ} → Fitting t a b x → byte_fits t a b x ≡ true
fitting {t} {a} {b} {x} f = go (ltb t a) (ltb t b) (eqb a 0) (eqb b 0) refl refl refl refl
  where
    blank-or-takes : (x ≡ 0) ⊎ (x ≡ 3) → pick (eqb x 0) true (eqb x 3) ≡ true
    blank-or-takes (inl e) = rw (eq-eqb x 0 e)
    blank-or-takes (inr e) = rw e

    go : (p q r s : Bool) → ltb t a ≡ p → ltb t b ≡ q → eqb a 0 ≡ r → eqb b 0 ≡ s
        → pick p (eqb x 0) (pick q (eqb x 0) (pick r (pick s (eqb x 2) (leb x 1)) (pick s (pick (eqb x 0) true (eqb x 3)) (leb x 3)))) ≡ true
    go true q r s hp hq ha hb = eq-eqb x 0 (f.unused (inl (ltb-true t a hp)))
    go false true r s hp hq ha hb = eq-eqb x 0 (f.unused (inr (ltb-true t b hq)))
    go false false true true hp hq ha hb = eq-eqb x 2 (f.both_ends (eqb-true a 0 ha) (eqb-true b 0 hb))
    go false false true false hp hq ha hb = le-leb x 1 (f.over (eqb-true a 0 ha) (let n = eqb-false b 0 hb in omega arith))
    go false false false true hp hq ha hb = blank-or-takes (f.under (eqb-true b 0 hb) (let n = eqb-false a 0 ha in omega arith))
    go false false false false hp hq ha hb = le-leb x 3 f.within

module _ (words : List ℕ) (accepted : Accepted words) (rest : List ℕ) where
  abbrev g : Grammar
  g = grammar_of words

  range : InRange g
  range = in_range words accepted.passed.head accepted.passed.symbols

  abbrev bytes : List ℕ
  bytes = matrix_of g ++ rest

  own : (a b : ℕ) → a < 64 → b < 64 → byte_fits (count_t words) a b (get_or (matrix_of g) (64 * a + b) 0) ≡ true
  unfolding grammar_of
  own a b ha hb = fitting (record {
    unused = matrix-unused g a b ha hb;
    both_ends = λ p q. let e : 64 * a + b ≡ 0 = omega arith in rw e (matrix-end g);
    over = λ p h. let e : 64 * a + b ≡ b = omega arith in rw e (matrix-end-left range b h hb);
    under = λ q h. let e : 64 * a + b ≡ 64 * a = omega arith in rw e (matrix-end-right range a h ha);
    within = matrix-small g (64 * a + b) (omega arith);
  })

  own-byte : (v : ℕ) → v < 4096 → byte_fits (count_t words) (v / 64) (v % 64) (get_or bytes v 0) ≡ true
  own-byte v h =
      let e : v ≡ 64 * (v / 64) + v % 64 = omega arith in
      let q : get_or bytes v 0 ≡ get_or (matrix_of g) v 0 = get_or-append (matrix_of g) rest 0 v (omega (arith, matrix-length g)) in
      let r : get_or (matrix_of g) v 0 ≡ get_or (matrix_of g) (64 * (v / 64) + v % 64) 0 = ap (λ i. get_or (matrix_of g) i 0) e in
      rw (q, r) (own (v / 64) (v % 64) (omega arith) (omega arith))

  matrix-fits : rule_b (count_t words) bytes ≡ true
  matrix-fits =
      both-pick (leb 4096 (length bytes)) (all (λ v. byte_fits (count_t words) (v / 64) (v % 64) (get_or bytes v 0)) (up_to 4096))
      (le-leb 4096 (length bytes) (omega (arith, length-append (matrix_of g) rest, matrix-length g)))
      (each-bytes (λ v. byte_fits (count_t words) (v / 64) (v % 64) (get_or bytes v 0)) 4096 own-byte)

  -- 15 is never given to the words and matrix of an accepted load
  pub matrix-in-shape : grammar_in_shape words bytes ≡ true
  unfolding grammar_in_shape
  matrix-in-shape =
      let p = accepted.passed in
      both-pick (rule_a words) (rule_b (count_t words) bytes) ((rule-a-exactly words).1 (record { head = p.head; contents = p.contents; symbols = p.symbols })) matrix-fits

-- .. and where none do
pub own-shape : {words : List ℕ} → Accepted words → grammar_in_shape words (matrix_of (grammar_of words)) ≡ true
own-shape {words} accepted = rw (append-nil (matrix_of (grammar_of words))) at (matrix-in-shape words accepted [])
