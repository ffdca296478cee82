-- The rows of all rules, with # and the axioms, are the relations; their conflicts and entries are the definition's.
-- Document 01, "Sets and matrix": "# yields to each member of an axiom's left set; each member of an axiom's right set takes over
-- #; # equals #. blank (0): none of these"; 6 CONFLICT "a pair has two relations", "least 64a + b".
-- Rests on Shown and Filled, and on language's RelationTests, RelationPairs, Conflicts and Matrix.
--
-- Main definitions: shown_in, Seen, end_test, Union, test_of, Shows, only_of, relation_in, two_in, byte_in, clash_in, RowWritten, RowRefused, Whole,
-- FirstConflict, Rows. Main statements: ends-seen, seen_more, shows, byte-is, clash-is, byte-none, clash-none, rows-more, rows-refused, rows-whole.
use Rattle.std.specs.Prelude.{◌≡◌, refl, ◌⊎◌, Bool, true, false, ◌&&◌, ◌||◌, List, [], ◌∷◌, ◌++◌, ℕ, ◌+◌, ◌-◌, ◌*◌, ◌/◌, ◌%◌, ◌≤◌, ◌<◌, eqb, leb, length, get_or, set, replicate, Option, Some, None}
use Rattle.std.proofs.Common.{sym, ap, ap₂, ◌∙◌, inl, inr, arith, add-one, length-set, get_or-set_same, get_or-set_other}
use Rattle.std.proofs.Math.Path.{fun_ext}
use Rattle.std.proofs.Math.Bool.{and-false, or-true, or-false, or_comm, or_assoc}
use Rattle.std.proofs.Math.Decide.{dec_lt, ℕ_discrete}
use Rattle.std.proofs.lemmas.List.{length-replicate}
use Rattle.std.proofs.lemmas.List.Edits.{sets}
use Rattle.laws.specs.Picks.{pick}
use Rattle.laws.specs.Tests.{any, any-cons, up_to, any_below, eq-eqb, ne_eqb, lt-leb}
use Rattle.laws.specs.Least.{Clear}
use Rattle.laws.specs.Tabulate.{tabulate, tabulate_from}
use Rattle.laws.specs.Masks.{bit, bit-pow}
use Rattle.language.specs.Symbols.{Symbol, Relation, blank, yields, equal, takes, relation_number}
use Rattle.language.specs.Grammar.{Grammar, rule_at, in_play, mirrored}
use Rattle.language.specs.RightSides.{Pattern, this, one, fits, somewhere}
use Rattle.language.specs.SetMasks.{left_member}
use Rattle.language.specs.RelationTests.{equal_test, yields_test, takes_test, starts_axiom, ends_axiom, in_use, first_of, relation_of}
use Rattle.language.proofs.RelationPairs.{in-use}
use Rattle.language.specs.Conflicts.{two_of, clash, clash_at}
use Rattle.language.specs.Matrix.{entry_at}
use Rattle.refusals.specs.declared.Refusal.{Refusal}
use Rattle.refusals.specs.declared.Refusal.TheVariants.{Conflict}
use Rattle.table.specs.declared.relations.Relation as code
use Rattle.table.specs.declared.relations.Relation.TheVariants.{Blank, Yields, Equal, Takes}
use Rattle.table.specs.Filled.{Rowed, rowed-none, rowed-more, rowed-whole}
use Rattle.table.specs.MaskRows.{none-bit}
use Rattle.table.specs.Shown.{holds, Adds, here, anywhere, row_same}
use Rattle.table.specs.SetPasses.{AreSets}

-- ---- # and the axioms

abbrev pub end_test : Grammar → Relation → ℕ → ℕ → Bool
end_test g blank a b = false
end_test g yields a b = eqb a 0 && starts_axiom g b
end_test g equal a b = eqb a 0 && eqb b 0
end_test g takes a b = eqb b 0 && ends_axiom g a

any-below-same : (f h : ℕ → Bool) → ((x : ℕ) → f x ≡ h x) → (n : ℕ) → any_below f n ≡ any_below h n
any-below-same f h e n = ap (λ t. any_below t n) (fun_ext e)

-- the members of any of the first sets
abbrev pub Union : List ℕ → ℕ → ℕ → Type 0
Union masks count m = (t : ℕ) → bit m t ≡ any_below (λ x. bit (get_or masks x 0) t) count

-- ---- all rules

-- rule r's right side shows the relation
abbrev pub shown_in : Grammar → Relation → ℕ → ℕ → ℕ → Bool
shown_in g k a b r = anywhere (here g k a b) (rule_at g r).right

-- the rows say what is said of # and the axioms, and what the first r rules show
pub record Seen (g : Grammar) (r : ℕ) (rows : List ℕ) : Type 0 where
  pub long : length rows ≡ 192
  pub says : (k : Relation) (a b : ℕ) → a < 64 → b < 64 → holds rows k a b ≡ (end_test g k a b || any (shown_in g k a b) (up_to r))

module _ (test : ℕ → Bool) where
  any_snoc : (l : List ℕ) (n : ℕ) → any test (l ++ (n ∷ [])) ≡ (any test l || test n)
  any_snoc [] n = go (test n)
    where
      go : (t : Bool) → ◌≡◌ {A = Bool} (elim t [ true ↦ true | false ↦ false ]) t
      go true = refl
      go false = refl
  any_snoc (x ∷ l) n = go (test x) (any_snoc l n)
    where
      go : (t : Bool) → any test (l ++ (n ∷ [])) ≡ (any test l || test n)
          → ◌≡◌ {A = Bool} (elim t [ true ↦ true | false ↦ any test (l ++ (n ∷ [])) ]) ((elim t [ true ↦ true | false ↦ any test l ]) || test n)
      go true e = refl
      go false e = e

pub seen_more : {g : Grammar} {r : ℕ} {rows after : List ℕ} → Seen g r rows → Adds (λ k a b. shown_in g k a b r) rows after → Seen g (r + 1) after
seen_more {g} {r} seen adds = record {
  long = adds.long;
  says = λ k a b i j.
      adds.says k a b i j ∙ ap (λ t. t || shown_in g k a b r) (seen.says k a b i j) ∙ or_assoc (end_test g k a b) (any (shown_in g k a b) (up_to r)) (shown_in g k a b r)
      ∙ ap (λ t. end_test g k a b || t) (rw (add-one r) (sym (any_snoc (shown_in g k a b) (up_to r) r)));
}

-- one row is set: it has those members, and the other rows stay
set-bit : (rows : List ℕ) (i m x t : ℕ) → i < length rows → bit (get_or rows x 0) t ≡ false → bit (get_or (set rows i m) x 0) t ≡ (eqb x i && bit m t)
set-bit rows i m x t h empty = go (ℕ_discrete x i)
  where
    go : Dec (x ≡ i) → bit (get_or (set rows i m) x 0) t ≡ (eqb x i && bit m t)
    go (yes e) = rw (e, get_or-set_same rows i m 0 h, eq-eqb i i refl)
    go (no n) = rw (get_or-set_other rows i x m 0 n, ne_eqb x i n) empty

set-kept : (rows : List ℕ) (i m x t : ℕ) → (x ≡ i → ⊥) → bit (get_or (set rows i m) x 0) t ≡ bit (get_or rows x 0) t
set-kept rows i m x t n = ap (λ (row : ℕ). bit row t) (get_or-set_other rows i x m 0 n)

-- the rows of #, from rows that say nothing
ends-from : (g : Grammar) (left right : List ℕ) → AreSets g left right → (blanks : List ℕ) → length blanks ≡ 192 → ((x t : ℕ) → bit (get_or blanks x 0) t ≡ false)
    → (m n : ℕ) → Union left g.axioms m → Union right g.axioms n → Seen g 0 (set (set (set blanks 0 1) 64 m) 128 n)
ends-from g left right sets blanks long empty m n um un = record { long = all-long; says = says }
  where
    first-long : length (set blanks 0 1) ≡ 192
    first-long = length-set blanks 0 1 ∙ long

    second-long : length (set (set blanks 0 1) 64 m) ≡ 192
    second-long = length-set (set blanks 0 1) 64 m ∙ first-long

    all-long : length (set (set (set blanks 0 1) 64 m) 128 n) ≡ 192
    all-long = length-set (set (set blanks 0 1) 64 m) 128 n ∙ second-long

    -- row x is that of #, row k, where a is 0
    at : (rows : List ℕ) (k m x a t : ℕ) (test : Bool) → eqb x k ≡ eqb a 0 → k < length rows → bit (get_or rows x 0) t ≡ false → bit m t ≡ test
        → bit (get_or (set rows k m) x 0) t ≡ ((eqb a 0 && test) || false)
    at rows k m x a t test same h bare e = set-bit rows k m x t h bare ∙ ap (λ s. s && bit m t) same ∙ ap (λ s. eqb a 0 && s) e ∙ sym (or-false (eqb a 0 && test))

    says : (k : Relation) (a b : ℕ) → a < 64 → b < 64 → holds (set (set (set blanks 0 1) 64 m) 128 n) k a b ≡ (end_test g k a b || false)
    says blank a b i j = refl
    says equal a b i j =
        set-kept (set (set blanks 0 1) 64 m) 128 n a b (omega arith) ∙ set-kept (set blanks 0 1) 64 m a b (omega arith)
        ∙ at blanks 0 1 a a b (eqb b 0) refl (omega arith) (empty a b) (bit-pow 0 b)
    says yields a b i j =
        set-kept (set (set blanks 0 1) 64 m) 128 n (64 + a) b (omega arith)
        ∙ at (set blanks 0 1) 64 m (64 + a) a b (starts_axiom g b) (row_same 64 a 0) (omega (arith, first-long)) (set-kept blanks 0 1 (64 + a) b (omega arith) ∙ empty (64 + a) b)
        (um b ∙ any-below-same (λ x. bit (get_or left x 0) b) (λ x. left_member g x b) (λ x. sets.lefts x b) g.axioms)
    says takes a b i j =
        at (set (set blanks 0 1) 64 m) 128 n (128 + b) b a (ends_axiom g a) (row_same 128 b 0) (omega (arith, second-long))
        (set-kept (set blanks 0 1) 64 m (128 + b) a (omega arith) ∙ set-kept blanks 0 1 (128 + b) a (omega arith) ∙ empty (128 + b) a)
        (un a ∙ any-below-same (λ x. bit (get_or right x 0) a) (λ x. left_member (mirrored g) x a) (λ x. sets.rights x a) g.axioms)

pub ends-seen : (g : Grammar) (left right : List ℕ) → AreSets g left right → (m n : ℕ) → Union left g.axioms m → Union right g.axioms n
    → Seen g 0 (set (set (set (replicate 192 0) 0 1) 64 m) 128 n)
ends-seen g left right sets = ends-from g left right sets (replicate 192 0) (length-replicate {A = ℕ} 192 0) (none-bit 192)

-- ---- the relations

abbrev pub test_of : Grammar → Relation → ℕ → ℕ → Bool
test_of g blank a b = false
test_of g yields a b = yields_test g a b
test_of g equal a b = equal_test g a b
test_of g takes a b = takes_test g a b

-- the rows are the relations
abbrev pub Shows : Grammar → List ℕ → Type 0
Shows g rows = (k : Relation) (a b : ℕ) → a < 64 → b < 64 → holds rows k a b ≡ test_of g k a b

-- what is shown anywhere, as language's tests say it
somewhere-is : (ps : List Pattern) (w : List Symbol) → anywhere (fits ps) w ≡ somewhere ps w
somewhere-is ps [] = refl
somewhere-is ps (x ∷ w) = ap (λ t. fits ps (x ∷ w) || t) (somewhere-is ps w)

swap : (a b c d : Bool) → (a || b || (c || d)) ≡ (a || c || (b || d))
swap true b c d = refl
swap false true c d = sym (or-true c)
swap false false c d = refl

either_is : (p q : List Pattern) (w : List Symbol) → anywhere (λ v. fits p v || fits q v) w ≡ (somewhere p w || somewhere q w)
either_is p q [] = refl
either_is p q (x ∷ w) = ap (λ t. fits p (x ∷ w) || fits q (x ∷ w) || t) (either_is p q w) ∙ swap (fits p (x ∷ w)) (fits q (x ∷ w)) (somewhere p w) (somewhere q w)

any_same : (f h : ℕ → Bool) → ((r : ℕ) → f r ≡ h r) → (l : List ℕ) → any f l ≡ any h l
any_same f h e l = ap (λ t. any t l) (fun_ext e)

any-either : (f h : ℕ → Bool) (l : List ℕ) → any (λ r. f r || h r) l ≡ (any f l || any h l)
any-either f h [] = refl
any-either f h (x ∷ l) =
    any-cons (λ r. f r || h r) x l ∙ ap (λ t. f x || h x || t) (any-either f h l) ∙ swap (f x) (h x) (any f l) (any h l)
    ∙ sym (ap₂ ◌||◌ (any-cons f x l) (any-cons h x l))

pub shows : {g : Grammar} {rows : List ℕ} → Seen g (length g.rules) rows → Shows g rows
unfolding yields_test equal_test takes_test in_play
shows {g} {rows} seen = by_kind
  where
    right : ℕ → List Symbol
    right r = (rule_at g r).right

    all : List ℕ
    all = in_play g

    by : (k : Relation) (a b : ℕ) (test : Bool) → any (shown_in g k a b) all ≡ test → a < 64 → b < 64 → holds rows k a b ≡ (test || end_test g k a b)
    by k a b test e i j = seen.says k a b i j ∙ ap (λ t. end_test g k a b || t) e ∙ or_comm (end_test g k a b) test

    by_kind : (k : Relation) (a b : ℕ) → a < 64 → b < 64 → holds rows k a b ≡ test_of g k a b
    by_kind blank a b = λ i j. refl
    by_kind yields a b = by yields a b _ (any_same _ _ (λ r. somewhere-is (this a ∷ one (λ d. left_member g d b) ∷ []) (right r)) all)
    by_kind equal a b = by equal a b _
        (any_same _ _ (λ r. either_is (this a ∷ this b ∷ []) (this a ∷ one (λ k. true) ∷ this b ∷ []) (right r)) all
        ∙ any-either (λ r. somewhere (this a ∷ this b ∷ []) (right r)) (λ r. somewhere (this a ∷ one (λ k. true) ∷ this b ∷ []) (right r)) all)
    by_kind takes a b = by takes a b _ (any_same _ _ (λ r. somewhere-is (one (λ d. left_member (mirrored g) d a) ∷ this b ∷ []) (right r)) all)

-- ---- conflicts and entries

-- a relation as code names it
abbrev pub as_code : Relation → code.Relation
as_code blank = Blank
as_code yields = Yields
as_code equal = Equal
as_code takes = Takes

-- the one relation of three tests; none where two of them pass
abbrev pub only_of : Bool → Bool → Bool → Option code.Relation
only_of e y t = pick (two_of e y t) None (Some (as_code (first_of e y t)))

-- one that is given is the one relation
pub some-told : (two : Bool) (only given : code.Relation) → ◌≡◌ {A = Option code.Relation} (Some given) (pick two None (Some only)) → (two ≡ false) × (given ≡ only)
some-told true only given e = let z : ◌≡◌ {A = ℕ} 0 1 = cc in absurd (omega arith)
some-told false only given e = (refl, cc)

-- what the rows say of a pair: its relation, and whether it has two
module _ (rows : List ℕ) (a b : ℕ) where
  abbrev pub only_in : Option code.Relation
  only_in = only_of (holds rows equal a b) (holds rows yields a b) (holds rows takes a b)

  abbrev pub relation_in : Relation
  relation_in = first_of (holds rows equal a b) (holds rows yields a b) (holds rows takes a b)

  abbrev pub two_in : Bool
  two_in = two_of (holds rows equal a b) (holds rows yields a b) (holds rows takes a b)

-- and of the pair at v: the byte that it has in the matrix, and whether it is a conflict
abbrev pub byte_in : List ℕ → ℕ → ℕ
byte_in rows v = relation_number (relation_in rows (v / 64) (v % 64))

abbrev pub clash_in : List ℕ → ℕ → Bool
clash_in rows v = two_in rows (v / 64) (v % 64)

module _ (rows : List ℕ) (a b : ℕ) (h : b < 64) where
  over : (64 * a + b) / 64 ≡ a
  over = omega arith

  behind : (64 * a + b) % 64 ≡ b
  behind = omega arith

  pub byte-at : relation_number (relation_in rows a b) ≡ byte_in rows (64 * a + b)
  byte-at = rw (over, behind)

  pub clash-at : two_in rows a b ≡ clash_in rows (64 * a + b)
  clash-at = rw (over, behind)

-- a row of the matrix that is written: no pair of it has two relations
pub record RowWritten (rows : List ℕ) (a t : ℕ) (old new : List ℕ) : Type 0 where
  pub written : new ≡ sets old (64 * a) (tabulate_from (byte_in rows) (t + 1) (64 * a))
  pub free : (b : ℕ) → b ≤ t → clash_in rows (64 * a + b) ≡ false

-- a row that is refused: its first pair with two relations is named
pub record RowRefused (rows : List ℕ) (a t : ℕ) (refusal : Refusal) : Type 0 where
  pub other : ℕ
  pub within : other ≤ t
  pub names : refusal ≡ Conflict (64 * a + other)
  pub two : clash_in rows (64 * a + other) ≡ true
  pub least : (b : ℕ) → b < other → clash_in rows (64 * a + b) ≡ false

-- the matrix, where no pair has two relations
pub record Whole (g : Grammar) (table : List ℕ) : Type 0 where
  pub free : Clear (clash_at g) 4096
  pub is : table ≡ tabulate (entry_at g) 4096

-- and else the refusal
pub record FirstConflict (g : Grammar) (refusal : Refusal) : Type 0 where
  pub pair : ℕ
  pub within : pair < 4096
  pub names : refusal ≡ Conflict pair
  pub two : clash_at g pair ≡ true
  pub least : Clear (clash_at g) pair

module _ (g : Grammar) (a b : ℕ) where
  -- of a pair that is used the three tests decide
  used-clash : in_use g a b ≡ true → two_of (equal_test g a b) (yields_test g a b) (takes_test g a b) ≡ clash g a b
  unfolding clash
  used-clash e = rw (e, clash)

  used-number : in_use g a b ≡ true → relation_number (first_of (equal_test g a b) (yields_test g a b) (takes_test g a b)) ≡ relation_number (relation_of g a b)
  unfolding relation_of
  used-number e = rw (e, relation_of)

  -- one that is not used has no relation
  unused-clash : in_use g a b ≡ false → clash g a b ≡ false
  unfolding clash
  unused-clash e = rw (e, clash)

  unused-number : in_use g a b ≡ false → relation_number (relation_of g a b) ≡ 0
  unfolding relation_of
  unused-number e = rw (e, relation_of)

not-used : (g : Grammar) (a b : ℕ) → (g.terminals < a) ⊎ (g.terminals < b) → in_use g a b ≡ false
not-used g a b (inl h) = rw (lt-leb a g.terminals h)
not-used g a b (inr h) = rw (lt-leb b g.terminals h) (and-false (leb a g.terminals))

module _ (g : Grammar) (v : ℕ) where
  -- the rows have the matrix's entries and conflicts, where both numbers are at most T
  module _ (rows : List ℕ) (are : Shows g rows) (i : v / 64 < 64) (p : v / 64 ≤ g.terminals) (q : v % 64 ≤ g.terminals) where
    low : v % 64 < 64
    low = omega arith

    pub byte-is : byte_in rows v ≡ entry_at g v
    byte-is =
        rw (are equal (v / 64) (v % 64) i low, are yields (v / 64) (v % 64) i low, are takes (v / 64) (v % 64) i low)
        (used-number g (v / 64) (v % 64) (in-use g (v / 64) (v % 64) p q))

    pub clash-is : clash_in rows v ≡ clash_at g v
    clash-is =
        rw (are equal (v / 64) (v % 64) i low, are yields (v / 64) (v % 64) i low, are takes (v / 64) (v % 64) i low)
        (used-clash g (v / 64) (v % 64) (in-use g (v / 64) (v % 64) p q))

  -- past T there is none
  module _ (past : (g.terminals < v / 64) ⊎ (g.terminals < v % 64)) where
    pub byte-none : entry_at g v ≡ 0
    byte-none = unused-number g (v / 64) (v % 64) (not-used g (v / 64) (v % 64) past)

    pub clash-none : clash_at g v ≡ false
    clash-none = unused-clash g (v / 64) (v % 64) (not-used g (v / 64) (v % 64) past)

-- the table after its first a rows, none of which has a conflict
pub record Rows (g : Grammar) (a : ℕ) (table : List ℕ) : Type 0 where
  pub rowed : Rowed (entry_at g) 4096 a table
  pub free : Clear (clash_at g) (64 * a)

pub rows-none : (g : Grammar) → Rows g 0 (replicate 4096 0)
rows-none g = record { rowed = rowed-none (entry_at g) 4096; free = λ k h. absurd (omega arith) }

module _ (g : Grammar) {a t : ℕ} {table : List ℕ} (all : t ≡ g.terminals) (low : t < 64) (done : Rows g a table) where
  module _ (rows : List ℕ) (are : Shows g rows) (h : a ≤ t) where
    clash-here : (v : ℕ) → 64 * a ≤ v → v ≤ 64 * a + t → clash_in rows v ≡ clash_at g v
    clash-here v i j = clash-is g v rows are (omega arith) (omega arith) (omega arith)

    -- before place b of row a there is no conflict, where the row has none before b
    before : (b : ℕ) → b ≤ t + 1 → ((k : ℕ) → k < b → clash_in rows (64 * a + k) ≡ false) → Clear (clash_at g) (64 * a + b)
    before b l free v k = go (dec_lt v (64 * a))
      where
        go : Dec (v < 64 * a) → clash_at g v ≡ false
        go (yes i) = done.free v i
        go (no i) =
            let e : 64 * a + (v - 64 * a) ≡ v = omega arith in
            sym (clash-here v (omega arith) (omega arith)) ∙ (rw e at (free (v - 64 * a) (omega arith)))

    -- one row more
    pub rows-more : {after : List ℕ} → RowWritten rows a t table after → Rows g (a + 1) after
    rows-more {after} r = record {
      rowed = rw r.written
          (rowed-more (entry_at g) 4096 done.rowed (byte_in rows) t low (omega arith)
          (λ v i j. byte-is g v rows are (omega arith) (omega arith) (omega arith)) (λ v i j. byte-none g v (inr (omega arith))));
      free = λ v k. go v k (dec_lt v (64 * a + (t + 1)));
    }
      where
        go : (v : ℕ) → v < 64 * (a + 1) → Dec (v < 64 * a + (t + 1)) → clash_at g v ≡ false
        go v k (yes i) = before (t + 1) (omega arith) (λ b l. r.free b (omega arith)) v i
        go v k (no i) = clash-none g v (inr (omega arith))

    -- a row that is refused has the first conflict
    pub rows-refused : {refusal : Refusal} → RowRefused rows a t refusal → FirstConflict g refusal
    rows-refused r = record {
      pair = 64 * a + r.other;
      within = omega (arith, r.within);
      names = r.names;
      two = sym (clash-here (64 * a + r.other) (omega arith) (omega (arith, r.within))) ∙ r.two;
      least = before r.other (omega (arith, r.within)) r.least;
    }

  -- all rows up to T's are the matrix
  pub rows-whole : t < a → Whole g table
  rows-whole h = record {
    free = λ v k. go v (dec_lt v (64 * a));
    is = rowed-whole (entry_at g) 4096 done.rowed (λ v i j. byte-none g v (inl (omega arith)));
  }
    where
      go : (v : ℕ) → Dec (v < 64 * a) → clash_at g v ≡ false
      go v (yes i) = done.free v i
      go v (no i) = clash-none g v (inl (omega arith))
