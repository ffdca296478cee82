-- Relations as rows of masks, and what the right sides show of them: two neighbouring symbols, or two terminals around one
-- nonterminal, place by place and rule by rule.
-- Document 01, "Sets and matrix": "equal (2): some right side has a then b, or a, one nonterminal, b. yields (1): some right side
-- has a then nonterminal D, and b is in D's left set. takes (3): some right side has nonterminal D then b, and a is in D's right
-- set."
-- Rests on Edges, MaskRows and SetPasses, on words' Rules and on language's SetMasks.
--
-- Main definitions: holds, Adds, here, shown_by, pair_shown, anywhere, Walked.
-- Main statements: pair-adds, around-adds (what a pair of neighbours adds, and one around a nonterminal), walked_step, walked_end
-- (what a right side adds).
use Rattle.std.specs.Prelude.{◌≡◌, refl, Bool, true, false, ◌&&◌, ◌||◌, List, [], ◌∷◌, map, ℕ, suc, ◌+◌, ◌-◌, ◌^◌, ◌≤◌, ◌<◌, eqb, leb, length, get_or, drop}
use Rattle.std.proofs.Common.{sym, ap, ap₂, ◌∙◌, arith, length-set, drop_of_length-le, drop-cons, get_or-set_other}
use Rattle.std.proofs.Math.Bool.{or_assoc, or-false, and-false, and_comm}
use Rattle.std.proofs.Math.Decide.{dec_lt, ℕ_discrete}
use Rattle.std.specs.Int.Bits.{bit_or}
use Rattle.laws.specs.Picks.{pick}
use Rattle.laws.specs.Tests.{le-leb, lt-leb, eq-eqb, ne_eqb}
use Rattle.laws.specs.Masks.{bit, bit-pow}
use Rattle.language.specs.Symbols.{Symbol, terminal, nonterminal, symbol_of, Relation, blank, yields, equal, takes}
use Rattle.language.specs.Grammar.{Grammar, mirrored}
use Rattle.language.specs.RightSides.{Pattern, this, one, passes, fits}
use Rattle.language.specs.SetMasks.{left_member}
use Rattle.table.specs.declared.relations.Added.{Added}
use Rattle.words.specs.Rules.{is_terminal, is_nonterminal}
use Rattle.table.specs.MaskRows.{gains, gains-bit}
use Rattle.table.specs.Edges.{RightSide}
use Rattle.table.specs.SetPasses.{AreSets}

-- the rows say that a stands in this relation to b
abbrev pub holds : List ℕ → Relation → ℕ → ℕ → Bool
holds rows blank a b = false
holds rows yields a b = bit (get_or rows (64 + a) 0) b
holds rows equal a b = bit (get_or rows a 0) b
holds rows takes a b = bit (get_or rows (128 + b) 0) a

-- the rows afterwards, 192 of them, say what they said before, and what the tests say
pub record Adds (tests : Relation → ℕ → ℕ → Bool) (before after : List ℕ) : Type 0 where
  pub long : length after ≡ 192
  pub says : (k : Relation) (a b : ℕ) → a < 64 → b < 64 → holds after k a b ≡ (holds before k a b || tests k a b)

-- ---- one pair of neighbours

-- what a right side shows at its start
abbrev pub here : Grammar → Relation → ℕ → ℕ → List Symbol → Bool
here g blank a b w = false
here g yields a b w = fits (this a ∷ one (λ d. left_member g d b) ∷ []) w
here g equal a b w = fits (this a ∷ this b ∷ []) w || fits (this a ∷ one (λ k. true) ∷ this b ∷ []) w
here g takes a b w = fits (one (λ d. left_member (mirrored g) d a) ∷ this b ∷ []) w

-- what code asks of the symbols of a pair: those that pick a row, a bit or a set are below 64
pub record Paired (a b : ℕ) : Type 0 where
  pub first_terminal : a < 256 → a < 64
  pub first_nonterminal : a < 320
  pub second_terminal : b < 256 → b < 64
  pub second_nonterminal : b < 320
  pub second : 256 ≤ a → b < 64

-- what the pair a, b shows: the row that gains, and the members it gains
abbrev pub shown_by : List ℕ → List ℕ → ℕ → ℕ → Added
shown_by left right a b =
    pick (leb 256 a) (record { row = 128 + b; mask = get_or right (a - 256) 0 })
    (pick (leb 256 b) (record { row = 64 + a; mask = get_or left (b - 256) 0 })
    (record { row = a; mask = 2 ^ b }))

-- that row is one of the 192
pub row_below : (left right : List ℕ) (a b : ℕ) → Paired a b → (shown_by left right a b).row < 192
row_below left right a b p = go (dec_lt a 256) (dec_lt b 256)
  where
    go : Dec (a < 256) → Dec (b < 256) → (shown_by left right a b).row < 192
    go (yes h) (yes l) = rw (lt-leb 256 a h, lt-leb 256 b l) (omega (arith, p.first_terminal h))
    go (yes h) (no l) = rw (lt-leb 256 a h, le-leb 256 b (omega arith)) (omega (arith, p.first_terminal h))
    go (no h) l = rw (le-leb 256 a (omega arith)) (omega (arith, p.second (omega arith)))

-- the rows with what it shows
abbrev pub pair_shown : List ℕ → List ℕ → ℕ → ℕ → List ℕ → List ℕ
pair_shown left right a b rows = gains rows (shown_by left right a b).row (shown_by left right a b).mask

-- the neighbours at the start of the words ws
pub data Neighbours : List ℕ → Type 0 where
  terminals : {a b : ℕ} {ws : List ℕ} → a < 64 → b < 64 → Neighbours (a ∷ b ∷ ws)
  before_last : {a d : ℕ} → a < 64 → 256 ≤ d → d < 320 → Neighbours (a ∷ d ∷ [])
  around : {a d b : ℕ} {ws : List ℕ} → a < 64 → 256 ≤ d → d < 320 → 1 ≤ b → b < 64 → Neighbours (a ∷ d ∷ b ∷ ws)
  after_first : {d b : ℕ} {ws : List ℕ} → 256 ≤ d → d < 320 → b < 64 → Neighbours (d ∷ b ∷ ws)

-- ---- what is shown at the start of a string of two symbols or more, written with the connectives

and_is : (x y : Bool) → ◌≡◌ {A = Bool} (elim x [ false ↦ false | true ↦ y ]) (x && y)
and_is true y = refl
and_is false y = refl

last-is : (x : Bool) → ◌≡◌ {A = Bool} (elim x [ false ↦ false | true ↦ true ]) x
last-is true = refl
last-is false = refl

fits_one : (p : Pattern) (x : Symbol) (w : List Symbol) → fits (p ∷ []) (x ∷ w) ≡ passes p x
fits_one p x w = last-is (passes p x)

fits_more : (p q : Pattern) (ps : List Pattern) (x : Symbol) (w : List Symbol) → fits (p ∷ q ∷ ps) (x ∷ w) ≡ (passes p x && fits (q ∷ ps) w)
fits_more p q ps x w = and_is (passes p x) (fits (q ∷ ps) w)

fits-two : (p q : Pattern) (x y : Symbol) (w : List Symbol) → fits (p ∷ q ∷ []) (x ∷ y ∷ w) ≡ (passes p x && passes q y)
fits-two p q x y w = fits_more p q [] x (y ∷ w) ∙ ap (λ t. passes p x && t) (fits_one q y w)

fits-three : (p q r : Pattern) (x y : Symbol) (w : List Symbol) → fits (p ∷ q ∷ r ∷ []) (x ∷ y ∷ w) ≡ (passes p x && (passes q y && fits (r ∷ []) w))
fits-three p q r x y w = fits_more p q (r ∷ []) x (y ∷ w) ∙ ap (λ t. passes p x && t) (fits_more q r [] y w)

pub paired : {ws : List ℕ} → Neighbours ws → Paired (get_or ws 0 0) (get_or ws 1 0)
paired (terminals h l) = omega arith
paired (before_last h l n) = omega arith
paired (around h l n p q) = omega arith
paired (after_first l n q) = omega arith

pub paired-around : {ws : List ℕ} → Neighbours ws → 256 ≤ get_or ws 1 0 → 2 < length ws → Paired (get_or ws 0 0) (get_or ws 2 0)
paired-around (terminals h l) m k = absurd (omega arith)
paired-around (before_last h l n) m k = absurd (omega arith)
paired-around (around h l n p q) m k = omega arith
paired-around (after_first l n q) m k = absurd (omega arith)

module _ (g : Grammar) (a b : ℕ) (x y : Symbol) (w : List Symbol) where
  here-yields : here g yields a b (x ∷ y ∷ w) ≡ (passes (this a) x && passes (one (λ d. left_member g d b)) y)
  here-yields = fits-two (this a) (one (λ d. left_member g d b)) x y w

  here-takes : here g takes a b (x ∷ y ∷ w) ≡ (passes (one (λ d. left_member (mirrored g) d a)) x && passes (this b) y)
  here-takes = fits-two (one (λ d. left_member (mirrored g) d a)) (this b) x y w

  here-equal : here g equal a b (x ∷ y ∷ w)
      ≡ ((passes (this a) x && passes (this b) y) || (passes (this a) x && (passes (one (λ k. true)) y && fits (this b ∷ []) w)))
  here-equal = ap₂ ◌||◌ (fits-two (this a) (this b) x y w) (fits-three (this a) (one (λ k. true)) (this b) x y w)

-- a test that a mask keeps, and that a row gains
kept : (old new : Bool) → new ≡ false → old ≡ (old || new)
kept old new e = sym (ap (λ t. old || t) e ∙ or-false old)

row-gains : (rows : List ℕ) (i m x t : ℕ) (new : Bool) → length rows ≡ 192 → i < 192 → (eqb x i && bit m t) ≡ new
    → bit (get_or (gains rows i m) x 0) t ≡ (bit (get_or rows x 0) t || new)
row-gains rows i m x t new long h e = gains-bit rows i m x t (omega arith) ∙ ap (λ n. bit (get_or rows x 0) t || n) e

-- a row that gains nothing
row_kept : (rows : List ℕ) (i m x t : ℕ) → (x ≡ i → ⊥) → bit (get_or (gains rows i m) x 0) t ≡ bit (get_or rows x 0) t
row_kept rows i m x t n = ap (λ (row : ℕ). bit row t) (get_or-set_other rows i x (bit_or (get_or rows i 0) m) 0 n)

-- the rows of one relation are told apart by their terminals
pub row_same : (k a u : ℕ) → eqb (k + a) (k + u) ≡ eqb a u
row_same k a u = go (ℕ_discrete a u)
  where
    go : Dec (a ≡ u) → eqb (k + a) (k + u) ≡ eqb a u
    go (yes e) = rw (e, eq-eqb u u refl, eq-eqb (k + u) (k + u) refl)
    go (no n) = let far : k + a ≡ k + u → ⊥ = λ e. n (omega arith) in rw (ne_eqb a u n, ne_eqb (k + a) (k + u) far)

gains-long : (rows : List ℕ) (i m : ℕ) → length rows ≡ 192 → length (gains rows i m) ≡ 192
gains-long rows i m long = length-set rows i (bit_or (get_or rows i 0) m) ∙ long

module _ (g : Grammar) (left right : List ℕ) (sets : AreSets g left right) (rows : List ℕ) (long : length rows ≡ 192) where
  -- row u gains the terminal v, as equal says it
  equal-gains : (now : List ℕ) → length now ≡ 192 → (u v : ℕ) → u < 64 → (a b : ℕ) (new : Bool) → (eqb a u && eqb b v) ≡ new
      → holds (gains now u (2 ^ v)) equal a b ≡ (holds now equal a b || new)
  equal-gains now l u v h a b new e =
      row-gains now u (2 ^ v) a b new l (omega arith) (ap (λ t. eqb a u && t) (bit-pow v b) ∙ e)

  -- a then b
  adds-terminals : (u v : ℕ) (w : List Symbol) → u < 64 → Adds (λ k a b. here g k a b (terminal u ∷ terminal v ∷ w)) rows (gains rows u (2 ^ v))
  adds-terminals u v w h = record { long = gains-long rows u (2 ^ v) long; says = says }
    where
      says : (k : Relation) (a b : ℕ) → a < 64 → b < 64 → holds (gains rows u (2 ^ v)) k a b ≡ (holds rows k a b || here g k a b (terminal u ∷ terminal v ∷ w))
      says blank a b i j = refl
      says yields a b i j = row_kept rows u (2 ^ v) (64 + a) b (omega arith) ∙ kept _ _ (here-yields g a b (terminal u) (terminal v) w ∙ and-false (eqb a u))
      says equal a b i j = equal-gains rows long u v h a b _
          (sym (here-equal g a b (terminal u) (terminal v) w ∙ ap (λ t. (eqb a u && eqb b v) || t) (and-false (eqb a u)) ∙ or-false (eqb a u && eqb b v)))
      says takes a b i j = row_kept rows u (2 ^ v) (128 + b) a (omega arith) ∙ kept _ _ refl

  -- a then nonterminal D
  module _ (u d : ℕ) (h : u < 64) where
    abbrev yielded : List ℕ
    yielded = gains rows (64 + u) (get_or left d 0)

    yielded-long : length yielded ≡ 192
    yielded-long = gains-long rows (64 + u) (get_or left d 0) long

    yields-gains : (w : List Symbol) (a b : ℕ) → holds yielded yields a b ≡ (holds rows yields a b || here g yields a b (terminal u ∷ nonterminal d ∷ w))
    yields-gains w a b = row-gains rows (64 + u) (get_or left d 0) (64 + a) b _ long (omega arith)
        (ap (λ t. t && bit (get_or left d 0) b) (row_same 64 a u) ∙ ap (λ t. eqb a u && t) (sets.lefts d b) ∙ sym (here-yields g a b (terminal u) (nonterminal d) w))

    -- equal stays, and so does takes
    equal-kept : (a b : ℕ) → a < 64 → holds yielded equal a b ≡ holds rows equal a b
    equal-kept a b i = row_kept rows (64 + u) (get_or left d 0) a b (omega arith)

    takes-kept : (a b : ℕ) → holds yielded takes a b ≡ holds rows takes a b
    takes-kept a b = row_kept rows (64 + u) (get_or left d 0) (128 + b) a (omega arith)

    -- what a then D, and what stands behind it, show of equal
    here-around : (w : List Symbol) (a b : ℕ) → here g equal a b (terminal u ∷ nonterminal d ∷ w) ≡ (eqb a u && fits (this b ∷ []) w)
    here-around w a b = here-equal g a b (terminal u) (nonterminal d) w ∙ ap (λ t. t || (eqb a u && fits (this b ∷ []) w)) (and-false (eqb a u))

    adds-last : Adds (λ k a b. here g k a b (terminal u ∷ nonterminal d ∷ [])) rows yielded
    adds-last = record { long = yielded-long; says = says }
      where
        says : (k : Relation) (a b : ℕ) → a < 64 → b < 64 → holds yielded k a b ≡ (holds rows k a b || here g k a b (terminal u ∷ nonterminal d ∷ []))
        says blank a b i j = refl
        says yields a b i j = yields-gains [] a b
        says equal a b i j = equal-kept a b i ∙ kept _ _ (here-around [] a b ∙ and-false (eqb a u))
        says takes a b i j = takes-kept a b ∙ kept _ _ refl

    -- then b
    adds-around : (v : ℕ) (w : List Symbol) → Adds (λ k a b. here g k a b (terminal u ∷ nonterminal d ∷ terminal v ∷ w)) rows (gains yielded u (2 ^ v))
    adds-around v w = record { long = gains-long yielded u (2 ^ v) yielded-long; says = says }
      where
        says : (k : Relation) (a b : ℕ) → a < 64 → b < 64 → holds (gains yielded u (2 ^ v)) k a b
            ≡ (holds rows k a b || here g k a b (terminal u ∷ nonterminal d ∷ terminal v ∷ w))
        says blank a b i j = refl
        says yields a b i j = row_kept yielded u (2 ^ v) (64 + a) b (omega arith) ∙ yields-gains (terminal v ∷ w) a b
        says equal a b i j =
            equal-gains yielded yielded-long u v h a b _ (sym (here-around (terminal v ∷ w) a b ∙ ap (λ t. eqb a u && t) (fits_one (this b) (terminal v) w)))
            ∙ ap (λ t. t || here g equal a b (terminal u ∷ nonterminal d ∷ terminal v ∷ w)) (equal-kept a b i)
        says takes a b i j = row_kept yielded u (2 ^ v) (128 + b) a (omega arith) ∙ takes-kept a b ∙ kept _ _ refl

  -- nonterminal D then b
  adds-takes : (d v : ℕ) (w : List Symbol) → v < 64 → Adds (λ k a b. here g k a b (nonterminal d ∷ terminal v ∷ w)) rows (gains rows (128 + v) (get_or right d 0))
  adds-takes d v w h = record { long = gains-long rows (128 + v) (get_or right d 0) long; says = says }
    where
      says : (k : Relation) (a b : ℕ) → a < 64 → b < 64 → holds (gains rows (128 + v) (get_or right d 0)) k a b ≡ (holds rows k a b || here g k a b (nonterminal d ∷ terminal v ∷ w))
      says blank a b i j = refl
      says yields a b i j = row_kept rows (128 + v) (get_or right d 0) (64 + a) b (omega arith) ∙ kept _ _ refl
      says equal a b i j = row_kept rows (128 + v) (get_or right d 0) a b (omega arith) ∙ kept _ _ refl
      says takes a b i j = row-gains rows (128 + v) (get_or right d 0) (128 + b) a _ long (omega arith)
          (ap (λ t. t && bit (get_or right d 0) a) (row_same 128 b v) ∙ ap (λ t. eqb b v && t) (sets.rights d a)
          ∙ and_comm (eqb b v) (left_member (mirrored g) d a) ∙ sym (here-takes g a b (nonterminal d) (terminal v) w))

  -- two neighbours; where the second is a nonterminal nothing stands behind it
  pub pair-adds : {ws : List ℕ} → Neighbours ws → (256 ≤ get_or ws 1 0 → length ws ≤ 2)
      → Adds (λ k a b. here g k a b (map symbol_of ws)) rows (pair_shown left right (get_or ws 0 0) (get_or ws 1 0) rows)
  pair-adds (terminals {a = u} {b = v} {ws = ws} h l) alone =
      rw (is_terminal u (omega arith), is_terminal v (omega arith), lt-leb 256 u (omega arith), lt-leb 256 v (omega arith)) (adds-terminals u v (map symbol_of ws) h)
  pair-adds (before_last {a = u} {d = d} h l n) alone =
      rw (is_terminal u (omega arith), is_nonterminal d l, lt-leb 256 u (omega arith), le-leb 256 d l) (adds-last u (d - 256) h)
  pair-adds (around {a = u} {d = d} {b = v} {ws = ws} h l n p q) alone = absurd (omega (arith, alone l))
  pair-adds (after_first {d = d} {b = v} {ws = ws} l n q) alone =
      rw (is_nonterminal d l, is_terminal v (omega arith), le-leb 256 d l) (adds-takes (d - 256) v (map symbol_of ws) q)

  -- a, one nonterminal, and something behind it
  pub around-adds : {ws : List ℕ} → Neighbours ws → 256 ≤ get_or ws 1 0 → 2 < length ws
      → Adds (λ k a b. here g k a b (map symbol_of ws)) rows (pair_shown left right (get_or ws 0 0) (get_or ws 2 0) (pair_shown left right (get_or ws 0 0) (get_or ws 1 0) rows))
  around-adds (terminals h l) m k = absurd (omega arith)
  around-adds (before_last h l n) m k = absurd (omega arith)
  around-adds (around {a = u} {d = d} {b = v} {ws = ws} h l n p q) m k =
      rw (is_terminal u (omega arith), is_nonterminal d l, is_terminal v (omega arith), lt-leb 256 u (omega arith), le-leb 256 d l, lt-leb 256 v (omega arith))
      (adds-around u (d - 256) h v (map symbol_of ws))
  around-adds (after_first l n q) m k = absurd (omega arith)

-- ---- one right side

-- the neighbours at place i of a right side
pub neighbours : (ws : List ℕ) → RightSide ws → (i : ℕ) → suc i < length ws → Neighbours (drop i ws)
neighbours ws s i h =
    rw (drop-cons ws i 0 (omega arith), drop-cons ws (suc i) 0 h) (first (dec_lt (get_or ws i 0) 256) (dec_lt (get_or ws (suc i) 0) 256) (dec_lt (suc (suc i)) (length ws)))
  where
    first : Dec (get_or ws i 0 < 256) → Dec (get_or ws (suc i) 0 < 256) → Dec (suc (suc i) < length ws) → Neighbours (get_or ws i 0 ∷ get_or ws (suc i) 0 ∷ drop (suc (suc i)) ws)
    first (yes a) (yes b) c = terminals (s.terminal_low i (omega arith) a) (s.terminal_low (suc i) h b)
    first (yes a) (no d) (yes c) =
        let n = s.apart (suc i) c (omega arith) in
        rw (drop-cons ws (suc (suc i)) 0 c)
        (around {d = get_or ws (suc i) 0} (s.terminal_low i (omega arith) a) (omega arith) (s.nonterminal_low (suc i) h)
        (s.positive (suc (suc i)) c) (s.terminal_low (suc (suc i)) c n))
    first (yes a) (no d) (no c) =
        rw (drop_of_length-le ws {i = suc (suc i)} (omega arith))
        (before_last {d = get_or ws (suc i) 0} (s.terminal_low i (omega arith) a) (omega arith) (s.nonterminal_low (suc i) h))
    first (no d) b c =
        let n = s.apart i h (omega arith) in
        after_first {d = get_or ws i 0} (omega arith) (s.nonterminal_low i (omega arith)) (s.terminal_low (suc i) h n)

-- what is shown at some place of a string
abbrev pub anywhere : (List Symbol → Bool) → List Symbol → Bool
anywhere test [] = test []
anywhere test (x ∷ w) = test (x ∷ w) || anywhere test w

-- at the place where `rest` stands: the rows, with what is still to come, say what they said before and what the whole string shows
pub record Walked (g : Grammar) (whole rest : List Symbol) (before after : List ℕ) : Type 0 where
  pub long : length after ≡ 192
  pub says : (k : Relation) (a b : ℕ) → a < 64 → b < 64 → (holds after k a b || anywhere (here g k a b) rest) ≡ (holds before k a b || anywhere (here g k a b) whole)

pub walked_none : (g : Grammar) (whole : List Symbol) (rows : List ℕ) → length rows ≡ 192 → Walked g whole whole rows rows
walked_none g whole rows long = record { long = long; says = λ k a b i j. refl }

-- where at most one symbol is left nothing more is shown
none_left : (g : Grammar) (k : Relation) (a b : ℕ) (w : List Symbol) → length w ≤ 1 → anywhere (here g k a b) w ≡ false
none_left g blank a b [] h = refl
none_left g yields a b [] h = refl
none_left g equal a b [] h = refl
none_left g takes a b [] h = refl
none_left g blank a b (x ∷ []) h = refl
none_left g yields a b (x ∷ []) h = ap (λ t. t || false) (fits_more (this a) (one (λ d. left_member g d b)) [] x [] ∙ and-false (passes (this a) x))
none_left g equal a b (x ∷ []) h =
    ap (λ t. t || false) (ap₂ ◌||◌ (fits_more (this a) (this b) [] x [] ∙ and-false (passes (this a) x))
    (fits_more (this a) (one (λ k. true)) (this b ∷ []) x [] ∙ and-false (passes (this a) x)))
none_left g takes a b (x ∷ []) h =
    ap (λ t. t || false) (fits_more (one (λ d. left_member (mirrored g) d a)) (this b) [] x [] ∙ and-false (passes (one (λ d. left_member (mirrored g) d a)) x))
none_left g k a b (x ∷ y ∷ w) h = absurd (omega arith)

module _ {g : Grammar} {whole : List Symbol} {before rows : List ℕ} where
  pub walked_step : {x : Symbol} {w : List Symbol} {after : List ℕ} → Walked g whole (x ∷ w) before rows → Adds (λ k a b. here g k a b (x ∷ w)) rows after
      → Walked g whole w before after
  walked_step {x} {w} walked adds = record {
    long = adds.long;
    says = λ k a b i j.
        ap (λ t. t || anywhere (here g k a b) w) (adds.says k a b i j) ∙ or_assoc (holds rows k a b) (here g k a b (x ∷ w)) (anywhere (here g k a b) w) ∙ walked.says k a b i j;
  }

  pub walked_end : {rest : List Symbol} → Walked g whole rest before rows → length rest ≤ 1 → Adds (λ k a b. anywhere (here g k a b) whole) before rows
  walked_end {rest} walked h = record {
    long = walked.long;
    says = λ k a b i j. kept (holds rows k a b) (anywhere (here g k a b) rest) (none_left g k a b rest h) ∙ walked.says k a b i j;
  }
