-- Check 5 by places of the run: two bodies, each of so many words from a place on, have the same right side where they have the same size and
-- no word after the first differs.
-- Document 01, 5 TWIN: "an earlier rule has the same right side".
-- Rests on Laid and Twins.
--
-- Main definitions: Fitting, Body, same_right-at. Main statements: body_of, twin-is-at; size-differs-at, word-differs-at, words_same-at.
use Rattle.std.specs.Prelude.{◌≡◌, Bool, true, false, List, map, ℕ, zero, suc, ◌+◌, ◌-◌, ◌≤◌, ◌<◌, length, get_or, take}
use Rattle.std.proofs.Common.{sym, ap, ap₂, ◌∙◌, arith, get_or-take, get_or-drop}
use Rattle.std.proofs.Math.Seq.{slice, length-slice}
use Rattle.language.specs.Symbols.{symbol_of, same_string}
use Rattle.language.specs.Grammar.{rule_at}
use Rattle.language.specs.Words.{count_r, entry, body_end, right_words, grammar_of}
use Rattle.words.specs.Laid.{Laid, within}
use Rattle.words.specs.Twins.{twin_of, twin-is, size-differs, word-differs, words_same}

-- a body of size words at start fits in the run, and has a right side
pub record Fitting (words : List ℕ) (start size : ℕ) : Type 0 where
  pub fits : start + size ≤ length words
  pub some_right : 1 < size

-- the words of a body after the first
abbrev right_in : List ℕ → ℕ → ℕ → List ℕ
right_in words start size = slice (suc start) (start + size) words

right-at : (words : List ℕ) (start size j : ℕ) → suc j < size → get_or (right_in words start size) j 0 ≡ get_or words (start + suc j) 0
right-at words start size j h =
    let e : suc start + j ≡ start + suc j = omega arith in
    get_or-drop (suc start) (take (start + size) words) j 0 ∙ get_or-take (start + size) words (suc start + j) 0 (omega arith) ∙ ap (λ (p : ℕ). get_or words p 0) e

-- rule q has the right side of the body at start
abbrev pub same_right-at : List ℕ → ℕ → ℕ → ℕ → Bool
same_right-at words start size q = same_string (rule_at (grammar_of words) q).right (map symbol_of (right_in words start size))

-- rule r's body is the size words from start on
pub record Body (words : List ℕ) (r start size : ℕ) : Type 0 where
  pub rule : r < count_r words
  pub begins : start ≡ entry words r
  pub ends : start + size ≡ body_end words r
  pub fitting : Fitting words start size

pub body_of : {words : List ℕ} → Laid words → {r start end : ℕ} → r < count_r words → start ≡ entry words r → end ≡ body_end words r → Body words r start (end - start)
body_of {words} l {r} h a b =
    let low = l.least r h in
    let high = within words l r h in
    record { rule = h; begins = a; ends = omega arith; fitting = record { fits = omega arith; some_right = omega arith } }

module _ {words : List ℕ} where
  right-body : {r start size : ℕ} → Body words r start size → right_in words start size ≡ right_words words r
  right-body p = ap₂ (λ (start end : ℕ). slice start end words) (ap suc p.begins) p.ends

  -- of rule r's body, same_right-at tells the twins of rule r
  pub twin-is-at : {r start size : ℕ} → Body words r start size → (q : ℕ) → same_right-at words start size q ≡ twin_of words r q
  twin-is-at p = twin-is words p.rule (right-body p)

  module _ {q a b size size' : ℕ} (p : Body words q a size) (p' : Fitting words b size') where
    -- right sides of different length
    pub size-differs-at : (size ≡ size' → ⊥) → false ≡ same_right-at words b size' q
    size-differs-at d =
        let s = length-slice (suc a) (a + size) words p.fitting.fits in
        let t = length-slice (suc b) (b + size') words p'.fits in
        size-differs words (right_in words b size') q p.rule (λ e. d (omega (arith, ap length (right-body p), e, s, t, p.fitting.some_right, p'.some_right)))

  module _ {q a b size : ℕ} (p : Body words q a size) (p' : Fitting words b size) where
    -- word j of rule q's right side
    word-at : (j : ℕ) → suc j < size → get_or (right_words words q) j 0 ≡ get_or words (a + suc j) 0
    word-at j h = ap (λ (ws : List ℕ). get_or ws j 0) (sym (right-body p)) ∙ right-at words a size j h

    -- right sides with a word that differs
    pub word-differs-at : (j : ℕ) → 1 ≤ j → j < size → (get_or words (a + j) 0 ≡ get_or words (b + j) 0 → ⊥) → false ≡ same_right-at words b size q
    word-differs-at zero k h d = absurd (omega arith)
    word-differs-at (suc j) k h d =
        word-differs words (right_in words b size) q p.rule j (λ e. d (sym (word-at j h) ∙ e ∙ right-at words b size j h))

    -- right sides with none
    pub words_same-at : ((j : ℕ) → j < size → 1 ≤ j → get_or words (a + j) 0 ≡ get_or words (b + j) 0) → true ≡ same_right-at words b size q
    words_same-at e =
        let s = length-slice (suc a) (a + size) words p.fitting.fits in
        let t = length-slice (suc b) (b + size) words p'.fits in
        words_same words (right_in words b size) q p.rule (omega (arith, ap length (right-body p), s, t))
        (λ j l. let i : suc j < size = omega (arith, t) in word-at j i ∙ e (suc j) i (omega arith) ∙ sym (right-at words b size j i))
