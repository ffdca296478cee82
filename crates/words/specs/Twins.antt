-- Check 5 by words: two right sides are the same where they have the same length and no word differs.
-- Document 01, 5 TWIN: "an earlier rule has the same right side".
-- Rests on Rules.
--
-- Main definitions: same_right, twin_of. Main statements: right_told, twin-is; size-differs, word-differs, words_same.
use Rattle.std.specs.Prelude.{◌≡◌, ◌↔◌, Bool, true, false, List, map, ℕ, ◌<◌, length, get_or}
use Rattle.std.proofs.Common.{sym, ap, ◌∙◌, arith, ext_get_or}
use Rattle.laws.specs.Tests.{false-unless}
use Rattle.language.specs.Symbols.{symbol_of, word_of, same_string}
use Rattle.language.proofs.Symbols.{same_string-eq, same_string-refl}
use Rattle.language.specs.Grammar.{rule_at}
use Rattle.language.specs.Words.{count_r, right_words, grammar_of}
use Rattle.words.specs.Rules.{right_of, words_back}

-- the test of two right sides tells whether their words are the same
same-words : (xs ys : List ℕ) → (same_string (map symbol_of xs) (map symbol_of ys) ≡ true) ↔ (xs ≡ ys)
same-words xs ys = (
  λ e. sym (words_back xs) ∙ ap (map word_of) (same_string-eq (map symbol_of xs) (map symbol_of ys) e) ∙ words_back ys,
  λ e. rw e (same_string-refl (map symbol_of ys)),
)

-- rule q has this right side
abbrev pub same_right : List ℕ → List ℕ → ℕ → Bool
same_right words right q = same_string (rule_at (grammar_of words) q).right (map symbol_of right)

-- rules q and r have the same right side
abbrev pub twin_of : List ℕ → ℕ → ℕ → Bool
twin_of words r q = same_string (rule_at (grammar_of words) q).right (rule_at (grammar_of words) r).right

module _ (words : List ℕ) where
  module _ (right : List ℕ) (q : ℕ) (h : q < count_r words) where
    -- the test compares the words of the two right sides
    pub right_told : (same_right words right q ≡ true) ↔ (right_words words q ≡ right)
    right_told = rw (right_of words q h) (same-words (right_words words q) right)

    -- right sides of different length; with a word that differs; with none
    pub size-differs : (length (right_words words q) ≡ length right → ⊥) → false ≡ same_right words right q
    size-differs d = sym (false-unless (same_right words right q) (λ e. d (ap length (right_told.0 e))))

    pub word-differs : (j : ℕ) → (get_or (right_words words q) j 0 ≡ get_or right j 0 → ⊥) → false ≡ same_right words right q
    word-differs j d = sym (false-unless (same_right words right q) (λ e. d (ap (λ (ws : List ℕ). get_or ws j 0) (right_told.0 e))))

    pub words_same : length (right_words words q) ≡ length right → ((j : ℕ) → j < length right → get_or (right_words words q) j 0 ≡ get_or right j 0)
        → true ≡ same_right words right q
    words_same long e = sym (right_told.1 (ext_get_or 0 (right_words words q) right long (λ j l. e j (omega (arith, long)))))

  -- of rule r's right side, same_right tells the twins of rule r
  pub twin-is : {r : ℕ} {right : List ℕ} → r < count_r words → right ≡ right_words words r → (q : ℕ) → same_right words right q ≡ twin_of words r q
  twin-is {r} h e q = rw e (ap (same_string (rule_at (grammar_of words) q).right) (sym (right_of words r h)))
