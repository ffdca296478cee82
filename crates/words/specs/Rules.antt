-- The right sides of the grammar that words stand for, as words, and the symbols of their words.
-- Document 01, "The grammar words": "A body is the left side as its plain number k, then the right side: a terminal as its number,
-- nonterminal k as 256 + k."
-- Rests on language's WordsInRange.
--
-- Main statements: right_of; is_terminal, is_nonterminal, words_back.
use Rattle.std.specs.Prelude.{◌≡◌, refl, List, [], ◌∷◌, map, ℕ, ◌-◌, ◌≤◌, ◌<◌}
use Rattle.std.proofs.Common.{ap, ◌∙◌, arith}
use Rattle.std.proofs.Math.Decide.{dec_lt}
use Rattle.laws.specs.Tests.{lt-ltb, le-ltb}
use Rattle.language.specs.Symbols.{terminal, nonterminal, symbol_of, word_of}
use Rattle.language.specs.Grammar.{Rule, rule_at}
use Rattle.language.specs.Words.{count_r, right_words, grammar_of}
use Rattle.language.proofs.WordsInRange.{rule-at}

-- rule r's right side is the words of its body after the first
pub right_of : (words : List ℕ) (r : ℕ) → r < count_r words → (rule_at (grammar_of words) r).right ≡ map symbol_of (right_words words r)
right_of words r h = ap (λ (rule : Rule). rule.right) (rule-at words r h)

-- the symbol of a word, and back
pub is_terminal : (w : ℕ) → w < 256 → symbol_of w ≡ terminal w
is_terminal w h = rw (lt-ltb w 256 h, symbol_of)

pub is_nonterminal : (w : ℕ) → 256 ≤ w → symbol_of w ≡ nonterminal (w - 256)
is_nonterminal w h = rw (le-ltb w 256 h, symbol_of)

word_back : (w : ℕ) → word_of (symbol_of w) ≡ w
word_back w = go (dec_lt w 256)
  where
    go : Dec (w < 256) → word_of (symbol_of w) ≡ w
    go (yes h) = ap word_of (is_terminal w h)
    go (no h) = ap word_of (is_nonterminal w (omega arith)) ∙ omega arith

pub words_back : (ws : List ℕ) → map word_of (map symbol_of ws) ≡ ws
words_back [] = refl
words_back (w ∷ ws) = rw (word_back w, words_back ws)
