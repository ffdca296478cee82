-- Check 4, word by word: what is still to be found from a place of a right side on.
-- Document 01, 4 FORM: "a right side has two adjacent nonterminals, or no terminal".
-- Rests on Rules and on language's CheckForm.
--
-- Main definitions: bad_right, bad_from. Main statements: bad-here, bad-past, bad-end, bad-all; form-is.
use Rattle.std.specs.Prelude.{◌≡◌, refl, Bool, true, false, ◌&&◌, ◌||◌, List, [], ◌∷◌, map, ℕ, suc, ◌+◌, ◌≤◌, ◌<◌, leb, length, get_or, drop}
use Rattle.std.proofs.Common.{sym, ap, ◌∙◌, arith, add-one, drop-cons, drop_of_length-le}
use Rattle.std.proofs.Math.Bool.{and-false, and-true}
use Rattle.std.proofs.Math.Decide.{dec_lt}
use Rattle.laws.specs.Tests.{le-leb, lt-leb}
use Rattle.language.specs.Symbols.{Symbol, terminal, nonterminal, symbol_of}
use Rattle.language.specs.Words.{count_r, right_words, grammar_of}
use Rattle.language.specs.CheckForm.{adjacent, no_terminal, bad_form}
use Rattle.words.specs.Rules.{right_of, is_terminal, is_nonterminal}

-- what check 4 asks of a right side
abbrev pub bad_right : List Symbol → Bool
bad_right w = adjacent w || no_terminal w

-- what is found from a place on: `bare` where no terminal stands before it, `after` where a nonterminal stands just before it
abbrev pub bad_from : Bool → Bool → List Symbol → Bool
bad_from bare after [] = bare
bad_from bare after (terminal a ∷ w) = bad_from false false w
bad_from bare after (nonterminal k ∷ w) = after || bad_from bare true w

abbrev behind : Bool → ℕ → List Symbol → List Symbol
behind true k w = nonterminal k ∷ w
behind false k w = w

from_is : (bare after : Bool) (k : ℕ) (w : List Symbol) → bad_from bare after w ≡ (adjacent (behind after k w) || (bare && no_terminal w))
from_is true true k [] = refl
from_is true false k [] = refl
from_is false true k [] = refl
from_is false false k [] = refl
from_is bare true k (terminal a ∷ w) = from_is false false k w ∙ ap (λ t. adjacent w || t) (sym (and-false bare))
from_is bare false k (terminal a ∷ w) = from_is false false k w ∙ ap (λ t. adjacent w || t) (sym (and-false bare))
from_is bare true k (nonterminal j ∷ w) = refl
from_is bare false k (nonterminal j ∷ w) = from_is bare true j w

-- the words of a right side, one after another: what is still to be found from the i-th on
module _ (right : List ℕ) (i : ℕ) (h : i < length right) (bare after : Bool) where
  abbrev here : Bool
  here = leb 256 (get_or right i 0)

  step : bad_from bare after (map symbol_of (drop i right)) ≡ ((after && here) || bad_from (bare && here) here (map symbol_of (drop (i + 1) right)))
  step = rw (drop-cons right i 0 h, add-one i) (go (dec_lt (get_or right i 0) 256))
    where
      go : Dec (get_or right i 0 < 256)
          → bad_from bare after (symbol_of (get_or right i 0) ∷ map symbol_of (drop (suc i) right)) ≡ ((after && here) || bad_from (bare && here) here (map symbol_of (drop (suc i) right)))
      go (yes k) = rw (is_terminal (get_or right i 0) k, lt-leb 256 (get_or right i 0) k, and-false after, and-false bare)
      go (no k) = rw (is_nonterminal (get_or right i 0) (omega arith), le-leb 256 (get_or right i 0) (omega arith), and-true after, and-true bare)

  -- two adjacent nonterminals are found, and other words are passed
  pub bad-here : (after && here) ≡ true → bad_from bare after (map symbol_of (drop i right)) ≡ true
  bad-here e = step ∙ ap (λ t. t || bad_from (bare && here) here (map symbol_of (drop (i + 1) right))) e

  pub bad-past : (after && here) ≡ false → bad_from bare after (map symbol_of (drop i right)) ≡ bad_from (bare && here) here (map symbol_of (drop (i + 1) right))
  bad-past e = step ∙ ap (λ t. t || bad_from (bare && here) here (map symbol_of (drop (i + 1) right))) e

-- past the last it is whether there was no terminal
pub bad-end : (right : List ℕ) (i : ℕ) → length right ≤ i → (bare after : Bool) → bad_from bare after (map symbol_of (drop i right)) ≡ bare
bad-end right i h bare after = ap (λ (ws : List ℕ). bad_from bare after (map symbol_of ws)) (drop_of_length-le right h)

-- all of it is to be found from the start on
pub bad-all : (w : List Symbol) → bad_right w ≡ bad_from true false w
bad-all w = sym (from_is true false 0 w)

-- what check 4 asks of rule r is asked of the symbols of its right side
pub form-is : (words : List ℕ) (r : ℕ) → r < count_r words → bad_form (grammar_of words) r ≡ bad_right (map symbol_of (right_words words r))
form-is words r h = rw (right_of words r h)
