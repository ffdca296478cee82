-- What is proved of specs' CheckSamples. Document 01's grammar K as words, and what the checks say of it and of damaged copies, computed from the definitions.
--
-- Main statements: K-passes, head-256; head-257 and the others, one equation a refusal.
use Rattle.std.specs.Prelude.{◌≡◌, refl, [], ◌∷◌, ◌++◌, set, take, Ok, Err}
use Rattle.std.proofs.Math.Option.{none}
use Rattle.refusals.specs.declared.Refusal.TheVariants.{Head, Contents, Symbol, Form, Twin}
use Rattle.language.specs.Words.{grammar_of}
use Rattle.language.specs.CheckHead.{head_stage}
use Rattle.language.specs.Checks.{check_words}
use Rattle.language.specs.CheckSamples.{words_k}

pub K-passes : check_words words_k ≡ Ok tt
unfolding check_words grammar_of
K-passes = refl

-- 1: R = 257, and R = 256 passes the head; no words; N = 65
pub head-257 : check_words (set words_k 3 257) ≡ Err (Head 3)
unfolding check_words grammar_of
head-257 = refl

pub head-256 : head_stage.fails_at (set words_k 3 256) ≡ none
head-256 = refl

pub head-absent-0 : check_words [] ≡ Err (Head 0)
unfolding check_words grammar_of
head-absent-0 = refl

pub head-N-65 : check_words (set words_k 1 65) ≡ Err (Head 1)
unfolding check_words grammar_of
head-N-65 = refl

-- 2: an absent entry, a wrong first entry, an entry 1 above the one before, a last body of ten words
pub contents-absent : check_words (take 6 words_k) ≡ Err (Contents 2)
unfolding check_words grammar_of
contents-absent = refl

pub contents-first : check_words (set words_k 4 10) ≡ Err (Contents 0)
unfolding check_words grammar_of
contents-first = refl

pub contents-step : check_words (set words_k 5 10) ≡ Err (Contents 1)
unfolding check_words grammar_of
contents-step = refl

pub contents-last : check_words (words_k ++ (1 ∷ 1 ∷ 1 ∷ 1 ∷ 1 ∷ 1 ∷ [])) ≡ Err (Contents 5)
unfolding check_words grammar_of
contents-last = refl

-- 3: a left side that is no nonterminal, a right-side word that is no symbol
pub symbol-left : check_words (set words_k 9 2) ≡ Err (Symbol 9)
unfolding check_words grammar_of
symbol-left = refl

pub symbol-right : check_words (set words_k 13 258) ≡ Err (Symbol 13)
unfolding check_words grammar_of
symbol-right = refl

-- 4: two adjacent nonterminals, no terminal; 5: rule 4 with rule 3's right side
pub form-adjacent-3 : check_words (set words_k 23 257) ≡ Err (Form 3)
unfolding check_words grammar_of
form-adjacent-3 = refl

pub form-bare-0 : check_words (set words_k 10 256) ≡ Err (Form 0)
unfolding check_words grammar_of
form-bare-0 = refl

pub twin-4 : check_words (set words_k 26 256) ≡ Err (Twin 4)
unfolding check_words grammar_of
twin-4 = refl
