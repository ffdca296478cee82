-- What is proved of specs' Checks. The checks of grammar words in document 01's order, each over the whole grammar before the next, and when exactly each is given.
--
-- Main statements: head-given, contents-given, symbol-given, form-given, twin-given, words-pass; words-told (no other refusal is given).
use Rattle.std.specs.Prelude.{◌≡◌, ◌↔◌, List, ℕ, Ok, Err}
use Rattle.laws.specs.Least.{Least, Nowhere}
use Rattle.refusals.specs.declared.Refusal.TheVariants.{Head, Contents, Symbol, Form, Twin}
use Rattle.refusals.specs.Answers.{Answer}
use Rattle.language.specs.Words.{grammar_of}
use Rattle.language.specs.Stages.{Ready, ready, finding, Given, passes_all, fails, passes}
use Rattle.language.proofs.Stages.{given-exactly}
use Rattle.language.specs.CheckHead.{BadHead}
use Rattle.language.proofs.CheckHead.{head-finds}
use Rattle.language.specs.CheckContents.{BadContents}
use Rattle.language.proofs.CheckContents.{contents-finds}
use Rattle.language.specs.CheckSymbols.{BadSymbol}
use Rattle.language.proofs.CheckSymbols.{symbols-find}
use Rattle.language.specs.CheckForm.{BadForm}
use Rattle.language.proofs.CheckForm.{form-finds}
use Rattle.language.specs.CheckTwins.{BadTwin}
use Rattle.language.proofs.CheckTwins.{twins-find}
use Rattle.language.specs.Checks.{Passed, Told, check_words, told_contents, told_form, told_head, told_passed, told_symbol, told_twin, word_conditions}

module _ (words : List ℕ) where
  told : {answer : Answer} → Given words word_conditions answer → Told words answer
  told (fails l) = told_head l
  told (passes n (fails l)) = told_contents n l
  told (passes n (passes m (fails l))) = told_symbol n m l
  told (passes n (passes m (passes k (fails l)))) = told_form n m k l
  told (passes n (passes m (passes k (passes j (fails l))))) = told_twin n m k j l
  told (passes n (passes m (passes k (passes j (passes i passes_all))))) = told_passed (record { head = n; contents = m; symbols = k; forms = j; twins = i })

  -- the searches find what the table names
  pub words-ready : Ready words word_conditions
  words-ready =
      finding (head-finds words) (λ h. finding (contents-finds words) (λ c. finding (symbols-find words)
      (λ s. finding (form-finds (grammar_of words)) (λ f. finding (twins-find (grammar_of words)) (λ t. ready)))))

  by : (answer : Answer) → (check_words words ≡ answer) ↔ Given words word_conditions answer
  unfolding check_words
  by answer = given-exactly words words-ready answer

  -- an answer of 1 to 5 is one of these
  pub words-told : (answer : Answer) → check_words words ≡ answer → Told words answer
  words-told answer e = told ((by answer).0 e)

  -- 1 is given at v exactly when v is the first word that is absent or out of its range
  pub head-given : (v : ℕ) → (check_words words ≡ Err (Head v)) ↔ Least (BadHead words) v
  head-given v = (λ e. out (words-told (Err (Head v)) e), λ l. (by (Err (Head v))).1 (fails l))
    where
      out : Told words (Err (Head v)) → Least (BadHead words) v
      out (told_head l) = l

  -- 2 is given at v exactly when 1 is not, and v is the first wrong entry, or R where the last body is wrong
  pub contents-given : (v : ℕ) → (check_words words ≡ Err (Contents v)) ↔ (Nowhere (BadHead words) × Least (BadContents words) v)
  contents-given v = (λ e. out (words-told (Err (Contents v)) e), λ l. (by (Err (Contents v))).1 (passes l.0 (fails l.1)))
    where
      out : Told words (Err (Contents v)) → Nowhere (BadHead words) × Least (BadContents words) v
      out (told_contents n l) = (n, l)

  -- 3 is given at v exactly when 1 and 2 are not, and v is the place of the first wrong body word
  pub symbol-given : (v : ℕ) → (check_words words ≡ Err (Symbol v)) ↔ (Nowhere (BadHead words) × Nowhere (BadContents words) × Least (BadSymbol words) v)
  symbol-given v = (λ e. out (words-told (Err (Symbol v)) e), λ l. (by (Err (Symbol v))).1 (passes l.0 (passes l.1 (fails l.2))))
    where
      out : Told words (Err (Symbol v)) → Nowhere (BadHead words) × Nowhere (BadContents words) × Least (BadSymbol words) v
      out (told_symbol n m l) = (n, m, l)

  -- 4 is given at v exactly when 1 to 3 are not, and v is the first rule with two adjacent nonterminals or no terminal
  pub form-given : (v : ℕ) → (check_words words ≡ Err (Form v))
      ↔ (Nowhere (BadHead words) × Nowhere (BadContents words) × Nowhere (BadSymbol words) × Least (BadForm (grammar_of words)) v)
  form-given v = (λ e. out (words-told (Err (Form v)) e), λ l. (by (Err (Form v))).1 (passes l.0 (passes l.1 (passes l.2 (fails l.3)))))
    where
      out : Told words (Err (Form v)) → Nowhere (BadHead words) × Nowhere (BadContents words) × Nowhere (BadSymbol words) × Least (BadForm (grammar_of words)) v
      out (told_form n m k l) = (n, m, k, l)

  -- 5 is given at v exactly when 1 to 4 are not, and v is the least rule with the right side of an earlier one
  pub twin-given : (v : ℕ) → (check_words words ≡ Err (Twin v))
      ↔ (Nowhere (BadHead words) × Nowhere (BadContents words) × Nowhere (BadSymbol words) × Nowhere (BadForm (grammar_of words)) × Least (BadTwin (grammar_of words)) v)
  twin-given v = (
    λ e. out (words-told (Err (Twin v)) e),
    λ l. (by (Err (Twin v))).1 (passes l.0 (passes l.1 (passes l.2 (passes l.3 (fails l.4))))),
  )
    where
      out : Told words (Err (Twin v))
          → Nowhere (BadHead words) × Nowhere (BadContents words) × Nowhere (BadSymbol words) × Nowhere (BadForm (grammar_of words)) × Least (BadTwin (grammar_of words)) v
      out (told_twin n m k j l) = (n, m, k, j, l)

  -- the words pass exactly when none of the five conditions holds anywhere
  pub words-pass : (check_words words ≡ Ok tt) ↔ Passed words
  words-pass = (
    λ e. out (words-told (Ok tt) e),
    λ p. (by (Ok tt)).1 (passes p.head (passes p.contents (passes p.symbols (passes p.forms (passes p.twins passes_all))))),
  )
    where
      out : Told words (Ok tt) → Passed words
      out (told_passed p) = p
