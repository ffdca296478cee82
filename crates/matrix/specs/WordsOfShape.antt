-- Rule (a), that the grammar words pass 1 to 3, as a statement; and what it gives a reader: the first four words are there, with T and N
-- in their ranges, and every left side that a move can put on a stack is a nonterminal of the grammar.
-- Document 01, 15 BAD STATE, and the table's 1, 2 and 3.
-- Rests on GrammarShape, and on language's Checks, WordsInRange and Matching.
--
-- Main definition: PassThree. Main statements: rule-a-exactly, headed, terminals-fit, left-sides-fit.
use Rattle.std.specs.Prelude.{◌≡◌, refl, true, ◌↔◌, List, ℕ, ◌≤◌, ◌<◌, length, Ok, Err}
use Rattle.std.proofs.lemmas.Bool.{false≢true}
use Rattle.std.proofs.Math.Option.{some}
use Rattle.std.proofs.Common.{arith, lit<}
use Rattle.laws.specs.Least.{Nowhere}
use Rattle.refusals.specs.Answers.{Answer}
use Rattle.language.specs.Symbols.{Symbol}
use Rattle.language.specs.Grammar.{left_side}
use Rattle.language.specs.Words.{count_t, count_n, grammar_of}
use Rattle.language.specs.Stages.{Ready, ready, finding, Given, passes_all, passes}
use Rattle.language.proofs.Stages.{given-exactly}
use Rattle.language.specs.CheckHead.{BadHead, head_absent}
use Rattle.language.proofs.CheckHead.{head-finds}
use Rattle.language.specs.CheckContents.{BadContents}
use Rattle.language.proofs.CheckContents.{contents-finds}
use Rattle.language.specs.CheckSymbols.{BadSymbol}
use Rattle.language.proofs.CheckSymbols.{symbols-find}
use Rattle.language.specs.Checks.{symbol_conditions, check_symbols}
use Rattle.language.proofs.WordsInRange.{in_range, few-terminals, few-nonterminals}
use Rattle.language.specs.Matching.{matching}
use Rattle.language.proofs.Matching.{spelled_by}
use Rattle.matrix.specs.GrammarShape.{is_done, rule_a}

-- none of the conditions 1 to 3 holds anywhere
pub record PassThree (words : List ℕ) : Type 0 where
  pub head : Nowhere (BadHead words)
  pub contents : Nowhere (BadContents words)
  pub symbols : Nowhere (BadSymbol words)

done-is : (answer : Answer) → is_done answer ≡ true → answer ≡ Ok tt
done-is (Ok _) e = refl
done-is (Err refusal) e = absurd (false≢true e)

module _ (words : List ℕ) where
  three-ready : Ready words symbol_conditions
  three-ready = finding (head-finds words) (λ h. finding (contents-finds words) (λ c. finding (symbols-find words) (λ s. ready)))

  by : (check_symbols words ≡ Ok tt) ↔ Given words symbol_conditions (Ok tt)
  unfolding check_symbols
  by = given-exactly words three-ready (Ok tt)

  pub rule-a-exactly : (rule_a words ≡ true) ↔ PassThree words
  rule-a-exactly = (λ e. out (by.0 (done-is (check_symbols words) e)), λ p. back (by.1 (passes p.head (passes p.contents (passes p.symbols passes_all)))))
    where
      out : Given words symbol_conditions (Ok tt) → PassThree words
      out (passes n (passes m (passes k passes_all))) = record { head = n; contents = m; symbols = k }

      back : check_symbols words ≡ Ok tt → rule_a words ≡ true
      back e = rw e

  -- words that pass 1 to 3 have a head, with T and N in their ranges
  pub headed : rule_a words ≡ true → (4 ≤ length words) × (count_t words ≤ 63) × (count_n words ≤ 64)
  headed e =
      let passed = (rule-a-exactly.0 e).head in
      let present : length words ≤ 3 → ⊥ = λ h. passed 3 (head_absent (lit< tt) h) in
      (omega arith, (few-terminals words passed).1, (few-nonterminals words passed).1)

  pub terminals-fit : rule_a words ≡ true → (1 ≤ count_t words) × (count_t words ≤ 63)
  terminals-fit e = few-terminals words (rule-a-exactly.0 e).head

  -- the left side of a rule that matching finds
  pub left-sides-fit : rule_a words ≡ true → (w : List Symbol) {r : ℕ} → matching (grammar_of words) w ≡ some r → left_side (grammar_of words) r < count_n words
  unfolding grammar_of
  left-sides-fit e w q = let p = rule-a-exactly.0 e in (in_range words p.head p.symbols).left_below (spelled_by w q)
