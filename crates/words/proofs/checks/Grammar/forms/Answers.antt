-- The first rule of bad form is found, or none is.
use Rattle.std.proofs.Common.{◌≡◌, ◌<◌, ◌∙◌, sym, ℕ, Bool, List, true, false, length, map, arith, rules, tests, Ok}
use Rattle.std.proofs.lemmas.Iterator.{first_from_Range}
use Rattle.refusals.specs.declared.Refusal.TheVariants.{Form}
use Rattle.language.specs.Symbols.{symbol_of}
use Rattle.language.specs.CheckForm.{bad_form}
use Rattle.language.specs.Words.{right_words, grammar_of}
use Rattle.language.proofs.WordsInRange.{rules-count}
use Rattle.words.specs.Forms.{bad_right, form-is}
use Rattle.words.specs.Search.{Found, find-some, find-none}
use Rattle.words.proofs.checks.Grammar.forms.Goals as goal

module _ (words : List ℕ) where
  abbrev bad : ℕ → Bool
  bad r = bad_right (map symbol_of (right_words words r))

  same : (r : ℕ) → r < length (grammar_of words).rules → bad_form (grammar_of words) r ≡ bad r
  same r h = form-is words r (omega (arith, rules-count words))

pub overflow_cast-result : goal.overflow_cast-result
overflow_cast-result c =
    let words = c.args.self.now.words.now in
    let found : Found (bad words) (c.rules.result) c.find.result = first_from_Range _ _ _ _ (λ k. bad words k ≡ true) (λ k. bad words k ≡ false) c.find.ensures.ran (λ x q k. search (rules, tests)) (λ x q k. (search rules, search (rules, tests))) in
    omega (arith, (find-some (bad_form (grammar_of words)) (bad words) (length (grammar_of words).rules) (c.rules.result) (c.rules.ensures.is ∙ sym (rules-count words)) (same words) Form (Ok tt) found c.in-Some.r c.in-Some.is).0)

pub returns-in-Some : goal.returns-in-Some
returns-in-Some c =
    let words = c.args.self.now.words.now in
    let found : Found (bad words) (c.rules.result) c.find.result = first_from_Range _ _ _ _ (λ k. bad words k ≡ true) (λ k. bad words k ≡ false) c.find.ensures.ran (λ x q k. search (rules, tests)) (λ x q k. (search rules, search (rules, tests))) in
    (find-some (bad_form (grammar_of words)) (bad words) (length (grammar_of words).rules) (c.rules.result) (c.rules.ensures.is ∙ sym (rules-count words)) (same words) Form (Ok tt) found c.in-Some.r c.in-Some.is).1

pub returns-in-None : goal.returns-in-None
returns-in-None c =
    let words = c.args.self.now.words.now in
    let found : Found (bad words) (c.rules.result) c.find.result = first_from_Range _ _ _ _ (λ k. bad words k ≡ true) (λ k. bad words k ≡ false) c.find.ensures.ran (λ x q k. search (rules, tests)) (λ x q k. (search rules, search (rules, tests))) in
    find-none (bad_form (grammar_of words)) (bad words) (length (grammar_of words).rules) (c.rules.result) (c.rules.ensures.is ∙ sym (rules-count words)) (same words) Form (Ok tt) found c.in-None.is
