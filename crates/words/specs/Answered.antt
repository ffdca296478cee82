-- What a run of checks answers, check by check: the first that fails refuses, and after those that pass the next are made.
-- Document 01, "Refusal numbers": "Loading checks 1 to 6 in that order, each over the whole grammar".
-- Rests on Laid and on language's Stages and Checks.
--
-- Main statements: refused, passed, refusing, going_on; some-rule, laid-passed; laid-refuses, symbol-refuses,
-- form-refuses, twins-decide; symbols-refuse, laid_done, forms-decide.
use Rattle.std.specs.Prelude.{◌≡◌, refl, List, [], ◌∷◌, ◌++◌, ℕ, ◌<◌, Ok, Err}
use Rattle.std.proofs.Math.Path.{sym}
use Rattle.std.proofs.Common.{ap, ◌∙◌, arith}
use Rattle.std.proofs.Math.Option.{Option, none, some}
use Rattle.refusals.specs.declared.Refusal.{Refusal}
use Rattle.language.specs.Stages.{Stage, checked, then_checked}
use Rattle.language.proofs.Stages.{checked-append}
use Rattle.language.specs.CheckHead.{head_stage}
use Rattle.language.specs.CheckContents.{contents_stage}
use Rattle.refusals.specs.Answers.{Answer}
use Rattle.language.specs.CheckSymbols.{symbol_stage}
use Rattle.language.specs.CheckForm.{form_stage}
use Rattle.language.specs.CheckTwins.{twin_stage}
use Rattle.language.specs.Checks.{check_symbols, check_words}
use Rattle.language.specs.Words.{count_r}
use Rattle.words.specs.Laid.{Laid, headed, laid}

module _ {Input : Type 0} (input : Input) where
  pub refused : (stage : Stage Input) (later : List (Stage Input)) (v : ℕ) → stage.fails_at input ≡ some v
      → checked (stage ∷ later) input ≡ Err (stage.refusal v)
  refused stage later v e = rw e

  pub passed : (stage : Stage Input) (later : List (Stage Input)) → stage.fails_at input ≡ none → checked (stage ∷ later) input ≡ checked later input
  passed stage later e = rw e

  -- where all pass, the first passes and so do the later ones
  passed_first : (stage : Stage Input) (later : List (Stage Input)) → checked (stage ∷ later) input ≡ Ok tt
      → (stage.fails_at input ≡ none) × (checked later input ≡ Ok tt)
  passed_first stage later = go (stage.fails_at input)
    where
      go : (o : Option ℕ) → ◌≡◌ {A = Answer} (elim o [ none ↦ checked later input | some v ↦ Err (stage.refusal v) ]) (Ok tt) → (o ≡ none) × (checked later input ≡ Ok tt)
      go none e = (refl, e)
      go (some v) e = let z : ◌≡◌ {A = ℕ} 0 1 = cc in absurd (omega arith)

  -- checks in two parts: where the first part refuses that is the answer, and where it passes the second part decides
  pub refusing : (first later : List (Stage Input)) {refusal : Refusal} → Err refusal ≡ checked first input → Err refusal ≡ checked (first ++ later) input
  refusing first later e = sym (checked-append first later input ∙ ap (λ answer. then_checked answer later input) (sym e))

  pub going_on : (first later : List (Stage Input)) → Ok tt ≡ checked first input → checked later input ≡ checked (first ++ later) input
  going_on first later e = sym (checked-append first later input ∙ ap (λ answer. then_checked answer later input) (sym e))

abbrev right_stages : List (Stage (List ℕ))
right_stages = form_stage ∷ twin_stage ∷ []

module _ (words : List ℕ) where
  -- the words that pass 1 have a rule
  pub some-rule : Ok tt ≡ checked (head_stage ∷ []) words → 0 < count_r words
  some-rule e = (headed words (passed_first words head_stage [] (sym e)).0).some_rule

  -- the words that pass 1 and 2 are laid
  pub laid-passed : Ok tt ≡ checked (head_stage ∷ []) words → Ok tt ≡ checked (contents_stage ∷ []) words → Laid words
  laid-passed e q = laid words (headed words (passed_first words head_stage [] (sym e)).0) (passed_first words contents_stage [] (sym q)).0

  -- 1 to 5, where 1 and 2 refuse
  pub laid-refuses : {refusal : Refusal} → Err refusal ≡ checked (head_stage ∷ contents_stage ∷ []) words → Err refusal ≡ check_words words
  unfolding check_words
  laid-refuses = refusing words (head_stage ∷ contents_stage ∷ []) (symbol_stage ∷ right_stages)

  -- where they pass, 3 decides, then 4, then 5
  module _ (first : Ok tt ≡ checked (head_stage ∷ contents_stage ∷ []) words) where
    after-laid : checked (symbol_stage ∷ right_stages) words ≡ check_words words
    unfolding check_words
    after-laid = going_on words (head_stage ∷ contents_stage ∷ []) (symbol_stage ∷ right_stages) first

    pub symbol-refuses : {refusal : Refusal} → Err refusal ≡ checked (symbol_stage ∷ []) words → Err refusal ≡ check_words words
    symbol-refuses e = refusing words (symbol_stage ∷ []) right_stages e ∙ after-laid

    module _ (symbols : Ok tt ≡ checked (symbol_stage ∷ []) words) where
      after-symbols : checked right_stages words ≡ check_words words
      after-symbols = going_on words (symbol_stage ∷ []) right_stages symbols ∙ after-laid

      pub form-refuses : {refusal : Refusal} → Err refusal ≡ checked (form_stage ∷ []) words → Err refusal ≡ check_words words
      form-refuses e = refusing words (form_stage ∷ []) (twin_stage ∷ []) e ∙ after-symbols

      pub twins-decide : Ok tt ≡ checked (form_stage ∷ []) words → checked (twin_stage ∷ []) words ≡ check_words words
      twins-decide forms = going_on words (form_stage ∷ []) (twin_stage ∷ []) forms ∙ after-symbols

  -- 1 to 5 is 1 to 3, and then 4 and 5
  pub symbols-refuse : (refusal : Refusal) → Err refusal ≡ check_symbols words → Err refusal ≡ check_words words
  unfolding check_symbols check_words
  symbols-refuse refusal = refusing words (head_stage ∷ contents_stage ∷ symbol_stage ∷ []) right_stages

  module _ (e : Ok tt ≡ check_symbols words) where
    -- the words that pass 1 to 3 are laid
    pub laid_done : Laid words
    unfolding check_symbols
    laid_done =
        let a = passed_first words head_stage (contents_stage ∷ symbol_stage ∷ []) (sym e) in
        laid words (headed words a.0) (passed_first words contents_stage (symbol_stage ∷ []) a.1).0

    pub forms-decide : checked right_stages words ≡ check_words words
    unfolding check_symbols check_words
    forms-decide = going_on words (head_stage ∷ contents_stage ∷ symbol_stage ∷ []) right_stages e
