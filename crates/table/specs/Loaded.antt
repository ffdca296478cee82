-- What loading a grammar and asking a set answer, check by check, after the words have been checked.
-- Document 01: "Loading checks 1 to 6 in that order, each over the whole grammar, then 11. Asking a set checks 1 to 5, then 21."
-- Rests on language's Loads and Stages, and on words' Answered.
--
-- Main statements: refused-load, conflict-load, room-load, done-load; refuses, loads; refused-set, no-such-set, given-set.
use Rattle.std.specs.Prelude.{◌≡◌, true, ℕ, ◌≤◌, ◌<◌, length, Ok, Err}
use Rattle.std.proofs.Math.Path.{sym, ap}
use Rattle.std.proofs.Common.{◌∙◌, arith}
use mathlib.Core.List.{List, [], ◌∷◌, ◌++◌}
use Rattle.std.proofs.Math.ListN.{drop}
use Rattle.laws.specs.Tabulate.{tabulate}
use Rattle.laws.specs.Least.{Clear, first-at, first-nowhere}
use Rattle.laws.specs.Tests.{lt-ltb, le-ltb, le-leb, lt-leb}
use Rattle.refusals.specs.declared.Refusal.{Refusal}
use Rattle.refusals.specs.declared.Refusal.TheVariants.{Conflict, NoRoom, NoNonterminal}
use Rattle.refusals.specs.Answers.{Answer, SetAnswer}
use Rattle.language.specs.Grammar.{Grammar}
use Rattle.language.specs.Words.{count_n, grammar_of}
use Rattle.language.specs.Stages.{Stage, checked, then_checked, stages_of, asked}
use Rattle.language.proofs.Stages.{checked-append}
use Rattle.language.specs.Checks.{check_words, Passed}
use Rattle.language.proofs.Checks.{words-pass}
use Rattle.language.specs.CheckHead.{head_condition}
use Rattle.language.specs.CheckContents.{contents_condition}
use Rattle.language.specs.CheckSymbols.{symbol_condition}
use Rattle.language.specs.CheckForm.{form_condition}
use Rattle.language.specs.CheckTwins.{twin_condition}
use Rattle.language.specs.SetMasks.{left_set, left_size}
use Rattle.language.specs.Conflicts.{clash_at, conflict_stage}
use Rattle.language.specs.Matrix.{entry_at, matrix_of}
use Rattle.language.specs.Loads.{LoadInput, conflict_condition, matrix_room, room_condition, load_answer, load_bytes, loaded_bytes}
use Rattle.language.specs.Loads.{SetInput, past_the_last, nonterminal_condition, set_checked, set_or_refusal}
use Rattle.words.specs.Answered.{refused, passed}
use Rattle.table.specs.RelationRows.{FirstConflict}

-- ---- load

module _ (words : List ℕ) (room : ℕ) where
  abbrev lent : LoadInput
  lent = record { words = words; room = room }

  -- 6 and 11, after 1 to 5
  abbrev later : List (Stage LoadInput)
  later = conflict_condition.stage ∷ room_condition.stage ∷ []

  load_is : load_answer words room ≡ then_checked (check_words words) later lent
  unfolding load_answer check_words
  load_is =
      checked-append (stages_of (asked (λ input. input.words) head_condition ∷ asked (λ input. input.words) contents_condition ∷ asked (λ input. input.words) symbol_condition
      ∷ asked (λ input. input.words) form_condition ∷ asked (λ input. input.words) twin_condition ∷ [])) later lent

  pub refused-load : (refusal : Refusal) → Err refusal ≡ check_words words → Err refusal ≡ load_answer words room
  refused-load refusal e = sym (load_is ∙ ap (λ answer. then_checked answer later lent) (sym e))

  module _ (passed_words : Passed words) where
    after-words : load_answer words room ≡ checked later lent
    after-words = load_is ∙ ap (λ answer. then_checked answer later lent) ((words-pass words).1 passed_words)

    -- the first conflict refuses
    pub conflict-load : (v : ℕ) → v < 4096 → Clear (clash_at (grammar_of words)) v → clash_at (grammar_of words) v ≡ true → Err (Conflict v) ≡ load_answer words room
    unfolding conflict_stage
    conflict-load v h clear e = sym (after-words ∙ refused lent conflict_condition.stage (room_condition.stage ∷ []) v (first-at (clash_at (grammar_of words)) 4096 v h clear e))

    pub first-conflict : {refusal : Refusal} → FirstConflict (grammar_of words) refusal → ◌≡◌ {A = Answer} (Err refusal) (load_answer words room)
    first-conflict f = ap Err f.names ∙ conflict-load f.pair f.within f.least f.two

    -- where there is none, the room decides
    module _ (clear : Clear (clash_at (grammar_of words)) 4096) where
      after-conflicts : load_answer words room ≡ checked (room_condition.stage ∷ []) lent
      unfolding conflict_stage
      after-conflicts = after-words ∙ passed lent conflict_condition.stage (room_condition.stage ∷ []) (first-nowhere (clash_at (grammar_of words)) 4096 4096 (omega arith) clear)

      pub room-load : room < 4096 → Err (NoRoom 4096) ≡ load_answer words room
      room-load h = sym (after-conflicts ∙ refused lent room_condition.stage [] 4096 (rw (lt-ltb room 4096 h, matrix_room)))

      pub done-load : 4096 ≤ room → Ok tt ≡ load_answer words room
      done-load h = sym (after-conflicts ∙ passed lent room_condition.stage [] (rw (le-ltb room 4096 h, matrix_room)))

-- the answer and the lent bytes afterwards: on a refusal as they were, else the matrix and what stood beyond
module _ (words bytes : List ℕ) where
  pub refuses : (refusal : Refusal) → Err refusal ≡ load_answer words (length bytes)
      → (Err refusal ≡ load_answer words (length bytes)) × (bytes ≡ load_bytes words bytes)
  unfolding load_bytes
  refuses refusal e = (e, ap (λ answer. loaded_bytes answer words bytes) e)

  pub loads : (left table : List ℕ) → Ok tt ≡ load_answer words (length bytes) → left ≡ table ++ drop 4096 bytes → table ≡ tabulate (entry_at (grammar_of words)) 4096
      → (Ok tt ≡ load_answer words (length bytes)) × (left ≡ load_bytes words bytes)
  unfolding load_bytes matrix_of
  loads left table e q t = (e, q ∙ ap (λ (first : List ℕ). first ++ drop 4096 bytes) t ∙ ap (λ answer. loaded_bytes answer words bytes) e)

-- ---- a set

module _ (words : List ℕ) (k : ℕ) (g : Grammar) where
  abbrev asking : SetInput
  asking = record { words = words; number = k }

  set_is : set_checked words k ≡ then_checked (check_words words) (nonterminal_condition.stage ∷ []) asking
  unfolding set_checked check_words
  set_is =
      checked-append (stages_of (asked (λ input. input.words) head_condition ∷ asked (λ input. input.words) contents_condition ∷ asked (λ input. input.words) symbol_condition
      ∷ asked (λ input. input.words) form_condition ∷ asked (λ input. input.words) twin_condition ∷ [])) (nonterminal_condition.stage ∷ []) asking

  after : (answer : Answer) → answer ≡ check_words words → set_checked words k ≡ then_checked answer (nonterminal_condition.stage ∷ []) asking
  after answer e = set_is ∙ ap (λ a. then_checked a (nonterminal_condition.stage ∷ []) asking) (sym e)

  pub refused-set : (refusal : Refusal) → Err refusal ≡ check_words words → Err refusal ≡ set_or_refusal (set_checked words k) g k
  refused-set refusal e = ap (λ answer. set_or_refusal answer g k) (sym (after (Err refusal) e))

  module _ (done : Ok tt ≡ check_words words) where
    pub no-such-set : count_n words ≤ k → Err NoNonterminal ≡ set_or_refusal (set_checked words k) g k
    no-such-set h = ap (λ answer. set_or_refusal answer g k) (sym (after (Ok tt) done ∙ refused asking nonterminal_condition.stage [] 0 (rw (le-leb (count_n words) k h, past_the_last))))

    pub given-set : k < count_n words → ◌≡◌ {A = SetAnswer} (Ok (record { mask = left_set g k; size = left_size g k })) (set_or_refusal (set_checked words k) g k)
    given-set h = ap (λ answer. set_or_refusal answer g k) (sym (after (Ok tt) done ∙ passed asking nonterminal_condition.stage [] (rw (lt-leb (count_n words) k h, past_the_last))))
