-- What is proved of specs' Starred. The starred samples of document 01, all of them, as one table under one theorem, computed from the definitions that the contracts cite.
--
-- Main statements: starred; begun-K.
use Rattle.std.specs.Prelude.{◌≡◌, true, ℕ, ◌*◌, Ok}
use Rattle.std.proofs.Math.Path.{refl, ap}
use Rattle.std.proofs.Common.{◌∙◌}
use mathlib.Core.List.{List, [], ◌∷◌, ◌++◌}
use Rattle.std.proofs.Math.ListN.{length, drop}
use Rattle.std.proofs.lemmas.List.{length-replicate}
use Rattle.language.specs.Grammar.{in_play, mirrored}
use Rattle.language.specs.Words.{grammar_of}
use Rattle.language.specs.CheckSamples.{words_k}
use Rattle.language.specs.SetMasks.{left_member, left_set}
use Rattle.language.specs.RelationTests.{equal_test, yields_test, takes_test, relation_of}
use Rattle.language.specs.Conflicts.{clash, conflict_stage}
use Rattle.language.specs.Matrix.{matrix_of}
use Rattle.language.specs.Stages.{Stage, refused_by, checked}
use Rattle.language.specs.Loads.{Accepted, load_answer, set_checked, left_set_answer, right_set_answer}
use Rattle.language.proofs.Loads.{accepted-exactly}
use Rattle.language.specs.Trees.{Span}
use Rattle.machine.specs.States.{State, Called, refused, became, Ran, refused_run, ran, run, join, start, chunk_at, outcome}
use Rattle.machine.specs.Schedules.{by_join}
use Rattle.results.specs.Bounded.{most_moves}
use Rattle.machine.specs.Answers.{outcome_answer, outcome_out}
use Rattle.layout.specs.Layout.{need, zeros, encode, decode}
use Rattle.matrix.specs.GrammarShape.{grammar_in_shape}
use Rattle.start.specs.Start.{StartInput, empty_stage, length_stage, token_stage, cut_stage, room_stage, start_answer, started_area, start_area, starts-exactly}
use Rattle.shape.specs.Safe.{Safe, safe-start, safe-turned, safe-run}
use Rattle.moving.specs.Calls.{with_state, called_area, ran_area, run_call, run_area, join_call, join_area}
use Rattle.parse.specs.ParseCall.{then_start, parsed_answer, parsed_out, parse_outcome, parse_begun, parse_answer, parse_out}
use Rattle.report.specs.ReportCall.{report_outcome, report_answer, report_out}
use Rattle.demands.specs.Calls.{Begun}
use Rattle.machine.specs.TableOf.{own_table}
use Rattle.matrix.specs.EndMarkOfShape.{own-shape}
use Rattle.demands.proofs.OwnMatrix.{shape_is, table_is}
use Rattle.moving.specs.OnWords.{reads, run_is, join_is, leaves}
use Rattle.demands.proofs.OnWords.{report_is}
use Rattle.demands.specs.Starred.{AllAsSaid, apart, as_said, before_join, bytes_of, cases, cut_at, no_more, of_chunk, of_report, reply_to, room_for}
use Rattle.demands.specs.Starred.{together, uncut, words19}

-- The answers are computed, but for three tests of grammar and matrix that are known to pass once the words load, and for the
-- words of an area, which are those of the state that the machine's calls, computed, come to.

-- start's stages after the first, which looks at grammar and matrix
abbrev later_stages : List (Stage StartInput)
later_stages = empty_stage ∷ length_stage ∷ token_stage ∷ cut_stage ∷ room_stage ∷ []

abbrev after_run : Ran Span → State Span → State Span
after_run (refused_run why) s = s
after_run (ran j s') s = s'

abbrev after_call : Called Span → State Span → State Span
after_call (refused why) s = s
after_call (became s') s = s'

module _ (words : List ℕ) (loads : load_answer words 4096 ≡ Ok tt) where
  -- start goes on to its other stages
  starts : (matrix tokens cuts : List ℕ) (room : ℕ) → grammar_in_shape words matrix ≡ true → start_answer words matrix tokens cuts room
      ≡ checked later_stages (record { words = words; matrix = matrix; tokens = tokens; cuts = cuts; room = room })
  unfolding start_answer
  starts matrix tokens cuts room shape = rw (shape, start_answer, checked, refused_by)

  abbrev accepted_words : Accepted words
  accepted_words = ((accepted-exactly words 4096).0 loads).0

  -- uncut rows

  abbrev uncut_input : List ℕ → StartInput
  uncut_input tokens = record { words = words; matrix = matrix_of (grammar_of words); tokens = tokens; cuts = []; room = room_for tokens }

  begins : (tokens : List ℕ) → parse_begun words tokens (room_for tokens) ≡ checked later_stages (uncut_input tokens)
  unfolding parse_begun
  begins tokens = rw (loads, then_start) (starts (matrix_of (grammar_of words)) tokens [] (room_for tokens) (own-shape accepted_words))

  parses : (tokens : List ℕ) → reply_to (uncut words tokens)
      ≡ of_report (parsed_answer (checked later_stages (uncut_input tokens)) (parse_outcome words tokens) (3 * length tokens))
      (parsed_out (checked later_stages (uncut_input tokens)) (parse_outcome words tokens) (zeros (3 * length tokens)))
  unfolding parse_answer parse_out
  parses tokens = rw (begins tokens)

  -- cut rows

  loads-so : load_answer words (length (zeros 4096)) ≡ Ok tt
  loads-so = rw (length-replicate {A = ℕ} 4096 0) loads

  grammar : grammar_in_shape words (bytes_of words) ≡ true
  grammar = shape_is words (zeros 4096) loads-so (bytes_of words) refl

  -- an area with the words of this state, which keeps the rules
  record Holding (n : ℕ) (area : List ℕ) (s : State Span) : Type 0 where
    rest : List ℕ
    is : area ≡ encode n s ++ rest
    safe : Safe words n s

  run_holds : {n : ℕ} {area : List ℕ} {s : State Span} → Holding n area s → (c budget : ℕ)
      → Holding n (run_area words (bytes_of words) area c budget) (after_run (run (own_table words) c budget s) s)
  unfolding run_area
  run_holds {n} {area} {s} h c budget =
      go (run (own_table words) c budget s) refl
      (ap (λ a. run_call words (bytes_of words) a c budget) h.is ∙ run_is words (bytes_of words) grammar h.safe h.rest c budget
      ∙ ap (λ t. run t c budget s) (table_is words (zeros 4096) loads-so (bytes_of words) refl))
    where
      go : (x : Ran Span) → run (own_table words) c budget s ≡ x → run_call words (bytes_of words) area c budget ≡ run (own_table words) c budget s
          → Holding n (run_area words (bytes_of words) area c budget) (after_run x s)
      go (refused_run why) q is = record { rest = h.rest; is = ap (λ x. ran_area x area) (is ∙ q) ∙ h.is; safe = h.safe }
      go (ran j s') q is = record {
        rest = h.rest;
        is = ap (λ x. ran_area x area) (is ∙ q) ∙ ap (λ a. with_state a s') h.is ∙ leaves words (bytes_of words) grammar h.safe h.rest s';
        safe = safe-run words (matrix_of (grammar_of words)) (own-shape accepted_words) c budget h.safe q;
      }

  join-holds : {n : ℕ} {area : List ℕ} {s : State Span} → Holding n area s → (c : ℕ)
      → Holding n (join_area words (bytes_of words) area c) (after_call (join c s) s)
  unfolding join_area
  join-holds {n} {area} {s} h c =
      go (join c s) refl (ap (λ a. join_call words (bytes_of words) a c) h.is ∙ join_is words (bytes_of words) grammar h.safe h.rest c)
    where
      go : (x : Called Span) → join c s ≡ x → join_call words (bytes_of words) area c ≡ join c s
          → Holding n (join_area words (bytes_of words) area c) (after_call x s)
      go (refused why) q is = record { rest = h.rest; is = ap (λ x. called_area x area) (is ∙ q) ∙ h.is; safe = h.safe }
      go (became s') q is = record {
        rest = h.rest;
        is = ap (λ x. called_area x area) (is ∙ q) ∙ ap (λ a. with_state a s') h.is ∙ leaves words (bytes_of words) grammar h.safe h.rest s';
        safe = safe-turned words (matrix_of (grammar_of words)) (own-shape accepted_words) h.safe (by_join c q);
      }

  module _ (cut : ℕ) (tokens : List ℕ) where
    abbrev cut_input : StartInput
    cut_input = record { words = words; matrix = bytes_of words; tokens = tokens; cuts = cut ∷ []; room = length (zeros (need (length tokens) 2)) }

    abbrev resting : ℕ → State Span → State Span
    resting c s = after_run (run (own_table words) c (most_moves (length tokens) 2) s) s

    abbrev apart_state : State Span
    apart_state = resting 1 (resting 0 (start tokens (cut ∷ [])))

    abbrev together_state : State Span
    together_state = resting 0 (after_call (join 0 apart_state) apart_state)

    module _ (can : checked later_stages cut_input ≡ Ok tt) where
      done : start_answer words (bytes_of words) tokens (cut ∷ []) (length (zeros (need (length tokens) 2))) ≡ Ok tt
      done = starts (bytes_of words) tokens (cut ∷ []) (length (zeros (need (length tokens) 2))) grammar ∙ can

      start-holds : Holding (length tokens) (start_area words (bytes_of words) tokens (cut ∷ []) (zeros (need (length tokens) 2))) (start tokens (cut ∷ []))
      unfolding start_area
      start-holds = record {
        rest = drop (need (length tokens) 2) (zeros (need (length tokens) 2));
        is = ap (λ a. started_area a tokens (cut ∷ []) (zeros (need (length tokens) 2))) done;
        safe = safe-start ((starts-exactly words (bytes_of words) tokens (cut ∷ []) (length (zeros (need (length tokens) 2)))).0 done);
      }

      apart-holds : Holding (length tokens) (apart cut words tokens) apart_state
      apart-holds = run_holds (run_holds start-holds 0 (most_moves (length tokens) 2)) 1 (most_moves (length tokens) 2)

      together-holds : Holding (length tokens) (together cut words tokens) together_state
      together-holds = run_holds (join-holds apart-holds 0) 0 (most_moves (length tokens) 2)

      reports : reply_to (cut_at cut words tokens)
          ≡ of_report (outcome_answer (outcome together_state) (3 * length tokens)) (outcome_out (outcome together_state) (zeros (3 * length tokens)))
      unfolding report_answer report_out
      reports =
          let h = together-holds in
          let o : report_outcome words (bytes_of words) (together cut words tokens) ≡ outcome together_state =
          ap (λ a. report_outcome words (bytes_of words) a) h.is ∙ report_is words (bytes_of words) grammar h.safe h.rest in
          ap (λ x. of_report (outcome_answer x (3 * length tokens)) (outcome_out x (zeros (3 * length tokens)))) o

      rests-on : reply_to (before_join cut words tokens) ≡ of_chunk (chunk_at apart_state 1)
      rests-on =
          let h = apart-holds in
          ap (λ s. of_chunk (chunk_at s 1)) (ap decode h.is ∙ reads words (bytes_of words) grammar h.safe h.rest)

loads-K : load_answer words_k 4096 ≡ Ok tt
unfolding load_answer conflict_stage clash grammar_of left_member in_play mirrored equal_test yields_test takes_test
loads-K = refl

loads-19 : load_answer words19 4096 ≡ Ok tt
unfolding load_answer conflict_stage clash grammar_of left_member in_play mirrored equal_test yields_test takes_test
loads-19 = refl

-- every starred sample
pub starred : AllAsSaid cases
unfolding parse_outcome load_answer set_checked left_set_answer right_set_answer conflict_stage clash grammar_of matrix_of left_set left_member in_play mirrored
    relation_of equal_test yields_test takes_test
starred =
    as_said refl (as_said refl (as_said refl (as_said refl
    (as_said (parses words_k loads-K (1 ∷ []))
    (as_said (parses words_k loads-K (1 ∷ 1 ∷ [])) (as_said (parses words_k loads-K (3 ∷ 1 ∷ 4 ∷ []))
    (as_said (parses words_k loads-K (2 ∷ [])) (as_said (parses words_k loads-K (1 ∷ 2 ∷ [])) (as_said (parses words_k loads-K (3 ∷ 4 ∷ 5 ∷ []))
    (as_said (reports words_k loads-K 3 (1 ∷ 2 ∷ 4 ∷ 1 ∷ 1 ∷ []) refl) (as_said (rests-on words_k loads-K 3 (1 ∷ 2 ∷ 4 ∷ 1 ∷ 1 ∷ []) refl)
    (as_said refl
    (as_said (parses words19 loads-19 (1 ∷ []))
    (as_said (parses words_k loads-K (0 ∷ [])) (as_said (parses words_k loads-K [])
    no_more)))))))))))))))

-- an accepted load and an accepted start of that cut row of K: demand 3 speaks of it with no hypothesis left
pub begun-K : Begun words_k (zeros 4096) (1 ∷ 2 ∷ 4 ∷ 1 ∷ 1 ∷ []) (3 ∷ [])
    (start_area words_k (bytes_of words_k) (1 ∷ 2 ∷ 4 ∷ 1 ∷ 1 ∷ []) (3 ∷ []) (zeros (need 5 2)))
begun-K = record {
  loads = loads-so words_k loads-K;
  matrix = bytes_of words_k;
  of_load = refl;
  lent = zeros (need 5 2);
  starts = done words_k loads-K 3 (1 ∷ 2 ∷ 4 ∷ 1 ∷ 1 ∷ []) refl;
  area_is = refl;
}
