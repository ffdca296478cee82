-- Starting a row: the answer, what is left in the lent area, and when exactly each refusal is given.
-- Document 01: "Start checks 15 (grammar and matrix only; the area's old words aren't read), 7, 8, 9, 10, 11"; the table's sentences
-- for 7 EMPTY, 8 TOO LONG, 9 BAD TOKEN, 10 BAD CUT, 11 NO ROOM and 15 BAD STATE; "anything beyond is untouched".
-- Rests on layout's Layout and matrix's GrammarShape, on machine's States, and on language's Stages.
--
-- Main definitions: start_answer, start_area.
-- Main statements: bad-state-given, empty-given, too-long-given, bad-token-given, bad-cut-given, start-room-given, starts-exactly.
use Rattle.std.specs.Prelude.{◌≡◌, refl, Bool, true, false, ◌||◌, ◌↔◌, List, [], ◌∷◌, ◌++◌, ℕ, zero, suc, ◌+◌, ◌≤◌, ◌<◌, ltb, eqb, length, get_or, drop, Ok, Err}
use Rattle.std.proofs.Common.{sym, ◌∙◌, true≢false, arith}
use Rattle.std.proofs.lemmas.Bool.{false≢true}
use Rattle.std.proofs.Math.Option.{none, some}
use Rattle.laws.specs.Least.{Least, Nowhere, Finds, nowhere, least, first_below, first_finds}
use Rattle.laws.specs.Tests.{ltb-true, ltb-false, lt-ltb, eqb-true}
use Rattle.refusals.specs.declared.Refusal.TheVariants.{BadState, Empty, TooLong, BadToken, BadCut, NoRoom}
use Rattle.refusals.specs.Answers.{Answer}
use Rattle.language.specs.Words.{count_t, Outside, outside}
use Rattle.language.proofs.Words.{outside-iff}
use Rattle.language.specs.Stages.{Stage, checked, Condition, stages_of, Ready, ready, finding, Given, passes_all, fails, passes, failing}
use Rattle.language.proofs.Stages.{given-exactly, failing-finds}
use Rattle.machine.specs.States.{start}
use Rattle.layout.specs.Layout.{need, encode}
use Rattle.matrix.specs.GrammarShape.{grammar_in_shape}

-- what is lent to start; of the area only its length
pub record StartInput : Type 0 where
  pub words : List ℕ
  pub matrix : List ℕ
  pub tokens : List ℕ
  pub cuts : List ℕ
  pub room : ℕ

-- ---- the conditions, one a number

-- 15: "grammar, matrix or work area breaks the shape rules", of the grammar and the matrix
pub data GrammarBroken (input : StartInput) (v : ℕ) : Type 0 where
  grammar_broken : grammar_in_shape input.words input.matrix ≡ false → v ≡ 0 → GrammarBroken input v

-- 7: "no tokens"
pub data NoTokens (input : StartInput) (v : ℕ) : Type 0 where
  no_tokens : length input.tokens ≡ 0 → v ≡ 0 → NoTokens input v

-- 8: "more than 16,384"
pub data TooMany (input : StartInput) (v : ℕ) : Type 0 where
  too_many : 16384 < length input.tokens → v ≡ 0 → TooMany input v

-- 9: "outside 1..T", "first such place"
pub data WrongToken (input : StartInput) (i : ℕ) : Type 0 where
  wrong_token : i < length input.tokens → Outside 1 (count_t input.words) (get_or input.tokens i 0) → WrongToken input i

-- 10: "more than 63 cuts, or a cut below its predecessor or above n", "63, else first bad cut's index"
pub data WrongCut (input : StartInput) : ℕ → Type 0 where
  too_many_cuts : 63 < length input.cuts → WrongCut input 63
  cut_above : {i : ℕ} → length input.cuts ≤ 63 → i < length input.cuts → length input.tokens < get_or input.cuts i 0 → WrongCut input i
  cut_below : {i : ℕ} → length input.cuts ≤ 63 → suc i < length input.cuts → get_or input.cuts (suc i) 0 < get_or input.cuts i 0 → WrongCut input (suc i)

-- the words that the row needs: n tokens, a chunk more than cuts
abbrev pub needed : StartInput → ℕ
needed input = need (length input.tokens) (length input.cuts + 1)

-- 11: "the run to be written is too short", "words needed"
pub data NoRoomForRow (input : StartInput) (v : ℕ) : Type 0 where
  no_room : input.room < needed input → v ≡ needed input → NoRoomForRow input v

-- ---- the stages

abbrev pub shape_stage : Stage StartInput
shape_stage = record { refusal = λ v. BadState; fails_at = λ input. elim (grammar_in_shape input.words input.matrix) [ true ↦ none | false ↦ some 0 ] }

abbrev pub empty_stage : Stage StartInput
empty_stage = record { refusal = λ v. Empty; fails_at = λ input. failing (eqb (length input.tokens) 0) 0 }

abbrev pub length_stage : Stage StartInput
length_stage = record { refusal = λ v. TooLong; fails_at = λ input. failing (ltb 16384 (length input.tokens)) 0 }

abbrev pub bad_token_at : ℕ → List ℕ → ℕ → Bool
bad_token_at t tokens i = outside 1 t (get_or tokens i 0)

abbrev pub token_stage : Stage StartInput
token_stage = record { refusal = BadToken; fails_at = λ input. first_below (bad_token_at (count_t input.words) input.tokens) (length input.tokens) }

-- a cut against the one before it, and against n
abbrev pub cut_falls : List ℕ → ℕ → Bool
cut_falls cuts zero = false
cut_falls cuts (suc i) = ltb (get_or cuts (suc i) 0) (get_or cuts i 0)

abbrev pub bad_cut_at : ℕ → List ℕ → ℕ → Bool
bad_cut_at n cuts i = ltb n (get_or cuts i 0) || cut_falls cuts i

abbrev pub cut_stage : Stage StartInput
cut_stage = record {
  refusal = BadCut;
  fails_at = λ input. elim (ltb 63 (length input.cuts)) [ true ↦ some 63 | false ↦ first_below (bad_cut_at (length input.tokens) input.cuts) (length input.cuts) ];
}

abbrev pub room_stage : Stage StartInput
room_stage = record { refusal = NoRoom; fails_at = λ input. failing (ltb input.room (needed input)) (needed input) }

-- 15, 7, 8, 9, 10, 11
abbrev pub start_conditions : List (Condition StartInput)
start_conditions =
    record { stage = shape_stage; Holds = GrammarBroken } ∷ record { stage = empty_stage; Holds = NoTokens }
    ∷ record { stage = length_stage; Holds = TooMany } ∷ record { stage = token_stage; Holds = WrongToken }
    ∷ record { stage = cut_stage; Holds = WrongCut } ∷ record { stage = room_stage; Holds = NoRoomForRow } ∷ []

unfoldable pub start_answer : List ℕ → List ℕ → List ℕ → List ℕ → ℕ → Answer
start_answer words matrix tokens cuts room =
    checked (stages_of start_conditions) (record { words = words; matrix = matrix; tokens = tokens; cuts = cuts; room = room })

-- the lent area afterwards: the words of the row's start and then what stood beyond; on a refusal as it was
abbrev pub started_area : Answer → List ℕ → List ℕ → List ℕ → List ℕ
started_area (Ok _) tokens cuts area = encode (length tokens) (start tokens cuts) ++ drop (need (length tokens) (length cuts + 1)) area
started_area (Err refusal) tokens cuts area = area

unfoldable pub start_area : List ℕ → List ℕ → List ℕ → List ℕ → List ℕ → List ℕ
start_area words matrix tokens cuts area = started_area (start_answer words matrix tokens cuts (length area)) tokens cuts area

-- ---- given exactly

module _ (input : StartInput) where
  shape-finds : Finds (GrammarBroken input) (shape_stage.fails_at input)
  shape-finds = go (grammar_in_shape input.words input.matrix) refl
    where
      go : (b : Bool) → grammar_in_shape input.words input.matrix ≡ b → Finds (GrammarBroken input) (elim b [ true ↦ none | false ↦ some 0 ])
      go true e = nowhere (λ v g. fine g)
        where
          fine : {v : ℕ} → GrammarBroken input v → ⊥
          fine (grammar_broken f q) = true≢false (sym e ∙ f)
      go false e = least (record { holds = grammar_broken e refl; least = λ u h g. absurd (omega arith) })

  empty-finds : Finds (NoTokens input) (empty_stage.fails_at input)
  empty-finds = failing-finds (NoTokens input) (eqb (length input.tokens) 0) 0 (λ e. no_tokens (eqb-true (length input.tokens) 0 e) refl) of
    where
      of : (u : ℕ) → NoTokens input u → (eqb (length input.tokens) 0 ≡ true) × (u ≡ 0)
      of u (no_tokens e q) = (rw e, q)

  length-finds : Finds (TooMany input) (length_stage.fails_at input)
  length-finds = failing-finds (TooMany input) (ltb 16384 (length input.tokens)) 0 (λ e. too_many (ltb-true 16384 (length input.tokens) e) refl) of
    where
      of : (u : ℕ) → TooMany input u → (ltb 16384 (length input.tokens) ≡ true) × (u ≡ 0)
      of u (too_many h q) = (lt-ltb 16384 (length input.tokens) h, q)

  tokens-find : Finds (WrongToken input) (token_stage.fails_at input)
  tokens-find =
      first_finds (bad_token_at (count_t input.words) input.tokens) (length input.tokens) (WrongToken input)
      (λ i h e. wrong_token h ((outside-iff 1 (count_t input.words) (get_or input.tokens i 0)).0 e)) of
    where
      of : (i : ℕ) → WrongToken input i → (i < length input.tokens) × (bad_token_at (count_t input.words) input.tokens i ≡ true)
      of i (wrong_token h o) = (h, (outside-iff 1 (count_t input.words) (get_or input.tokens i 0)).1 o)

  cut-to : (i : ℕ) → length input.cuts ≤ 63 → i < length input.cuts → bad_cut_at (length input.tokens) input.cuts i ≡ true → WrongCut input i
  cut-to i few h = go (ltb (length input.tokens) (get_or input.cuts i 0)) refl
    where
      falls : (i : ℕ) → i < length input.cuts → cut_falls input.cuts i ≡ true → WrongCut input i
      falls zero h e = absurd (false≢true e)
      falls (suc i) h e = cut_below few h (ltb-true (get_or input.cuts (suc i) 0) (get_or input.cuts i 0) e)

      go : (b : Bool) → ltb (length input.tokens) (get_or input.cuts i 0) ≡ b
          → (b || cut_falls input.cuts i) ≡ true → WrongCut input i
      go true q e = cut_above few h (ltb-true (length input.tokens) (get_or input.cuts i 0) q)
      go false q e = falls i h e

  above-bad : (i : ℕ) → length input.tokens < get_or input.cuts i 0 → bad_cut_at (length input.tokens) input.cuts i ≡ true
  above-bad i h = rw (lt-ltb (length input.tokens) (get_or input.cuts i 0) h, bad_cut_at)

  falls-bad : (i : ℕ) → cut_falls input.cuts i ≡ true → bad_cut_at (length input.tokens) input.cuts i ≡ true
  falls-bad i f = go (ltb (length input.tokens) (get_or input.cuts i 0))
    where
      go : (b : Bool) → (b || cut_falls input.cuts i) ≡ true
      go true = refl
      go false = f

  cuts-find : Finds (WrongCut input) (cut_stage.fails_at input)
  cuts-find = go (ltb 63 (length input.cuts)) refl
    where
      many : 63 < length input.cuts → (u : ℕ) → WrongCut input u → u ≡ 63
      many h u (too_many_cuts k) = refl
      many h u (cut_above few i a) = absurd (omega arith)
      many h u (cut_below few i a) = absurd (omega arith)

      of : length input.cuts ≤ 63 → (i : ℕ) → WrongCut input i → (i < length input.cuts) × (bad_cut_at (length input.tokens) input.cuts i ≡ true)
      of few i (too_many_cuts k) = absurd (omega arith)
      of few i (cut_above f h a) = (h, above-bad i a)
      of few i (cut_below {i = j} f h a) = (h, falls-bad (suc j) (lt-ltb (get_or input.cuts (suc j) 0) (get_or input.cuts j 0) a))

      go : (b : Bool) → ltb 63 (length input.cuts) ≡ b
          → Finds (WrongCut input) (elim b [ true ↦ some 63 | false ↦ first_below (bad_cut_at (length input.tokens) input.cuts) (length input.cuts) ])
      go true e =
          let h = ltb-true 63 (length input.cuts) e in
          least (record { holds = too_many_cuts h; least = λ u l w. let q = many h u w in omega arith })
      go false e =
          let few = ltb-false 63 (length input.cuts) e in
          first_finds (bad_cut_at (length input.tokens) input.cuts) (length input.cuts) (WrongCut input) (λ i h t. cut-to i few h t) (of few)

  room-finds : Finds (NoRoomForRow input) (room_stage.fails_at input)
  room-finds = failing-finds (NoRoomForRow input) (ltb input.room (needed input)) (needed input) (λ e. no_room (ltb-true input.room (needed input) e) refl) of
    where
      of : (u : ℕ) → NoRoomForRow input u → (ltb input.room (needed input) ≡ true) × (u ≡ needed input)
      of u (no_room h q) = (lt-ltb input.room (needed input) h, q)

  pub start-ready : Ready input start_conditions
  start-ready =
      finding shape-finds (λ a. finding empty-finds (λ b. finding length-finds (λ c. finding tokens-find (λ d. finding cuts-find (λ e. finding room-finds (λ f. ready))))))

-- a row that can start: the conditions of 15, 7, 8, 9, 10 and 11 hold nowhere
pub record Startable (input : StartInput) : Type 0 where
  pub in-shape : Nowhere (GrammarBroken input)
  pub some_token : Nowhere (NoTokens input)
  pub few_tokens : Nowhere (TooMany input)
  pub right_tokens : Nowhere (WrongToken input)
  pub right_cuts : Nowhere (WrongCut input)
  pub room_enough : Nowhere (NoRoomForRow input)

-- which check answers, and that those before it pass: `Given`, taken apart once for all the statements below
data Told (input : StartInput) : Answer → Type 0 where
  told_shape : {v : ℕ} → Least (GrammarBroken input) v → Told input (Err BadState)
  told_empty : {v : ℕ} → Nowhere (GrammarBroken input) → Least (NoTokens input) v → Told input (Err Empty)
  told_length : {v : ℕ} → Nowhere (GrammarBroken input) → Nowhere (NoTokens input) → Least (TooMany input) v → Told input (Err TooLong)
  told_token : {v : ℕ} → Nowhere (GrammarBroken input) → Nowhere (NoTokens input) → Nowhere (TooMany input) → Least (WrongToken input) v
      → Told input (Err (BadToken v))
  told_cut : {v : ℕ} → Nowhere (GrammarBroken input) → Nowhere (NoTokens input) → Nowhere (TooMany input) → Nowhere (WrongToken input) → Least (WrongCut input) v
      → Told input (Err (BadCut v))
  told_room : {v : ℕ} → Nowhere (GrammarBroken input) → Nowhere (NoTokens input) → Nowhere (TooMany input) → Nowhere (WrongToken input) → Nowhere (WrongCut input)
      → Least (NoRoomForRow input) v → Told input (Err (NoRoom v))
  told_done : Startable input → Told input (Ok tt)

told : (input : StartInput) {answer : Answer} → Given input start_conditions answer → Told input answer
told input (fails l) = told_shape l
told input (passes a (fails l)) = told_empty a l
told input (passes a (passes b (fails l))) = told_length a b l
told input (passes a (passes b (passes c (fails l)))) = told_token a b c l
told input (passes a (passes b (passes c (passes d (fails l))))) = told_cut a b c d l
told input (passes a (passes b (passes c (passes d (passes e (fails l)))))) = told_room a b c d e l
told input (passes a (passes b (passes c (passes d (passes e (passes f passes_all)))))) =
    told_done (record { in-shape = a; some_token = b; few_tokens = c; right_tokens = d; right_cuts = e; room_enough = f })

module _ (words matrix tokens cuts : List ℕ) (room : ℕ) where
  abbrev lent : StartInput
  lent = record { words = words; matrix = matrix; tokens = tokens; cuts = cuts; room = room }

  by : (answer : Answer) → (start_answer words matrix tokens cuts room ≡ answer) ↔ Given lent start_conditions answer
  unfolding start_answer
  by answer = given-exactly lent (start-ready lent) answer

  -- 15 is given exactly when the grammar or the matrix breaks a shape rule
  pub bad-state-given : (start_answer words matrix tokens cuts room ≡ Err BadState) ↔ (grammar_in_shape words matrix ≡ false)
  bad-state-given = (
    λ e. out (told lent ((by (Err BadState)).0 e)),
    λ f. (by (Err BadState)).1
        (fails {v = 0} (record { holds = grammar_broken f refl; least = λ u h g. absurd (omega arith) })),
  )
    where
      broken : {v : ℕ} → GrammarBroken lent v → grammar_in_shape words matrix ≡ false
      broken (grammar_broken f q) = f

      out : Told lent (Err BadState) → grammar_in_shape words matrix ≡ false
      out (told_shape l) = broken l.holds

  -- 7 is given exactly when 15 is not and there are no tokens
  pub empty-given : (start_answer words matrix tokens cuts room ≡ Err Empty) ↔ (Nowhere (GrammarBroken lent) × (length tokens ≡ 0))
  empty-given = (
    λ e. out (told lent ((by (Err Empty)).0 e)),
    λ l. (by (Err Empty)).1
        (passes l.0 (fails {v = 0} (record { holds = no_tokens l.1 refl; least = λ u h g. absurd (omega arith) }))),
  )
    where
      empty : {v : ℕ} → NoTokens lent v → length tokens ≡ 0
      empty (no_tokens e q) = e

      out : Told lent (Err Empty) → Nowhere (GrammarBroken lent) × (length tokens ≡ 0)
      out (told_empty a l) = (a, empty l.holds)

  -- 8 is given exactly when 15 is not and there are more than 16,384 tokens
  pub too-long-given : (start_answer words matrix tokens cuts room ≡ Err TooLong) ↔ (Nowhere (GrammarBroken lent) × (16384 < length tokens))
  too-long-given = (
    λ e. out (told lent ((by (Err TooLong)).0 e)),
    λ l. (by (Err TooLong)).1
        (passes l.0 (passes (some_of l.1) (fails {v = 0} (record { holds = too_many l.1 refl; least = λ u h g. absurd (omega arith) })))),
  )
    where
      some_of : 16384 < length tokens → (v : ℕ) → NoTokens lent v → ⊥
      some_of h v (no_tokens e q) = omega arith

      many : {v : ℕ} → TooMany lent v → 16384 < length tokens
      many (too_many h q) = h

      out : Told lent (Err TooLong) → Nowhere (GrammarBroken lent) × (16384 < length tokens)
      out (told_length a b l) = (a, many l.holds)

  -- 9 is given at v exactly when 15, 7 and 8 are not, and v is the first place with a token outside 1..T
  pub bad-token-given : (v : ℕ) → (start_answer words matrix tokens cuts room ≡ Err (BadToken v))
      ↔ (Nowhere (GrammarBroken lent) × Nowhere (NoTokens lent) × Nowhere (TooMany lent) × Least (WrongToken lent) v)
  bad-token-given v = (λ e. out (told lent ((by (Err (BadToken v))).0 e)), λ l. (by (Err (BadToken v))).1 (passes l.0 (passes l.1 (passes l.2 (fails l.3)))))
    where
      out : Told lent (Err (BadToken v)) → Nowhere (GrammarBroken lent) × Nowhere (NoTokens lent) × Nowhere (TooMany lent) × Least (WrongToken lent) v
      out (told_token a b c l) = (a, b, c, l)

  -- 10 is given at v exactly when 15 and 7 to 9 are not, and there are more than 63 cuts and v is 63, or v is the first bad cut's index
  pub bad-cut-given : (v : ℕ) → (start_answer words matrix tokens cuts room ≡ Err (BadCut v))
      ↔ (Nowhere (GrammarBroken lent) × Nowhere (NoTokens lent) × Nowhere (TooMany lent) × Nowhere (WrongToken lent) × Least (WrongCut lent) v)
  bad-cut-given v =
      (λ e. out (told lent ((by (Err (BadCut v))).0 e)), λ l. (by (Err (BadCut v))).1 (passes l.0 (passes l.1 (passes l.2 (passes l.3 (fails l.4))))))
    where
      out : Told lent (Err (BadCut v))
          → Nowhere (GrammarBroken lent) × Nowhere (NoTokens lent) × Nowhere (TooMany lent) × Nowhere (WrongToken lent) × Least (WrongCut lent) v
      out (told_cut a b c d l) = (a, b, c, d, l)

  -- 11 is given, with the words needed, exactly when 15 and 7 to 10 are not and the area has fewer
  pub start-room-given : (v : ℕ) → (start_answer words matrix tokens cuts room ≡ Err (NoRoom v))
      ↔ (Nowhere (GrammarBroken lent) × Nowhere (NoTokens lent) × Nowhere (TooMany lent) × Nowhere (WrongToken lent) × Nowhere (WrongCut lent)
      × (room < needed lent) × (v ≡ needed lent))
  start-room-given v = (λ e. out (told lent ((by (Err (NoRoom v))).0 e)), λ l. back l.0 l.1 l.2 l.3 l.4 l.5 l.6)
    where
      short : {u : ℕ} → NoRoomForRow lent u → (room < needed lent) × (u ≡ needed lent)
      short (no_room h q) = (h, q)

      out : Told lent (Err (NoRoom v))
          → Nowhere (GrammarBroken lent) × Nowhere (NoTokens lent) × Nowhere (TooMany lent) × Nowhere (WrongToken lent) × Nowhere (WrongCut lent)
          × (room < needed lent) × (v ≡ needed lent)
      out (told_room a b c d e l) = (a, b, c, d, e, (short l.holds).0, (short l.holds).1)

      back : Nowhere (GrammarBroken lent) → Nowhere (NoTokens lent) → Nowhere (TooMany lent) → Nowhere (WrongToken lent) → Nowhere (WrongCut lent)
          → room < needed lent → v ≡ needed lent → start_answer words matrix tokens cuts room ≡ Err (NoRoom v)
      back a b c d e h q =
          let once : Least (NoRoomForRow lent) v = record { holds = no_room h q; least = λ u l n. let z = (short n).1 in omega arith } in
          (by (Err (NoRoom v))).1 (passes a (passes b (passes c (passes d (passes e (fails once))))))

  -- start succeeds exactly when none of the conditions holds anywhere
  pub starts-exactly : (start_answer words matrix tokens cuts room ≡ Ok tt) ↔ Startable lent
  starts-exactly = (
    λ e. out (told lent ((by (Ok tt)).0 e)),
    λ s. (by (Ok tt)).1 (passes s.in-shape (passes s.some_token (passes s.few_tokens (passes s.right_tokens (passes s.right_cuts
        (passes s.room_enough passes_all)))))),
  )
    where
      out : Told lent (Ok tt) → Startable lent
      out (told_done s) = s
