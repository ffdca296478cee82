-- The checks that start makes, as the code makes them: 15, then those of the tokens, the cuts and the room, of which 9 and 10 are searches;
-- and what holds where all pass.
-- Document 01: "Start checks 15 .., 7, 8, 9, 10, 11"; the table's "first such place" and "63, else first bad cut's index".
-- Rests on Start and StartKept, on laws' Least, and on language's Stages.
--
-- Main definitions: found, bad_tokens, bad_cuts, Writable.
-- Main statements: stopped, passed (what a search has found), first-position (the library's search); the answer, check by check: broken-grammar, no_token, many-tokens, bad-token,
-- bad-cut, small-room, enough-room; writable, right_cuts (what holds where nothing is refused).
use Rattle.std.specs.Prelude.{◌≡◌, refl, Bool, true, false, ◌||◌, List, [], ◌∷◌, ℕ, zero, suc, ◌+◌, ◌≤◌, ◌<◌, ltb, eqb, length, get_or, Some, None, position, Ok, Err}
use Rattle.std.specs.Prelude as Prelude
use Rattle.std.specs.List.{position_or_len}
use Rattle.std.proofs.Common.{sym, ◌∙◌, add-one, arith}
use Rattle.std.proofs.Math.Path.{ap}
use Rattle.std.proofs.lemmas.Bool.{false≢true}
use Rattle.std.proofs.lemmas.List.Sums.{fails_before_first, passes_at_first}
use Rattle.std.proofs.Math.Option.{Option, none, some}
use Rattle.std.proofs.Math.Decide.{dec_lt}
use Rattle.std.proofs.Math.ListN.{get_or-eq_default}
use Rattle.laws.specs.Least.{first_below, first-at, first-nowhere}
pub use Rattle.laws.specs.Least.{Clear, clear-more}
use Rattle.laws.specs.Tests.{lt-ltb, le-ltb, eq-eqb, ne_eqb}
use Rattle.refusals.specs.declared.Refusal.TheVariants.{BadState, Empty, TooLong, BadToken, BadCut, NoRoom}
use Rattle.refusals.specs.Answers.{Answer}
use Rattle.language.specs.Words.{count_t}
use Rattle.language.specs.Stages.{refused_by, failing}
use Rattle.language.specs.Checks.{check_symbols}
use Rattle.layout.specs.Layout.{need}
use Rattle.matrix.specs.GrammarShape.{grammar_in_shape}
use Rattle.start.specs.Start.{start_answer, bad_token_at, cut_falls, bad_cut_at, no_room, Startable, starts-exactly}
use Rattle.start.specs.StartKept.{GoodCuts, few_tokens, few_cuts, cut-within, cuts-good}

-- ---- the searches of 9 and 10

-- the answer of a search, as one of a stage
abbrev pub found : Prelude.Option ℕ → Option ℕ
found None = none
found (Some i) = some i

-- 9: the first bad token
abbrev pub bad_tokens : ℕ → List ℕ → Option ℕ
bad_tokens t tokens = first_below (bad_token_at t tokens) (length tokens)

-- 10: the first bad cut, of which there may be 63
abbrev pub bad_cuts : ℕ → List ℕ → Option ℕ
bad_cuts n cuts = elim (ltb 63 (length cuts)) [ true ↦ some 63 | false ↦ first_below (bad_cut_at n cuts) (length cuts) ]

-- a search that goes up from 0 has stopped at a bad place, or passed all
module _ (bad : ℕ → Bool) (n i : ℕ) (clear : Clear bad i) where
  pub stopped : i < n → bad i ≡ true → first_below bad n ≡ found (Some i)
  stopped h e = first-at bad n i h clear e

  pub passed : n ≤ i → first_below bad n ≡ found None
  passed h = first-nowhere bad n i h clear

-- the search for the first element of a list that passes a test
module _ (test : ℕ → Bool) where
  before : (xs : List ℕ) → Clear (λ i. test (get_or xs i 0)) (position_or_len test xs)
  before xs k h = fails_before_first test xs k 0 h

  pub first-position : (xs : List ℕ) → first_below (λ i. test (get_or xs i 0)) (length xs) ≡ found (position test xs)
  first-position xs = go (dec_lt (position_or_len test xs) (length xs))
    where
      go : Dec (position_or_len test xs < length xs) → first_below (λ i. test (get_or xs i 0)) (length xs) ≡ found (position test xs)
      go (yes h) = rw (lt-ltb (position_or_len test xs) (length xs) h) (first-at (λ i. test (get_or xs i 0)) (length xs) (position_or_len test xs) h (before xs) (passes_at_first test xs 0 h))
      go (no h) = rw (le-ltb (position_or_len test xs) (length xs) (omega arith)) (first-nowhere (λ i. test (get_or xs i 0)) (length xs) (position_or_len test xs) (omega arith) (before xs))

module _ (n : ℕ) (cuts : List ℕ) where
  -- a cut is bad by the two tests that the code joins
  pub cut_by : (i before : ℕ) → cut_falls cuts i ≡ ltb (get_or cuts i 0) before → bad_cut_at n cuts i ≡ (ltb n (get_or cuts i 0) || ltb (get_or cuts i 0) before)
  cut_by i before e = ap (λ b. ltb n (get_or cuts i 0) || b) e

  -- the first cut has none before it, as if 0 stood there
  pub falls-first : cut_falls cuts 0 ≡ ltb (get_or cuts 0 0) 0
  falls-first = sym (le-ltb (get_or cuts 0 0) 0 (omega arith))

  pub falls-next : (i : ℕ) → cut_falls cuts (i + 1) ≡ ltb (get_or cuts (i + 1) 0) (get_or cuts i 0)
  falls-next i = rw (add-one i)

  pub many-cuts : 63 < length cuts → bad_cuts n cuts ≡ found (Some 63)
  many-cuts h = rw (lt-ltb 63 (length cuts) h, bad_cuts)

  pub few-cuts-by : length cuts ≤ 63 → {found : Option ℕ} → first_below (bad_cut_at n cuts) (length cuts) ≡ found → bad_cuts n cuts ≡ found
  few-cuts-by h e = rw (le-ltb 63 (length cuts) h, bad_cuts) e

-- ---- 15, then 7 to 11

-- a grammar in shape has a first word
pub some_word : (words matrix : List ℕ) → grammar_in_shape words matrix ≡ true → 0 < length words
unfolding grammar_in_shape check_symbols
some_word [] matrix e = absurd (false≢true e)
some_word (w ∷ words) matrix e = omega arith

-- the answer, check by check
module _ (words matrix tokens cuts : List ℕ) (room : ℕ) where
  abbrev n : ℕ
  n = length tokens

  abbrev wanted : ℕ
  wanted = need n (length cuts + 1)

  -- .. by what each test and each search says
  abbrev answered : Bool → Bool → Bool → Option ℕ → Option ℕ → Bool → Answer
  answered right empty long token cut short =
      refused_by (λ v. BadState) (elim right [ true ↦ none | false ↦ some 0 ])
      (refused_by (λ v. Empty) (failing empty 0)
      (refused_by (λ v. TooLong) (failing long 0)
      (refused_by BadToken token
      (refused_by BadCut cut
      (refused_by NoRoom (failing short wanted) (Ok tt))))))

  abbrev by_shape : Bool → Answer
  by_shape right = answered right (eqb n 0) (ltb 16384 n) (bad_tokens (count_t words) tokens) (bad_cuts n cuts) (ltb room wanted)

  by-shape : (right : Bool) → grammar_in_shape words matrix ≡ right → by_shape right ≡ start_answer words matrix tokens cuts room
  unfolding start_answer
  by-shape right e = ap by_shape (sym e)

  pub broken-grammar : grammar_in_shape words matrix ≡ false → Err BadState ≡ start_answer words matrix tokens cuts room
  broken-grammar e = by-shape false e

  module _ (right : grammar_in_shape words matrix ≡ true) where
    abbrev by_count : Bool → Bool → Answer
    by_count empty long = answered true empty long (bad_tokens (count_t words) tokens) (bad_cuts n cuts) (ltb room wanted)

    pub no_token : n ≡ 0 → Err Empty ≡ start_answer words matrix tokens cuts room
    no_token h = ap (λ b. by_count b (ltb 16384 n)) (sym (eq-eqb n 0 h)) ∙ by-shape true right

    module _ (some_token : n ≡ 0 → ⊥) where
      by_length : (long : Bool) → ltb 16384 n ≡ long → by_count false long ≡ start_answer words matrix tokens cuts room
      by_length long e = ap (by_count false) (sym e) ∙ (ap (λ b. by_count b (ltb 16384 n)) (sym (ne_eqb n 0 some_token)) ∙ by-shape true right)

      pub many-tokens : 16384 < n → Err TooLong ≡ start_answer words matrix tokens cuts room
      many-tokens h = by_length true (lt-ltb 16384 n h)

      module _ (few : n ≤ 16384) (place : Prelude.Option ℕ) (tokens-by : bad_tokens (count_t words) tokens ≡ found place) where
        by_token : (token : Option ℕ) → found place ≡ token → answered true false false token (bad_cuts n cuts) (ltb room wanted) ≡ start_answer words matrix tokens cuts room
        by_token token e = ap (λ t. answered true false false t (bad_cuts n cuts) (ltb room wanted)) (sym (tokens-by ∙ e)) ∙ by_length false (le-ltb 16384 n few)

        pub bad-token : (i : ℕ) → place ≡ Some i → Err (BadToken i) ≡ start_answer words matrix tokens cuts room
        bad-token i h = by_token (some i) (ap found h)

        module _ (right_tokens : place ≡ None) (cut_place : Prelude.Option ℕ) (cuts-by : bad_cuts n cuts ≡ found cut_place) where
          by-cut : (cut : Option ℕ) → found cut_place ≡ cut → answered true false false none cut (ltb room wanted) ≡ start_answer words matrix tokens cuts room
          by-cut cut e = ap (λ c. answered true false false none c (ltb room wanted)) (sym (cuts-by ∙ e)) ∙ by_token none (ap found right_tokens)

          pub bad-cut : (j : ℕ) → cut_place ≡ Some j → Err (BadCut j) ≡ start_answer words matrix tokens cuts room
          bad-cut j h = by-cut (some j) (ap found h)

          module _ (right_cuts : cut_place ≡ None) where
            by-room : (short : Bool) → ltb room wanted ≡ short → answered true false false none none short ≡ start_answer words matrix tokens cuts room
            by-room short e = ap (answered true false false none none) (sym e) ∙ by-cut none (ap found right_cuts)

            pub small-room : room < wanted → Err (NoRoom wanted) ≡ start_answer words matrix tokens cuts room
            small-room h = by-room true (lt-ltb room wanted h)

            pub enough-room : wanted ≤ room → Ok tt ≡ start_answer words matrix tokens cuts room
            enough-room h = by-room false (le-ltb room wanted h)

-- ---- what holds where nothing is refused

-- the words of a start of these tokens and cuts have room in an area of that many words, and each fits a word
pub record Writable (tokens cuts : List ℕ) (room : ℕ) : Type 0 where
  pub few_tokens : length tokens ≤ 16384
  pub few_cuts : length cuts ≤ 63
  pub cuts_within : (i : ℕ) → get_or cuts i 0 ≤ length tokens
  pub enough : need (length tokens) (length cuts + 1) ≤ room

module _ (words matrix tokens cuts : List ℕ) (room : ℕ) (done : start_answer words matrix tokens cuts room ≡ Ok tt) where
  startable : Startable (record { words = words; matrix = matrix; tokens = tokens; cuts = cuts; room = room })
  startable = (starts-exactly words matrix tokens cuts room).0 done

  within : (i : ℕ) → Dec (i < length cuts) → get_or cuts i 0 ≤ length tokens
  within i (yes h) = cut-within startable i h
  within i (no h) = omega (arith, get_or-eq_default cuts 0 {n = i} (omega arith))

  pub writable : Writable tokens cuts room
  writable =
      let short : room < need (length tokens) (length cuts + 1) → ⊥ = λ h. startable.room_enough (need (length tokens) (length cuts + 1)) (no_room h refl) in
      record { few_tokens = few_tokens startable; few_cuts = few_cuts startable; cuts_within = λ i. within i (dec_lt i (length cuts)); enough = omega arith }

  pub right_cuts : GoodCuts (length tokens) 0 cuts
  right_cuts = cuts-good startable
