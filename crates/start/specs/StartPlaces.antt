-- The searches of 9 and 10 by the place at which they have stopped: a place below the length is bad, and one at the length or past it tells
-- that there is none.
-- Document 01: "Start checks 15 .., 7, 8, 9, 10, 11"; the table's "first such place" and "63, else first bad cut's index".
-- Rests on Start and StartChecks, and on laws' Least.
--
-- Main definitions: place_below, fits_at.
-- Main statements: place-there, place-beyond; stopped-below, passed-below (what a search has found), many-cuts-below; the answer by those
-- places: bad-token-below, bad-cut-below, small-room-below, enough-room-below.
use Rattle.std.specs.Prelude.{◌≡◌, refl, Bool, true, not, List, ℕ, ◌+◌, ◌≤◌, ◌<◌, ltb, length, Some, None, Ok, Err}
use Rattle.std.proofs.Common.{sym, ◌∙◌}
use Rattle.std.proofs.Math.Option.{Option, none, some}
use Rattle.laws.specs.Least.{Clear, first_below}
use Rattle.laws.specs.Tests.{lt-ltb, le-ltb}
use Rattle.refusals.specs.declared.Refusal.TheVariants.{BadToken, BadCut, NoRoom}
use Rattle.language.specs.Words.{count_t}
use Rattle.language.specs.Stages.{failing}
use Rattle.layout.specs.Layout.{need}
use Rattle.matrix.specs.GrammarShape.{grammar_in_shape}
use Rattle.start.specs.Start.{bad_token_at, start_answer}
use Rattle.start.specs.StartChecks.{bad_tokens, bad_cuts, stopped, passed, many-cuts, bad-token, bad-cut, small-room, enough-room}

-- what a search that has stopped at place i has found below n
abbrev pub place_below : ℕ → ℕ → Option ℕ
place_below i n = failing (ltb i n) i

pub place-there : {i n : ℕ} → i < n → place_below i n ≡ some i
place-there {i} {n} h = rw (lt-ltb i n h)

pub place-beyond : {i n : ℕ} → n ≤ i → place_below i n ≡ none
place-beyond {i} {n} h = rw (le-ltb i n h)

-- a search that goes up from 0 has stopped at a bad place, or passed all
module _ (bad : ℕ → Bool) (n i : ℕ) (clear : Clear bad i) where
  pub stopped-below : i < n → bad i ≡ true → first_below bad n ≡ place_below i n
  stopped-below h e = stopped bad n i clear h e ∙ sym (place-there h)

  pub passed-below : n ≤ i → first_below bad n ≡ place_below i n
  passed-below h = passed bad n i clear h ∙ sym (place-beyond h)

-- the token at place i is within 1..t
abbrev pub fits_at : ℕ → List ℕ → ℕ → Bool
fits_at t tokens i = not (bad_token_at t tokens i)

pub many-cuts-below : (n : ℕ) (cuts : List ℕ) → 63 < length cuts → bad_cuts n cuts ≡ place_below 63 (length cuts)
many-cuts-below n cuts h = many-cuts n cuts h ∙ sym (place-there h)

-- the answer, where the words and the matrix are in shape and the tokens are neither none nor too many
module _ (words matrix tokens cuts : List ℕ) (room : ℕ) (right : grammar_in_shape words matrix ≡ true) (some_token : length tokens ≡ 0 → ⊥) where
  module _ (few : length tokens ≤ 16384) (i : ℕ) (tokens-by : bad_tokens (count_t words) tokens ≡ place_below i (length tokens)) where
    pub bad-token-below : i < length tokens → Err (BadToken i) ≡ start_answer words matrix tokens cuts room
    bad-token-below h = bad-token words matrix tokens cuts room right some_token few (Some i) (tokens-by ∙ place-there h) i refl

    module _ (right_tokens : length tokens ≤ i) (j : ℕ) (cuts-by : bad_cuts (length tokens) cuts ≡ place_below j (length cuts)) where
      no-token : bad_tokens (count_t words) tokens ≡ none
      no-token = tokens-by ∙ place-beyond right_tokens

      pub bad-cut-below : j < length cuts → Err (BadCut j) ≡ start_answer words matrix tokens cuts room
      bad-cut-below h = bad-cut words matrix tokens cuts room right some_token few None no-token refl (Some j) (cuts-by ∙ place-there h) j refl

      module _ (right_cuts : length cuts ≤ j) where
        no-cut : bad_cuts (length tokens) cuts ≡ none
        no-cut = cuts-by ∙ place-beyond right_cuts

        pub small-room-below : room < need (length tokens) (length cuts + 1) → Err (NoRoom (need (length tokens) (length cuts + 1))) ≡ start_answer words matrix tokens cuts room
        small-room-below h = small-room words matrix tokens cuts room right some_token few None no-token refl None no-cut refl h

        pub enough-room-below : need (length tokens) (length cuts + 1) ≤ room → Ok tt ≡ start_answer words matrix tokens cuts room
        enough-room-below h = enough-room words matrix tokens cuts room right some_token few None no-token refl None no-cut refl h
