-- What is proved of specs' Starts. A start: however a row is cut, its pieces are the row, and its live chunks are chunk 0 with # on its stack and one
-- chunk with an empty stack for each cut.
--
-- Main statements: pieces-together, later-symbols, row-length, begun.
use Rattle.std.specs.Prelude.{◌≡◌, refl, List, [], ◌∷◌, ◌++◌, map, ℕ, suc, ◌-◌, length, take, drop}
use Rattle.std.proofs.Common.{ap, ◌∙◌, append-nil, take-append-drop}
use Rattle.laws.specs.Parts.{flat}
use Rattle.language.specs.Trees.{Span}
use Rattle.machine.specs.Entries.{Unread}
use Rattle.machine.specs.States.{live, unread_from, pieces, start_chunk}
use Rattle.machine.specs.Starts.{StartPieces, first_chunk, later_chunk, symbols_along}

pub pieces-together : {A : Type 0} (i : ℕ) (cuts : List ℕ) (row : List A) → flat (pieces i cuts row) ≡ row
pieces-together i [] row = append-nil row
pieces-together i (cut ∷ cuts) row = ap (λ rest. take (cut - i) row ++ rest) (pieces-together cut cuts (drop (cut - i) row)) ∙ take-append-drop (cut - i) row

pub later-symbols : (pieces : List (List (Unread Span))) → symbols_along (map later_chunk pieces) ≡ flat pieces
later-symbols [] = refl
later-symbols (piece ∷ pieces) = ap (λ rest. piece ++ rest) (later-symbols pieces)

-- a row has its tokens and #
pub row-length : (i : ℕ) (tokens : List ℕ) → length (unread_from i tokens) ≡ suc (length tokens)
row-length i [] = refl
row-length i (a ∷ tokens) = ap suc (row-length (suc i) tokens)

later-live : (pieces : List (List (Unread Span))) → live (map (start_chunk []) pieces) ≡ map later_chunk pieces
later-live [] = refl
later-live (piece ∷ pieces) = ap (λ chunks. later_chunk piece ∷ chunks) (later-live pieces)

pub number-of-pieces : {A : Type 0} (i : ℕ) (cuts : List ℕ) (row : List A) → length (pieces i cuts row) ≡ suc (length cuts)
number-of-pieces i [] row = refl
number-of-pieces i (cut ∷ cuts) row = ap suc (number-of-pieces cut cuts (drop (cut - i) row))

pub begun : (tokens cuts : List ℕ) → StartPieces tokens cuts
begun tokens [] = record { piece = unread_from 0 tokens; rest = []; chunks = refl; row = append-nil (unread_from 0 tokens); number = refl }
begun tokens (cut ∷ cuts) =
    let row : List (Unread Span) = unread_from 0 tokens in
    let rest : List (List (Unread Span)) = pieces cut cuts (drop (cut - 0) row) in
    record {
      piece = take (cut - 0) row;
      rest = rest;
      chunks = ap (λ chunks. first_chunk (take (cut - 0) row) ∷ chunks) (later-live rest);
      row = pieces-together 0 (cut ∷ cuts) row;
      number = number-of-pieces cut cuts (drop (cut - 0) row);
    }
