-- A chunk gets stuck: what `stick_words` makes of a state's words, and what it asks of them.
-- Document 01, "Moves of a chunk": "stuck with 17", 18, 19, 20; "Getting stuck is itself a move".
-- Rests on AroundChunk and MoveWords.
--
-- Main statements: stick-law, stick-ready.
use Rattle.std.specs.Prelude.{◌≡◌, refl, List, [], ◌∷◌, ◌++◌, ℕ, suc, ◌+◌, length}
use Rattle.std.proofs.Common.{sym, ap, ◌∙◌, arith}
use Rattle.std.proofs.Math.Option.{Option, some}
use Rattle.laws.specs.Parts.{set-part}
use Rattle.language.specs.Trees.{Span, Reduction}
use Rattle.machine.specs.Chunks.{Status, Chunk}
use Rattle.machine.specs.States.{State, made_at}
use Rattle.machine.specs.Allowed.{Live}
use Rattle.layout.specs.Layout.{status_word, encode, table_at}
use Rattle.layout.specs.Lengths.{length-rows}
use Rattle.layout.specs.Kept.{Kept}
use Rattle.shape.specs.Encoded.{chunks-at}
use Rattle.moving.specs.MoveWords.{stick_words, Stickable}
use Rattle.moving.specs.AroundChunk.{parts_around, around, tick-law, listed-words, read-words, number-within, few-moves, slots-within}

law : (n : ℕ) (earlier : List (Option (Chunk Span))) (chunk : Chunk Span) (status : Status) (later : List (Option (Chunk Span))) (reductions : List (Reduction Span))
    (moves : ℕ) (rest : List ℕ) (c : ℕ) → length earlier ≡ c
    → stick_words (encode n (record { chunks = earlier ++ (some chunk ∷ later); reductions = reductions; moves = moves }) ++ rest) c (status_word status)
    ≡ encode n (record {
      chunks = earlier ++ (some (record { stack = chunk.stack; unread = chunk.unread; status = status }) ∷ later);
      reductions = reductions;
      moves = moves + 1;
    }) ++ rest
unfolding stick_words
law n earlier chunk status later reductions moves rest c number =
    rw (
      around n earlier (some chunk) later reductions moves rest,
      around n earlier (some (record { stack = chunk.stack; unread = chunk.unread; status = status })) later reductions (moves + 1) rest,
      set-part (parts_around n earlier (some chunk) later reductions moves rest) 2 (table_at c 0) 0 (status_word status) (omega (arith, length-rows 0 earlier)) (omega arith),
    )
    (tick-law n (length earlier + suc (length later)) moves (length reductions) _)

module _ (n : ℕ) (s : State Span) (rest : List ℕ) {c : ℕ} (l : Live s.chunks c) where
  -- chunk c with this status
  pub stick-law : (status : Status) → stick_words (encode n s ++ rest) c (status_word status)
      ≡ encode n (made_at c s [] (record { stack = l.chunk.stack; unread = l.chunk.unread; status = status })) ++ rest
  stick-law status =
      ap (λ (words : List ℕ). stick_words words c (status_word status)) (listed-words n s rest l refl)
      ∙ law n l.before l.chunk status l.after s.reductions s.moves rest c l.number_is
      ∙ sym (read-words n s rest l (record { stack = l.chunk.stack; unread = l.chunk.unread; status = status }))

pub stick-ready : {t N n : ℕ} {s : State Span} (k : Kept t N n s) (rest : List ℕ) {c : ℕ} (l : Live s.chunks c) → Stickable (encode n s ++ rest) c
stick-ready {n = n} {s = s} k rest l = record {
  few = few-moves k rest;
  chunk = rw (chunks-at n s rest) (number-within n s rest l);
  room = omega (arith, slots-within k rest);
}
