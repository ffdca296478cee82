-- What safety needs of a row, and that every call keeps it: a state is safe if its words can be read, walked and written without a
-- read outside, an endless walk, a count that overflows or a move that document 01 does not name.
-- Document 01: "Each public function promises its answer .. for all inputs"; 15 is never given "for a state reached from such a load and
-- start"; "Any other state that keeps the shape rules gets the move named above".
-- The list of docs/AREA.md, which Shape tests on words, is a list of its own. Today it holds exactly for the words of safe states. A
-- rule that only states reached from a start keep would be added to that list, and not here: safety does not rest on it, and a
-- move of a state that was never reached need not keep it.
-- Rests on KeptByTurns, and on layout's Kept, start's StartKept and matrix's EndMarkOfShape.
--
-- Main definition: Safe. Main statements: safe-turned, safe-run, safe-scheduled, safe-start, safe-reached.
use Rattle.std.specs.Prelude.{◌≡◌, true, List, ◌++◌, ℕ, length}
use Rattle.language.specs.Trees.{Span}
use Rattle.language.specs.Words.{count_t, count_n, grammar_of}
use Rattle.language.specs.Matrix.{matrix_of}
use Rattle.language.specs.Loads.{Accepted}
use Rattle.machine.specs.Moves.{Table}
use Rattle.machine.specs.States.{State, ran, run, start}
use Rattle.machine.specs.TableOf.{table_of}
use Rattle.machine.specs.Schedules.{Turned, Schedule}
use Rattle.matrix.specs.GrammarShape.{grammar_in_shape}
use Rattle.start.specs.Start.{StartInput, Startable}
use Rattle.layout.specs.Kept.{Kept}
use Rattle.matrix.specs.EndMarkOfShape.{grammar-in-shape, end-mark-in-shape, matrix-in-shape}
use Rattle.shape.specs.KeptByTurns.{kept-turned, kept_run, kept-scheduled}
use Rattle.start.specs.StartKept.{startable-kept}

-- a row of n tokens that is safe to read with these grammar words
abbrev pub Safe : List ℕ → ℕ → State Span → Type 0
Safe words n s = Kept (count_t words) (count_n words) n s

-- words and matrix that keep the rules, of an accepted load or not
module _ (words bytes : List ℕ) (shape : grammar_in_shape words bytes ≡ true) where
  abbrev table : Table Span
  table = table_of words bytes

  -- every step and every join of every safe state
  pub safe-turned : {n : ℕ} {s s' : State Span} → Safe words n s → Turned table s s' → Safe words n s'
  safe-turned = kept-turned words bytes (grammar-in-shape words bytes shape).0 (end-mark-in-shape words bytes shape)

  pub safe-run : {n : ℕ} (c budget : ℕ) {j : ℕ} {s s' : State Span} → Safe words n s → run table c budget s ≡ ran j s' → Safe words n s'
  safe-run = kept_run words bytes (grammar-in-shape words bytes shape).0 (end-mark-in-shape words bytes shape)

  pub safe-scheduled : {n i : ℕ} {s s' : State Span} → Safe words n s → Schedule table s i s' → Safe words n s'
  safe-scheduled = kept-scheduled words bytes (grammar-in-shape words bytes shape).0 (end-mark-in-shape words bytes shape)

pub safe-start : {input : StartInput} → Startable input → Safe input.words (length input.tokens) (start input.tokens input.cuts)
safe-start can = startable-kept can

-- every state reached from an accepted load and a start with those same words and matrix
pub safe-reached : {words : List ℕ} → Accepted words → (rest : List ℕ) {tokens cuts : List ℕ} {room : ℕ}
    → Startable (record { words = words; matrix = matrix_of (grammar_of words) ++ rest; tokens = tokens; cuts = cuts; room = room })
    → {i : ℕ} {s : State Span} → Schedule (table_of words (matrix_of (grammar_of words) ++ rest)) (start tokens cuts) i s → Safe words (length tokens) s
safe-reached {words} accepted rest can turns =
    safe-scheduled words (matrix_of (grammar_of words) ++ rest) (matrix-in-shape words accepted rest) (safe-start can) turns
