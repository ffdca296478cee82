-- *Shape kept*: what a step or a join makes of any row that keeps the rules, reached from a start or not, keeps them too; and so does
-- what a run leaves.
-- Document 01: 15 is never given "for a state reached from such a load and start with those same words and matrix". It asks of the
-- words that they pass 1 to 3, and of the matrix what it says of #; nothing here asks for an accepted load.
-- Rests on RowAfterTurn and RulesAfterTurn, and on layout's Kept, and on machine's Schedules, AllowedExactly and Counts and results' Bounded.
--
-- Main statements: kept-turned, kept-made, kept_run, kept-scheduled.
use Rattle.std.specs.Prelude.{◌≡◌, true, List, ℕ, length}
use Rattle.std.proofs.Common.{ap, arith, length-append}
use Rattle.language.specs.Trees.{Span}
use Rattle.language.specs.Words.{count_n}
use Rattle.machine.specs.Moves.{Table}
use Rattle.machine.specs.Laws.{EndMark}
use Rattle.machine.specs.States.{State, ran, live, run}
use Rattle.machine.specs.TableOf.{table_of}
use Rattle.results.specs.Bounded.{Falls, falls-kept, moves-bounded}
use Rattle.machine.specs.Schedules.{Turned, by_step, Schedule, no_turn, one_turn}
use Rattle.machine.proofs.Schedules.{listed}
use Rattle.machine.proofs.AllowedExactly.{step-exactly}
use Rattle.machine.specs.Counts.{NamedMoves, no_move, move_and}
use Rattle.machine.proofs.Counts.{run-exactly}
use Rattle.matrix.specs.GrammarShape.{rule_a}
use Rattle.layout.specs.Kept.{Kept}
use Rattle.shape.specs.RowAfterTurn.{row-then}
use Rattle.shape.specs.RulesAfterTurn.{same_number, first-of, zero-live, first-stack, holds_kept, whole_before, stands, ranged-kept, stuck-kept, terminals-fall}

module _ (words bytes : List ℕ) (rule-a : rule_a words ≡ true) (ends : EndMark (table_of words bytes)) where
  abbrev table : Table Span
  table = table_of words bytes

  -- one step, or one join
  pub kept-turned : {t n : ℕ} {s s' : State Span} → Kept t (count_n words) n s → Turned table s s' → Kept t (count_n words) n s'
  kept-turned {t} {n} {s} {s'} k turn =
      let l = listed table turn in
      let falls : Falls (live s.chunks) = record { first = first-stack k.first; fine = k.fine } in
      let falls' = falls-kept table ends falls turn in
      let row = row-then words bytes rule-a k.fine l.changed in
      let before = whole_before l.changed k.ending in
      let st = stands (first-stack k.first) before.0 (holds_kept l.changed before.0) row (rw before.1 at k.tiles) in
      record {
        some_token = k.some_token;
        few_tokens = k.few_tokens;
        few_chunks = omega (arith, k.few_chunks, same_number turn);
        first = first-of s'.chunks (l.zero_stays (zero-live k.first)) falls'.first;
        end = st.end;
        ending = st.ending;
        tiles = st.tiles;
        ranged = ranged-kept row k.ranged;
        fine = falls'.fine;
        stuck_fine = stuck-kept k.stuck_fine l.changed;
        room = omega (arith, k.room, ap length l.added, length-append s.reductions l.made, terminals-fall ends k.fine l.changed);
        bounded = rw (same_number turn) (omega (arith, k.bounded, moves-bounded table ends falls turn));
      }

  -- any number of moves of one chunk
  pub kept-made : {t n c j : ℕ} {s s' : State Span} → Kept t (count_n words) n s → NamedMoves table c s j s' → Kept t (count_n words) n s'
  kept-made k no_move = k
  kept-made {c = c} k (move_and {s = s} {s' = s'} h m) = kept-made (kept-turned k (by_step c ((step-exactly table c s s').0 h))) m

  -- "it makes moves until K are made or it rests"
  pub kept_run : {t n : ℕ} (c budget : ℕ) {j : ℕ} {s s' : State Span} → Kept t (count_n words) n s → run table c budget s ≡ ran j s' → Kept t (count_n words) n s'
  kept_run c budget {j} {s} {s'} k q = kept-made k ((run-exactly table c budget s j s').0 q).made

  -- any schedule
  pub kept-scheduled : {t n i : ℕ} {s s' : State Span} → Kept t (count_n words) n s → Schedule table s i s' → Kept t (count_n words) n s'
  kept-scheduled k no_turn = k
  kept-scheduled k (one_turn turn rest) = kept-scheduled (kept-turned k turn) rest
