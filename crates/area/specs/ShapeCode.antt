-- What the code of the shape check is stated by, besides Shape's tests: the facts that keep it within its numbers. The
-- counts of a scan and of a walk are at most the slots and the rows of the table passed.
-- Document 01, 15 BAD STATE, and "Grammar, tokens, cuts, work area and report are lent u16 slices".
-- Rests on layout's Layout.
--
-- Main definitions: slot_of, row_of, Sized, Few, Within, Countable.
use Rattle.std.specs.Prelude.{List, ℕ, ◌+◌, ◌*◌, ◌≤◌, length, get_or}
use Rattle.layout.specs.Layout.{need, slots_at}
use Rattle.area.specs.declared.shape.Slot.{Slot}
use Rattle.area.specs.declared.shape.Row.{Row}
use Rattle.area.specs.declared.shape.Scan.{Scan}
use Rattle.area.specs.declared.shape.Walk.{Walk}

-- the slot of this number
abbrev pub slot_of : List ℕ → ℕ → Slot
slot_of area at = record {
  at = at;
  symbol = get_or area (slots_at area + 4 * at) 0;
  mark = get_or area (slots_at area + 4 * at + 1) 0;
  size = get_or area (slots_at area + 4 * at + 2) 0;
  last = get_or area (slots_at area + 4 * at + 3) 0;
}

-- the row of the table whose words stand from word i on
abbrev pub row_of : List ℕ → ℕ → Row
row_of area i =
    record { status = get_or area i 0; from = get_or area (i + 1) 0; head = get_or area (i + 2) 0; end = get_or area (i + 3) 0; marks = get_or area (i + 4) 0 }

-- (c) as facts
pub record Sized (area : List ℕ) : Type 0 where
  pub some_token : 1 ≤ get_or area 0 0
  pub few_tokens : get_or area 0 0 ≤ 16384
  pub some_chunk : 1 ≤ get_or area 1 0
  pub few_chunks : get_or area 1 0 ≤ 64
  pub long : need (get_or area 0 0) (get_or area 1 0) ≤ length area

-- a scan has counted at most k of each
pub record Few (k : ℕ) (st : Scan) : Type 0 where
  pub symbols : st.symbols ≤ k
  pub terminals : st.terminals ≤ k
  pub marks : st.marks ≤ k

-- a walk has counted at most k chunks, and no more symbols than it has passed slots
pub record Within (k : ℕ) (w : Walk) : Type 0 where
  pub at : w.at ≤ 16386
  pub live : w.live ≤ k
  pub running : w.running ≤ k
  pub unread : w.unread ≤ w.at
  pub symbols : w.symbols ≤ w.at
  pub terminals : w.terminals ≤ w.at

-- a live chunk's counts can be added to a walk of at most k chunks, and are then no more than the slots up to its end
pub record Countable (k end : ℕ) (w : Walk) (stack unread : Scan) : Type 0 where
  pub end_low : end ≤ 16386
  pub live : w.live ≤ k
  pub running : w.running ≤ k
  pub unread_low : w.unread + unread.symbols ≤ end
  pub symbols_low : w.symbols + stack.symbols + unread.symbols ≤ end
  pub terminals_low : w.terminals + stack.terminals + unread.terminals ≤ end
