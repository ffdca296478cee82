-- Rules (d) to (h) for the table of chunks: a walk of the table passes exactly where it is the table of chunks whose sides stand on
-- their slots; it counts live chunks, those not stuck, symbols and terminals as the machine does.
-- Document 01, 15 BAD STATE; docs/AREA.md, rules (d) to (h).
-- t, N: how many terminals and nonterminals the grammar has; n: how many tokens the row has.
-- Rests on Sides and Rising.
--
-- Main definitions: ChunkFits, AllFit, walked_all, Counted. Main statements: walk-passes, counted-all.
use Rattle.std.specs.Prelude.{◌≡◌, refl, false, List, [], ◌∷◌, ◌++◌, map, reverse, eqb, ltb, length, get_or, drop, Some, option_and_then}
use Rattle.std.proofs.Common.{sym, ap, ◌∙◌, append_assoc, add-zero, arith}
use Rattle.std.proofs.Math.Bool.{true}
use Rattle.std.proofs.Math.Option.{Option, none, some}
use Prim.Native.Nat.{ℕ, ◌+◌, ◌-◌, ◌≤◌, ◌<◌}
use Rattle.std.proofs.Math.ListN.{get_or-append}
use Rattle.laws.specs.Tests.{eq-eqb, lt-ltb, le-leb}
use Rattle.laws.specs.Picks.{pick}
use Rattle.laws.specs.Parts.{drop_past, get_d_past}
use Rattle.language.specs.Trees.{Span}
use Rattle.machine.specs.Entries.{Unread, Entry}
use Rattle.machine.specs.Moves.{no_relation, no_rule, not_axiom, side_by_side}
use Rattle.machine.specs.Chunks.{Status, running, stuck, Chunk}
use Rattle.machine.specs.States.{live}
use Rattle.results.specs.RunsEnd.{terminals_on, terminals_unread}
use Rattle.results.specs.Bounded.{one_if_running, unread_in, symbols_in, terminals_in, running_in}
use Rattle.area.specs.declared.shape.Scan.{Scan}
use Rattle.area.specs.declared.shape.Walk.{Walk}
use Rattle.layout.specs.Layout.{stack_size, stack_words, marks, unread_size, unread_words, chunk_size, chunk_words, status_word, row, total, rows, slots}
use Rattle.layout.specs.Kept.{StuckFine, not_stuck, stuck_fine}
use Rattle.layout.specs.Lengths.{length-stack, length-chunk, length-row}
use Rattle.shape.specs.Encoded.{slots_from, slots-past}
use Rattle.area.specs.Shape.{side, status_fits, bounds_fit, stuck_fits, sides_fit, counted, line_of, walked}
use Rattle.shape.specs.Sides.{rising_words, Placed, placed_end, Scanned, Passes, scan-passes}
use Rattle.shape.specs.Rising.{rising-stack, plain, plain-unread}

-- a live chunk whose first slot is `from`, by rules (d) to (h)
pub record ChunkFits (t N n from : ℕ) (c : Chunk Span) : Type 0 where
  pub begins : from ≤ n + 1
  pub stack_stands : Placed t N n from (reverse c.stack) (from + stack_size c.stack)
  pub unread_stands : Placed t N n (from + stack_size c.stack) (map plain c.unread) (from + (stack_size c.stack + unread_size c.unread))
  pub stuck_fine : StuckFine c

-- chunks one after the other, the first at slot `from`
pub data AllFit (t N n : ℕ) : ℕ → List (Option (Chunk Span)) → Type 0 where
  no_more_fit : {from : ℕ} → AllFit t N n from []
  gone-fits : {from : ℕ} {chunks : List (Option (Chunk Span))} → AllFit t N n from chunks → AllFit t N n from (none ∷ chunks)
  live_fits : {from : ℕ} {c : Chunk Span} {chunks : List (Option (Chunk Span))} → ChunkFits t N n from c → AllFit t N n (from + chunk_size (some c)) chunks
      → AllFit t N n from (some c ∷ chunks)

-- ---- chunks that fit pass the walk

-- a walk that has passed a live chunk, and some numbers of the table
abbrev pub walked_over : Walk → Chunk Span → Walk
walked_over w c = record {
  at = w.at + chunk_size (some c);
  live = w.live + 1;
  running = w.running + one_if_running c.status;
  unread = w.unread + length c.unread;
  symbols = w.symbols + length c.stack + length c.unread;
  terminals = w.terminals + terminals_on c.stack + terminals_unread c.unread;
}

abbrev pub walked_all : Walk → List (Option (Chunk Span)) → Walk
walked_all w [] = w
walked_all w (none ∷ chunks) = walked_all w chunks
walked_all w (some c ∷ chunks) = walked_all (walked_over w c) chunks

pub status-word : (s : Status) → eqb (status_word s) 0 ≡ false
status-word running = refl
status-word (stuck no_relation) = refl
status-word (stuck no_rule) = refl
status-word (stuck not_axiom) = refl
status-word (stuck side_by_side) = refl

status-fits : (s : Status) → status_fits (status_word s) ≡ true
status-fits running = refl
status-fits (stuck no_relation) = refl
status-fits (stuck no_rule) = refl
status-fits (stuck not_axiom) = refl
status-fits (stuck side_by_side) = refl

status-runs : (s : Status) → pick (eqb (status_word s) 1) 1 0 ≡ one_if_running s
status-runs running = refl
status-runs (stuck no_relation) = refl
status-runs (stuck no_rule) = refl
status-runs (stuck not_axiom) = refl
status-runs (stuck side_by_side) = refl

bounds-fit : (n at from head end : ℕ) → at ≡ from → from ≤ n + 1 → from ≤ head → head ≤ end → end ≤ n + 2 → bounds_fit n at from head end ≡ true
bounds-fit n at from head end i p q r s =
    rw (eq-eqb from at (sym i), le-leb from (n + 1) p, le-leb from head q, le-leb head end r, le-leb end (n + 2) s)

some-unread : (unread : List (Unread Span)) → (unread ≡ [] → ⊥) → 0 < unread_size unread
some-unread [] h = absurd (h refl)
some-unread (x ∷ unread) h = omega arith

stuck-fits : (c : Chunk Span) (h e : ℕ) → h + unread_size c.unread ≡ e → StuckFine c → stuck_fits (status_word c.status) h e (marks c.stack) ≡ true
stuck-fits c h e q (not_stuck r) = rw r
stuck-fits c h e q (stuck_fine u k) = go c.status k
  where
    more : ltb h e ≡ true
    more = lt-ltb h e (omega (arith, some-unread c.unread u))

    go : (s : Status) → (s ≡ stuck no_rule → 0 < marks c.stack) → stuck_fits (status_word s) h e (marks c.stack) ≡ true
    go running k = refl
    go (stuck no_relation) k = rw more
    go (stuck no_rule) k = rw (more, le-leb 1 (marks c.stack) (k refl))
    go (stuck not_axiom) k = rw more
    go (stuck side_by_side) k = rw more

sides-fit : {s u : Scan} (c : Chunk Span) (h e : ℕ) → Scanned (reverse c.stack) s → Scanned (map plain c.unread) u → h + unread_size c.unread ≡ e
    → StuckFine c → sides_fit s u (status_word c.status) h e (marks c.stack) ≡ true
sides-fit {s} {u} c h e ps pu q f =
    rw (
      ps.fits,
      pu.fits,
      eq-eqb u.marks 0 (pu.marks_are ∙ (plain-unread c.unread).no_marks),
      eq-eqb (marks c.stack) s.marks (sym (ps.marks_are ∙ (rising-stack c.stack).marks_are)),
      stuck-fits c h e q f,
    )

counted_is : {s u : Scan} (w : Walk) (c : Chunk Span) (e : ℕ) → Scanned (reverse c.stack) s → Scanned (map plain c.unread) u
    → e ≡ w.at + chunk_size (some c) → counted w s u (status_word c.status) e ≡ walked_over w c
counted_is w c e ps pu q =
    let r = rising-stack c.stack in
    let p = plain-unread c.unread in
    rw (
      q,
      status-runs c.status,
      ps.symbols_are ∙ r.length_is,
      pu.symbols_are ∙ p.length_is,
      ps.terminals_are ∙ r.terminals_are,
      pu.terminals_are ∙ p.terminals_are,
    )

module _ (t N n : ℕ) (few : t < 256) (area : List ℕ) (n-is : get_or area 0 0 ≡ n) where
  pub side-passes : {from to : ℕ} (entries : List (Entry Span)) (words : List ℕ) → Placed t N n from entries to
      → slots_from area from ≡ rising_words entries ++ words → Passes entries (side t N area from to)
  unfolding side
  side-passes {from} {to} entries words p d =
      let e : to - from ≡ stack_size entries = omega (arith, placed_end p) in
      rw (n-is, e, d) (scan-passes few p words)

  line-passes : (w : Walk) (from : ℕ) (c : Chunk Span) (words : List ℕ) → w.at ≡ from → ChunkFits t N n from c → from + chunk_size (some c) ≤ n + 2
      → slots_from area from ≡ stack_words c.stack ++ (unread_words c.unread ++ words)
      → line_of t N area w (status_word c.status) from (from + stack_size c.stack) (from + chunk_size (some c)) (marks c.stack) ≡ Some (walked_over w c)
  unfolding line_of
  line-passes w from c words q f l d =
      let head : ℕ = from + stack_size c.stack in
      let end : ℕ = from + chunk_size (some c) in
      let r = rising-stack c.stack in
      let p = plain-unread c.unread in
      let d₂ = slots-past area from (stack_size c.stack) (stack_words c.stack) (unread_words c.unread ++ words) (length-stack c.stack) d in
      let s = side-passes (reverse c.stack) (unread_words c.unread ++ words) f.stack_stands (rw r.words_are d) in
      let u = side-passes (map plain c.unread) words f.unread_stands (rw p.words_are d₂) in
      let bounds : bounds_fit (get_or area 0 0) w.at from head end ≡ true =
      rw n-is (bounds-fit n w.at from head end q f.begins (omega arith) (omega arith) l) in
      let sides = sides-fit c head end s.scanned_all u.scanned_all (omega arith) f.stuck_fine in
      rw (status-word c.status, status-fits c.status, bounds, s.is, u.is, sides) (ap (λ v. Some v) (counted_is w c end s.scanned_all u.scanned_all (omega arith)))

  row_read : (i from : ℕ) (c : Option (Chunk Span)) (words : List ℕ) (w : Walk) → drop i area ≡ row from c ++ words
      → line_of t N area w (get_or area i 0) (get_or area (i + 1) 0) (get_or area (i + 2) 0) (get_or area (i + 3) 0) (get_or area (i + 4) 0)
      ≡ line_of t N area w (get_or (row from c) 0 0) (get_or (row from c) 1 0) (get_or (row from c) 2 0) (get_or (row from c) 3 0) (get_or (row from c) 4 0)
  row_read i from c words w d =
      let z : get_or area i 0 ≡ get_or area (i + 0) 0 = ap (λ j. get_or area j 0) (sym (add-zero i)) in
      rw (z, word 0 (omega arith), word 1 (omega arith), word 2 (omega arith), word 3 (omega arith), word 4 (omega arith))
    where
      word : (j : ℕ) → j < 5 → get_or area (i + j) 0 ≡ get_or (row from c) j 0
      word j h = get_d_past area i j (row from c ++ words) d ∙ get_or-append (row from c) words 0 j (omega (arith, length-row from c))

  line-gone : (w : Walk) → line_of t N area w 0 0 0 0 0 ≡ Some w
  unfolding line_of
  line-gone w = refl

  -- the table of chunks that fit, from word i on, and their slots
  pub walk-passes : {from : ℕ} {chunks : List (Option (Chunk Span))} → AllFit t N n from chunks → (i : ℕ) (w : Walk) (after beyond : List ℕ)
      → w.at ≡ from → from + total chunks ≤ n + 2 → drop i area ≡ rows from chunks ++ after → slots_from area from ≡ slots chunks ++ beyond
      → walked t N area (length chunks) i w ≡ Some (walked_all w chunks)
  walk-passes no_more_fit i w after beyond q l d b = refl
  walk-passes {from} (gone-fits {chunks = chunks} f) i w after beyond q l d b =
      let z : from + 0 ≡ from = omega arith in
      let d₂ : drop (i + 5) area ≡ rows from chunks ++ after = rw z at (drop_past area i (i + 5) (row from none) (rows (from + 0) chunks ++ after) refl d) in
      ap (λ o. option_and_then (λ v. walked t N area (length chunks) (i + 5) v) o) (row_read i from none (rows (from + 0) chunks ++ after) w d ∙ line-gone w)
      ∙ walk-passes f (i + 5) w after beyond q (omega arith) d₂ b
  walk-passes {from} (live_fits {c = c} {chunks = chunks} f fs) i w after beyond q l d b =
      let e : ℕ = from + chunk_size (some c) in
      let d₂ : drop (i + 5) area ≡ rows e chunks ++ after = drop_past area i (i + 5) (row from (some c)) (rows e chunks ++ after) refl d in
      let b₁ : slots_from area from ≡ chunk_words (some c) ++ (slots chunks ++ beyond) = b ∙ append_assoc (chunk_words (some c)) (slots chunks) beyond in
      let b₂ = slots-past area from (chunk_size (some c)) (chunk_words (some c)) (slots chunks ++ beyond) (length-chunk (some c)) b₁ in
      let b₃ = b₁ ∙ append_assoc (stack_words c.stack) (unread_words c.unread) (slots chunks ++ beyond) in
      ap (λ o. option_and_then (λ v. walked t N area (length chunks) (i + 5) v) o)
      (row_read i from (some c) (rows e chunks ++ after) w d ∙ line-passes w from c (slots chunks ++ beyond) q f (omega arith) b₃)
      ∙ walk-passes fs (i + 5) (walked_over w c) after beyond (ap (λ k. k + chunk_size (some c)) q) (omega arith) d₂ b₂

-- ---- what the walk has counted

pub record Counted (chunks : List (Option (Chunk Span))) (w w' : Walk) : Type 0 where
  pub at_then : w'.at ≡ w.at + total chunks
  pub live_then : w'.live ≡ w.live + length (live chunks)
  pub running_then : w'.running ≡ w.running + running_in (live chunks)
  pub unread_then : w'.unread ≡ w.unread + unread_in (live chunks)
  pub symbols_then : w'.symbols ≡ w.symbols + symbols_in (live chunks)
  pub terminals_then : w'.terminals ≡ w.terminals + terminals_in (live chunks)

pub counted-all : (chunks : List (Option (Chunk Span))) (w : Walk) → Counted chunks w (walked_all w chunks)
counted-all [] w = record {
  at_then = omega arith;
  live_then = omega arith;
  running_then = omega arith;
  unread_then = omega arith;
  symbols_then = omega arith;
  terminals_then = omega arith;
}
counted-all (none ∷ chunks) w =
    let r = counted-all chunks w in
    record {
      at_then = omega (arith, r.at_then);
      live_then = r.live_then;
      running_then = r.running_then;
      unread_then = r.unread_then;
      symbols_then = r.symbols_then;
      terminals_then = r.terminals_then;
    }
counted-all (some c ∷ chunks) w =
    let r = counted-all chunks (walked_over w c) in
    record {
      at_then = omega (arith, r.at_then);
      live_then = omega (arith, r.live_then);
      running_then = omega (arith, r.running_then);
      unread_then = omega (arith, r.unread_then);
      symbols_then = omega (arith, r.symbols_then);
      terminals_then = omega (arith, r.terminals_then);
    }
