-- A stack where it stands in words: the words of its topmost symbol, and what stands under that.
-- docs/AREA.md: a stack stands bottom first, each symbol one block.
-- Rests on MoveWords, ReadWords and BlockWords, and on layout's Lengths.
--
-- Main statements: within_area, stands_alike, top-symbol, top-mark, top-front, top-size, top_start, under, top-cleared; the same on
-- slots: stacked, slot-symbol, slot-mark, slot-start, slot-ends, slot-under.
use Rattle.std.specs.Prelude.{◌≡◌, refl, List, ◌∷◌, ◌++◌, ℕ, ◌+◌, ◌*◌, ◌-◌, ◌<◌, ◌≤◌, length, get_or, take, drop}
use Rattle.std.proofs.Common.{sym, ap, ◌∙◌, append_assoc, arith, length-append, length-drop, take-append-drop, length-take-le, take_at, drop_at, get_or-take, get_or-drop, ext_get_or}
use Rattle.language.specs.Symbols.{word_of}
use Rattle.language.specs.Trees.{Span}
use Rattle.machine.specs.Entries.{Entry, terminal_on, nonterminal_on, symbol, unmarked}
use Rattle.layout.specs.Layout.{size, block, mark_word, stack_size, stack_words, slot_word, zeros}
use Rattle.layout.specs.Lengths.{length-stack}
use Rattle.moving.specs.MoveWords.{slot_at, Stands, start_of, cleared_one, Tagged}
use Rattle.moving.specs.ReadWords.{Told, Holds, start_slot, EndsBlock, Stacked}
use Rattle.moving.specs.BlockWords.{first_word, mark-word, size_word, last_word, cleared-one}

pub within_area : {area : List ℕ} {i j : ℕ} (stack : List (Entry Span)) → Stands area i j stack → j ≤ length area
within_area stack h =
    omega (
      arith,
      h.start,
      h.stop,
      ap length h.is,
      length-append h.below (stack_words stack ++ h.above),
      length-append (stack_words stack) h.above,
      length-stack stack,
    )

-- where two areas have the same words from i up to j, the same stack stands there
pub stands_alike : {area other : List ℕ} {i j : ℕ} {stack : List (Entry Span)} → length area ≡ length other
    → ((k : ℕ) → i ≤ k → k < j → get_or area k 0 ≡ get_or other k 0) → Stands area i j stack → Stands other i j stack
stands_alike {area} {other} {i} {j} {stack} long same h =
    let room : j ≤ length area = within_area stack h in
    let there : (l : List ℕ) → length l ≡ length area → length (take (j - i) (drop i l)) ≡ j - i =
    λ l e. length-take-le (j - i) (drop i l) (omega (arith, length-drop i l)) in
    let words : take (j - i) (drop i area) ≡ stack_words stack =
    ap (λ (w : List ℕ). take (j - i) w) (ap (λ (w : List ℕ). drop i w) h.is ∙ drop_at h.below (stack_words stack ++ h.above) i h.start)
    ∙ take_at (stack_words stack) h.above (j - i) (omega (arith, length-stack stack, h.stop)) in
    let parts : take (j - i) (drop i other) ≡ take (j - i) (drop i area) =
    ext_get_or 0 (take (j - i) (drop i other)) (take (j - i) (drop i area)) (there other (sym long) ∙ sym (there area refl))
    (λ k l.
    let in-part : k < j - i = omega (arith, there other (sym long)) in
    get_or-take (j - i) (drop i other) k 0 in-part ∙ get_or-drop i other k 0 ∙ sym (same (i + k) (omega arith) (omega arith))
    ∙ sym (get_or-take (j - i) (drop i area) k 0 in-part ∙ get_or-drop i area k 0)) in
    record {
      below = take i other;
      above = drop (j - i) (drop i other);
      is =
          sym (take-append-drop i other)
          ∙ ap (λ (w : List ℕ). take i other ++ w) (sym (take-append-drop (j - i) (drop i other)) ∙ ap (λ (w : List ℕ). w ++ drop (j - i) (drop i other)) (parts ∙ words));
      start = length-take-le i other (omega (arith, room, h.stop));
      stop = h.stop;
    }

module _ {area : List ℕ} {i j : ℕ} (x : Entry Span) (stack : List (Entry Span)) (h : Stands area i j (x ∷ stack)) where
  abbrev p : List ℕ
  p = h.below ++ stack_words stack

  starts : length p ≡ i + 4 * stack_size stack
  starts = omega (arith, length-append h.below (stack_words stack), length-stack stack, h.start)

  ends : j ≡ length p + 4 * size (unmarked x)
  ends = omega (arith, starts, h.stop)

  is_block : area ≡ p ++ (block (mark_word x) (unmarked x) ++ h.above)
  is_block = h.is ∙ simp append_assoc

  word-of : (k v : ℕ) → get_or (p ++ (block (mark_word x) (unmarked x) ++ h.above)) (length p + k) 0 ≡ v → get_or area (i + 4 * stack_size stack + k) 0 ≡ v
  word-of k v e = rw (← starts, is_block) e

  -- its symbol and its mark
  pub top-symbol : get_or area (i + 4 * stack_size stack + 0) 0 ≡ word_of (symbol (unmarked x))
  top-symbol = word-of 0 _ (first_word p (mark_word x) (unmarked x) h.above)

  pub top-mark : get_or area (i + 4 * stack_size stack + 1) 0 ≡ mark_word x
  top-mark = word-of 1 _ (mark-word p (mark_word x) (unmarked x) h.above)

  -- its size, the third of its words and the last
  pub top-front : get_or area (i + 4 * stack_size stack + 2) 0 ≡ size (unmarked x)
  top-front = word-of 2 _ (size_word p (mark_word x) (unmarked x) h.above)

  pub top-size : get_or area (j - 1) 0 ≡ size (unmarked x)
  top-size = ap (λ (l : List ℕ). get_or l (j - 1) 0) is_block ∙ last_word p (mark_word x) (unmarked x) h.above j ends

  pub top_start : start_of area j ≡ i + 4 * stack_size stack
  top_start = omega (arith, top-size, starts, ends)

  pub top-tagged : Tagged area j
  top-tagged = record { some = omega (arith, top-size); fits = omega (arith, top-size, ends); within = within_area (x ∷ stack) h }

  -- what stands under it
  pub under : Stands area i (i + 4 * stack_size stack) stack
  under = record { below = h.below; above = block (mark_word x) (unmarked x) ++ h.above; is = h.is ∙ simp append_assoc; start = h.start; stop = refl }

  -- it cleared, the others stand as before
  pub top-cleared : cleared_one area j ≡ h.below ++ (stack_words stack ++ (zeros (4 * size (unmarked x)) ++ h.above))
  top-cleared = ap (λ (l : List ℕ). cleared_one l j) is_block ∙ cleared-one p (mark_word x) (unmarked x) h.above j ends ∙ simp append_assoc

-- ---- on slots

pub stacked : {area : List ℕ} {s e : ℕ} (stack : List (Entry Span)) → Holds area s e stack → Stacked area s e
stacked stack h = record { stack = stack; holds = h; room = within_area stack h.stands }

pub told_under : (x : Entry Span) (stack : List (Entry Span)) → Told (x ∷ stack) → Told stack
told_under (terminal_on mark a v) stack t = t.1
told_under (nonterminal_on k v) stack t = t

module _ {area : List ℕ} {s e : ℕ} {x : Entry Span} {stack : List (Entry Span)} (h : Holds area s e (x ∷ stack)) where
  at_slot : slot_at area s + 4 * stack_size stack ≡ slot_at area (s + stack_size stack)
  at_slot = omega arith

  pub slot-start : start_slot area e ≡ s + stack_size stack
  slot-start = omega (arith, top-size x stack h.stands, h.stands.stop)

  pub slot-ends : EndsBlock area e
  slot-ends = record {
    some = omega (arith, top-size x stack h.stands);
    fits = omega (arith, top-size x stack h.stands, h.stands.stop);
    within = within_area (x ∷ stack) h.stands;
  }

  pub slot-symbol : slot_word area (start_slot area e) 0 ≡ word_of (symbol (unmarked x))
  slot-symbol = rw (slot-start, ← at_slot) (top-symbol x stack h.stands)

  pub slot-mark : slot_word area (start_slot area e) 1 ≡ mark_word x
  slot-mark = rw (slot-start, ← at_slot) (top-mark x stack h.stands)

  pub slot-under : Holds area s (start_slot area e) stack
  slot-under = record { stands = rw (slot-start, ← at_slot) (under x stack h.stands); told = told_under x stack h.told }
