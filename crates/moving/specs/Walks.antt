-- A walk down a stack, block by block, to what it looks for: the topmost terminal, or the topmost mark, the symbols on the way counted.
-- Rests on ReadWords and StackWords.
--
-- Main definitions: Down, Counted. Main statements: down_ends and down-under (what a turn asks), down-none (nothing is left); top-found, top-more;
-- nonterminal-top, below-start, below-here, below-ends; counted-begins, counted_none, mark-found, mark-counted, mark-more.
use Rattle.std.specs.Prelude.{ℕ, ◌+◌, ◌<◌, ◌≤◌, ◌≡◌, refl, Bool, true, false, List, [], ◌∷◌, leb, length, Some}
use Rattle.std.proofs.Common.{sym, ap, ◌∙◌, true≢false, arith}
use Rattle.std.proofs.lemmas.Bool.{false≢true}
use Rattle.laws.specs.Tests.{le-leb, lt-leb}
use Rattle.language.specs.Trees.{Span}
use Rattle.machine.specs.Entries.{Entry, terminal_on, nonterminal_on, top_terminal, top_is_nonterminal}
use Rattle.layout.specs.Layout.{stack_size, slot_word}
use Rattle.moving.specs.Searches.{found_of}
use Rattle.moving.specs.ReadWords.{Holds, Stacked, start_slot, EndsBlock, below_mark, handle_below, NonterminalOnTop, BelowMark}
use Rattle.moving.specs.StackWords.{stacked, slot-start, slot-ends, slot-symbol, slot-mark, slot-under}

-- slots that hold something end in a block
pub held-ends : {area : List ℕ} {s e : ℕ} (stack : List (Entry Span)) → Holds area s e stack → s < e → EndsBlock area e
held-ends [] h l = absurd (omega (arith, h.stands.stop))
held-ends (x ∷ stack) h l = slot-ends h

-- what stands under that block
pub held-under : {area : List ℕ} {s e : ℕ} (stack : List (Entry Span)) → Holds area s e stack → s < e → Stacked area s (start_slot area e)
held-under [] h l = absurd (omega (arith, h.stands.stop))
held-under (x ∷ stack) h l = stacked stack (slot-under h)

-- the stack, walked down to slot `at`: what is looked for is in what is left
pub record Down (A : Type 0) (f : List (Entry Span) → A) (area : List ℕ) (s at : ℕ) (stack : List (Entry Span)) : Type 0 where
  pub left : List (Entry Span)
  pub holds : Holds area s at left
  pub same : f stack ≡ f left

module _ (A : Type 0) (f : List (Entry Span) → A) {area : List ℕ} {s at : ℕ} {stack : List (Entry Span)} where
  pub down-begins : Holds area s at stack → Down A f area s at stack
  down-begins h = record { left = stack; holds = h; same = refl }

  module _ (d : Down A f area s at stack) where
    pub down_ends : s < at → EndsBlock area at
    down_ends = held-ends d.left d.holds

    -- where the walk has come to the bottom, nothing is left
    pub down-none : at ≤ s → f stack ≡ f []
    down-none l = go d.left refl
      where
        go : (left : List (Entry Span)) → d.left ≡ left → f stack ≡ f []
        go [] e = d.same ∙ ap f e
        go (x ∷ left) e = absurd (omega (arith, d.holds.stands.stop, ap stack_size e))

    -- what stands under the block that is passed
    pub down-under : s < at → Stacked area s (start_slot area at)
    down-under = held-under d.left d.holds

-- ---- the topmost terminal

module _ {area : List ℕ} {s at : ℕ} {stack : List (Entry Span)} (d : Down _ top_terminal area s at stack) (l : s < at) where
  pub top-found : slot_word area (start_slot area at) 0 < 256 → Some (slot_word area (start_slot area at) 0) ≡ found_of (top_terminal stack)
  top-found b = go d.left d.holds d.same
    where
      go : (left : List (Entry Span)) → Holds area s at left → top_terminal stack ≡ top_terminal left
          → Some (slot_word area (start_slot area at) 0) ≡ found_of (top_terminal stack)
      go [] h e = absurd (omega (arith, h.stands.stop))
      go (terminal_on mark a v ∷ left) h e = ap Some (slot-symbol h) ∙ sym (ap found_of e)
      go (nonterminal_on k v ∷ left) h e = absurd (omega (arith, slot-symbol h))

  pub top-more : 256 ≤ slot_word area (start_slot area at) 0 → Down _ top_terminal area s (start_slot area at) stack
  top-more b = go d.left d.holds d.same
    where
      go : (left : List (Entry Span)) → Holds area s at left → top_terminal stack ≡ top_terminal left → Down _ top_terminal area s (start_slot area at) stack
      go [] h e = absurd (omega (arith, h.stands.stop))
      go (terminal_on mark a v ∷ left) h e = absurd (omega (arith, h.told.0, slot-symbol h))
      go (nonterminal_on k v ∷ left) h e = record { left = left; holds = slot-under h; same = e }

-- ---- a nonterminal on top

module _ {area : List ℕ} {s e : ℕ} where
  pub nonterminal-top : (stack : List (Entry Span)) → Holds area s e stack → s < e → leb 256 (slot_word area (start_slot area e) 0) ≡ top_is_nonterminal stack
  nonterminal-top [] h l = absurd (omega (arith, h.stands.stop))
  nonterminal-top (terminal_on mark a v ∷ stack) h l = lt-leb 256 (slot_word area (start_slot area e) 0) (omega (arith, h.told.0, slot-symbol h))
  nonterminal-top (nonterminal_on k v ∷ stack) h l = le-leb 256 (slot_word area (start_slot area e) 0) (omega (arith, slot-symbol h))

  pub nothing-top : (stack : List (Entry Span)) → Holds area s e stack → e ≤ s → false ≡ top_is_nonterminal stack
  nothing-top [] h l = refl
  nothing-top (x ∷ stack) h l = absurd (omega (arith, h.stands.stop))

  nonterminal-ends : (stack : List (Entry Span)) → Holds area s e stack → top_is_nonterminal stack ≡ true → EndsBlock area e
  nonterminal-ends [] h b = absurd (false≢true b)
  nonterminal-ends (x ∷ stack) h b = slot-ends h

  below-nonterminal : (stack : List (Entry Span)) → Holds area s e stack → top_is_nonterminal stack ≡ true → start_slot area e ≡ s + stack_size (below_mark stack)
  below-nonterminal [] h b = absurd (false≢true b)
  below-nonterminal (terminal_on mark a v ∷ stack) h b = absurd (false≢true b)
  below-nonterminal (nonterminal_on k v ∷ stack) h b = slot-start h

  below-terminal : (stack : List (Entry Span)) → Holds area s e stack → top_is_nonterminal stack ≡ false → e ≡ s + stack_size (below_mark stack)
  below-terminal [] h b = omega (arith, h.stands.stop)
  below-terminal (terminal_on mark a v ∷ stack) h b = omega (arith, h.stands.stop)
  below-terminal (nonterminal_on k v ∷ stack) h b = absurd (true≢false b)

-- ---- the topmost mark

-- how many symbols go with the handle
count-nonterminal : (stack : List (Entry Span)) → top_is_nonterminal stack ≡ true → 1 + length (below_mark stack) ≡ length stack
count-nonterminal [] b = absurd (false≢true b)
count-nonterminal (terminal_on mark a v ∷ stack) b = absurd (false≢true b)
count-nonterminal (nonterminal_on k v ∷ stack) b = omega arith

count-terminal : (stack : List (Entry Span)) → top_is_nonterminal stack ≡ false → 0 + length (below_mark stack) ≡ length stack
count-terminal [] b = refl
count-terminal (terminal_on mark a v ∷ stack) b = omega arith
count-terminal (nonterminal_on k v ∷ stack) b = absurd (true≢false b)

-- what lies below it: the nonterminal just below goes with the handle
module _ {area : List ℕ} {s e : ℕ} {on : Bool} (n : NonterminalOnTop area s e on) where
  pub below-start : on ≡ true → BelowMark area s e (start_slot area e) 1
  below-start t = record {
    found = λ stack h. below-nonterminal stack h (sym (n.found stack h) ∙ t);
    counted = λ stack h. count-nonterminal stack (sym (n.found stack h) ∙ t);
  }

  pub below-here : on ≡ false → BelowMark area s e e 0
  below-here t = record {
    found = λ stack h. below-terminal stack h (sym (n.found stack h) ∙ t);
    counted = λ stack h. count-terminal stack (sym (n.found stack h) ∙ t);
  }

  pub below-ends : Stacked area s e → on ≡ true → EndsBlock area e
  below-ends k t = nonterminal-ends k.stack k.holds (sym (n.found k.stack k.holds) ∙ t)

-- the stack walked down to slot `at`, `count` symbols passed
pub record Counted (area : List ℕ) (s at count : ℕ) (stack : List (Entry Span)) : Type 0 where
  pub down : Down _ handle_below area s at stack
  pub counted : count + length down.left ≡ length stack

pub counted-begins : {area : List ℕ} {s at : ℕ} {stack : List (Entry Span)} → Holds area s at stack → Counted area s at 0 stack
counted-begins {stack = stack} h = record { down = record { left = stack; holds = h; same = refl }; counted = omega arith }

module _ {area : List ℕ} {s at count : ℕ} {stack : List (Entry Span)} (d : Counted area s at count stack) where
  -- no mark: the handle is all
  pub counted_none : at ≤ s → count + length (handle_below stack) ≡ length stack
  counted_none l = go d.down.left d.down.holds d.down.same d.counted
    where
      go : (left : List (Entry Span)) → Holds area s at left → handle_below stack ≡ handle_below left → count + length left ≡ length stack
          → count + length (handle_below stack) ≡ length stack
      go [] h e q = rw e q
      go (x ∷ left) h e q = absurd (omega (arith, h.stands.stop))

  module _ (l : s < at) where
    module _ (b : 0 < slot_word area (start_slot area at) 1) {r more : ℕ} (m : BelowMark area s (start_slot area at) r more) where
      pub mark-found : r ≡ s + stack_size (handle_below stack)
      mark-found = go d.down.left d.down.holds d.down.same
        where
          go : (left : List (Entry Span)) → Holds area s at left → handle_below stack ≡ handle_below left → r ≡ s + stack_size (handle_below stack)
          go [] h e = absurd (omega (arith, h.stands.stop))
          go (terminal_on true a v ∷ left) h e = rw e (m.found left (slot-under h))
          go (terminal_on false a v ∷ left) h e = absurd (omega (arith, slot-mark h))
          go (nonterminal_on k v ∷ left) h e = absurd (omega (arith, slot-mark h))

      pub mark-counted : count + 1 + more + length (handle_below stack) ≡ length stack
      mark-counted = go d.down.left d.down.holds d.down.same d.counted
        where
          go : (left : List (Entry Span)) → Holds area s at left → handle_below stack ≡ handle_below left → count + length left ≡ length stack
              → count + 1 + more + length (handle_below stack) ≡ length stack
          go [] h e q = absurd (omega (arith, h.stands.stop))
          go (terminal_on true a v ∷ left) h e q = rw e (omega (arith, q, m.counted left (slot-under h)))
          go (terminal_on false a v ∷ left) h e q = absurd (omega (arith, slot-mark h))
          go (nonterminal_on k v ∷ left) h e q = absurd (omega (arith, slot-mark h))

    pub mark-more : slot_word area (start_slot area at) 1 ≤ 0 → Counted area s (start_slot area at) (count + 1) stack
    mark-more b = go d.down.left d.down.holds d.down.same d.counted
      where
        go : (left : List (Entry Span)) → Holds area s at left → handle_below stack ≡ handle_below left → count + length left ≡ length stack
            → Counted area s (start_slot area at) (count + 1) stack
        go [] h e q = absurd (omega (arith, h.stands.stop))
        go (terminal_on true a v ∷ left) h e q = absurd (omega (arith, slot-mark h))
        go (terminal_on false a v ∷ left) h e q = record { down = record { left = left; holds = slot-under h; same = e }; counted = omega (arith, q) }
        go (nonterminal_on k v ∷ left) h e q = record { down = record { left = left; holds = slot-under h; same = e }; counted = omega (arith, q) }
