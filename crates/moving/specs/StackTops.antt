-- The topmost terminal of a stack, as symbols are put on and replaced: where words below a slot stay as they are, so does what stands there, and one block
-- laid above it makes its symbol the topmost one.
-- Rests on ReadWords and StackWords.
--
-- Main statements: top_kept (nothing below the top changes), top-laid (a block more), below-stacked (what lies under a handle); at-hand.
use Rattle.std.specs.Prelude.{◌≡◌, List, [], ◌∷◌, ◌++◌, ℕ, ◌+◌, ◌-◌, ◌<◌, ◌≤◌, length, get_or, Some, None, IfSome}
use Rattle.std.specs.Prelude.{Option as Answered}
use Rattle.std.proofs.Common.{sym, ap, ◌∙◌, append_assoc, arith}
use Rattle.std.proofs.Math.Decide.{dec_lt}
use Rattle.laws.specs.Tests.{lt-ltb, le-ltb}
use Rattle.language.specs.Trees.{Span}
use Rattle.machine.specs.Entries.{Entry, terminal_on, nonterminal_on, top_terminal}
use Rattle.layout.specs.Layout.{stack_size, stack_words, slot_word}
use Rattle.moving.specs.MoveWords.{slot_at}
use Rattle.moving.specs.Searches.{found_of}
use Rattle.moving.specs.ReadWords.{Told, Holds, Stacked, last_word, start_slot, TopIs, top_word, terminal_of, top_after}
use Rattle.moving.specs.StackWords.{stands_alike, stacked, slot-symbol, slot-under}
use Rattle.moving.specs.HandleSlots.{stack-words}

module _ {area other : List ℕ} (long : length area ≡ length other) where
  holds_kept : {s e : ℕ} {stack : List (Entry Span)} → ((k : ℕ) → k < slot_at area e → get_or area k 0 ≡ get_or other k 0) → Holds area s e stack → Holds other s e stack
  holds_kept same h = record { stands = rw (same 1 (omega arith)) at (stands_alike {other = other} long (λ k p. same k) h.stands); told = h.told }

module _ {area other : List ℕ} (long : length area ≡ length other) {s : ℕ} where
  pub top_kept : {e : ℕ} {top : Answered ℕ} → ((k : ℕ) → k < slot_at area e → get_or area k 0 ≡ get_or other k 0) → TopIs area s e top → TopIs other s e top
  top_kept same t = record { found = λ stack h. t.found stack (holds_kept (sym long) (λ k l. sym (same k (omega (arith, same 1 (omega arith))))) h) }

  -- a block of a symbol of word b laid on the slots from `at` up to e; a word at hand that is at most 256 stays so
  pub top-laid : {at e b : ℕ} (top : ℕ) → ((k : ℕ) → k < slot_at area at → get_or area k 0 ≡ get_or other k 0) → s ≤ at → at < e → last_word other e ≡ e - at → slot_word other at 0 ≡ b
      → TopIs area s at (terminal_of top) → TopIs other s e (terminal_of (top_after b top)) × (top ≤ 256 → top_after b top ≤ 256)
  top-laid {at} {e} {b} top same low some last first t = (record { found = go }, fits (dec_lt b 256))
    where
      fits : Dec (b < 256) → top ≤ 256 → top_after b top ≤ 256
      fits (yes l) h = rw (lt-ltb b 256 l, top_after) (omega arith)
      fits (no l) h = rw (le-ltb b 256 (omega arith), top_after) h

      under : {x : Entry Span} {rest : List (Entry Span)} → Holds other s e (x ∷ rest) → Holds area s at rest
      under h =
          let start : start_slot other e ≡ at = omega (arith, last) in
          holds_kept (sym long) (λ k l. sym (same k (omega (arith, same 1 (omega arith))))) (rw start at (slot-under h))

      go : (stack : List (Entry Span)) → Holds other s e stack → terminal_of (top_after b top) ≡ found_of (top_terminal stack)
      go [] h = absurd (omega (arith, h.stands.stop))
      go (terminal_on mark a v ∷ rest) h =
          let start : start_slot other e ≡ at = omega (arith, last) in
          let word : b ≡ a = sym first ∙ (rw start at (slot-symbol h)) in
          let small : b < 256 = omega (arith, word, h.told.0) in
          let put : top_after b top ≡ b = rw (lt-ltb b 256 small, top_after) in
          let there : terminal_of b ≡ Some a = rw (lt-ltb b 256 small, terminal_of) (ap Some word) in
          ap terminal_of put ∙ there
      go (nonterminal_on k v ∷ rest) h =
          let start : start_slot other e ≡ at = omega (arith, last) in
          let word : b ≡ 256 + k = sym first ∙ (rw start at (slot-symbol h)) in
          rw (le-ltb b 256 (omega (arith, word)), top_after) (t.found rest (under h))

-- ---- what lies under a handle

told-lower : (upper below : List (Entry Span)) → Told (upper ++ below) → Told below
told-lower [] below t = t
told-lower (terminal_on mark a v ∷ upper) below t = told-lower upper below t.1
told-lower (nonterminal_on k v ∷ upper) below t = told-lower upper below t

pub below-stacked : {area : List ℕ} {s e : ℕ} (handle below : List (Entry Span)) → Holds area s e (handle ++ below) → Stacked area s (s + stack_size below)
below-stacked handle below h = stacked below (record {
  stands = record {
    below = h.stands.below;
    above = stack_words handle ++ h.stands.above;
    is = h.stands.is ∙ rw (stack-words handle below) (simp append_assoc);
    start = h.stands.start;
    stop = omega arith;
  };
  told = told-lower handle below h.told;
})

-- what is found is at hand by its word, which is at most 256
pub at-hand : {area : List ℕ} {s e word : ℕ} (top : Answered ℕ) → IfSome top (λ a. a < 256) → word ≡ top_word top → TopIs area s e top → TopIs area s e (terminal_of word) × (word ≤ 256)
at-hand None h w t = rw w (t, omega arith)
at-hand {word = word} (Some a) h w t =
    let there : terminal_of a ≡ Some a = rw (lt-ltb a 256 h, terminal_of) in
    let e : terminal_of word ≡ Some a = ap terminal_of w ∙ there in
    (rw e t, omega (arith, w, h))
