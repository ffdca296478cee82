-- What a move reads in the lent words, by the hand, while a run is underway: it can be read, and is what stands in the area with the hand's words put in (`whole`).
-- Rests on Settled and SameSlots.
--
-- Main statements: hand-taking; hand-next, hand-stack, hand-below, hand-match (what can be read); of-next, of_nonterminal, of-top, of_axiom, of-handle, of-rule (what was read).
use Rattle.std.specs.Prelude.{◌≡◌, Bool, List, ℕ, ◌+◌, ◌<◌, ◌≤◌, length}
use Rattle.std.specs.Prelude.{Option as Answered}
use Rattle.std.proofs.Common.{sym, ap, ◌∙◌, arith}
use Rattle.layout.specs.Layout.{slots_at, slot_word}
use Rattle.moving.specs.declared.Hand.{Hand}
use Rattle.moving.specs.AtHand.{AtHand}
use Rattle.moving.specs.MoveWords.{from_of, head_of, slot_at}
use Rattle.moving.specs.Searches.{found_of}
use Rattle.moving.specs.ReadWords.{Stacked, HasStack, TopIs, NonterminalOnTop, EndAndAxiom, HandleIs}
use Rattle.moving.specs.MatchWords.{handle_words, match_words, Whole}
use Rattle.moving.specs.SameSlots.{SameSlots, same_back, slot_same, stacked-same, top-same, nonterminal-same, axiom-same, handle-is-same, whole_same, handle-words-same}
use Rattle.moving.specs.Settled.{Holding, Settles, settles-slots}
use Rattle.moving.specs.Moved.{Takes, Taking}

module _ {area whole : List ℕ} {c : ℕ} {h : Hand} (k : Holding area c h) (t : Settles area c h whole) where
  abbrev a : AtHand whole c h
  a = t.hand

  abbrev same : SameSlots whole area
  same = settles-slots k t

  -- ---- what can be read

  pub hand-next : slot_at whole (head_of whole c) + 4 ≤ length whole → (h.base ≡ slots_at area) × (slot_at area h.head + 0 < length area)
  hand-next p = (k.base, omega (arith, p, same.chunks, same.long, a.head))

  pub hand-stack : HasStack whole c → (h.base ≡ slots_at area) × Stacked area h.from h.head
  hand-stack p = (k.base, stacked-same same (rw (← a.from, ← a.head) at p.stacked))

  pub hand-below : {from : ℕ} → Stacked whole (from_of whole c) from → Stacked area h.from from
  hand-below p = stacked-same same (rw (← a.from) at p)

  -- ---- what was read

  pub of-next : {b : ℕ} → b ≡ slot_word area h.head 0 → b ≡ slot_word whole (head_of whole c) 0
  of-next e = e ∙ sym (slot_same same h.head 0) ∙ ap (λ (s : ℕ). slot_word whole s 0) a.head

  pub of_nonterminal : {on : Bool} → NonterminalOnTop area h.from h.head on → NonterminalOnTop whole (from_of whole c) (head_of whole c) on
  of_nonterminal r = rw (a.from, a.head) at (nonterminal-same (same_back same) r)

  pub of-top : {top : Answered ℕ} → TopIs area h.from h.head top → TopIs whole (from_of whole c) (head_of whole c) top
  of-top r = rw (a.from, a.head) at (top-same (same_back same) r)

  pub of_axiom : {axioms : ℕ} {is : Bool} → EndAndAxiom area h.from h.head axioms is → EndAndAxiom whole (from_of whole c) (head_of whole c) axioms is
  of_axiom r = rw (a.from, a.head) at (axiom-same (same_back same) r)

  pub of-handle : {start count : ℕ} → HandleIs area h.from h.head start count → HandleIs whole (from_of whole c) (head_of whole c) start count
  of-handle r = rw (a.from, a.head) at (handle-is-same (same_back same) r)

  -- ---- the handle's words

  handle-words : (start : ℕ) → handle_words area start h.head ≡ handle_words whole start (head_of whole c)
  handle-words start = sym (handle-words-same same start h.head) ∙ ap (λ (e : ℕ). handle_words whole start e) a.head

  pub hand-match : (start count : ℕ) → Whole whole (head_of whole c) start → slot_at whole (head_of whole c) ≤ length whole → start < head_of whole c
      → count ≡ length (handle_words whole start (head_of whole c))
      → Whole area h.head start × (slot_at area h.head ≤ length area) × (start < h.head) × (count ≡ length (handle_words area start h.head))
  hand-match start count w room l e = (
    whole_same same (rw (← a.head) at w),
    omega (arith, room, same.chunks, same.long, a.head),
    omega (arith, l, a.head),
    e ∙ ap length (sym (handle-words start)),
  )

  pub of-rule : (words : List ℕ) (start : ℕ) {rule : Answered ℕ} → rule ≡ found_of (match_words words (handle_words area start h.head))
      → rule ≡ found_of (match_words words (handle_words whole start (head_of whole c)))
  of-rule words start e = e ∙ ap (λ (w : List ℕ). found_of (match_words words w)) (handle-words start)

  -- "Takes, a marked terminal on the stack"
  pub hand-taking : {words bytes : List ℕ} → Takes words bytes whole c → (h.marks ≡ 0 → ⊥) → Taking words bytes whole c
  hand-taking over n = record { takes_over = over; marked = omega (arith, n, a.marks) }
