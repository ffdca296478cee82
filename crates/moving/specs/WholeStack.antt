-- The stack that is # and an axiom, told from its words: two blocks, the lower one #, the upper one an axiom.
-- Rests on ReadWords and StackWords.
--
-- Main statements: not-empty, not-one (each why a stack is none), end-and-axiom.
use Rattle.std.specs.Prelude.{ℕ, ◌+◌, ◌<◌, ◌≤◌, ◌≡◌, refl, Bool, true, false, ◌&&◌, List, [], ◌∷◌, eqb, ltb, leb}
use Rattle.std.proofs.Common.{sym, ◌∙◌, arith}
use Rattle.laws.specs.Tests.{ltb-true, lt-ltb, le-leb, lt-leb, ne_eqb, same_test}
use Rattle.language.specs.Trees.{Span}
use Rattle.machine.specs.Entries.{Entry, terminal_on, nonterminal_on}
use Rattle.machine.specs.Moves.{Table, is_whole}
use Rattle.layout.specs.Layout.{slot_word}
use Rattle.moving.specs.ReadWords.{Holds, start_slot}
use Rattle.moving.specs.StackWords.{slot-start, slot-symbol, slot-under}

-- where the block under the topmost one starts
abbrev under_top : List ℕ → ℕ → ℕ
under_top area e = start_slot area (start_slot area e)

-- one of the tests fails
second-fails : (a c d : Bool) → (((a && false) && c) && d) ≡ false
second-fails true c d = refl
second-fails false c d = refl

third-fails : (a d : Bool) → ((a && false) && d) ≡ false
third-fails true d = refl
third-fails false d = refl

-- only the second and the fourth say something
first-and : (b : Bool) {d x : Bool} → d ≡ x → ((b && true) && d) ≡ (b && x)
first-and true q = q
first-and false q = refl

module _ {area : List ℕ} {s e : ℕ} (table : Table Span) where
  pub not-empty : (stack : List (Entry Span)) → Holds area s e stack → e ≤ s → false ≡ is_whole table stack
  not-empty [] h l = refl
  not-empty (x ∷ stack) h l = absurd (omega (arith, h.stands.stop))

  module _ (l : s < e) where
    pub not-one : (stack : List (Entry Span)) → Holds area s e stack → start_slot area e ≤ s → false ≡ is_whole table stack
    not-one [] h b = refl
    not-one (terminal_on mark a v ∷ stack) h b = refl
    not-one (nonterminal_on k v ∷ []) h b = refl
    not-one (nonterminal_on k v ∷ y ∷ stack) h b = absurd (omega (arith, slot-start h))

    pub end-and-axiom : (stack : List (Entry Span)) → Holds area s e stack → s < start_slot area e → (axioms : ℕ) → ((k : ℕ) → table.is_axiom k ≡ ltb k axioms)
        → (((leb (under_top area e) s && eqb (slot_word area (under_top area e) 0) 0) && leb 256 (slot_word area (start_slot area e) 0))
        && ltb (slot_word area (start_slot area e) 0) (256 + axioms)) ≡ is_whole table stack
    end-and-axiom [] h two axioms ax = absurd (omega (arith, h.stands.stop))
    end-and-axiom (terminal_on mark a v ∷ stack) h two axioms ax =
        rw (lt-leb 256 (slot_word area (start_slot area e) 0) (omega (arith, h.told.0, slot-symbol h)))
        (third-fails (leb (under_top area e) s && eqb (slot_word area (under_top area e) 0) 0) (ltb (slot_word area (start_slot area e) 0) (256 + axioms)))
    end-and-axiom (nonterminal_on k v ∷ []) h two axioms ax = absurd (omega (arith, slot-start h))
    end-and-axiom (nonterminal_on k v ∷ nonterminal_on j w ∷ stack) h two axioms ax =
        rw (ne_eqb (slot_word area (under_top area e) 0) 0 (λ z. omega (arith, slot-symbol (slot-under h))))
        (second-fails (leb (under_top area e) s) (leb 256 (slot_word area (start_slot area e) 0)) (ltb (slot_word area (start_slot area e) 0) (256 + axioms)))
    end-and-axiom (nonterminal_on k v ∷ terminal_on mark a w ∷ []) h two axioms ax =
        rw (le-leb (under_top area e) s (omega (arith, slot-start (slot-under h))), slot-symbol (slot-under h), slot-symbol h, le-leb 256 (256 + k) (omega arith))
        (first-and (eqb a 0) (same_test (ltb (256 + k) (256 + axioms)) (ltb k axioms) (λ t. lt-ltb k axioms (omega (arith, ltb-true (256 + k) (256 + axioms) t)))
        (λ t. lt-ltb (256 + k) (256 + axioms) (omega (arith, ltb-true k axioms t))) ∙ sym (ax k)))
    end-and-axiom (nonterminal_on k v ∷ terminal_on mark a w ∷ y ∷ stack) h two axioms ax = rw (lt-leb (under_top area e) s (omega (arith, slot-start (slot-under h))))
