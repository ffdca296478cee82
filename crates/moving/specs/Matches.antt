-- The search on words is the machine's: the walk up a handle's blocks reads its symbols' words, and the least rule whose right-side
-- words are those is the least rule whose right side is the handle.
-- Document 01, "Moves of a chunk", 5: "If a rule has this right side, replace it by the left side of the least such rule".
-- Rests on MatchWords, ReadWords and StackWords, on language's Matching and words' Laid and Rules.
--
-- Main statements: readable, whole-stack, handle-words, handle-count, match-handle.
use Rattle.std.specs.Prelude.{◌≡◌, refl, true, List, [], ◌∷◌, ◌++◌, map, ℕ, ◌+◌, ◌*◌, ◌<◌, eqb, length}
use Rattle.std.proofs.Common.{sym, ap₂, ◌∙◌, arith}
use Rattle.std.proofs.Math.Path.{ap}
use Rattle.std.proofs.lemmas.Bool.{false≢true}
use Rattle.std.proofs.lemmas.List.{map-append, length-map}
use Rattle.std.proofs.Math.Option.{Option, some}
use Rattle.laws.specs.Tests.{and_both, both-and, eqb-true, eq-eqb, below-up_to}
use Rattle.laws.specs.Least.{Finds, nowhere, least, least-once, first_finds}
use Rattle.language.specs.Symbols.{Symbol, nonterminal, word_of, symbol_of}
use Rattle.language.specs.Grammar.{Spells, in_play}
use Rattle.language.specs.Words.{count_r, right_words, grammar_of}
use Rattle.language.proofs.WordsInRange.{rules-count, in-play}
use Rattle.language.specs.Matching.{matching}
use Rattle.language.proofs.Matching.{matching-finds}
use Rattle.language.specs.Trees.{Span}
use Rattle.words.specs.Laid
use Rattle.words.specs.Rules.{right_of, is_terminal, is_nonterminal, words_back}
use Rattle.machine.specs.Entries.{Entry, terminal_on, nonterminal_on, symbol, unmarked, stack_symbols}
use Rattle.results.specs.Bounded.{length-of-stack}
use Rattle.layout.specs.Layout.{size, stack_size, slot_word}
use Rattle.moving.specs.MoveWords.{slot_at, Stands}
use Rattle.moving.specs.ReadWords.{Told, Holds}
use Rattle.moving.specs.StackWords.{top-symbol, top-front, under, told_under}
use Rattle.moving.specs.MatchWords.{handle_words, same_words, has_right, match_words, Readable, Whole, no_block, a_block, handle-none, handle-cons, whole_le}

-- words that pass 1 and 2
pub readable : {words : List ℕ} → Laid.Laid words → Readable words
readable {words} l = record { some_rule = l.headed.some_rule; long = l.present; within = λ r h. omega (arith, l.least r h, Laid.within words l r h) }

-- ---- up the blocks of a stack

module _ {area : List ℕ} where
  -- one block more on top
  whole-more : {m s e : ℕ} → Whole area m s → 0 < slot_word area m 2 → m + slot_word area m 2 ≡ e → Whole area e s
  whole-more (no_block q) h k = rw q (a_block h (no_block k))
  whole-more (a_block b w) h k = a_block b (whole-more w h k)

  handle-more : {m s e : ℕ} → Whole area m s → 0 < slot_word area m 2 → m + slot_word area m 2 ≡ e
      → handle_words area s e ≡ handle_words area s m ++ (slot_word area m 0 ∷ [])
  handle-more {m = m} {e = e} (no_block q) h k =
      rw (q, handle-cons (a_block h (no_block k)) (omega arith), handle-none area (m + slot_word area m 2) e (omega arith), handle-none area m m (omega arith))
  handle-more {m = m} (a_block {s = s} b w) h k =
      handle-cons (a_block b (whole-more w h k)) (omega (arith, whole_le w))
      ∙ ap (λ (l : List ℕ). slot_word area s 0 ∷ l) (handle-more w h k)
      ∙ sym (ap (λ (l : List ℕ). l ++ (slot_word area m 0 ∷ [])) (handle-cons (a_block b w) (omega (arith, whole_le w))))

module _ (area : List ℕ) (s : ℕ) where
  module _ (e : ℕ) (x : Entry Span) (stack : List (Entry Span)) (h : Stands area (slot_at area s) (slot_at area e) (x ∷ stack)) where
    abbrev m : ℕ
    m = s + stack_size stack

    at_slot : slot_at area s + 4 * stack_size stack ≡ slot_at area m
    at_slot = omega arith

    lower : Stands area (slot_at area s) (slot_at area m) stack
    lower = rw at_slot at (under x stack h)

    front : slot_word area m 2 ≡ size (unmarked x)
    front = rw at_slot at (top-front x stack h)

    word : slot_word area m 0 ≡ word_of (symbol (unmarked x))
    word = rw at_slot at (top-symbol x stack h)

    some-slot : 0 < slot_word area m 2
    some-slot = omega (arith, front)

    ends : m + slot_word area m 2 ≡ e
    ends = omega (arith, front, h.stop)

  -- the slots of a stack are whole blocks
  pub whole-stack : (e : ℕ) (stack : List (Entry Span)) → Stands area (slot_at area s) (slot_at area e) stack → Whole area e s
  whole-stack e [] h = let q : s ≡ e = omega (arith, h.stop) in no_block q
  whole-stack e (x ∷ stack) h = whole-more (whole-stack (s + stack_size stack) stack (lower e x stack h)) (some-slot e x stack h) (ends e x stack h)

  -- whose words are those of its symbols
  pub handle-words : (e : ℕ) (stack : List (Entry Span)) → Stands area (slot_at area s) (slot_at area e) stack
      → handle_words area s e ≡ map word_of (map symbol (stack_symbols stack))
  handle-words e [] h = handle-none area s e (omega (arith, h.stop))
  handle-words e (x ∷ stack) h =
      let l = lower e x stack h in
      handle-more (whole-stack (s + stack_size stack) stack l) (some-slot e x stack h) (ends e x stack h)
      ∙ rw (
        handle-words (s + stack_size stack) stack l,
        word e x stack h,
        map-append symbol (stack_symbols stack) (unmarked x ∷ []),
        map-append word_of (map symbol (stack_symbols stack)) (symbol (unmarked x) ∷ []),
      )

  -- as many as it has symbols
  pub handle-count : (e : ℕ) (stack : List (Entry Span)) → Stands area (slot_at area s) (slot_at area e) stack → length (handle_words area s e) ≡ length stack
  handle-count e stack h =
      ap length (handle-words e stack h) ∙ length-map (map symbol (stack_symbols stack)) word_of ∙ length-map (stack_symbols stack) symbol ∙ length-of-stack stack

-- ---- words and symbols

symbol-back : (x : Entry Span) (stack : List (Entry Span)) → Told (x ∷ stack) → symbol_of (word_of (symbol (unmarked x))) ≡ symbol (unmarked x)
symbol-back (terminal_on mark a v) stack t = is_terminal a t.0
symbol-back (nonterminal_on k v) stack t = is_nonterminal (256 + k) (omega arith) ∙ ap nonterminal (omega arith)

symbols-back : (stack : List (Entry Span)) → Told stack
    → map symbol_of (map word_of (map symbol (stack_symbols stack))) ≡ map symbol (stack_symbols stack)
symbols-back [] t = refl
symbols-back (x ∷ stack) t =
    let string : List Symbol = map symbol (stack_symbols stack) in
    rw (
      map-append symbol (stack_symbols stack) (unmarked x ∷ []),
      map-append word_of string (symbol (unmarked x) ∷ []),
      map-append symbol_of (map word_of string) (word_of (symbol (unmarked x)) ∷ []),
      symbols-back stack (told_under x stack t),
      symbol-back x stack t,
    )

same-eq : (v w : List ℕ) → same_words v w ≡ true → v ≡ w
same-eq [] [] e = refl
same-eq [] (y ∷ w) e = absurd (false≢true e)
same-eq (x ∷ v) [] e = absurd (false≢true e)
same-eq (x ∷ v) (y ∷ w) e =
    let k = and_both (eqb x y) (same_words v w) e in
    ap₂ {C = List ℕ} (λ z u. z ∷ u) (eqb-true x y k.0) (same-eq v w k.1)

same_refl : (w : List ℕ) → same_words w w ≡ true
same_refl [] = refl
same_refl (x ∷ w) = both-and (eqb x x) (same_words w w) (eq-eqb x x refl) (same_refl w)

-- ---- the search

finds-same : {P : ℕ → Type 0} {o q : Option ℕ} → Finds P o → Finds P q → o ≡ q
finds-same (nowhere h) (nowhere k) = refl
finds-same (nowhere h) (least {v = v} l) = absurd (h v l.holds)
finds-same (least {v = v} l) (nowhere h) = absurd (h v l.holds)
finds-same (least l) (least k) = ap some (least-once l k)

module _ (words : List ℕ) (w : List Symbol) (back : map symbol_of (map word_of w) ≡ w) where
  spells-right : (r : ℕ) → r < count_r words → has_right words (map word_of w) r ≡ true → Spells (grammar_of words) r w
  unfolding in_play
  spells-right r h e = record {
    plays = below-up_to (length (grammar_of words).rules) r (omega (arith, rules-count words));
    spelling = right_of words r h ∙ ap (map symbol_of) (same-eq (right_words words r) (map word_of w) e) ∙ back;
  }

  right-spells : (r : ℕ) → Spells (grammar_of words) r w → (r < count_r words) × (has_right words (map word_of w) r ≡ true)
  right-spells r s =
      let h : r < count_r words = in-play words s in
      let e : right_words words r ≡ map word_of w = sym (words_back (right_words words r)) ∙ ap (map word_of) (sym (right_of words r h) ∙ s.spelling) in
      (h, rw e (same_refl (map word_of w)))

  match_is : match_words words (map word_of w) ≡ matching (grammar_of words) w
  unfolding match_words
  match_is =
      finds-same (first_finds (has_right words (map word_of w)) (count_r words) (λ r. Spells (grammar_of words) r w) spells-right right-spells)
      (matching-finds (grammar_of words) w)

-- the rule that the words give a handle on the slots from s up to e is the machine's
pub match-handle : (words area : List ℕ) (s e : ℕ) (handle : List (Entry Span)) → Holds area s e handle
    → match_words words (handle_words area s e) ≡ matching (grammar_of words) (map symbol (stack_symbols handle))
match-handle words area s e handle h =
    ap (match_words words) (handle-words area s e handle h.stands) ∙ match_is words (map symbol (stack_symbols handle)) (symbols-back handle h.told)
