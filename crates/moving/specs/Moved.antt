-- One move as code finds it out: after each test of the words, what is known; and where the tests end, that the words left are those
-- of a rule.
-- Document 01, "Moves of a chunk", rules 1 to 6; "next symbol b and topmost stack terminal a".
-- Rests on OneMove, on words' Laid and matrix's WordsOfShape.
--
-- Main definitions: status_of (why a chunk is stuck), Moved (the words that a move leaves), uncounted (before it is counted), CallsFor (the move that leaves them, and can be made); Facing, Compared, Takes,
-- Taking (what is known on the way to it), HasLeft; live_in, rests_in.
-- Main statements: stuck-on-top, put-on-top, put_first, stuck-blank, put_marked, put_equal, ended, accepted, stuck-end,
-- put-unmarked, handle-there, handle-counts, replaced, stuck-rule; matrix-long, words-readable, has_left.
use Rattle.std.specs.Prelude.{◌≡◌, refl, Bool, true, false, ◌&&◌, List, map, ℕ, zero, suc, ◌+◌, ◌*◌, ◌/◌, ◌%◌, ◌<◌, ◌≤◌, eqb, ltb, leb, length, get_or, set, Some, None}
use Rattle.std.proofs.Common.{sym, ap, subst, ◌∙◌, arith}
use Rattle.std.proofs.Math.Option.{some}
use Rattle.laws.specs.Least.{finds-none}
use Rattle.laws.specs.Tests.{lt-ltb, ne_eqb, eq-eqb, le-leb, lt-leb, leb-true, all, up_to}
use Rattle.laws.specs.Passed.{both}
use Rattle.language.specs.Symbols.{Relation, blank, yields, equal, takes}
use Rattle.language.specs.Grammar.{Rule, left_side}
use Rattle.language.specs.Words.{word, count_t, count_a, count_r, entry, grammar_of}
use Rattle.language.proofs.WordsInRange.{rule-at, in-play, few-nonterminals}
use Rattle.language.specs.Matching.{matching}
use Rattle.language.proofs.Matching.{spelled_by}
use Rattle.language.proofs.CheckHead.{head-finds}
use Rattle.language.proofs.CheckContents.{contents-finds}
use Rattle.words.specs.Laid
use Rattle.machine.specs.Entries.{symbol, stack_symbols, top_terminal}
use Rattle.machine.specs.Moves.{is_whole}
use Rattle.machine.specs.TableOf.{relation_from, relation_at, table_of}
use Rattle.layout.specs.Layout.{stack_size, table_at, row_word, slot_word}
use Rattle.matrix.specs.GrammarShape.{byte_fits}
use Rattle.matrix.specs.WordsOfShape.{PassThree, rule-a-exactly, left-sides-fit}
use Rattle.matrix.specs.EndMarkOfShape.{grammar-in-shape}
use Rattle.moving.specs.declared.Move.{Move}
use Rattle.moving.specs.declared.Move.TheVariants.{Push, Stick, Accept, Reduce}
use Rattle.moving.specs.declared.Stuck.{Stuck}
use Rattle.moving.specs.declared.Stuck.TheVariants.{NoRelation, NoRule, NotAxiom, SideBySide}
use Rattle.moving.specs.MoveWords.{from_of, head_of, end_of, marks_of, tick_words, mark_of, put_words, push_words, stick_words}
use Rattle.moving.specs.MoveWords.{ended_words, accept_words, made_words, reduce_words, Pushable, Stickable, Acceptable, Reducible}
use Rattle.moving.specs.Searches.{found_of, found-some, found-none}
use Rattle.moving.specs.ReadWords.{Stacked, TopIs, NonterminalOnTop, EndAndAxiom, HandleStarts, HandleIs}
use Rattle.moving.specs.MatchWords.{handle_words, match_words, Readable, Whole}
use Rattle.moving.specs.Matches.{readable}
use Rattle.moving.specs.HandleSlots.{SomeHandle, marks-some}
use Rattle.moving.specs.MoveLaw.{Leaves, rule_1_stuck, rule_1, rule_2, rule_3, rule_4_yields, rule_4_equal, rule_4_last, rule_4_stuck, rule_5, rule_5_stuck, rule_6}
use Rattle.moving.specs.OneMove.{Held, Movable, stack_of, stack-held, marks-held, top_small, next_small, can-reduce, below-held, can-match, starts-held, count_held, rule-held}

-- ---- a chunk's number, and whether it is at rest, off its row of the table

abbrev pub live_by : Bool → ℕ → Bool
live_by true status = false
live_by false status = ltb 0 status

abbrev pub live_in : List ℕ → ℕ → Bool
live_in area c = live_by (leb (get_or area 1 0) c) (row_word area c 0)

abbrev pub rests_by : Bool → ℕ → ℕ → Bool
rests_by false end head = true
rests_by true end head = leb end head

abbrev pub rests_in : List ℕ → ℕ → Bool
rests_in area c = rests_by (eqb (row_word area c 0) 1) (end_of area c) (head_of area c)

module _ (area : List ℕ) (c : ℕ) where
  pub live-past : get_or area 1 0 ≤ c → false ≡ live_in area c
  live-past h = sym (ap (λ (t : Bool). live_by t (row_word area c 0)) (le-leb (get_or area 1 0) c h))

  pub live-status : c < get_or area 1 0 → ltb 0 (row_word area c 0) ≡ live_in area c
  live-status h = sym (ap (λ (t : Bool). live_by t (row_word area c 0)) (lt-leb (get_or area 1 0) c h))

  pub rests_stuck : (row_word area c 0 ≡ 1 → ⊥) → true ≡ rests_in area c
  rests_stuck h = sym (ap (λ (t : Bool). rests_by t (end_of area c) (head_of area c)) (ne_eqb (row_word area c 0) 1 h))

  pub rests-ended : row_word area c 0 ≡ 1 → leb (end_of area c) (head_of area c) ≡ rests_in area c
  rests-ended h = sym (ap (λ (t : Bool). rests_by t (end_of area c) (head_of area c)) (eq-eqb (row_word area c 0) 1 h))

-- ---- what words in shape give

-- the left side of rule r can be read
pub record HasLeft (words : List ℕ) (r : ℕ) : Type 0 where
  pub listed : 4 + r < length words
  pub there : entry words r < length words
  pub small : word words (entry words r) < 64

module _ {words bytes area : List ℕ} (h : Held words bytes area) where
  passed : PassThree words
  passed = (rule-a-exactly words).0 (grammar-in-shape words bytes h.grammar).0

  pub words-laid : Laid.Laid words
  words-laid = Laid.laid words (Laid.headed words ((finds-none (head-finds words)).1 passed.head)) ((finds-none (contents-finds words)).1 passed.contents)

  pub words-readable : Readable words
  words-readable = readable words-laid

  pub matrix-long : 4096 ≤ length bytes
  matrix-long =
      leb-true 4096 (length bytes)
      (both (leb 4096 (length bytes)) (all (λ v. byte_fits (count_t words) (v / 64) (v % 64) (get_or bytes v 0)) (up_to 4096)) (grammar-in-shape words bytes h.grammar).1).passes

-- ---- the words that a move leaves

pub record Moved (words bytes area : List ℕ) (c : ℕ) (area' : List ℕ) : Type 0 where
  pub found : (m : Movable words bytes area c) → Leaves words bytes area c (stack_of m) (slot_word area (head_of area c) 0) area'

-- the status of a chunk that is stuck so: the number of the refusal of that name
abbrev pub status_of : Stuck → ℕ
status_of NoRelation = 17
status_of NoRule = 18
status_of NotAxiom = 19
status_of SideBySide = 20

-- the words that each move leaves, and what it asks
abbrev pub words_after : List ℕ → ℕ → Move → List ℕ
words_after area c (Push marked) = push_words area c (mark_of marked)
words_after area c (Stick why) = stick_words area c (status_of why)
words_after area c Accept = accept_words area c
words_after area c (Reduce from symbol rule) = reduce_words area c from symbol rule

-- .. the move not counted
abbrev pub uncounted : List ℕ → ℕ → Move → List ℕ
uncounted area c (Push marked) = put_words area c (mark_of marked)
uncounted area c (Stick why) = set area (table_at c 0) (status_of why)
uncounted area c Accept = ended_words area c
uncounted area c (Reduce from symbol rule) = made_words area c from symbol rule

pub counted : (area : List ℕ) (c : ℕ) (move : Move) → tick_words (uncounted area c move) ≡ words_after area c move
unfolding push_words stick_words accept_words reduce_words
counted area c (Push marked) = refl
counted area c (Stick why) = refl
counted area c Accept = refl
counted area c (Reduce from symbol rule) = refl

abbrev pub Possible : List ℕ → ℕ → Move → Type 0
Possible area c (Push marked) = Pushable area c (mark_of marked)
Possible area c (Stick why) = Stickable area c
Possible area c Accept = Acceptable area c
Possible area c (Reduce from symbol rule) = Reducible area c from × Stacked area (from_of area c) from × (256 ≤ symbol)

-- the move that the words call for
pub record CallsFor (words bytes area : List ℕ) (c : ℕ) (move : Move) : Type 0 where
  pub possible : Possible area c move
  pub leaves : Moved words bytes area c (words_after area c move)

-- "next symbol b and topmost stack terminal a"
pub record Facing (words bytes area : List ℕ) (c a b : ℕ) : Type 0 where
  pub movable : Movable words bytes area c
  pub next : b ≡ slot_word area (head_of area c) 0
  pub terminal : b < 256
  pub top : TopIs area (from_of area c) (head_of area c) (Some a)

-- .. and x is the byte of a over b
pub record Compared (words bytes area : List ℕ) (c a b x : ℕ) : Type 0 where
  pub facing : Facing words bytes area c a b
  pub byte : get_or bytes (64 * a + b) 0 ≡ x

pub compared : {words bytes area : List ℕ} {c a b x : ℕ} → Facing words bytes area c a b → get_or bytes (64 * a + b) 0 ≡ x → Compared words bytes area c a b x
compared f e = record { facing = f; byte = e }

-- "Takes"
pub record Takes (words bytes area : List ℕ) (c : ℕ) : Type 0 where
  pub a : ℕ
  pub b : ℕ
  pub compared : Compared words bytes area c a b 3

-- "Takes, a marked terminal on the stack"
pub record Taking (words bytes area : List ℕ) (c : ℕ) : Type 0 where
  pub takes_over : Takes words bytes area c
  pub marked : 0 < marks_of area c

-- not "# over #"
not-both-end : (a b : ℕ) → (a ≡ 0 → b ≡ 0 → ⊥) → (eqb a 0 && eqb b 0) ≡ false
not-both-end zero b n = ne_eqb b 0 (n refl)
not-both-end (suc a) b n = rw (ne_eqb (suc a) 0 (omega arith))

pub blank-other : (x : ℕ) → (x ≡ 1 → ⊥) → (x ≡ 2 → ⊥) → (x ≡ 3 → ⊥) → relation_from x ≡ blank
blank-other zero p q r = refl
blank-other (suc zero) p q r = absurd (p refl)
blank-other (suc (suc zero)) p q r = absurd (q refl)
blank-other (suc (suc (suc zero))) p q r = absurd (r refl)
blank-other (suc (suc (suc (suc x)))) p q r = refl

module _ {words bytes area : List ℕ} {c : ℕ} where
  -- 1
  pub stuck-on-top : 256 ≤ slot_word area (head_of area c) 0 → NonterminalOnTop area (from_of area c) (head_of area c) true → Moved words bytes area c (stick_words area c 20)
  stuck-on-top h t = record { found = λ m. rule_1_stuck h (sym (t.found (stack_of m) (stack-held m))) }

  pub put-on-top : 256 ≤ slot_word area (head_of area c) 0 → NonterminalOnTop area (from_of area c) (head_of area c) false → Moved words bytes area c (push_words area c 0)
  put-on-top h t = record { found = λ m. rule_1 h (sym (t.found (stack_of m) (stack-held m))) }

  -- 2
  pub put_first : slot_word area (head_of area c) 0 < 256 → TopIs area (from_of area c) (head_of area c) None → Moved words bytes area c (push_words area c 0)
  put_first h t = record { found = λ m. rule_2 h (found-none (top_terminal (stack_of m)) (t.found (stack_of m) (stack-held m))) }

  module _ {a b : ℕ} (f : Facing words bytes area c a b) where
    over : (m : Movable words bytes area c) → top_terminal (stack_of m) ≡ some a
    over m = found-some a (top_terminal (stack_of m)) (f.top.found (stack_of m) (stack-held m))

    -- a and b fit the matrix
    pub top-fits : a < 64
    top-fits = top_small f.movable a (over f.movable)

    pub next_fits : b < 64
    next_fits = rw f.next (next_small f.movable (rw f.next at f.terminal))

    relation-is : (r : Relation) → relation_from (get_or bytes (64 * a + b) 0) ≡ r → relation_at bytes a b ≡ r
    relation-is r e = rw (lt-ltb a 64 top-fits, lt-ltb b 64 next_fits, relation_at) e

    -- said of b
    of-next : {area' : List ℕ} → ((m : Movable words bytes area c) → Leaves words bytes area c (stack_of m) b area') → Moved words bytes area c area'
    of-next {area'} l = record { found = λ m. subst (λ x. Leaves words bytes area c (stack_of m) x area') f.next (l m) }

    -- 3
    pub stuck-blank : relation_from (get_or bytes (64 * a + b) 0) ≡ blank → Moved words bytes area c (stick_words area c 17)
    stuck-blank e = of-next (λ m. rule_3 {a = a} f.terminal (over m) (relation-is blank e))

    -- 4
    pub put_marked : get_or bytes (64 * a + b) 0 ≡ 1 → Moved words bytes area c (push_words area c 1)
    put_marked e = of-next (λ m. rule_4_yields {a = a} f.terminal (over m) (relation-is yields (ap relation_from e)))

    pub put_equal : get_or bytes (64 * a + b) 0 ≡ 2 → (a ≡ 0 → b ≡ 0 → ⊥) → Moved words bytes area c (push_words area c 0)
    put_equal e n = of-next (λ m. rule_4_equal {a = a} f.terminal (over m) (relation-is equal (ap relation_from e)) (not-both-end a b n))

  pub ended : {a b : ℕ} → Compared words bytes area c a b 2 → a ≡ 0 → b ≡ 0 → Compared words bytes area c 0 0 2
  ended {a} {b} k p q = subst (λ (x : ℕ). Compared words bytes area c x 0 2) p (subst (λ (y : ℕ). Compared words bytes area c a y 2) q k)

  whole_is : {whole : Bool} → EndAndAxiom area (from_of area c) (head_of area c) (count_a words) whole → (m : Movable words bytes area c)
      → is_whole (table_of words bytes) (stack_of m) ≡ whole
  whole_is w m = sym (w.found (stack_of m) (stack-held m) (table_of words bytes) (λ k. refl))

  pub accepted : Compared words bytes area c 0 0 2 → EndAndAxiom area (from_of area c) (head_of area c) (count_a words) true → Moved words bytes area c (accept_words area c)
  accepted k w =
      let f = k.facing in
      of-next f (λ m. rule_4_last {a = 0} f.terminal (over f m) (relation-is f equal (ap relation_from k.byte)) refl (whole_is w m))

  pub stuck-end : Compared words bytes area c 0 0 2 → EndAndAxiom area (from_of area c) (head_of area c) (count_a words) false → Moved words bytes area c (stick_words area c 19)
  stuck-end k w =
      let f = k.facing in
      of-next f (λ m. rule_4_stuck {a = 0} f.terminal (over f m) (relation-is f equal (ap relation_from k.byte)) refl (whole_is w m))

  -- 6
  pub put-unmarked : Takes words bytes area c → marks_of area c ≡ 0 → Moved words bytes area c (push_words area c 0)
  put-unmarked t z =
      let f = t.compared.facing in
      of-next f (λ m. rule_6 {a = t.a} f.terminal (over f m) (relation-is f takes (ap relation_from t.compared.byte)) (sym (marks-held m) ∙ z))

  -- 5
  module _ (t : Taking words bytes area c) where
    abbrev fact : Facing words bytes area c t.takes_over.a t.takes_over.b
    fact = t.takes_over.compared.facing

    pub the-handle : (m : Movable words bytes area c) → SomeHandle (stack_of m)
    the-handle m = marks-some (stack_of m) (omega (arith, marks-held m, t.marked))

    is-taken : relation_at bytes t.takes_over.a t.takes_over.b ≡ takes
    is-taken = relation-is fact takes (ap relation_from t.takes_over.compared.byte)

    module _ (at : ℕ) (start : HandleStarts area (from_of area c) (head_of area c) at) where
      pub starts-at : (m : Movable words bytes area c) → at ≡ from_of area c + stack_size (the-handle m).below
      starts-at m = starts-held m (the-handle m).above at start

      the-rule : (m : Movable words bytes area c)
          → match_words words (handle_words area at (head_of area c)) ≡ matching (grammar_of words) (map symbol (stack_symbols (the-handle m).handle))
      the-rule m = ap (λ (i : ℕ). match_words words (handle_words area i (head_of area c))) (starts-at m) ∙ rule-held m (the-handle m).above

      -- there the handle begins, and its words can be read
      pub starts-below : at < head_of area c
      starts-below = let m = fact.movable in omega (arith, starts-at m, (can-reduce m (the-handle m).above).some)

      pub handle-there : Whole area (head_of area c) at
      handle-there = let m = fact.movable in subst (λ (i : ℕ). Whole area (head_of area c) i) (sym (starts-at m)) (can-match m (the-handle m).above)

      -- and this is how many
      pub handle-counts : (count : ℕ) → HandleIs area (from_of area c) (head_of area c) at count → count ≡ length (handle_words area at (head_of area c))
      handle-counts count k =
          let m = fact.movable in
          count_held m (the-handle m).above at count k ∙ ap (λ (i : ℕ). length (handle_words area i (head_of area c))) (sym (starts-at m))

      pub stuck-rule : None ≡ found_of (match_words words (handle_words area at (head_of area c))) → Moved words bytes area c (stick_words area c 18)
      stuck-rule e =
          of-next fact (λ m. rule_5_stuck {a = t.takes_over.a} fact.terminal (over fact m) is-taken (the-handle m).above (sym (the-rule m) ∙ found-none _ e))

      module _ (r : ℕ) (e : Some r ≡ found_of (match_words words (handle_words area at (head_of area c)))) where
        matches : (m : Movable words bytes area c) → matching (grammar_of words) (map symbol (stack_symbols (the-handle m).handle)) ≡ some r
        matches m = sym (the-rule m) ∙ found-some r _ e

        in-grammar : (m : Movable words bytes area c) → r < count_r words
        in-grammar m = in-play words (spelled_by _ (matches m))

        left_is : (m : Movable words bytes area c) → left_side (grammar_of words) r ≡ word words (entry words r)
        left_is m = ap (λ (rule : Rule). rule.left) (rule-at words r (in-grammar m))

        pub has_left : HasLeft words r
        has_left =
            let m = fact.movable in
            let h = m.held in
            let l = words-laid h in
            record {
              listed = omega (arith, in-grammar m, l.present);
              there = omega (arith, l.least r (in-grammar m), Laid.within words l r (in-grammar m));
              small = omega (arith, left_is m, left-sides-fit words (grammar-in-shape words bytes h.grammar).0 _ (matches m), (few-nonterminals words (passed h).head).1);
            }

        pub replaced : Moved words bytes area c (reduce_words area c at (256 + word words (entry words r)) r)
        replaced = of-next fact (λ m.
            rw (starts-at m, sym (left_is m)) (rule_5 {a = t.takes_over.a} {r = r} fact.terminal (over fact m) is-taken (the-handle m).above (matches m)))

        pub reduces : CallsFor words bytes area c (Reduce at (256 + word words (entry words r)) r)
        reduces =
            let m = fact.movable in
            let above = (the-handle m).above in
            record {
              possible = subst (λ (i : ℕ). Reducible area c i × Stacked area (from_of area c) i × (256 ≤ 256 + word words (entry words r))) (sym (starts-at m))
                  (can-reduce m above, below-held m above, omega arith);
              leaves = replaced;
            }
