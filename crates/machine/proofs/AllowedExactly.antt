-- What is proved of specs' AllowedExactly. *Allowed exactly*: a step, and a join, is accepted and leaves s' exactly when document 01's sentences lead
-- from s to s'; for all states, and so for those that no start reaches.
--
-- Main statements: turn-exactly (one chunk), step-exactly, join-exactly. Views for other proofs: turn-view (what a chunk's turn
-- does, by its rule), live_view, next-view.
use Rattle.std.proofs.Math.Path.{◌≡◌}
use Rattle.std.specs.Prelude.{refl, Bool, true, false, ◌&&◌, ◌↔◌, eqb, length, get_or, set, take, drop}
use Rattle.std.proofs.Common.{sym, ap, ◌∙◌, true≢false, arith, take_at, eqb-true, eq-eqb}
use Rattle.std.proofs.lemmas.Bool.{false≢true}
use mathlib.Core.List.{List, [], ◌∷◌, ◌++◌, append_assoc, append-nil, map, map-append}
use Rattle.std.proofs.Math.Option.{Option, none, some}
use Prim.Native.Nat.{ℕ, zero, suc, ◌+◌}
use Rattle.std.proofs.lemmas.List.{get_or_at, set_at}
use Rattle.laws.specs.Tests.{false-unless}
use Rattle.language.specs.Symbols.{Symbol, takes}
use Rattle.language.specs.Trees.{Reduction}
use Rattle.refusals.specs.declared.Refusal.TheVariants.{NoChunk, NoJoin}
use Rattle.machine.specs.Entries.{Unread, terminal_at, nonterminal_at, Entry, terminal_on, nonterminal_on, symbol, value_of}
use Rattle.machine.specs.Entries.{stack_symbols, top_terminal, top_is_nonterminal, Handle, handle_of}
use Rattle.machine.specs.Moves.{Table, no_rule, Action, is_whole, Moved, by_rule_1_stuck, by_rule_1, by_rule_2, by_rule_3, by_rule_4_yields}
use Rattle.machine.specs.Moves.{by_rule_4_equal, by_rule_4_last, by_rule_4_stuck, by_rule_5, by_rule_5_stuck, by_rule_6}
use Rattle.machine.proofs.Moves.{moved}
use Rattle.machine.specs.Chunks.{Status, running, stuck, Chunk, Turn, rests, makes, rests_so, at_rest, done, turn, joined}
use Rattle.machine.specs.States.{State, Called, refused, became, Next, step_by, step, next_live, under, join_with, join}
use Rattle.machine.specs.Allowed.{TopmostTerminal, on_top, under_nonterminal, NoTerminal, no_symbol, a_nonterminal, TopNonterminal, top_nonterminal, NoMark, empty_stack}
use Rattle.machine.specs.Allowed.{over_unmarked, over_nonterminal, HandleAbove, from_nonterminal, from_mark, up_to_unmarked, up_to_nonterminal, Spelled, spelled_nothing}
use Rattle.machine.specs.Allowed.{spelled_terminal, spelled_nonterminal, SymbolsOf, of_nothing, of_terminal, of_nonterminal, runs, is_stuck, IsAtRest, being_stuck}
use Rattle.machine.specs.Allowed.{nothing_to_read, EndAndAxiom, end-and-axiom, ChunkMoves, rule_1_stuck, rule_1, rule_2, rule_3, rule_4_yields, rule_4_equal, rule_4_last}
use Rattle.machine.specs.Allowed.{rule_4_stuck, rule_5, rule_5_stuck, rule_6, Joins, AllGone, no_number, one_gone, Live, NextLive, Steps, JoinsAt}
use Rattle.machine.specs.AllowedExactly.{HandleView, JoinView, LiveView, NextView, StepView, TurnView, a_handle, is-live, is_next, joins_so, left_moves, makes_so}
use Rattle.machine.specs.AllowedExactly.{no_handle, no_left, no_next, no_right, no_such_chunk, not_live, numbers_left, rests-so, right_moves, steps_so, was_at_rest}

-- Each predicate on a stack is what the machine's function computes.

module _ {Value : Type 0} where
  pub topmost-to : {stack : List (Entry Value)} {a : ℕ} → TopmostTerminal stack a → top_terminal stack ≡ some a
  topmost-to on_top = refl
  topmost-to (under_nonterminal t) = topmost-to t

  pub topmost-from : (stack : List (Entry Value)) {a : ℕ} → top_terminal stack ≡ some a → TopmostTerminal stack a
  topmost-from [] q = let z : ◌≡◌ {A = ℕ} 0 1 = cc in absurd (omega arith)
  topmost-from (terminal_on mark b v ∷ stack) {a} q = let z : b ≡ a = cc in rw z on_top
  topmost-from (nonterminal_on k v ∷ stack) q = under_nonterminal (topmost-from stack q)

  no-terminal-to : {stack : List (Entry Value)} → NoTerminal stack → top_terminal stack ≡ none
  no-terminal-to no_symbol = refl
  no-terminal-to (a_nonterminal t) = no-terminal-to t

  no-terminal-from : (stack : List (Entry Value)) → top_terminal stack ≡ none → NoTerminal stack
  no-terminal-from [] q = no_symbol
  no-terminal-from (terminal_on mark b v ∷ stack) q = let z : ◌≡◌ {A = ℕ} 0 1 = cc in absurd (omega arith)
  no-terminal-from (nonterminal_on k v ∷ stack) q = a_nonterminal (no-terminal-from stack q)

  pub top-nonterminal-to : {stack : List (Entry Value)} → TopNonterminal stack → top_is_nonterminal stack ≡ true
  top-nonterminal-to top_nonterminal = refl

  pub top-nonterminal-from : (stack : List (Entry Value)) → top_is_nonterminal stack ≡ true → TopNonterminal stack
  top-nonterminal-from [] q = absurd (false≢true q)
  top-nonterminal-from (terminal_on mark b v ∷ stack) q = absurd (false≢true q)
  top-nonterminal-from (nonterminal_on k v ∷ stack) q = top_nonterminal

  no-mark-to : {stack : List (Entry Value)} → NoMark stack → (above : List (Unread Value)) → handle_of stack above ≡ none
  no-mark-to empty_stack above = refl
  no-mark-to (over_unmarked {a = a} {v = v} n) above = no-mark-to n (terminal_at a v ∷ above)
  no-mark-to (over_nonterminal {k = k} {v = v} n) above = no-mark-to n (nonterminal_at k v ∷ above)

  mark-to : (a : ℕ) (v : Value) (below : List (Entry Value)) → (TopNonterminal below → ⊥) → (above : List (Unread Value))
      → handle_of (terminal_on true a v ∷ below) above ≡ some (record { symbols = terminal_at a v ∷ above; below = below })
  mark-to a v [] h above = refl
  mark-to a v (terminal_on mark b w ∷ below) h above = refl
  mark-to a v (nonterminal_on k w ∷ below) h above = absurd (h top_nonterminal)

  pub handle-to : {stack handle below : List (Entry Value)} → HandleAbove stack handle below → (above : List (Unread Value))
      → handle_of stack above ≡ some (record { symbols = stack_symbols handle ++ above; below = below })
  handle-to from_nonterminal above = refl
  handle-to (from_mark {a = a} {v = v} {below = below} h) above = mark-to a v below h above
  handle-to (up_to_unmarked {a = a} {v = v} h) above = rw append_assoc (handle-to h (terminal_at a v ∷ above))
  handle-to (up_to_nonterminal {k = k} {v = v} h) above = rw append_assoc (handle-to h (nonterminal_at k v ∷ above))

  -- a handle is the top part of its stack
  pub handle-symbols : {stack handle below : List (Entry Value)} → HandleAbove stack handle below → stack_symbols stack ≡ stack_symbols below ++ stack_symbols handle
  handle-symbols from_nonterminal = simp append_assoc
  handle-symbols (from_mark h) = refl
  handle-symbols (up_to_unmarked a) = rw (handle-symbols a) (simp append_assoc)
  handle-symbols (up_to_nonterminal a) = rw (handle-symbols a) (simp append_assoc)

  pub handle-view : (stack : List (Entry Value)) (above : List (Unread Value)) → HandleView stack above (handle_of stack above)
  handle-view [] above = no_handle empty_stack
  handle-view (nonterminal_on k v ∷ stack) above = go (handle-view stack (nonterminal_at k v ∷ above))
    where
      go : {h : Option (Handle Value)} → HandleView stack (nonterminal_at k v ∷ above) h → HandleView (nonterminal_on k v ∷ stack) above h
      go (no_handle n) = no_handle (over_nonterminal n)
      go (a_handle {handle = handle} h q) = a_handle (up_to_nonterminal h) (append_assoc (stack_symbols handle) (nonterminal_at k v ∷ []) above ∙ q)
  handle-view (terminal_on false a v ∷ stack) above = go (handle-view stack (terminal_at a v ∷ above))
    where
      go : {h : Option (Handle Value)} → HandleView stack (terminal_at a v ∷ above) h → HandleView (terminal_on false a v ∷ stack) above h
      go (no_handle n) = no_handle (over_unmarked n)
      go (a_handle {handle = handle} h q) = a_handle (up_to_unmarked h) (append_assoc (stack_symbols handle) (terminal_at a v ∷ []) above ∙ q)
  handle-view (terminal_on true a v ∷ []) above = a_handle (from_mark (λ t. false≢true (top-nonterminal-to t))) refl
  handle-view (terminal_on true a v ∷ nonterminal_on k w ∷ stack) above = a_handle from_nonterminal refl
  handle-view (terminal_on true a v ∷ terminal_on mark b w ∷ stack) above = a_handle (from_mark (λ t. false≢true (top-nonterminal-to t))) refl

  spelled-to : {handle : List (Entry Value)} {string : List Symbol} {values : List Value} → Spelled handle string values
      → (map symbol (stack_symbols handle) ≡ string) × (map value_of (stack_symbols handle) ≡ values)
  spelled-to spelled_nothing = (refl, refl)
  spelled-to (spelled_terminal s) = (simp map-append (rw (spelled-to s).0), simp map-append (rw (spelled-to s).1))
  spelled-to (spelled_nonterminal s) = (simp map-append (rw (spelled-to s).0), simp map-append (rw (spelled-to s).1))

  spelled-of : (handle : List (Entry Value)) → Spelled handle (map symbol (stack_symbols handle)) (map value_of (stack_symbols handle))
  spelled-of [] = spelled_nothing
  spelled-of (terminal_on mark a v ∷ handle) = simp map-append (spelled_terminal (spelled-of handle))
  spelled-of (nonterminal_on k v ∷ handle) = simp map-append (spelled_nonterminal (spelled-of handle))

  pub symbols-to : {stack : List (Entry Value)} {symbols : List (Unread Value)} → SymbolsOf stack symbols → stack_symbols stack ≡ symbols
  symbols-to of_nothing = refl
  symbols-to (of_terminal s) = rw (symbols-to s)
  symbols-to (of_nonterminal s) = rw (symbols-to s)

  pub symbols_of : (stack : List (Entry Value)) → SymbolsOf stack (stack_symbols stack)
  symbols_of [] = of_nothing
  symbols_of (terminal_on mark a v ∷ stack) = of_terminal (symbols_of stack)
  symbols_of (nonterminal_on k v ∷ stack) = of_nonterminal (symbols_of stack)

  pub rests-to : {c : Chunk Value} → IsAtRest c → at_rest c ≡ true
  rests-to being_stuck = refl
  rests-to (nothing_to_read {status = running}) = refl
  rests-to (nothing_to_read {status = stuck why}) = refl

  pub rests-from : (c : Chunk Value) → at_rest c ≡ true → IsAtRest c
  rests-from c q = go c.status c.unread q
    where
      go : (status : Status) (unread : List (Unread Value)) → rests_so status unread ≡ true
          → IsAtRest (record { stack = c.stack; unread = unread; status = status })
      go (stuck why) unread q = being_stuck
      go running [] q = nothing_to_read
      go running (b ∷ unread) q = absurd (false≢true q)

  pub not-at-rest-to : (c : Chunk Value) → (IsAtRest c → ⊥) → at_rest c ≡ false
  not-at-rest-to c h = false-unless (at_rest c) (λ q. h (rests-from c q))

-- One chunk: its turn is a move by one of the rules, or it rests.

ends-to : {a b : ℕ} → (a ≡ 0) × (b ≡ 0) → (eqb a 0 && eqb b 0) ≡ true
ends-to {a} {b} q = rw (eq-eqb a 0 q.0, eq-eqb b 0 q.1)

ends-from : (a b : ℕ) → (eqb a 0 && eqb b 0) ≡ true → (a ≡ 0) × (b ≡ 0)
ends-from a b q = go (eqb a 0) refl q
  where
    go : (t : Bool) → eqb a 0 ≡ t → (t && eqb b 0) ≡ true → (a ≡ 0) × (b ≡ 0)
    go true p q = (eqb-true a 0 p, eqb-true b 0 q)
    go false p q = absurd (false≢true q)

module _ {Value : Type 0} (table : Table Value) where
  whole_to : {stack : List (Entry Value)} → EndAndAxiom table stack → is_whole table stack ≡ true
  whole_to (end-and-axiom h) = h

  pub whole_from : (stack : List (Entry Value)) → is_whole table stack ≡ true → EndAndAxiom table stack
  whole_from [] q = absurd (false≢true q)
  whole_from (terminal_on mark a v ∷ stack) q = absurd (false≢true q)
  whole_from (nonterminal_on k v ∷ []) q = absurd (false≢true q)
  whole_from (nonterminal_on k v ∷ nonterminal_on j w ∷ stack) q = absurd (false≢true q)
  whole_from (nonterminal_on k v ∷ terminal_on mark a w ∷ x ∷ stack) q = absurd (false≢true q)
  whole_from (nonterminal_on k v ∷ terminal_on mark a w ∷ []) q = go (eqb a 0) refl q
    where
      go : (t : Bool) → eqb a 0 ≡ t → (t && table.is_axiom k) ≡ true → EndAndAxiom table (nonterminal_on k v ∷ terminal_on mark a w ∷ [])
      go true p q = rw (eqb-true a 0 p) (end-and-axiom q)
      go false p q = absurd (false≢true q)

  turn-to : {c c' : Chunk Value} {made : List (Reduction Value)} → ChunkMoves table c made c' → turn table c ≡ makes made c'
  turn-to (rule_1_stuck top) = rw (top-nonterminal-to top)
  turn-to (rule_1 {stack = stack} else) = rw (false-unless (top_is_nonterminal stack) (λ q. else (top-nonterminal-from stack q)))
  turn-to (rule_2 none-on) = rw (no-terminal-to none-on)
  turn-to (rule_3 top r) = rw (topmost-to top, r)
  turn-to (rule_4_yields top r) = rw (topmost-to top, r)
  turn-to (rule_4_equal {a = a} {b = b} top r not-ends) = rw (topmost-to top, r, false-unless (eqb a 0 && eqb b 0) (λ q. not-ends (ends-from a b q)))
  turn-to (rule_4_last top r whole) = rw (topmost-to top, r, whole_to whole)
  turn-to (rule_4_stuck {stack = stack} top r else) = rw (topmost-to top, r, false-unless (is_whole table stack) (λ q. else (whole_from stack q)))
  turn-to (rule_5 top r handle spelled m) = rw (topmost-to top, r, handle-to handle [], append-nil, (spelled-to spelled).0, m, (spelled-to spelled).1)
  turn-to (rule_5_stuck top r handle spelled m) = rw (topmost-to top, r, handle-to handle [], append-nil, (spelled-to spelled).0, m)
  turn-to (rule_6 top r unmarked) = rw (topmost-to top, r, no-mark-to unmarked [])

  replaced-so : {a b r : ℕ} {v : Value} {stack : List (Entry Value)} {found : Handle Value} (unread : List (Unread Value))
      → TopmostTerminal stack a → table.relation a b ≡ takes → HandleView stack [] (some found) → table.matching (map symbol found.symbols) ≡ some r
      → ChunkMoves table (runs stack (terminal_at b v ∷ unread)) (record { rule = r; value = table.value r (map value_of found.symbols) } ∷ [])
      (runs (nonterminal_on (table.left_side r) (table.value r (map value_of found.symbols)) ∷ found.below) (terminal_at b v ∷ unread))
  replaced-so unread top r (a_handle {handle = handle} h q) m =
      let is : stack_symbols handle ≡ _ = sym (append-nil (stack_symbols handle)) ∙ q in
      rule_5 top r h (rw is at (spelled-of handle)) m

  unmatched-so : {a b : ℕ} {v : Value} {stack : List (Entry Value)} {found : Handle Value} (unread : List (Unread Value))
      → TopmostTerminal stack a → table.relation a b ≡ takes → HandleView stack [] (some found) → table.matching (map symbol found.symbols) ≡ none
      → ChunkMoves table (runs stack (terminal_at b v ∷ unread)) [] (is_stuck no_rule stack (terminal_at b v ∷ unread))
  unmatched-so unread top r (a_handle {handle = handle} h q) m =
      let is : stack_symbols handle ≡ _ = sym (append-nil (stack_symbols handle)) ∙ q in
      rule_5_stuck top r h (rw is at (spelled-of handle)) m

  unmarked-so : {stack : List (Entry Value)} → HandleView stack [] none → NoMark stack
  unmarked-so (no_handle n) = n

  moved_so : {stack : List (Entry Value)} {b : Unread Value} {action : Action Value} (unread : List (Unread Value)) → Moved table stack b action
      → TurnView table (runs stack (b ∷ unread)) (done action stack b unread)
  moved_so {stack} unread (by_rule_1_stuck q) = makes_so (rule_1_stuck (top-nonterminal-from stack q))
  moved_so unread (by_rule_1 q) = makes_so (rule_1 (λ top. true≢false (sym (top-nonterminal-to top) ∙ q)))
  moved_so {stack} unread (by_rule_2 q) = makes_so (rule_2 (no-terminal-from stack q))
  moved_so {stack} unread (by_rule_3 q r) = makes_so (rule_3 (topmost-from stack q) r)
  moved_so {stack} unread (by_rule_4_yields q r) = makes_so (rule_4_yields (topmost-from stack q) r)
  moved_so {stack} unread (by_rule_4_equal q r e) = makes_so (rule_4_equal (topmost-from stack q) r (λ h. true≢false (sym (ends-to h) ∙ e)))
  moved_so {stack} unread (by_rule_4_last {a = a} {b = b} {v = v} q r e w) =
      let (a-is, b-is) = ends-from a b e in
      rw b-is (makes_so (rule_4_last (rw a-is at (topmost-from stack q)) (rw (a-is, b-is) at r) (whole_from stack w)))
  moved_so {stack} unread (by_rule_4_stuck {a = a} {b = b} q r e w) =
      let (a-is, b-is) = ends-from a b e in
      rw b-is (makes_so (rule_4_stuck (rw a-is at (topmost-from stack q)) (rw (a-is, b-is) at r) (λ h. true≢false (sym (whole_to h) ∙ w))))
  moved_so {stack} unread (by_rule_5 found q r h m) = makes_so (replaced-so unread (topmost-from stack q) r (rw h at (handle-view stack [])) m)
  moved_so {stack} unread (by_rule_5_stuck found q r h m) = makes_so (unmatched-so unread (topmost-from stack q) r (rw h at (handle-view stack [])) m)
  moved_so {stack} unread (by_rule_6 q r h) = makes_so (rule_6 (topmost-from stack q) r (unmarked-so (rw h at (handle-view stack []))))

  pub turn-view : (c : Chunk Value) → TurnView table c (turn table c)
  turn-view c = go c.status c.unread
    where
      go : (status : Status) (unread : List (Unread Value))
          → TurnView table (record { stack = c.stack; unread = unread; status = status }) (turn table (record { stack = c.stack; unread = unread; status = status }))
      go (stuck why) unread = rests-so being_stuck
      go running [] = rests-so nothing_to_read
      go running (b ∷ unread) = moved_so unread (moved table c.stack b)

  pub turn-rests : {c : Chunk Value} → IsAtRest c → turn table c ≡ rests
  turn-rests being_stuck = refl
  turn-rests (nothing_to_read {status = running}) = refl
  turn-rests (nothing_to_read {status = stuck why}) = refl

  turn-from : {c c' : Chunk Value} {made : List (Reduction Value)} → TurnView table c (makes made c') → ChunkMoves table c made c'
  turn-from (makes_so m) = m

  -- a chunk moves by document 01's rules exactly as the machine has it
  pub turn-exactly : (c c' : Chunk Value) (made : List (Reduction Value)) → ChunkMoves table c made c' ↔ (turn table c ≡ makes made c')
  turn-exactly c c' made = (turn-to, λ q. turn-from (rw q at (turn-view c)))

-- The numbered chunks of a row.

drop_past : {A : Type 0} (before : List A) (x : A) (after : List A) → drop (suc (length before)) (before ++ (x ∷ after)) ≡ after
drop_past [] x after = refl
drop_past (y ∷ before) x after = drop_past before x after

module _ {Value : Type 0} where
  pub live_to : {chunks : List (Option (Chunk Value))} {c : ℕ} (l : Live chunks c) → get_or chunks c none ≡ some l.chunk
  live_to {c = c} l = rw l.chunks_are (get_or_at l.before (some l.chunk) l.after none c l.number_is)

  pub live-set : {chunks : List (Option (Chunk Value))} {c : ℕ} (l : Live chunks c) (x : Option (Chunk Value)) → set chunks c x ≡ l.before ++ (x ∷ l.after)
  live-set {c = c} l x = rw l.chunks_are (set_at l.before (some l.chunk) l.after x c l.number_is)

  pub live-take : {chunks : List (Option (Chunk Value))} {c : ℕ} (l : Live chunks c) → take c chunks ≡ l.before
  live-take {c = c} l = rw l.chunks_are (take_at l.before (some l.chunk ∷ l.after) c l.number_is)

  pub live-drop : {chunks : List (Option (Chunk Value))} {c : ℕ} (l : Live chunks c) → drop (suc c) chunks ≡ l.after
  live-drop l = rw (l.chunks_are, ← l.number_is) (drop_past l.before (some l.chunk) l.after)

  one_further : (x : Option (Chunk Value)) {chunks : List (Option (Chunk Value))} {c : ℕ} → Live chunks c → Live (x ∷ chunks) (suc c)
  one_further x l =
      record {
        before = x ∷ l.before;
        chunk = l.chunk;
        after = l.after;
        number_is = ap suc l.number_is;
        chunks_are = ap (λ (chunks : List (Option (Chunk Value))). x ∷ chunks) l.chunks_are;
      }

  live-from : (chunks : List (Option (Chunk Value))) (c : ℕ) {chunk : Chunk Value} → get_or chunks c none ≡ some chunk
      → (l : Live chunks c) × (l.chunk ≡ chunk)
  unfolding one_further
  live-from [] c q = let z : ◌≡◌ {A = ℕ} 0 1 = cc in absurd (omega arith)
  live-from (x ∷ chunks) zero {chunk} q =
      (record { before = []; chunk = chunk; after = chunks; number_is = refl; chunks_are = rw q }, refl)
  live-from (x ∷ chunks) (suc c) q =
      let found = live-from chunks c q in (one_further x found.0, found.1)

  pub live_view : (chunks : List (Option (Chunk Value))) (c : ℕ) → LiveView chunks c (get_or chunks c none)
  live_view chunks c = go (get_or chunks c none) refl
    where
      go : (o : Option (Chunk Value)) → get_or chunks c none ≡ o → LiveView chunks c o
      go none q = not_live (λ l. let p = live_to l in let z : ◌≡◌ {A = ℕ} 0 1 = cc in omega arith)
      go (some chunk) q = let found = live-from chunks c q in rw found.1 at (is-live found.0)

  next-of : {between : List (Option (Chunk Value))} → AllGone between → (d : Chunk Value) (beyond : List (Option (Chunk Value)))
      → next_live (between ++ (some d ∷ beyond)) ≡ some (record { chunk = d; rest = between ++ (none ∷ beyond) })
  next-of no_number d beyond = refl
  next-of (one_gone g) d beyond = rw (next-of g d beyond)

  pub next-to : {after : List (Option (Chunk Value))} (n : NextLive after) → next_live after ≡ some (record { chunk = n.chunk; rest = numbers_left n })
  next-to n = rw n.after_is (next-of n.all_gone n.chunk n.beyond)

  pub none-next : {after : List (Option (Chunk Value))} → AllGone after → next_live after ≡ none
  none-next no_number = refl
  none-next (one_gone g) = rw (none-next g)

  pub next-view : (after : List (Option (Chunk Value))) → NextView after (next_live after)
  next-view [] = no_next no_number
  next-view (none ∷ after) = go (next-view after)
    where
      go : {o : Option (Next Value)} → NextView after o → NextView (none ∷ after) (under o)
      go (is_next n) =
          is_next (record {
            between = none ∷ n.between;
            chunk = n.chunk;
            beyond = n.beyond;
            all_gone = one_gone n.all_gone;
            after_is = rw n.after_is;
          })
      go (no_next g) = no_next (one_gone g)
  next-view (some d ∷ after) = is_next (record { between = []; chunk = d; beyond = after; all_gone = no_number; after_is = refl })

  same-state : {s : State Value} {chunks : List (Option (Chunk Value))} {reductions : List (Reduction Value)} {moves : ℕ}
      → s.chunks ≡ chunks → s.reductions ≡ reductions → s.moves ≡ moves → record { chunks = chunks; reductions = reductions; moves = moves } ≡ s
  same-state p q r = λ i. record { chunks = sym p i; reductions = sym q i; moves = sym r i }

  same-chunk : {c : Chunk Value} {stack : List (Entry Value)} {unread : List (Unread Value)} {status : Status}
      → c.stack ≡ stack → c.unread ≡ unread → c.status ≡ status → record { stack = stack; unread = unread; status = status } ≡ c
  same-chunk p q r = λ i. record { stack = sym p i; unread = sym q i; status = sym r i }

module _ {Value : Type 0} (table : Table Value) (c : ℕ) where
  step-to : {s s' : State Value} → Steps table c s s' → step table c s ≡ became s'
  step-to {s} {s'} h =
      let l = h.live in
      rw (live_to l, step, turn-to table h.moves_so)
      (ap {B = Called Value} became (same-state (h.chunks_then ∙ sym (live-set l (some h.chunk'))) h.reductions_then h.count_then))

  pub step-view : (s : State Value) → StepView table c s (step table c s)
  step-view s = go (live_view s.chunks c)
    where
      act : (l : Live s.chunks c) {t : Turn Value} → TurnView table l.chunk t → StepView table c s (step_by c s t)
      act l (rests-so h) = was_at_rest l h
      act l (makes_so {c' = chunk'} {made = made} m) =
          steps_so (record {
            live = l;
            made = made;
            chunk' = chunk';
            moves_so = m;
            chunks_then = live-set l (some chunk');
            reductions_then = refl;
            count_then = refl;
          })

      go : {o : Option (Chunk Value)} → LiveView s.chunks c o
          → StepView table c s (elim o [ none ↦ refused NoChunk | some chunk ↦ step_by c s (turn table chunk) ])
      go (is-live l) = act l (turn-view table l.chunk)
      go (not_live h) = no_such_chunk h

  step_from : {s s' : State Value} → StepView table c s (became s') → Steps table c s s'
  step_from (steps_so h) = h

  -- a step is accepted and leaves s' exactly when document 01's rules lead there
  pub step-exactly : (s s' : State Value) → Steps table c s s' ↔ (step table c s ≡ became s')
  step-exactly s s' = (step-to, λ q. step_from (rw q at (step-view s)))

module _ {Value : Type 0} where
  joined_to : {c d e : Chunk Value} → Joins c d e → joined c d ≡ e
  joined_to {c} {d} {e} h = same-chunk h.stack_is (rw (symbols-to h.symbols_of) h.unread_is) (status c.status refl)
    where
      status : (was : Status) → c.status ≡ was → e.status ≡ c.status
      status (stuck why) q = h.stays_stuck why q ∙ sym q
      status running q = h.right_forgotten q ∙ sym q

  joined-so : {c d : Chunk Value} → IsAtRest c → IsAtRest d → Joins c d (joined c d)
  joined-so {d = d} p q =
      record {
        left_rests = p;
        right_rests = q;
        stack_is = refl;
        symbols = stack_symbols d.stack;
        symbols_of = symbols_of d.stack;
        unread_is = refl;
        stays_stuck = λ why r. r;
        right_forgotten = λ r. r;
      }

module _ {Value : Type 0} (c : ℕ) where
  join-to : {s s' : State Value} → JoinsAt c s s' → join c s ≡ became s'
  join-to h =
      let l = h.live in
      let n = h.next in
      rw (live_to l, join, live-drop l, next-to n, rests-to h.joins.left_rests, join_with, rests-to h.joins.right_rests, live-take l, joined_to h.joins)
      (ap {B = Called Value} became (same-state h.chunks_then h.reductions_then h.count_then))

  pub join-view : (s : State Value) → JoinView c s (join c s)
  join-view s = at-number (live_view s.chunks c)
    where
      with-next : (l : Live s.chunks c) (n : NextLive l.after) (t u : Bool) → at_rest l.chunk ≡ t → at_rest n.chunk ≡ u
          → JoinView c s (elim t [
            | false ↦ refused NoJoin
            | true ↦ elim u [
              | false ↦ refused NoJoin
              | true ↦ became (record {
                chunks = take c s.chunks ++ (some (joined l.chunk n.chunk) ∷ numbers_left n);
                reductions = s.reductions;
                moves = s.moves + 1;
              })
            ]
          ])
      with-next l n false u p q = left_moves l (λ r. true≢false (sym (rests-to r) ∙ p))
      with-next l n true false p q = right_moves l n (λ r. true≢false (sym (rests-to r) ∙ q))
      with-next l n true true p q =
          joins_so (record {
            live = l;
            next = n;
            chunk' = joined l.chunk n.chunk;
            joins = joined-so (rests-from l.chunk p) (rests-from n.chunk q);
            chunks_then = ap (λ (before : List (Option (Chunk Value))). before ++ (some (joined l.chunk n.chunk) ∷ numbers_left n)) (live-take l);
            reductions_then = refl;
            count_then = refl;
          })

      to-the-right : (l : Live s.chunks c) {o : Option (Next Value)} → NextView l.after o
          → JoinView c s (elim o [ none ↦ refused NoJoin | some next ↦ join_with c s l.chunk next ])
      to-the-right l (is_next n) = with-next l n (at_rest l.chunk) (at_rest n.chunk) refl refl
      to-the-right l (no_next g) = no_right l g

      at-number : {o : Option (Chunk Value)} → LiveView s.chunks c o
          → JoinView c s (elim o [
            | none ↦ refused NoChunk
            | some chunk ↦ elim (next_live (drop (suc c) s.chunks)) [ none ↦ refused NoJoin | some next ↦ join_with c s chunk next ]
          ])
      at-number (is-live l) = rw (live-drop l) (to-the-right l (next-view l.after))
      at-number (not_live h) = no_left h

  join-from : {s s' : State Value} → JoinView c s (became s') → JoinsAt c s s'
  join-from (joins_so h) = h

  -- a join is accepted and leaves s' exactly when document 01's sentences lead there
  pub join-exactly : (s s' : State Value) → JoinsAt c s s' ↔ (join c s ≡ became s')
  join-exactly s s' = (join-to, λ q. join-from (rw q at (join-view s)))
