-- What a step or a join does to the symbols of a row, from its first slot to its last, stacks and unread alike: nothing; or one
-- nonterminal stands where a handle stood, and some symbol after it; or the # of the end is read and gone.
-- Document 01, "Moves of a chunk", rules 1 to 6 and "Joining chunk c ..".
-- Rests on layout's Kept, RowCounts and matrix's WordsOfShape, and on machine's Schedules, AllowedExactly and TableOf and results' RunsEnd.
--
-- Main definitions: RowThen, FirstNotEnd. Main statements: row-then, handle-first.
use Rattle.std.specs.Prelude.{◌≡◌, refl, Bool, true, List, [], ◌∷◌, ◌++◌, map, ℕ, ◌<◌, eqb, length}
use Rattle.std.proofs.Common.{sym, ap, ◌∙◌, append_assoc, append-nil, arith, length-append}
use Rattle.std.proofs.Math.Option.{some}
use Rattle.laws.specs.Tests.{and_both, eqb-true, eqb-false}
use Rattle.language.specs.Symbols.{terminal}
use Rattle.language.specs.Trees.{Span, Reduction}
use Rattle.language.specs.Words.{count_n}
use Rattle.machine.specs.Entries.{Unread, terminal_at, nonterminal_at, Entry, terminal_on, nonterminal_on, symbol, value_of, stack_symbols}
use Rattle.machine.specs.Moves.{Table, reads, replaces, Moved, by_rule_1, by_rule_2, by_rule_4_yields, by_rule_4_equal, by_rule_4_last, by_rule_5, by_rule_6}
use Rattle.machine.proofs.Moves.{moved}
use Rattle.machine.specs.Chunks.{Chunk}
use Rattle.machine.specs.Starts.{symbols_along}
use Rattle.machine.specs.Spans.{span_of}
use Rattle.machine.specs.TableOf.{table_of}
use Rattle.results.specs.RunsEnd.{MarksFine, fine_nonterminal, fine_unmarked, fine_marked}
use Rattle.results.specs.Bounded.{AllFine, all_fine_nil, all_fine_cons}
use Rattle.machine.specs.Allowed.{runs, HandleAbove, from_nonterminal, from_mark, up_to_unmarked, up_to_nonterminal, EndAndAxiom, end-and-axiom}
use Rattle.machine.specs.AllowedExactly.{HandleView, a_handle}
use Rattle.machine.proofs.AllowedExactly.{handle-symbols, handle-view, whole_from}
use Rattle.machine.specs.Schedules.{first_stack, has_read, has_replaced, got_stuck, Changed, moves_one, joins_two, further}
use Rattle.matrix.specs.GrammarShape.{rule_a}
use Rattle.layout.specs.Kept.{LastHolds, holds, later_holds}
use Rattle.layout.specs.RowCounts.{length-of-row, holds-some, no_symbol}
use Rattle.matrix.specs.WordsOfShape.{left-sides-fit}

-- one chunk, which has nothing to read
pub data Alone : List (Chunk Span) → Type 0 where
  alone : {c : Chunk Span} → c.unread ≡ [] → Alone (c ∷ [])

-- a row's symbols before and after, of a grammar with that many nonterminals
pub data RowThen (nonterminals : ℕ) (chunks chunks' : List (Chunk Span)) : Type 0 where
  same_symbols : symbols_along chunks' ≡ symbols_along chunks → RowThen nonterminals chunks chunks'
  -- a handle, which does not start with #, and the unread b after it
  handle_replaced : (k : ℕ) (before : List (Unread Span)) (x : Unread Span) (xs : List (Unread Span)) (b : Unread Span) (after : List (Unread Span))
      → k < nonterminals → (symbol x ≡ terminal 0 → ⊥)
      → symbols_along chunks ≡ before ++ (x ∷ (xs ++ (b ∷ after)))
      → symbols_along chunks' ≡ before ++ (nonterminal_at k (span_of (value_of x ∷ map value_of xs)) ∷ b ∷ after)
      → RowThen nonterminals chunks chunks'
  -- the # of the end, after # and one symbol; where these are the whole row, one chunk is left, and it has read all
  end_read : (before : List (Unread Span)) (x d y : Unread Span) (after : List (Unread Span))
      → symbol x ≡ terminal 0 → symbol y ≡ terminal 0
      → symbols_along chunks ≡ before ++ (x ∷ d ∷ y ∷ after)
      → symbols_along chunks' ≡ before ++ (x ∷ d ∷ after)
      → (0 < length (first_stack chunks) → LastHolds chunks → before ≡ [] → after ≡ [] → Alone chunks')
      → RowThen nonterminals chunks chunks'

-- ---- handles

-- there is a first symbol, and it is not #
pub record FirstNotEnd (symbols : List (Unread Span)) : Type 0 where
  pub first : Unread Span
  pub others : List (Unread Span)
  pub are : symbols ≡ first ∷ others
  pub not_end : symbol first ≡ terminal 0 → ⊥

-- so it is with a handle, where no mark stands on a #
pub handle-first : {stack handle below : List (Entry Span)} → HandleAbove stack handle below → MarksFine stack → FirstNotEnd (stack_symbols handle)
handle-first (from_nonterminal {a = a} {k = k} {v = v} {w = w}) o =
    record { first = nonterminal_at k w; others = terminal_at a v ∷ []; are = refl; not_end = λ c. let z : ◌≡◌ {A = ℕ} 0 1 = cc in omega arith }
handle-first (from_mark {a = a} {v = v} h) (fine_marked i o) =
    record { first = terminal_at a v; others = []; are = refl; not_end = λ c. let z : a ≡ 0 = cc in eqb-false a 0 i z }
handle-first (up_to_unmarked {a = a} {v = v} h) (fine_unmarked o) =
    let s = handle-first h o in
    record { first = s.first; others = s.others ++ (terminal_at a v ∷ []); are = ap (λ l. l ++ (terminal_at a v ∷ [])) s.are; not_end = s.not_end }
handle-first (up_to_nonterminal {k = k} {v = v} h) (fine_nonterminal o) =
    let s = handle-first h o in
    record { first = s.first; others = s.others ++ (nonterminal_at k v ∷ []); are = ap (λ l. l ++ (nonterminal_at k v ∷ [])) s.are; not_end = s.not_end }

-- ---- moves and joins

module _ (words bytes : List ℕ) (rule-a : rule_a words ≡ true) where
  abbrev table : Table Span
  table = table_of words bytes

  abbrev N : ℕ
  N = count_n words

  put_on : {mark : Bool} (stack : List (Entry Span)) (b : ℕ) (v : Span) (unread : List (Unread Span)) (chunks : List (Chunk Span))
      → RowThen N (runs stack (terminal_at b v ∷ unread) ∷ chunks) (runs (terminal_on mark b v ∷ stack) unread ∷ chunks)
  put_on stack b v unread chunks = same_symbols (append_assoc (stack_symbols stack) (terminal_at b v ∷ []) (unread ++ symbols_along chunks))

  -- "if the stack is # and an axiom read #"
  accepting : {stack : List (Entry Span)} {b : ℕ} → EndAndAxiom table stack → b ≡ 0 → (v : Span) (unread : List (Unread Span)) (chunks : List (Chunk Span))
      → RowThen N (runs stack (terminal_at b v ∷ unread) ∷ chunks) (runs stack unread ∷ chunks)
  accepting {b = b} (end-and-axiom {mark = mark} {k = k} {v = u} {w = w} h) e v unread chunks =
      end_read [] (terminal_at 0 w) (nonterminal_at k u) (terminal_at b v) (unread ++ symbols_along chunks) refl (ap terminal e) refl refl (λ l. only)
    where
      only : {stack stack' : List (Entry Span)} {more : List (Unread Span)} {chunks : List (Chunk Span)} → LastHolds (runs stack more ∷ chunks)
          → ◌≡◌ {A = List (Unread Span)} [] [] → unread ++ symbols_along chunks ≡ [] → Alone (runs stack' unread ∷ chunks)
      only (holds l) p q = alone (no_symbol unread (omega (arith, ap length q, length-append unread [])))
      only (later_holds {chunks = chunks} l) p q = absurd (omega (arith, holds-some l, ap length q, length-append unread (symbols_along chunks)))

  reading-row : {stack stack' : List (Entry Span)} {b : Unread Span} → Moved table stack b (reads stack')
      → (unread : List (Unread Span)) (chunks : List (Chunk Span))
      → RowThen N (runs stack (b ∷ unread) ∷ chunks) (runs stack' unread ∷ chunks)
  reading-row {stack} (by_rule_1 {k = k} {v = v} h) unread chunks =
      same_symbols (append_assoc (stack_symbols stack) (nonterminal_at k v ∷ []) (unread ++ symbols_along chunks))
  reading-row {stack} (by_rule_2 {b = b} {v = v} t) unread chunks = put_on stack b v unread chunks
  reading-row {stack} (by_rule_4_yields {b = b} {v = v} t r) unread chunks = put_on stack b v unread chunks
  reading-row {stack} (by_rule_4_equal {b = b} {v = v} t r i) unread chunks = put_on stack b v unread chunks
  reading-row {stack} (by_rule_4_last {a = a} {b = b} {v = v} t r i w) unread chunks =
      accepting (whole_from table stack w) (eqb-true b 0 (and_both (eqb a 0) (eqb b 0) i).1) v unread chunks
  reading-row {stack} (by_rule_6 {b = b} {v = v} t r q) unread chunks = put_on stack b v unread chunks

  replacing-row : {stack : List (Entry Span)} {b : Unread Span} {r : ℕ} {v : Span} {stack' : List (Entry Span)} → MarksFine stack → Moved table stack b (replaces r v stack')
      → (unread : List (Unread Span)) (chunks : List (Chunk Span))
      → RowThen N (runs stack (b ∷ unread) ∷ chunks) (runs stack' (b ∷ unread) ∷ chunks)
  replacing-row {stack} o (by_rule_5 {b = b} {r = r} {v = v} found t k q m) unread chunks = go (rw q at (handle-view stack []))
    where
      rest : List (Unread Span)
      rest = terminal_at b v ∷ (unread ++ symbols_along chunks)

      go : HandleView stack [] (some found)
          → RowThen N (runs stack (terminal_at b v ∷ unread) ∷ chunks)
          (runs (nonterminal_on (table.left_side r) (table.value r (map value_of found.symbols)) ∷ found.below) (terminal_at b v ∷ unread) ∷ chunks)
      go (a_handle {handle = handle} h p) =
          let s = handle-first h o in
          let are : found.symbols ≡ s.first ∷ s.others = sym p ∙ append-nil (stack_symbols handle) ∙ s.are in
          handle_replaced (table.left_side r) (stack_symbols found.below) s.first s.others (terminal_at b v) (unread ++ symbols_along chunks)
          (left-sides-fit words rule-a (map symbol found.symbols) m) s.not_end
          (ap (λ symbols. symbols ++ rest) (handle-symbols h ∙ ap (λ symbols. stack_symbols found.below ++ symbols) s.are)
          ∙ append_assoc (stack_symbols found.below) (s.first ∷ s.others) rest)
          (append_assoc (stack_symbols found.below) (nonterminal_at (table.left_side r) (span_of (map value_of found.symbols)) ∷ []) rest
          ∙ ap (λ symbols. stack_symbols found.below ++ (nonterminal_at (table.left_side r) (span_of (map value_of symbols)) ∷ rest)) are)

  under : (c : Chunk Span) (before rest : List (Unread Span)) {row : List (Unread Span)} → row ≡ before ++ rest
      → stack_symbols c.stack ++ (c.unread ++ row) ≡ (stack_symbols c.stack ++ (c.unread ++ before)) ++ rest
  under c before rest q = rw q (simp append_assoc)

  later-row : (c : Chunk Span) {chunks chunks' : List (Chunk Span)} → RowThen N chunks chunks' → RowThen N (c ∷ chunks) (c ∷ chunks')
  later-row c (same_symbols q) = same_symbols (ap (λ row. stack_symbols c.stack ++ (c.unread ++ row)) q)
  later-row c (handle_replaced k before x xs b after l h q q') =
      handle_replaced k (stack_symbols c.stack ++ (c.unread ++ before)) x xs b after l h (under c before _ q) (under c before _ q')
  later-row c (end_read before x d y after hx hy q q' only) =
      end_read (stack_symbols c.stack ++ (c.unread ++ before)) x d y after hx hy (under c before _ q) (under c before _ q')
      (λ l h e. absurd (omega (arith, ap length e, length-of-row c before)))

  pub row-then : {chunks chunks' : List (Chunk Span)} {made : List (Reduction Span)} → AllFine chunks → Changed table chunks made chunks' → RowThen N chunks chunks'
  row-then {made = made} all_fine_nil x3 = elim x3 [ ]
  row-then (all_fine_cons o os) (moves_one {chunks = chunks} (has_read {stack = stack} {unread = unread} b h)) =
      reading-row (rw h at (moved table stack b)) unread chunks
  row-then (all_fine_cons o os) (moves_one {chunks = chunks} (has_replaced {stack = stack} {unread = unread} b h)) =
      replacing-row o (rw h at (moved table stack b)) unread chunks
  row-then (all_fine_cons o os) (moves_one (got_stuck b h)) = same_symbols refl
  row-then (all_fine_cons o (all_fine_cons o' os)) (joins_two {c = c} {d = d} {chunks = chunks} a b) = same_symbols (simp append_assoc)
  row-then (all_fine_cons {c = c} o os) (further m) = later-row c (row-then os m)
