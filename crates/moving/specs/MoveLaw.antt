-- One move of a chunk, on the words of any state that keeps the rules: which words each of rules 1 to 6 leaves, and that they are the
-- words of the state after that move.
-- Document 01, "Moves of a chunk", rules 1 to 6. The tests are those that code makes on words: b is the next unread symbol's word, 256
-- or more for a nonterminal, and otherwise the terminal itself.
-- Rests on PushLaw, StickLaw, AcceptLaw and ReduceLaw, and on machine's TableOf.
--
-- Main definitions: Runs, Leaves (the words that a move leaves, by its rule), Stepped.
-- Main statements: runs-words, rests-words (whether a chunk is at rest, off its row of the table); move-law; every-move (no case is left).
use Rattle.std.specs.Prelude.{◌≡◌, refl, Bool, true, false, ◌&&◌, List, [], ◌∷◌, ◌++◌, map, ℕ, zero, suc, ◌+◌, ◌<◌, ◌≤◌, eqb, length}
use Rattle.std.proofs.Common.{sym, ap, ◌∙◌, append-nil, arith}
use Rattle.std.proofs.Math.Option.{Option, none, some}
use Rattle.std.proofs.Math.Decide.{dec_lt}
use Rattle.laws.specs.Tests.{eqb-true, and_both}
use Rattle.language.specs.Symbols.{word_of, Relation, blank, yields, equal, takes}
use Rattle.language.specs.Grammar.{left_side}
use Rattle.language.specs.Words.{grammar_of}
use Rattle.language.specs.Matching.{matching}
use Rattle.language.specs.Trees.{Span}
use Rattle.machine.specs.Entries.{Unread, terminal_at, nonterminal_at, Entry, terminal_on, nonterminal_on, symbol, value_of, unmarked, stack_symbols, top_terminal, top_is_nonterminal}
use Rattle.machine.specs.Moves.{Table, Stuck, no_relation, no_rule, not_axiom, side_by_side, reads, replaces, sticks, move, is_whole}
use Rattle.machine.specs.Chunks.{Status, running, stuck, Chunk, at_rest}
use Rattle.machine.specs.States.{State, became, made_at, step}
use Rattle.machine.specs.Spans.{span_of}
use Rattle.machine.specs.TableOf.{relation_at, table_of}
use Rattle.machine.specs.Allowed.{runs, is_stuck, HandleAbove, EndAndAxiom, end-and-axiom, Live}
use Rattle.machine.proofs.AllowedExactly.{handle-to, whole_from, live_to}
use Rattle.layout.specs.Layout.{mark_word, stack_size, marks, unread_size, status_word, encode, row_word, slot_word}
use Rattle.layout.specs.Lengths.{within-slots}
use Rattle.layout.specs.Kept.{SymbolInRange, AllInRange, in_range, Kept}
use Rattle.moving.specs.MoveWords.{from_of, head_of, end_of, push_words, stick_words, accept_words, reduce_words}
use Rattle.moving.specs.AroundChunk.{status-word, head-word, end-word, from-word, next-symbol}
use Rattle.moving.specs.KeptAround.{unread-ranged}
use Rattle.moving.specs.HandleSlots.{SomeHandle, marks-none, marks-some}
use Rattle.moving.specs.PushLaw.{push-law}
use Rattle.moving.specs.StickLaw.{stick-law}
use Rattle.moving.specs.AcceptLaw.{accept-law, accepting-last}
use Rattle.moving.specs.ReduceLaw.{reduce-law}

-- ---- at rest or not, off the words

-- a chunk that is not at rest: its next symbol, and what is unread after that
pub record Runs (chunk : Chunk Span) : Type 0 where
  pub next : Unread Span
  pub unread : List (Unread Span)
  pub is : chunk ≡ runs chunk.stack (next ∷ unread)

pub runs-unread : {chunk : Chunk Span} (r : Runs chunk) → chunk.unread ≡ r.next ∷ r.unread
runs-unread r = ap (λ (c : Chunk Span). c.unread) r.is

pub runs_on : {chunk : Chunk Span} → Runs chunk → at_rest chunk ≡ false
runs_on r = ap at_rest r.is

one-is-running : (status : Status) → status_word status ≡ 1 → status ≡ running
one-is-running running e = refl
one-is-running (stuck no_relation) e = absurd (omega arith)
one-is-running (stuck no_rule) e = absurd (omega arith)
one-is-running (stuck not_axiom) e = absurd (omega arith)
one-is-running (stuck side_by_side) e = absurd (omega arith)

module _ (n : ℕ) (s : State Span) (rest : List ℕ) {c : ℕ} (l : Live s.chunks c) where
  pub runs-words : row_word (encode n s ++ rest) c 0 ≡ 1 → head_of (encode n s ++ rest) c < end_of (encode n s ++ rest) c → Runs l.chunk
  runs-words e h = go l.chunk.unread refl
    where
      go : (unread : List (Unread Span)) → l.chunk.unread ≡ unread → Runs l.chunk
      go [] q = absurd (omega (arith, head-word n s rest l, end-word n s rest l, ap unread_size q))
      go (x ∷ unread) q =
          let r : l.chunk.status ≡ running = one-is-running l.chunk.status (sym (status-word n s rest l) ∙ e) in
          record { next = x; unread = unread; is = λ i. record { stack = l.chunk.stack; unread = q i; status = r i } }

  pub rests-words : (row_word (encode n s ++ rest) c 0 ≡ 1 → end_of (encode n s ++ rest) c ≤ head_of (encode n s ++ rest) c) → at_rest l.chunk ≡ true
  rests-words h = go l.chunk.status l.chunk.unread refl refl
    where
      go : (status : Status) (unread : List (Unread Span)) → l.chunk.status ≡ status → l.chunk.unread ≡ unread
          → at_rest (record { stack = l.chunk.stack; unread = unread; status = status }) ≡ true
      go (stuck why) unread p q = refl
      go running [] p q = refl
      go running (x ∷ unread) p q =
          absurd (omega (arith, h (status-word n s rest l ∙ ap status_word p), head-word n s rest l, end-word n s rest l, ap unread_size q))

-- ---- one move

word-terminal : (x : Unread Span) (b : ℕ) → word_of (symbol x) ≡ b → b < 256 → (v : Span) × (x ≡ terminal_at b v)
word-terminal (terminal_at a v) b e h = (v, ap (λ (i : ℕ). terminal_at i v) e)
word-terminal (nonterminal_at k v) b e h = absurd (omega arith)

word-nonterminal : (t N : ℕ) (x : Unread Span) (b : ℕ) → t < 256 → SymbolInRange t N (symbol x) → word_of (symbol x) ≡ b → 256 ≤ b → (k : ℕ) × (v : Span) × (x ≡ nonterminal_at k v)
word-nonterminal t N (terminal_at a v) b f r e h = absurd (omega arith)
word-nonterminal t N (nonterminal_at k v) b f r e h = (k, v, refl)

first-ranged : {t N : ℕ} {x : Unread Span} {symbols : List (Unread Span)} → AllInRange t N (x ∷ symbols) → SymbolInRange t N (symbol x)
first-ranged (in_range i r) = i

-- "the stack is # and an axiom"
record Whole (stack : List (Entry Span)) : Type 0 where
  number : ℕ
  mark : Bool
  above : Span
  below : Span
  is : stack ≡ nonterminal_on number above ∷ terminal_on mark 0 below ∷ []

whole-stack : {table : Table Span} {stack : List (Entry Span)} → EndAndAxiom table stack → Whole stack
whole-stack (end-and-axiom {mark = mark} {k = k} {v = v} {w = w} h) = record { number = k; mark = mark; above = v; below = w; is = refl }

module _ (words bytes : List ℕ) where
  abbrev table : Table Span
  table = table_of words bytes

  -- the words that one move of chunk c leaves, by the rule that makes it: the chunk's stack, and the word b of its next unread symbol
  pub data Leaves (area : List ℕ) (c : ℕ) (stack : List (Entry Span)) (b : ℕ) : List ℕ → Type 0 where
    -- 1. "b is a nonterminal: if the top is one too, stuck with 20; else put it on the stack."
    rule_1_stuck : 256 ≤ b → top_is_nonterminal stack ≡ true → Leaves area c stack b (stick_words area c 20)
    rule_1 : 256 ≤ b → top_is_nonterminal stack ≡ false → Leaves area c stack b (push_words area c 0)
    -- 2. "The stack has no terminal: put b on it, unmarked."
    rule_2 : b < 256 → top_terminal stack ≡ none → Leaves area c stack b (push_words area c 0)
    -- 3. "a over b blank: stuck with 17."
    rule_3 : {a : ℕ} → b < 256 → top_terminal stack ≡ some a → relation_at bytes a b ≡ blank → Leaves area c stack b (stick_words area c 17)
    -- 4. "Yields: put b on, marked."
    rule_4_yields : {a : ℕ} → b < 256 → top_terminal stack ≡ some a → relation_at bytes a b ≡ yields → Leaves area c stack b (push_words area c 1)
    -- "Equal: put b on, unmarked; but for # over #,"
    rule_4_equal : {a : ℕ} → b < 256 → top_terminal stack ≡ some a → relation_at bytes a b ≡ equal → (eqb a 0 && eqb b 0) ≡ false
        → Leaves area c stack b (push_words area c 0)
    -- "if the stack is # and an axiom read #, the stack unchanged, else stuck with 19."
    rule_4_last : {a : ℕ} → b < 256 → top_terminal stack ≡ some a → relation_at bytes a b ≡ equal → (eqb a 0 && eqb b 0) ≡ true
        → is_whole table stack ≡ true → Leaves area c stack b (accept_words area c)
    rule_4_stuck : {a : ℕ} → b < 256 → top_terminal stack ≡ some a → relation_at bytes a b ≡ equal → (eqb a 0 && eqb b 0) ≡ true
        → is_whole table stack ≡ false → Leaves area c stack b (stick_words area c 19)
    -- 5. "Takes, a marked terminal on the stack: the handle .. If a rule has this right side, replace it by the left side of the
    -- least such rule, b staying unread; otherwise stuck with 18."
    rule_5 : {a r : ℕ} {handle below : List (Entry Span)} → b < 256 → top_terminal stack ≡ some a → relation_at bytes a b ≡ takes
        → HandleAbove stack handle below → matching (grammar_of words) (map symbol (stack_symbols handle)) ≡ some r
        → Leaves area c stack b (reduce_words area c (from_of area c + stack_size below) (256 + left_side (grammar_of words) r) r)
    rule_5_stuck : {a : ℕ} {handle below : List (Entry Span)} → b < 256 → top_terminal stack ≡ some a → relation_at bytes a b ≡ takes
        → HandleAbove stack handle below → matching (grammar_of words) (map symbol (stack_symbols handle)) ≡ none
        → Leaves area c stack b (stick_words area c 18)
    -- 6. "Takes, no mark on the stack: put b on, unmarked."
    rule_6 : {a : ℕ} → b < 256 → top_terminal stack ≡ some a → relation_at bytes a b ≡ takes → marks stack ≡ 0
        → Leaves area c stack b (push_words area c 0)

  -- these words are those of the state after a step of chunk c
  pub record Stepped (n : ℕ) (s : State Span) (rest : List ℕ) (c : ℕ) (area : List ℕ) : Type 0 where
    pub then : State Span
    pub steps : step table c s ≡ became then
    pub are : area ≡ encode n then ++ rest

  module _ {t N n : ℕ} {s : State Span} (k : Kept t N n s) (rest : List ℕ) (c : ℕ) (earlier : List (Option (Chunk Span))) (stack : List (Entry Span))
      (unread : List (Unread Span)) (later : List (Option (Chunk Span))) (number : length earlier ≡ c) where
    abbrev Chunks : Unread Span → Type 0
    Chunks x = s.chunks ≡ earlier ++ (some (runs stack (x ∷ unread)) ∷ later)

    abbrev here : (x : Unread Span) → Chunks x → Live s.chunks c
    here x q = record { before = earlier; chunk = runs stack (x ∷ unread); after = later; number_is = number; chunks_are = q }

    abbrev words_then : List ℕ
    words_then = encode n s ++ rest

    stuck_so : (why : Stuck) (x : Unread Span) → Chunks x → move table stack x ≡ sticks why → Stepped n s rest c (stick_words words_then c (status_word (stuck why)))
    stuck_so why x q m = record {
      then = made_at c s [] (is_stuck why stack (x ∷ unread));
      steps = rw (live_to (here x q), step, m);
      are = stick-law n s rest (here x q) (stuck why);
    }

    pushed-so : (e : Entry Span) → Chunks (unmarked e) → move table stack (unmarked e) ≡ reads (e ∷ stack) → Stepped n s rest c (push_words words_then c (mark_word e))
    pushed-so e q m = record {
      then = made_at c s [] (runs (e ∷ stack) unread);
      steps = rw (live_to (here (unmarked e) q), step, m);
      are = push-law n s rest (here (unmarked e) q) e unread refl;
    }

    accepted-so : (v : Span) → Chunks (terminal_at 0 v) → move table stack (terminal_at 0 v) ≡ reads stack → EndAndAxiom table stack → Stepped n s rest c (accept_words words_then c)
    accepted-so v q m w =
        let l : Live s.chunks c = here (terminal_at 0 v) q in
        let z = whole-stack w in
        let last = accepting-last k l z.number z.mark z.above z.below v unread z.is refl in
        record {
          then = made_at c s [] (runs stack []);
          steps = rw (live_to l, step, m, last.no_more);
          are = accept-law n s rest l v (ap (λ (more : List (Unread Span)). terminal_at 0 v ∷ more) last.no_more) last.all_gone (within-slots k);
        }

    last-so : (a b : ℕ) (v : Span) → Chunks (terminal_at b v) → top_terminal stack ≡ some a → relation_at bytes a b ≡ equal → (eqb a 0 && eqb b 0) ≡ true
        → is_whole table stack ≡ true → Stepped n s rest c (accept_words words_then c)
    last-so a b v p top r o w =
        let z : b ≡ 0 = eqb-true b 0 (and_both (eqb a 0) (eqb b 0) o).1 in
        let m : move table stack (terminal_at b v) ≡ reads stack = rw (top, r, o, w) in
        accepted-so v (rw z at p) (rw z at m) (whole_from table stack w)

    reduced-so : {r : ℕ} {handle below : List (Entry Span)} (x : Unread Span) → Chunks x → HandleAbove stack handle below
        → move table stack x
        ≡ replaces r (span_of (map value_of (stack_symbols handle))) (nonterminal_on (left_side (grammar_of words) r) (span_of (map value_of (stack_symbols handle))) ∷ below)
        → Stepped n s rest c (reduce_words words_then c (from_of words_then c + stack_size below) (256 + left_side (grammar_of words) r) r)
    reduced-so {r} {handle} {below} x q h m =
        let l : Live s.chunks c = here x q in
        let v : Span = span_of (map value_of (stack_symbols handle)) in
        record {
          then = made_at c s (record { rule = r; value = v } ∷ []) (runs (nonterminal_on (left_side (grammar_of words) r) v ∷ below) (x ∷ unread));
          steps = rw (live_to l, step, m);
          are = rw (from-word n s rest l) (reduce-law k rest l h x unread refl (left_side (grammar_of words) r) r);
        }

    -- the next symbol, by its word
    terminal-so : {area : List ℕ} (x : Unread Span) (b : ℕ) → word_of (symbol x) ≡ b → b < 256 → ((v : Span) → Chunks (terminal_at b v) → Stepped n s rest c area) → Chunks x
        → Stepped n s rest c area
    terminal-so x b e h use-it q = let z = word-terminal x b e h in use-it z.0 (rw z.1 at q)

    nonterminal-so : {area : List ℕ} (x : Unread Span) (b : ℕ) → t < 256 → SymbolInRange t N (symbol x) → word_of (symbol x) ≡ b → 256 ≤ b
        → ((j : ℕ) (v : Span) → Chunks (nonterminal_at j v) → Stepped n s rest c area) → Chunks x → Stepped n s rest c area
    nonterminal-so x b f i e h use-it q = let z = word-nonterminal t N x b f i e h in use-it z.0 z.1 (rw z.2 at q)

    by_rule : {b : ℕ} {area : List ℕ} (x : Unread Span) → t < 256 → SymbolInRange t N (symbol x) → word_of (symbol x) ≡ b → Chunks x → Leaves words_then c stack b area
        → Stepped n s rest c area
    by_rule {b} x f i e q (rule_1_stuck h top) = nonterminal-so x b f i e h (λ j v p. stuck_so side_by_side (nonterminal_at j v) p (rw top)) q
    by_rule {b} x f i e q (rule_1 h top) = nonterminal-so x b f i e h (λ j v p. pushed-so (nonterminal_on j v) p (rw top)) q
    by_rule {b} x f i e q (rule_2 h top) = terminal-so x b e h (λ v p. pushed-so (terminal_on false b v) p (rw top)) q
    by_rule {b} x f i e q (rule_3 h top r) = terminal-so x b e h (λ v p. stuck_so no_relation (terminal_at b v) p (rw (top, r))) q
    by_rule {b} x f i e q (rule_4_yields h top r) = terminal-so x b e h (λ v p. pushed-so (terminal_on true b v) p (rw (top, r))) q
    by_rule {b} x f i e q (rule_4_equal h top r o) = terminal-so x b e h (λ v p. pushed-so (terminal_on false b v) p (rw (top, r, o))) q
    by_rule {b} x f i e q (rule_4_last {a = a} h top r o w) = terminal-so x b e h (λ v p. last-so a b v p top r o w) q
    by_rule {b} x f i e q (rule_4_stuck h top r o w) = terminal-so x b e h (λ v p. stuck_so not_axiom (terminal_at b v) p (rw (top, r, o, w))) q
    by_rule {b} x f i e q (rule_5 h top r a m) = terminal-so x b e h (λ v p. reduced-so (terminal_at b v) p a (rw (top, r, handle-to a [], append-nil, m))) q
    by_rule {b} x f i e q (rule_5_stuck h top r a m) = terminal-so x b e h (λ v p. stuck_so no_rule (terminal_at b v) p (rw (top, r, handle-to a [], append-nil, m))) q
    by_rule {b} x f i e q (rule_6 h top r z) = terminal-so x b e h (λ v p. pushed-so (terminal_on false b v) p (rw (top, r, marks-none stack [] z))) q

  -- the words that a move leaves are those of the state after it
  pub move-law : {t N n : ℕ} {s : State Span} (k : Kept t N n s) (rest : List ℕ) {c : ℕ} (l : Live s.chunks c) → t < 256 → Runs l.chunk → {area : List ℕ}
      → Leaves (encode n s ++ rest) c l.chunk.stack (slot_word (encode n s ++ rest) (head_of (encode n s ++ rest) c) 0) area → Stepped n s rest c area
  move-law {n = n} {s = s} k rest {c} l f r m =
      by_rule k rest c l.before l.chunk.stack r.unread l.after l.number_is r.next f
      (first-ranged (rw (runs-unread r) at (unread-ranged k l)))
      (sym (next-symbol n s rest l r.next r.unread (runs-unread r)))
      (l.chunks_are ∙ ap (λ (chunk : Chunk Span). l.before ++ (some chunk ∷ l.after)) r.is)
      m

  -- every move is one of these
  pub record SomeWords (area : List ℕ) (c : ℕ) (stack : List (Entry Span)) (b : ℕ) : Type 0 where
    pub left : List ℕ
    pub leaves : Leaves area c stack b left

  pub every-move : (area : List ℕ) (c : ℕ) (stack : List (Entry Span)) (b : ℕ) → SomeWords area c stack b
  every-move area c stack b = go (dec_lt b 256)
    where
      matched : {a : ℕ} → b < 256 → top_terminal stack ≡ some a → relation_at bytes a b ≡ takes → (h : SomeHandle stack) (o : Option ℕ)
          → matching (grammar_of words) (map symbol (stack_symbols h.handle)) ≡ o → SomeWords area c stack b
      matched l top r h none m = record { left = _; leaves = rule_5_stuck l top r h.above m }
      matched l top r h (some j) m = record { left = _; leaves = rule_5 l top r h.above m }

      taking : {a : ℕ} → b < 256 → top_terminal stack ≡ some a → relation_at bytes a b ≡ takes → (m : ℕ) → marks stack ≡ m → SomeWords area c stack b
      taking l top r zero q = record { left = _; leaves = rule_6 l top r q }
      taking l top r (suc m) q =
          let h = marks-some stack (omega arith) in matched l top r h (matching (grammar_of words) (map symbol (stack_symbols h.handle))) refl

      ends : {a : ℕ} → b < 256 → top_terminal stack ≡ some a → relation_at bytes a b ≡ equal → (eqb a 0 && eqb b 0) ≡ true → (w : Bool) → is_whole table stack ≡ w
          → SomeWords area c stack b
      ends l top r o true q = record { left = _; leaves = rule_4_last l top r o q }
      ends l top r o false q = record { left = _; leaves = rule_4_stuck l top r o q }

      equals : {a : ℕ} → b < 256 → top_terminal stack ≡ some a → relation_at bytes a b ≡ equal → (o : Bool) → (eqb a 0 && eqb b 0) ≡ o → SomeWords area c stack b
      equals l top r true q = ends l top r q (is_whole table stack) refl
      equals l top r false q = record { left = _; leaves = rule_4_equal l top r q }

      related : (a : ℕ) → b < 256 → top_terminal stack ≡ some a → (r : Relation) → relation_at bytes a b ≡ r → SomeWords area c stack b
      related a l top blank q = record { left = _; leaves = rule_3 l top q }
      related a l top yields q = record { left = _; leaves = rule_4_yields l top q }
      related a l top equal q = equals l top q (eqb a 0 && eqb b 0) refl
      related a l top takes q = taking l top q (marks stack) refl

      terminal_next : b < 256 → (top : Option ℕ) → top_terminal stack ≡ top → SomeWords area c stack b
      terminal_next l none q = record { left = _; leaves = rule_2 l q }
      terminal_next l (some a) q = related a l q (relation_at bytes a b) refl

      nonterminal-next : 256 ≤ b → (on : Bool) → top_is_nonterminal stack ≡ on → SomeWords area c stack b
      nonterminal-next l true q = record { left = _; leaves = rule_1_stuck l q }
      nonterminal-next l false q = record { left = _; leaves = rule_1 l q }

      go : Dec (b < 256) → SomeWords area c stack b
      go (yes l) = terminal_next l (top_terminal stack) refl
      go (no l) = nonterminal-next (omega arith) (top_is_nonterminal stack) refl
