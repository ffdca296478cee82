-- What a move reads of the words of a state that keeps the rules: each reading can be made, and it tells of the machine's stack what
-- the move asks. The relation of two terminals and the left side of a rule, off the bytes and the words.
-- Document 01, "Moves of a chunk": "next symbol b and topmost stack terminal a"; "a over b at 64a + b"; "the left side as its plain
-- number k".
-- Rests on AroundChunk, KeptAround, HandleSlots, ReadWords, Readings and Matches, on matrix's WordsOfShape and on machine's TableOf.
--
-- Main statements: stack-holds, has-stack; top-ranged, next-ranged; handle-starts, handle-holds, handle-whole, handle-counted,
-- handle-matches; relation-byte, left_word, readable-words.
use Rattle.std.specs.Prelude.{◌≡◌, true, List, [], ◌∷◌, ◌++◌, map, ℕ, ◌+◌, ◌*◌, ◌<◌, ◌≤◌, length, get_or}
use Rattle.std.proofs.Common.{ap, ◌∙◌, arith, length-append}
use Rattle.std.proofs.Math.Option.{some}
use Rattle.laws.specs.Tests.{lt-ltb}
use Rattle.laws.specs.Least.{finds-none}
use Rattle.language.specs.Symbols.{Symbol, word_of}
use Rattle.language.specs.Grammar.{Rule, left_side}
use Rattle.language.specs.Words.{word, entry, grammar_of}
use Rattle.language.proofs.WordsInRange.{rule-at, in-play}
use Rattle.language.specs.Matching.{matching}
use Rattle.language.proofs.Matching.{spelled_by}
use Rattle.language.proofs.CheckHead.{head-finds}
use Rattle.language.proofs.CheckContents.{contents-finds}
use Rattle.language.specs.Trees.{Span}
use Rattle.words.specs.Laid.{headed, laid}
use Rattle.machine.specs.Entries.{Unread, terminal_at, nonterminal_at, Entry, terminal_on, nonterminal_on, symbol, stack_symbols, top_terminal}
use Rattle.machine.specs.States.{State}
use Rattle.machine.specs.TableOf.{relation_from, relation_at}
use Rattle.machine.specs.Allowed.{HandleAbove, Live}
use Rattle.layout.specs.Layout.{stack_size, encode}
use Rattle.shape.specs.Encoded.{chunks-at}
use Rattle.layout.specs.Kept.{AllInRange, in_range, Kept}
use Rattle.shape.specs.Tiling.{ranged-split}
use Rattle.matrix.specs.GrammarShape.{rule_a}
use Rattle.matrix.specs.WordsOfShape.{rule-a-exactly}
use Rattle.moving.specs.MoveWords.{from_of, head_of, slot_at}
use Rattle.moving.specs.ReadWords.{Holds, HasStack, HandleStarts, HandleIs}
use Rattle.moving.specs.StackWords.{stacked}
use Rattle.moving.specs.Readings.{told-ranged, told-upper, handle-below}
use Rattle.moving.specs.MatchWords.{handle_words, match_words, Readable, Whole}
use Rattle.moving.specs.Matches.{readable, whole-stack, handle-count, match-handle}
use Rattle.moving.specs.AroundChunk.{stack_stands, number-within}
use Rattle.moving.specs.KeptAround.{stack-ranged, unread-ranged}
use Rattle.moving.specs.HandleSlots.{handle-splits, upper-stands}

-- ---- of the grammar

-- "one byte each, a over b at 64a + b"
pub relation-byte : (bytes : List ℕ) (a b : ℕ) → a < 64 → b < 64 → relation_at bytes a b ≡ relation_from (get_or bytes (64 * a + b) 0)
relation-byte bytes a b h k = rw (lt-ltb a 64 h, lt-ltb b 64 k, relation_at)

-- the left side of a rule that matching finds is the first word of its body
pub left_word : (words : List ℕ) (w : List Symbol) {r : ℕ} → matching (grammar_of words) w ≡ some r → left_side (grammar_of words) r ≡ word words (entry words r)
left_word words w {r} q = ap (λ (rule : Rule). rule.left) (rule-at words r (in-play words (spelled_by w q)))

-- words that pass 1 to 3 can be searched for a rule
pub readable-words : (words : List ℕ) → rule_a words ≡ true → Readable words
readable-words words e =
    let p = (rule-a-exactly words).0 e in
    readable (laid words (headed words ((finds-none (head-finds words)).1 p.head)) ((finds-none (contents-finds words)).1 p.contents))

-- ---- of a chunk

top_within : {t N : ℕ} (stack : List (Entry Span)) (a : ℕ) → AllInRange t N (stack_symbols stack) → top_terminal stack ≡ some a → a ≤ t
top_within [] a r q = let z : ◌≡◌ {A = ℕ} 0 1 = cc in absurd (omega arith)
top_within (terminal_on mark b v ∷ stack) a r q = go (ranged-split (stack_symbols stack) (terminal_at b v ∷ []) r).1
  where
    go : {t N : ℕ} → AllInRange t N (terminal_at b v ∷ []) → a ≤ t
    go (in_range h r) = let z : b ≡ a = cc in omega arith
top_within (nonterminal_on k v ∷ stack) a r q = top_within stack a (ranged-split (stack_symbols stack) (nonterminal_at k v ∷ []) r).0 q

next-within : {t N : ℕ} {symbols : List (Unread Span)} (x : Unread Span) → AllInRange t N (x ∷ symbols) → word_of (symbol x) < 256 → word_of (symbol x) ≤ t
next-within (terminal_at a v) (in_range h r) l = h
next-within (nonterminal_at k v) (in_range h r) l = absurd (omega arith)

module _ {t N n : ℕ} {s : State Span} (k : Kept t N n s) (rest : List ℕ) {c : ℕ} (l : Live s.chunks c) where
  -- the topmost terminal and the next unread one are the grammar's, or #
  pub top-ranged : (a : ℕ) → top_terminal l.chunk.stack ≡ some a → a ≤ t
  top-ranged a q = top_within l.chunk.stack a (stack-ranged k l) q

  pub next-ranged : (x : Unread Span) (unread : List (Unread Span)) → l.chunk.unread ≡ x ∷ unread → word_of (symbol x) < 256 → word_of (symbol x) ≤ t
  next-ranged x unread q = next-within x (rw q at (unread-ranged k l))

  module _ (few : t < 256) where
    pub stack-holds : Holds (encode n s ++ rest) (from_of (encode n s ++ rest) c) (head_of (encode n s ++ rest) c) l.chunk.stack
    stack-holds = record { stands = stack_stands n s rest l; told = told-ranged few l.chunk.stack (stack-ranged k l) }

    pub has-stack : HasStack (encode n s ++ rest) c
    has-stack = record { chunk = rw (chunks-at n s rest) (number-within n s rest l); stacked = stacked l.chunk.stack stack-holds }

    -- a handle, on its slots
    module _ {handle below : List (Entry Span)} (h : HandleAbove l.chunk.stack handle below) where
      pub handle-starts : (at : ℕ) → HandleStarts (encode n s ++ rest) (from_of (encode n s ++ rest) c) (head_of (encode n s ++ rest) c) at
          → at ≡ from_of (encode n s ++ rest) c + stack_size below
      handle-starts at f = f.found l.chunk.stack stack-holds ∙ ap (λ (b : List (Entry Span)). from_of (encode n s ++ rest) c + stack_size b) (handle-below h)

      pub handle-holds : Holds (encode n s ++ rest) (from_of (encode n s ++ rest) c + stack_size below) (head_of (encode n s ++ rest) c) handle
      handle-holds = record {
        stands = upper-stands handle below (slot_at (encode n s ++ rest) (from_of (encode n s ++ rest) c + stack_size below)) (omega arith)
            (rw (handle-splits h) at (stack_stands n s rest l));
        told = told-upper handle below (rw (handle-splits h) at (told-ranged few l.chunk.stack (stack-ranged k l)));
      }

      pub handle-whole : Whole (encode n s ++ rest) (head_of (encode n s ++ rest) c) (from_of (encode n s ++ rest) c + stack_size below)
      handle-whole = whole-stack (encode n s ++ rest) (from_of (encode n s ++ rest) c + stack_size below) (head_of (encode n s ++ rest) c) handle handle-holds.stands

      -- the symbols counted are those of the handle's words
      pub handle-counted : (start count : ℕ) → HandleIs (encode n s ++ rest) (from_of (encode n s ++ rest) c) (head_of (encode n s ++ rest) c) start count
          → count ≡ length (handle_words (encode n s ++ rest) (from_of (encode n s ++ rest) c + stack_size below) (head_of (encode n s ++ rest) c))
      handle-counted start count f =
          let e : count + length below ≡ length (handle ++ below) =
          rw (← handle-splits h, ← handle-below h) (f.counted l.chunk.stack stack-holds) in
          omega (
            arith,
            e,
            length-append handle below,
            handle-count (encode n s ++ rest) (from_of (encode n s ++ rest) c + stack_size below) (head_of (encode n s ++ rest) c) handle handle-holds.stands,
          )

      -- the rule found on the words is the machine's
      pub handle-matches : (words : List ℕ)
          → match_words words (handle_words (encode n s ++ rest) (from_of (encode n s ++ rest) c + stack_size below) (head_of (encode n s ++ rest) c))
          ≡ matching (grammar_of words) (map symbol (stack_symbols handle))
      handle-matches words = match-handle words (encode n s ++ rest) (from_of (encode n s ++ rest) c + stack_size below) (head_of (encode n s ++ rest) c) handle handle-holds
