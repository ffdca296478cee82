-- An area that holds a state, as one move, one join and a run of moves find it and leave it: what each function that writes or reads
-- asks of the words, from the state; and that the words afterwards hold the state after the call.
-- Document 01, "Moves of a chunk"; "Any other state that keeps the shape rules gets the move named above."
-- Rests on MoveLaw, JoinLaw, ReadLaw and LiveWords, and on shape's InShape and Safe.
--
-- Main definitions: Held, Movable, Joining.
-- Main statements: held-in-shape; live-held, held-live, runs-held, rests-held, next-held; can-push, can-stick, row-there, can-accept, can-reduce,
-- can-read, can-match, below-held; stack-held, marks-held, top_small, next_small, starts-held, count_held, rule-held; moves_so, held-stepped, live-stepped;
-- can-join, joins_so, joined_words, held-joined.
use Rattle.std.specs.Prelude.{◌≡◌, true, List, ◌++◌, map, ℕ, ◌+◌, ◌<◌, ◌≤◌, length, get_or, drop}
use Rattle.std.proofs.Common.{sym, ap, subst, ◌∙◌, arith}
use Rattle.std.proofs.Math.Option.{some}
use Rattle.language.specs.Words.{count_t, count_n, grammar_of}
use Rattle.language.specs.Matching.{matching}
use Rattle.language.specs.Trees.{Span}
use Rattle.machine.specs.Entries.{Entry, symbol, stack_symbols, top_terminal}
use Rattle.machine.specs.Chunks.{at_rest}
use Rattle.machine.specs.States.{State, became, join}
use Rattle.machine.specs.TableOf.{table_of}
use Rattle.machine.specs.Schedules.{by_step, by_join}
use Rattle.machine.specs.Allowed.{HandleAbove, Live, Steps, NextLive}
use Rattle.machine.proofs.AllowedExactly.{step-exactly}
use Rattle.layout.specs.Layout.{need, stack_size, marks, encode, decode, table_at, row_word, slot_word}
use Rattle.layout.specs.Kept.{Kept}
use Rattle.matrix.specs.GrammarShape.{grammar_in_shape}
use Rattle.area.specs.Shape.{in_shape}
use Rattle.matrix.specs.WordsOfShape.{terminals-fit}
use Rattle.matrix.specs.EndMarkOfShape.{grammar-in-shape}
use Rattle.shape.specs.InShape.{in-shape-parts, in-shape-holds}
use Rattle.shape.specs.Safe.{safe-turned}
use Rattle.moving.specs.MoveWords.{from_of, head_of, end_of, marks_of, join_words, Pushable, Stickable, Acceptable, Joinable, Reducible}
use Rattle.moving.specs.ReadWords.{Holds, Stacked, HasStack, HandleStarts, HandleIs, live_after}
use Rattle.moving.specs.MatchWords.{handle_words, match_words, Whole}
use Rattle.moving.specs.AroundChunk.{from-word, marks-word, next-symbol}
use Rattle.moving.specs.PushLaw.{push-ready}
use Rattle.moving.specs.StickLaw.{stick-ready}
use Rattle.moving.specs.AcceptLaw.{accept-ready}
use Rattle.moving.specs.ReduceLaw.{reduce-ready}
use Rattle.moving.specs.LiveWords.{live-number, number-live, NextIs, next-status}
use Rattle.moving.specs.HandleSlots.{handle-splits}
use Rattle.moving.specs.StackTops.{below-stacked}
use Rattle.moving.specs.ReadLaw.{stack-holds, has-stack, top-ranged, next-ranged, handle-starts, handle-whole, handle-counted, handle-matches}
use Rattle.moving.specs.JoinLaw.{next_number, after_join, join-becomes, join-law, join-ready}
use Rattle.moving.specs.MoveLaw.{Runs, runs-unread, runs-words, rests-words, Leaves, Stepped, move-law}

-- an area that holds a state which keeps the rules, with the grammar words and the matrix that its moves read
pub record Held (words bytes area : List ℕ) : Type 0 where
  pub tokens : ℕ
  pub state : State Span
  pub rest : List ℕ
  pub area_is : area ≡ encode tokens state ++ rest
  pub grammar : grammar_in_shape words bytes ≡ true
  pub kept : Kept (count_t words) (count_n words) tokens state

-- a lent area that keeps the shape rules holds the state that it decodes to
pub held-in-shape : (words bytes area : List ℕ) → get_or area 2 0 < 65536 → in_shape words bytes area ≡ true → Held words bytes area
held-in-shape words bytes area low h =
    let r = in-shape-holds words bytes area low h in
    record {
      tokens = get_or area 0 0;
      state = decode area;
      rest = drop (need (get_or area 0 0) (get_or area 1 0)) area;
      area_is = r.is;
      grammar = (in-shape-parts words bytes area h).0;
      kept = r.kept;
    }

module _ {words bytes area : List ℕ} (h : Held words bytes area) where
  -- a grammar has at most 63 terminals
  pub terminals-small : count_t words ≤ 63
  terminals-small = (terminals-fit words (grammar-in-shape words bytes h.grammar).0).1

  -- the words after a step hold the state after it, and chunk c is live there
  pub held-stepped : {c : ℕ} {area' : List ℕ} → Stepped words bytes h.tokens h.state h.rest c area' → Held words bytes area'
  held-stepped {c} r = record {
    tokens = h.tokens;
    state = r.then;
    rest = h.rest;
    area_is = r.are;
    grammar = h.grammar;
    kept = safe-turned words bytes h.grammar h.kept (by_step c r.steps);
  }

  pub live-stepped : {c : ℕ} {area' : List ℕ} (r : Stepped words bytes h.tokens h.state h.rest c area') → Live r.then.chunks c
  live-stepped {c} r =
      let m : Steps (table_of words bytes) c h.state r.then = (step-exactly (table_of words bytes) c h.state r.then).1 r.steps in
      record { before = m.live.before; chunk = m.chunk'; after = m.live.after; number_is = m.live.number_is; chunks_are = m.chunks_then }

-- ---- which chunks are live, and which are at rest

module _ {words bytes area : List ℕ} (h : Held words bytes area) where
  pub live-held : {c : ℕ} → c < get_or area 1 0 → 0 < row_word area c 0 → Live h.state.chunks c
  live-held {c} = subst (λ a. c < get_or a 1 0 → 0 < row_word a c 0 → Live h.state.chunks c) (sym h.area_is) (live-number h.tokens h.state h.rest)

  pub held-live : {c : ℕ} → Live h.state.chunks c → (c < get_or area 1 0) × (0 < row_word area c 0)
  held-live {c} l = subst (λ a. (c < get_or a 1 0) × (0 < row_word a c 0)) (sym h.area_is) (number-live h.tokens h.state h.rest l)

  module _ {c : ℕ} (l : Live h.state.chunks c) where
    pub runs-held : row_word area c 0 ≡ 1 → head_of area c < end_of area c → Runs l.chunk
    runs-held = subst (λ a. row_word a c 0 ≡ 1 → head_of a c < end_of a c → Runs l.chunk) (sym h.area_is) (runs-words h.tokens h.state h.rest l)

    pub rests-held : (row_word area c 0 ≡ 1 → end_of area c ≤ head_of area c) → at_rest l.chunk ≡ true
    rests-held =
        subst (λ a. (row_word a c 0 ≡ 1 → end_of a c ≤ head_of a c) → at_rest l.chunk ≡ true) (sym h.area_is) (rests-words h.tokens h.state h.rest l)

    -- the least live number after c
    pub next-held : NextIs l.after (c + 1) (live_after area c)
    next-held = subst (λ a. NextIs l.after (c + 1) (live_after a c)) (sym h.area_is) (next-status h.tokens h.state h.rest l)

-- ---- one move

-- .. of which chunk c is live and not at rest
pub record Movable (words bytes area : List ℕ) (c : ℕ) : Type 0 where
  pub held : Held words bytes area
  pub live : Live held.state.chunks c
  pub runs : Runs live.chunk

module _ {words bytes area : List ℕ} {c : ℕ} (m : Movable words bytes area c) where
  abbrev pub stack_of : List (Entry Span)
  stack_of = m.live.chunk.stack

  few : count_t words < 256
  few = omega (arith, terminals-small m.held)

  abbrev words_of : List ℕ
  words_of = encode m.held.tokens m.held.state ++ m.held.rest

  -- what is said of the state's words is said of the area
  on-area : (P : List ℕ → Type 0) → P words_of → P area
  on-area P p = subst P (sym m.held.area_is) p

  -- what each function that writes asks
  pub can-push : (mark : ℕ) → mark ≤ 1 → Pushable area c mark
  can-push mark small =
      on-area (λ a. Pushable a c mark) (push-ready m.held.kept m.held.rest m.live m.runs.next m.runs.unread (runs-unread m.runs) mark small)

  pub can-stick : Stickable area c
  can-stick = on-area (λ a. Stickable a c) (stick-ready m.held.kept m.held.rest m.live)

  -- its row of the table is there
  pub row-there : (k : ℕ) → k < 5 → table_at c k < length area
  row-there k l = omega (arith, can-stick.chunk, can-stick.room)

  pub can-accept : Acceptable area c
  can-accept =
      on-area (λ a. Acceptable a c) (accept-ready m.held.kept m.held.rest m.live m.runs.next m.runs.unread (runs-unread m.runs))

  -- what is read of the stack: it stands there, how many marks it has, and its topmost terminal and the next symbol fit the matrix
  pub can-read : HasStack area c
  can-read = on-area (λ a. HasStack a c) (has-stack m.held.kept m.held.rest m.live few)

  pub stack-held : Holds area (from_of area c) (head_of area c) stack_of
  stack-held = on-area (λ a. Holds a (from_of a c) (head_of a c) stack_of) (stack-holds m.held.kept m.held.rest m.live few)

  pub marks-held : marks_of area c ≡ marks stack_of
  marks-held = on-area (λ a. marks_of a c ≡ marks stack_of) (marks-word m.held.tokens m.held.state m.held.rest m.live)

  pub top_small : (a : ℕ) → top_terminal stack_of ≡ some a → a < 64
  top_small a q = omega (arith, top-ranged m.held.kept m.held.rest m.live a q, terminals-small m.held)

  pub next_small : slot_word area (head_of area c) 0 < 256 → slot_word area (head_of area c) 0 < 64
  next_small =
      on-area (λ a. slot_word a (head_of a c) 0 < 256 → slot_word a (head_of a c) 0 < 64)
      (rw (next-symbol m.held.tokens m.held.state m.held.rest m.live m.runs.next m.runs.unread (runs-unread m.runs))
      (λ b. omega (arith, next-ranged m.held.kept m.held.rest m.live m.runs.next m.runs.unread (runs-unread m.runs) b, terminals-small m.held)))

  -- its handle: where it starts, that it can be matched and reduced, how many symbols it has, and the rule
  module _ {handle below : List (Entry Span)} (h : HandleAbove stack_of handle below) where
    pub can-reduce : Reducible area c (from_of area c + stack_size below)
    can-reduce = on-area (λ a. Reducible a c (from_of a c + stack_size below))
        (rw (from-word m.held.tokens m.held.state m.held.rest m.live)
        (reduce-ready m.held.kept m.held.rest m.live h m.runs.next m.runs.unread (runs-unread m.runs)))

    -- what lies under it
    pub below-held : Stacked area (from_of area c) (from_of area c + stack_size below)
    below-held =
        below-stacked handle below (subst (λ (stack : List (Entry Span)). Holds area (from_of area c) (head_of area c) stack) (handle-splits h) stack-held)

    pub starts-held : (at : ℕ) → HandleStarts area (from_of area c) (head_of area c) at → at ≡ from_of area c + stack_size below
    starts-held =
        on-area (λ a. (at : ℕ) → HandleStarts a (from_of a c) (head_of a c) at → at ≡ from_of a c + stack_size below)
        (handle-starts m.held.kept m.held.rest m.live few h)

    pub can-match : Whole area (head_of area c) (from_of area c + stack_size below)
    can-match = on-area (λ a. Whole a (head_of a c) (from_of a c + stack_size below)) (handle-whole m.held.kept m.held.rest m.live few h)

    pub count_held : (start count : ℕ) → HandleIs area (from_of area c) (head_of area c) start count
        → count ≡ length (handle_words area (from_of area c + stack_size below) (head_of area c))
    count_held =
        on-area (λ a. (start count : ℕ) → HandleIs a (from_of a c) (head_of a c) start count → count ≡ length (handle_words a (from_of a c + stack_size below) (head_of a c)))
        (handle-counted m.held.kept m.held.rest m.live few h)

    pub rule-held : match_words words (handle_words area (from_of area c + stack_size below) (head_of area c)) ≡ matching (grammar_of words) (map symbol (stack_symbols handle))
    rule-held =
        on-area (λ a. match_words words (handle_words a (from_of a c + stack_size below) (head_of a c)) ≡ matching (grammar_of words) (map symbol (stack_symbols handle)))
        (handle-matches m.held.kept m.held.rest m.live few h words)

  -- the words that a move leaves are those of the state after it
  pub moves_so : {area' : List ℕ} → Leaves words bytes area c stack_of (slot_word area (head_of area c) 0) area'
      → Stepped words bytes m.held.tokens m.held.state m.held.rest c area'
  moves_so {area'} =
      on-area (λ a. Leaves words bytes a c stack_of (slot_word a (head_of a c) 0) area' → Stepped words bytes m.held.tokens m.held.state m.held.rest c area')
      (move-law words bytes m.held.kept m.held.rest m.live few m.runs)

-- ---- a join

-- .. of which chunk c is live and at rest, and so is d, the next live one
pub record Joining (words bytes area : List ℕ) (c d : ℕ) : Type 0 where
  pub held : Held words bytes area
  pub live : Live held.state.chunks c
  pub next : NextLive live.after
  pub number_is : d ≡ next_number held.state live next
  pub left_rests : at_rest live.chunk ≡ true
  pub right_rests : at_rest next.chunk ≡ true

module _ {words bytes area : List ℕ} {c d : ℕ} (m : Joining words bytes area c d) where
  pub can-join : Joinable area c d
  can-join =
      subst (λ a. Joinable a c d) (sym m.held.area_is)
      (subst (λ j. Joinable (encode m.held.tokens m.held.state ++ m.held.rest) c j) (sym m.number_is) (join-ready m.held.kept m.held.rest m.live m.next))

  -- the words that the join leaves are those of the state after it
  pub joins_so : join c m.held.state ≡ became (after_join m.held.state m.live m.next)
  joins_so = join-becomes m.held.state m.live m.next m.left_rests m.right_rests

  pub joined_words : join_words area c d ≡ encode m.held.tokens (after_join m.held.state m.live m.next) ++ m.held.rest
  joined_words =
      ap (λ (a : List ℕ). join_words a c d) m.held.area_is
      ∙ ap (λ (j : ℕ). join_words (encode m.held.tokens m.held.state ++ m.held.rest) c j) m.number_is
      ∙ join-law m.held.state m.live m.next m.held.tokens m.held.rest

  pub held-joined : Held words bytes (join_words area c d)
  held-joined = record {
    tokens = m.held.tokens;
    state = after_join m.held.state m.live m.next;
    rest = m.held.rest;
    area_is = joined_words;
    grammar = m.held.grammar;
    kept = safe-turned words bytes m.held.grammar m.held.kept (by_join c joins_so);
  }
