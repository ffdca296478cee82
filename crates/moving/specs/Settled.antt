-- The area as a run would leave it if it ended now: the lent words with what is at hand put in. A move stores what it changes of the slots and of the
-- reductions, and keeps the chunk's row of the table and the counts at hand; these are stored when the run ends.
-- docs/AREA.md, "The chunk table".
-- Rests on AtHand, Hands and SameSlots.
--
-- Main definitions: settled, Holding (what is kept of the hand), Settles (the same, word by word).
-- Main statements: settles, settled_is (there is one such area), holding and settled-now (it is the area, before the first move), settles-slots; settled-counted,
-- settled-pushed, settled-stuck, settled-accepted, settled-reduced (what each move leaves).
use Rattle.std.specs.Prelude.{◌≡◌, refl, List, get_or, set}
use Rattle.std.proofs.Math.Path.{sym}
use Rattle.std.proofs.Common.{ap, ◌∙◌, arith, ext_get_or}
use Prim.Native.Nat.{ℕ, zero, suc, ◌+◌, ◌*◌, ◌-◌, ◌/◌, ◌%◌, ◌<◌, ◌≤◌}
use Rattle.std.proofs.Math.Decide.{dec_lt}
use Rattle.std.proofs.Math.ListN.{length, length-set}
use Rattle.std.proofs.Math.Seq.{get_or-set_other, get_or-set_same}
use Rattle.laws.specs.Tests.{le-ltb}
use Rattle.layout.specs.Layout.{table_at, row_word, slot_word, slots_at, made_at_word, moves_in}
use Rattle.moving.specs.declared.Hand.{Hand}
use Rattle.moving.specs.AtHand.{AtHand}
use Rattle.moving.specs.MoveWords.{slot_at, tick_words, put_words, ended_words, cleared_words, over_words, entry_words, noted_words, made_words}
use Rattle.moving.specs.MoveWords.{Laid, Pushable, Stickable, Acceptable, Reducible}
use Rattle.moving.specs.ReadWords.{last_word, TopIs, terminal_of, top_after}
use Rattle.moving.specs.StackTops.{top_kept, top-laid}
use Rattle.moving.specs.SameSlots.{SameSlots, slot_same, laid_same, set_same, cleared-same, over-same}
use Rattle.moving.specs.Ready.{cleared-length, cleared-before, over-before, over-length, over_first, over_last}
use Rattle.moving.specs.Hands.{hand-ticks, hand-pushed, hand-stuck, hand-accepted, hand-reduced, front-over, hand-topped}

-- the hand's words put in: the counts of moves and of reductions, and chunk c's row of the table
unfoldable pub settled : List ℕ → ℕ → Hand → List ℕ
settled area c h =
    set (set (set (set (set (set (set (set area 2 (h.moves % 65536)) 3 (h.moves / 65536)) 4 h.reductions)
    (table_at c 0) h.status) (table_at c 1) h.from) (table_at c 2) h.head) (table_at c 3) h.end) (table_at c 4) h.marks

-- chunk c is one of the table, which is there; the slots start where the hand says; the counts are words
pub record Holding (area : List ℕ) (c : ℕ) (h : Hand) : Type 0 where
  pub chunk : c < get_or area 1 0
  pub room : slots_at area ≤ length area
  pub base : h.base ≡ slots_at area
  pub marks : h.marks < 65536
  pub reductions : h.reductions < 65536

-- the topmost terminal at hand is that of the stack; where the stack has none, the word at hand is 256, as `top_word` says
abbrev pub Topped : List ℕ → Hand → Type 0
Topped area h = TopIs area h.from h.head (terminal_of h.top) × (h.top ≤ 256)

-- a word that is not at hand
abbrev pub Apart : ℕ → ℕ → Type 0
Apart c j = (1 < j → j < 5 → ⊥) × (table_at c 0 ≤ j → j < table_at c 5 → ⊥)

-- `whole` has the hand's words, and every other as the area has it
pub record Settles (area : List ℕ) (c : ℕ) (h : Hand) (whole : List ℕ) : Type 0 where
  pub long : length whole ≡ length area
  pub low : get_or whole 2 0 < 65536
  pub hand : AtHand whole c h
  pub others : (j : ℕ) → Apart c j → get_or whole j 0 ≡ get_or area j 0

module _ {area : List ℕ} {c : ℕ} {h : Hand} (k : Holding area c h) where
  abbrev counts : List ℕ
  counts = set (set (set area 2 (h.moves % 65536)) 3 (h.moves / 65536)) 4 h.reductions

  abbrev row0 : List ℕ
  row0 = set counts (table_at c 0) h.status

  abbrev row1 : List ℕ
  row1 = set row0 (table_at c 1) h.from

  abbrev row2 : List ℕ
  row2 = set row1 (table_at c 2) h.head

  abbrev row3 : List ℕ
  row3 = set row2 (table_at c 3) h.end

  abbrev row4 : List ℕ
  row4 = set row3 (table_at c 4) h.marks

  -- a word outside the row
  off : (j : ℕ) → (table_at c 0 ≤ j → j < table_at c 5 → ⊥) → get_or row4 j 0 ≡ get_or counts j 0
  off j n =
      get_or-set_other row3 (table_at c 4) j h.marks 0 (λ e. n (omega arith) (omega arith))
      ∙ get_or-set_other row2 (table_at c 3) j h.end 0 (λ e. n (omega arith) (omega arith))
      ∙ get_or-set_other row1 (table_at c 2) j h.head 0 (λ e. n (omega arith) (omega arith))
      ∙ get_or-set_other row0 (table_at c 1) j h.from 0 (λ e. n (omega arith) (omega arith))
      ∙ get_or-set_other counts (table_at c 0) j h.status 0 (λ e. n (omega arith) (omega arith))

  front : (j : ℕ) → j < 5 → get_or row4 j 0 ≡ get_or counts j 0
  front j l = off j (λ p q. omega arith)

  long-row : table_at c 5 ≤ length area
  long-row = omega (arith, k.chunk, k.room)

  low-is : get_or row4 2 0 ≡ h.moves % 65536
  low-is =
      front 2 (omega arith)
      ∙ get_or-set_other (set (set area 2 (h.moves % 65536)) 3 (h.moves / 65536)) 4 2 h.reductions 0 (omega arith)
      ∙ get_or-set_other (set area 2 (h.moves % 65536)) 3 2 (h.moves / 65536) 0 (omega arith)
      ∙ get_or-set_same area 2 (h.moves % 65536) 0 (omega (arith, long-row))

  high_is : get_or row4 3 0 ≡ h.moves / 65536
  high_is =
      front 3 (omega arith)
      ∙ get_or-set_other (set (set area 2 (h.moves % 65536)) 3 (h.moves / 65536)) 4 3 h.reductions 0 (omega arith)
      ∙ get_or-set_same (set area 2 (h.moves % 65536)) 3 (h.moves / 65536) 0 (simp length-set (omega (arith, long-row)))

  made-is : get_or row4 4 0 ≡ h.reductions
  made-is =
      front 4 (omega arith)
      ∙ get_or-set_same (set (set area 2 (h.moves % 65536)) 3 (h.moves / 65536)) 4 h.reductions 0 (simp length-set (omega (arith, long-row)))

  apart-is : (j : ℕ) → Apart c j → get_or row4 j 0 ≡ get_or area j 0
  apart-is j n =
      off j n.1
      ∙ get_or-set_other (set (set area 2 (h.moves % 65536)) 3 (h.moves / 65536)) 4 j h.reductions 0 (λ e. n.0 (omega arith) (omega arith))
      ∙ get_or-set_other (set area 2 (h.moves % 65536)) 3 j (h.moves / 65536) 0 (λ e. n.0 (omega arith) (omega arith))
      ∙ get_or-set_other area 2 j (h.moves % 65536) 0 (λ e. n.0 (omega arith) (omega arith))

  pub settles : Settles area c h (settled area c h)
  unfolding settled
  settles = record {
    long = simp length-set;
    low = rw low-is (omega arith);
    hand = record {
      status = sym (get_or-set_other row3 (table_at c 4) (table_at c 0) h.marks 0 (omega arith)
          ∙ get_or-set_other row2 (table_at c 3) (table_at c 0) h.end 0 (omega arith)
          ∙ get_or-set_other row1 (table_at c 2) (table_at c 0) h.head 0 (omega arith)
          ∙ get_or-set_other row0 (table_at c 1) (table_at c 0) h.from 0 (omega arith)
          ∙ get_or-set_same counts (table_at c 0) h.status 0 (simp length-set (omega (arith, long-row))));
      from = sym (get_or-set_other row3 (table_at c 4) (table_at c 1) h.marks 0 (omega arith)
          ∙ get_or-set_other row2 (table_at c 3) (table_at c 1) h.end 0 (omega arith)
          ∙ get_or-set_other row1 (table_at c 2) (table_at c 1) h.head 0 (omega arith)
          ∙ get_or-set_same row0 (table_at c 1) h.from 0 (simp length-set (omega (arith, long-row))));
      head = sym (get_or-set_other row3 (table_at c 4) (table_at c 2) h.marks 0 (omega arith)
          ∙ get_or-set_other row2 (table_at c 3) (table_at c 2) h.end 0 (omega arith)
          ∙ get_or-set_same row1 (table_at c 2) h.head 0 (simp length-set (omega (arith, long-row))));
      end = sym (get_or-set_other row3 (table_at c 4) (table_at c 3) h.marks 0 (omega arith)
          ∙ get_or-set_same row2 (table_at c 3) h.end 0 (simp length-set (omega (arith, long-row))));
      marks = sym (get_or-set_same row3 (table_at c 4) h.marks 0 (simp length-set (omega (arith, long-row))));
      reductions = sym made-is;
      moves = rw (low-is, high_is) (omega arith);
      base = rw (apart-is 1 ((λ p q. omega arith), (λ p q. omega arith))) k.base;
    };
    others = apart-is;
  }

-- ---- there is one such area

module _ {area : List ℕ} {c : ℕ} {h : Hand} {v w : List ℕ} (s : Settles area c h v) (t : Settles area c h w) where
  front_same : (j : ℕ) → 1 < j → j < 5 → get_or v j 0 ≡ get_or w j 0
  front_same zero l r = absurd (omega arith)
  front_same (suc zero) l r = absurd (omega arith)
  front_same (suc (suc zero)) l r = omega (arith, s.hand.moves, t.hand.moves, s.low, t.low)
  front_same (suc (suc (suc zero))) l r = omega (arith, s.hand.moves, t.hand.moves, s.low, t.low)
  front_same (suc (suc (suc (suc zero)))) l r = sym s.hand.reductions ∙ t.hand.reductions
  front_same (suc (suc (suc (suc (suc j))))) l r = absurd (omega arith)

  row_same : (i : ℕ) → i < 5 → row_word v c i ≡ row_word w c i
  row_same zero l = sym s.hand.status ∙ t.hand.status
  row_same (suc zero) l = sym s.hand.from ∙ t.hand.from
  row_same (suc (suc zero)) l = sym s.hand.head ∙ t.hand.head
  row_same (suc (suc (suc zero))) l = sym s.hand.end ∙ t.hand.end
  row_same (suc (suc (suc (suc zero)))) l = sym s.hand.marks ∙ t.hand.marks
  row_same (suc (suc (suc (suc (suc i))))) l = absurd (omega arith)

  other-same : (j : ℕ) → Apart c j → get_or v j 0 ≡ get_or w j 0
  other-same j n = s.others j n ∙ sym (t.others j n)

  word_same : (j : ℕ) → Dec (j < 2) → Dec (j < 5) → Dec (j < table_at c 0) → Dec (j < table_at c 5) → get_or v j 0 ≡ get_or w j 0
  word_same j (yes a) b d e = other-same j ((λ p q. omega arith), (λ p q. omega arith))
  word_same j (no a) (yes b) d e = front_same j (omega arith) b
  word_same j (no a) (no b) (yes d) e = other-same j ((λ p q. omega arith), (λ p q. omega arith))
  word_same j (no a) (no b) (no d) (yes e) =
      let q : j ≡ table_at c (j - table_at c 0) = omega arith in
      ap (λ (i : ℕ). get_or v i 0) q ∙ row_same (j - table_at c 0) (omega arith) ∙ ap (λ (i : ℕ). get_or w i 0) (sym q)
  word_same j (no a) (no b) (no d) (no e) = other-same j ((λ p q. omega arith), (λ p q. omega arith))

  settles-once : v ≡ w
  settles-once = ext_get_or 0 v w (s.long ∙ sym t.long) (λ j l. word_same j (dec_lt j 2) (dec_lt j 5) (dec_lt j (table_at c 0)) (dec_lt j (table_at c 5)))

-- what an area holds is at hand
pub holding : {area : List ℕ} {c : ℕ} {h : Hand} → AtHand area c h → c < get_or area 1 0 → slots_at area ≤ length area → row_word area c 4 < 65536 → get_or area 4 0 < 65536
    → Holding area c h
holding a chunk room marks made = record { chunk = chunk; room = room; base = a.base; marks = omega (arith, a.marks, marks); reductions = omega (arith, a.reductions, made) }

module _ {area : List ℕ} {c : ℕ} {h : Hand} (k : Holding area c h) where
  pub settled_is : {whole : List ℕ} → Settles area c h whole → settled area c h ≡ whole
  settled_is s = settles-once (settles k) s

  -- before the first move
  pub settled-now : get_or area 2 0 < 65536 → AtHand area c h → settled area c h ≡ area
  settled-now low a = settled_is (record { long = refl; low = low; hand = a; others = λ j n. refl })

  far : (j : ℕ) → slots_at area ≤ j → Apart c j
  far j l = ((λ p q. omega (arith, k.chunk)), (λ p q. omega (arith, k.chunk)))

  -- its slots are the area's
  pub settles-slots : {whole : List ℕ} → Settles area c h whole → SameSlots whole area
  settles-slots {whole} s =
      let one : get_or whole 1 0 ≡ get_or area 1 0 = s.others 1 ((λ p q. omega arith), (λ p q. omega arith)) in
      record { long = s.long; chunks = one; words = λ j l. s.others j (far j (omega (arith, one))) }

-- ---- what each move leaves

module _ {area : List ℕ} {c : ℕ} {h : Hand} (k : Holding area c h) where
  abbrev whole : List ℕ
  whole = settled area c h

  abbrev same : SameSlots whole area
  same = settles-slots k (settles k)

  -- the move counted
  abbrev counted : Hand
  counted = record {
    status = h.status;
    from = h.from;
    head = h.head;
    end = h.end;
    marks = h.marks;
    reductions = h.reductions;
    moves = h.moves + 1;
    base = h.base;
    top = h.top;
  }

  held-counted : Holding area c counted
  held-counted = record { chunk = k.chunk; room = k.room; base = k.base; marks = k.marks; reductions = k.reductions }

  pub settled-counted : (settled area c counted ≡ tick_words whole) × Holding area c counted
  unfolding tick_words
  settled-counted =
      let s = settles k in
      let low : ℕ = (moves_in whole + 1) % 65536 in
      let high : ℕ = (moves_in whole + 1) / 65536 in
      let long : 5 ≤ length whole = omega (arith, s.long, k.room) in (
        settled_is held-counted (record {
          long = simp length-set s.long;
          low = rw (get_or-set_other (set whole 2 low) 3 2 high 0 (omega arith), get_or-set_same whole 2 low 0 (omega arith)) (omega arith);
          hand = hand-ticks s.hand long;
          others = λ j n.
              get_or-set_other (set whole 2 low) 3 j high 0 (λ e. n.0 (omega arith) (omega arith))
              ∙ get_or-set_other whole 2 j low 0 (λ e. n.0 (omega arith) (omega arith)) ∙ s.others j n;
        }),
        held-counted,
      )

  -- a chunk stuck
  module _ (status : ℕ) (p : Stickable whole c) where
    abbrev stopped : Hand
    stopped = record { status = status; from = h.from; head = h.head; end = h.end; marks = h.marks; reductions = h.reductions; moves = h.moves; base = h.base; top = h.top }

    held-stopped : Holding area c stopped
    held-stopped = record { chunk = k.chunk; room = k.room; base = k.base; marks = k.marks; reductions = k.reductions }

    pub settled-stuck : (settled area c stopped ≡ set whole (table_at c 0) status) × Holding area c stopped
    settled-stuck =
        let s = settles k in (
          settled_is held-stopped (record {
            long = simp length-set s.long;
            low = rw (get_or-set_other whole (table_at c 0) 2 status 0 (omega arith)) s.low;
            hand = hand-stuck whole c h status (p, s.hand);
            others = λ j n. get_or-set_other whole (table_at c 0) j status 0 (λ e. n.1 (omega arith) (omega arith)) ∙ s.others j n;
          }),
          held-stopped,
        )

  -- a symbol put on
  module _ (mark : ℕ) (p : Pushable whole c mark) where
    abbrev headed : ℕ
    headed = h.head + slot_word area h.head 2

    abbrev pushed : Hand
    pushed = record {
      status = h.status;
      from = h.from;
      head = headed;
      end = h.end;
      marks = h.marks + mark;
      reductions = h.reductions;
      moves = h.moves;
      base = h.base;
      top = top_after (slot_word area h.head 0) h.top;
    }

    abbrev at : ℕ
    at = slot_at area h.head + 1

    -- the slot is there, and what is stored are words
    pub push-fits : (slot_at area h.head + 4 ≤ length area) × (headed < 65536) × (h.marks + mark < 65536)
    push-fits =
        let s = settles k in (
          omega (arith, p.slot, same.chunks, same.long, s.hand.head),
          omega (arith, p.head, slot_same same h.head 2, ap (λ (i : ℕ). slot_word whole i 2) s.hand.head, s.hand.head),
          omega (arith, p.marks, s.hand.marks),
        )

    -- the block that is put on ends in its size
    block-ends : (h.from ≤ h.head) × (h.head < headed) × (get_or area (slot_at area headed - 1) 0 ≡ headed - h.head)
    block-ends =
        let a = (settles k).hand in
        let long : slot_word whole h.head 2 ≡ slot_word area h.head 2 = slot_same same h.head 2 in
        let some = rw (← a.head, long) at p.some in
        let last = rw (← a.head, long) at p.last in
        let there : get_or whole (slot_at whole headed - 1) 0 ≡ get_or area (slot_at area headed - 1) 0 =
        same.words (slot_at whole headed - 1) (omega (arith, some)) ∙ rw same.chunks in
        (omega (arith, p.low, a.from, a.head), omega (arith, some), omega (arith, there, last))

    pub top-pushed : Topped area h → Topped (set area at mark) pushed
    top-pushed t =
        let e = block-ends in
        let one : get_or (set area at mark) 1 0 ≡ get_or area 1 0 = get_or-set_other area at 1 mark 0 (omega arith) in
        let long : length area ≡ length (set area at mark) = simp length-set in
        let last : last_word (set area at mark) headed ≡ headed - h.head
        = rw one (get_or-set_other area at (slot_at area headed - 1) mark 0 (omega (arith, e.1)) ∙ e.2) in
        let first : slot_word (set area at mark) h.head 0 ≡ slot_word area h.head 0 = rw one (get_or-set_other area at (slot_at area h.head + 0) mark 0 (omega arith)) in
        let laid : TopIs (set area at mark) h.from headed (terminal_of pushed.top) × (h.top ≤ 256 → pushed.top ≤ 256)
        = top-laid long h.top (λ j l. sym (get_or-set_other area at j mark 0 (omega arith))) e.0 e.1 last first t.0 in
        (laid.0, laid.1 t.1)

    held-pushed : Holding (set area at mark) c pushed
    held-pushed =
        let one : get_or (set area at mark) 1 0 ≡ get_or area 1 0 = get_or-set_other area at 1 mark 0 (omega arith) in
        record {
          chunk = rw one k.chunk;
          room = rw one (simp length-set k.room);
          base = rw one k.base;
          marks = omega (arith, p.marks, (settles k).hand.marks);
          reductions = k.reductions;
        }

    pub settled-pushed : (settled (set area at mark) c pushed ≡ put_words whole c mark) × Holding (set area at mark) c pushed
    settled-pushed =
        let s = settles k in
        let put : List ℕ = set whole at mark in
        let stored : List ℕ = set put (table_at c 2) headed in
        let q = rw (slot_same same h.head 2, same.chunks) at (hand-pushed whole c h mark (p, s.hand)) in (
          settled_is held-pushed (record {
            long = simp length-set s.long;
            low =
                rw (
                  get_or-set_other stored (table_at c 4) 2 (h.marks + mark) 0 (omega arith),
                  get_or-set_other put (table_at c 2) 2 headed 0 (omega arith),
                  get_or-set_other whole at 2 mark 0 (omega arith),
                ) s.low;
            hand = hand-topped q.1 _;
            others = λ j n.
                get_or-set_other stored (table_at c 4) j (h.marks + mark) 0 (λ e. n.1 (omega arith) (omega arith))
                ∙ get_or-set_other put (table_at c 2) j headed 0 (λ e. n.1 (omega arith) (omega arith)) ∙ set_same whole area s.long at mark j (s.others j n);
          }) ∙ q.0,
          held-pushed,
        )

  -- the # of the end read
  module _ (p : Acceptable whole c) where
    abbrev ended : Hand
    ended = record {
      status = h.status;
      from = h.from;
      head = h.head;
      end = h.end - 1;
      marks = h.marks;
      reductions = h.reductions;
      moves = h.moves;
      base = h.base;
      top = h.top;
    }

    abbrev last : ℕ
    last = slot_at area (h.end - 1)

    pub accept-fits : (0 < h.end) × (last + 4 ≤ length area)
    accept-fits = let e = (settles k).hand.end in (omega (arith, p.some, e), omega (arith, p.some, p.room, same.chunks, same.long, e))

    in_area : last + 4 ≤ length area
    in_area = accept-fits.1

    held-ended : Holding (cleared_words area last 4) c ended
    held-ended =
        let one : get_or (cleared_words area last 4) 1 0 ≡ get_or area 1 0 = cleared-before area last 4 1 (omega arith) (omega (arith, in_area)) in
        let long : length (cleared_words area last 4) ≡ length area = cleared-length area last 4 in_area in
        record { chunk = rw one k.chunk; room = rw (one, long) k.room; base = rw one k.base; marks = k.marks; reductions = k.reductions }

    pub top-ended : Topped area h → Topped (cleared_words area last 4) ended
    top-ended t =
        let unread : h.head < h.end = omega (arith, p.unread, (settles k).hand.head, (settles k).hand.end) in
        (top_kept (sym (cleared-length area last 4 in_area)) (λ j l. sym (cleared-before area last 4 j (omega arith) (omega (arith, in_area)))) t.0, t.1)

    pub settled-accepted : (settled (cleared_words area last 4) c ended ≡ ended_words whole c) × Holding (cleared_words area last 4) c ended
    settled-accepted =
        let s = settles k in
        let cleared : List ℕ = cleared_words whole last 4 in
        let in_whole : last + 4 ≤ length whole = omega (arith, in_area, s.long) in
        let long : length cleared ≡ length (cleared_words area last 4) = cleared-length whole last 4 in_whole ∙ s.long ∙ sym (cleared-length area last 4 in_area) in
        let q = rw same.chunks at (hand-accepted whole c h (p, s.hand)) in (
          settled_is held-ended (record {
            long = simp length-set long;
            low =
                rw (
                  get_or-set_other cleared (table_at c 3) 2 (h.end - 1) 0 (omega arith),
                  cleared-before whole last 4 2 (omega arith) (omega (arith, in_whole)),
                ) s.low;
            hand = q.1;
            others = λ j n.
                get_or-set_other cleared (table_at c 3) j (h.end - 1) 0 (λ e. n.1 (omega arith) (omega arith))
                ∙ cleared-same whole area s.long last 4 in_whole (λ i l. same.words i (omega (arith, same.chunks))) j (s.others j n);
          }) ∙ q.0,
          held-ended,
        )

  -- a handle replaced
  module _ (from symbol rule top : ℕ) (p : Reducible whole c from) (few : get_or area 0 0 < 65536) where
    abbrev reduced : Hand
    reduced = record {
      status = h.status;
      from = h.from;
      head = h.head;
      end = h.end;
      marks = h.marks - 1;
      reductions = h.reductions + 1;
      moves = h.moves;
      base = h.base;
      top = top;
    }

    abbrev over : List ℕ
    over = over_words area from h.head symbol

    abbrev noted : List ℕ
    noted = entry_words over h.reductions rule (from - 1) (h.head - 1)

    zero_same : get_or whole 0 0 ≡ get_or area 0 0
    zero_same = (settles k).others 0 ((λ i l. omega arith), (λ i l. omega arith))

    -- the handle lies on slots, and there is room for the reduction
    in-slots : (from < h.head) × (slot_at area h.head ≤ length area)
    in-slots = (omega (arith, p.some, (settles k).hand.head), omega (arith, p.top, p.room.room, same.chunks, same.long, zero_same, (settles k).hand.head))

    -- a mark and a reduction more are words
    pub reduce-fits : (0 < from) × (0 < h.marks) × (h.reductions < get_or area 0 0)
    reduce-fits = let a = (settles k).hand in (p.low, omega (arith, p.marked, a.marks), omega (arith, p.room.made, zero_same, a.reductions))

    -- a symbol can be laid over the handle
    pub can-lay : (h.base ≡ slots_at area) × (from < h.head) × Laid area (slot_at area from) (slot_at area h.head) × (slot_at area h.head ≤ length area)
    can-lay =
        let handle = rw (same.chunks, ← (settles k).hand.head) at p.handle in
        (k.base, in-slots.0, laid_same same (omega (arith, same.chunks)) handle, in-slots.1)

    over_word : (j : ℕ) → j < slots_at area → get_or over j 0 ≡ get_or area j 0
    over_word j l = over-before area from h.head symbol j (omega arith) in-slots.0 (omega (arith, in-slots))

    long-over : length over ≡ length area
    long-over = over-length area from h.head symbol (omega (arith, in-slots))

    abbrev place : ℕ
    place = made_at_word over + 3 * h.reductions

    -- and then the reduction put in
    pub can-note : (h.base ≡ slots_at over) × (made_at_word over + 3 * h.reductions + 3 ≤ length over)
    can-note = (
      rw (over_word 1 (omega arith)) k.base,
      omega (arith, p.room.room, reduce-fits.2, long-over, over_word 0 (omega arith), over_word 1 (omega arith), same.chunks, same.long, zero_same),
    )

    -- a word below the reductions
    noted-slot : (j : ℕ) → j < slot_at area h.head → get_or noted j 0 ≡ get_or over j 0
    noted-slot j l =
        let far : j < place = omega (arith, p.top, same.chunks, zero_same, (settles k).hand.head, over_word 0 (omega arith), over_word 1 (omega arith)) in
        get_or-set_other (set (set over place rule) (place + 1) (from - 1)) (place + 2) j (h.head - 1) 0 (omega arith)
        ∙ get_or-set_other (set over place rule) (place + 1) j (from - 1) 0 (omega arith) ∙ get_or-set_other over place j rule 0 (omega arith)

    noted-word : (j : ℕ) → j < slots_at area → get_or noted j 0 ≡ get_or area j 0
    noted-word j l = noted-slot j (omega arith) ∙ over_word j l

    noted-below : (j : ℕ) → j < slot_at area from → get_or area j 0 ≡ get_or noted j 0
    noted-below j l = sym (noted-slot j (omega (arith, in-slots)) ∙ over-before area from h.head symbol j l in-slots.0 (omega (arith, in-slots)))

    pub top-reduced : 256 ≤ symbol → h.from ≤ from → TopIs area h.from from (terminal_of top) × (top ≤ 256) → Topped noted reduced
    top-reduced nonterminal below t =
        let one : get_or noted 1 0 ≡ get_or area 1 0 = noted-word 1 (omega arith) in
        let long : length area ≡ length noted = simp length-set (sym long-over) in
        let last : last_word noted h.head ≡ h.head - from
        = rw one (noted-slot (slot_at area h.head - 1) (omega (arith, in-slots)) ∙ over_last area from h.head symbol in-slots.0 in-slots.1) in
        let first : slot_word noted from 0 ≡ symbol
        = rw one (noted-slot (slot_at area from + 0) (omega (arith, in-slots)) ∙ over_first area from h.head symbol in-slots.0 in-slots.1) in
        let laid : TopIs noted h.from h.head (terminal_of (top_after symbol top)) = (top-laid long top noted-below below in-slots.0 last first t.0).0 in
        (rw (le-ltb symbol 256 nonterminal, top_after) at laid, t.1)

    held-reduced : Holding noted c reduced
    held-reduced =
        let one : get_or noted 1 0 ≡ get_or area 1 0 = noted-word 1 (omega arith) in
        record {
          chunk = rw one k.chunk;
          room = rw one (simp length-set (omega (arith, long-over, k.room)));
          base = rw one k.base;
          marks = omega (arith, k.marks);
          reductions = omega (arith, p.room.made, zero_same, (settles k).hand.reductions);
        }

    abbrev stored : List ℕ
    stored = set (over_words whole from h.head symbol) (table_at c 4) (h.marks - 1)

    stored-word : (j : ℕ) → j < 5 → get_or stored j 0 ≡ get_or whole j 0
    stored-word j l = front-over whole c h from symbol (p, (settles k).hand) j l

    made-there : get_or stored 4 0 ≡ h.reductions
    made-there = stored-word 4 (omega arith) ∙ sym (settles k).hand.reductions

    place_same : made_at_word stored + 3 * get_or stored 4 0 ≡ place
    place_same =
        omega (arith, made-there, stored-word 0 (omega arith), stored-word 1 (omega arith), zero_same, same.chunks, over_word 0 (omega arith), over_word 1 (omega arith))

    long-whole : length (over_words whole from h.head symbol) ≡ length over
    long-whole = over-length whole from h.head symbol (omega (arith, in-slots, same.chunks, same.long)) ∙ same.long ∙ sym long-over

    abbrev entered : List ℕ → List ℕ
    entered words = set (set (set words place rule) (place + 1) (from - 1)) (place + 2) (h.head - 1)

    -- the reduction stands where it would, and every other word too
    entered-same : (j : ℕ) → Apart c j → get_or (entered stored) j 0 ≡ get_or (entered over) j 0
    entered-same j n =
        set_same (set (set stored place rule) (place + 1) (from - 1)) (set (set over place rule) (place + 1) (from - 1)) (simp length-set long-whole) (place + 2) (h.head - 1) j
        (set_same (set stored place rule) (set over place rule) (simp length-set long-whole) (place + 1) (from - 1) j
        (set_same stored over (simp length-set long-whole) place rule j
        (get_or-set_other (over_words whole from h.head symbol) (table_at c 4) j (h.marks - 1) 0 (λ e. n.1 (omega arith) (omega arith))
        ∙ over-same same from h.head symbol in-slots.0 (omega (arith, in-slots, same.chunks, same.long)) j ((settles k).others j n))))

    entered-low : get_or (entered stored) 2 0 ≡ get_or whole 2 0
    entered-low =
        let far : 2 < place = omega arith in
        get_or-set_other (set (set stored place rule) (place + 1) (from - 1)) (place + 2) 2 (h.head - 1) 0 (omega arith)
        ∙ get_or-set_other (set stored place rule) (place + 1) 2 (from - 1) 0 (omega arith)
        ∙ get_or-set_other stored place 2 rule 0 (omega arith) ∙ stored-word 2 (omega arith)

    pub settled-reduced : (settled noted c reduced ≡ made_words whole c from symbol rule) × Holding noted c reduced
    unfolding noted_words
    settled-reduced =
        let q = rw (place_same, made-there) at (hand-reduced whole c h from symbol (p, (settles k).hand) rule) in (
          settled_is held-reduced (record {
            long = simp length-set long-whole;
            low = rw (get_or-set_other (entered stored) 4 2 (h.reductions + 1) 0 (omega arith), entered-low) (settles k).low;
            hand = hand-topped q.1 _;
            others = λ j n. get_or-set_other (entered stored) 4 j (h.reductions + 1) 0 (λ e. n.0 (omega arith) (omega arith)) ∙ entered-same j n;
          }) ∙ q.0,
          held-reduced,
        )
