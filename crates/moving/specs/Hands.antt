-- The hand through a move: where an area holds what is at hand, the words that the move leaves hold the hand after it.
-- Rests on Ready, AtHand and MoveWords.
--
-- Main statements: hand-rests; hand-counted, hand-ticks, hand-topped; front-over; hand-pushed, hand-stuck, hand-accepted, hand-reduced.
use Rattle.std.specs.Prelude.{◌≡◌, List, eqb, length}
use Rattle.std.proofs.Common.{sym, ap, ◌∙◌, arith, get_or-set_other, get_or-set_same}
use Prim.Native.Nat.{ℕ, ◌+◌, ◌*◌, ◌-◌, ◌/◌, ◌%◌, ◌<◌, ◌≤◌}
use Rattle.std.proofs.Math.ListN.{get_or, set, length-set}
use Rattle.layout.specs.Layout.{table_at, slot_word, moves_in, slots_at, made_at_word}
use Rattle.moving.specs.declared.Hand.{Hand}
use Rattle.moving.specs.AtHand.{AtHand}
use Rattle.moving.specs.MoveWords.{head_of, slot_at, tick_words, put_words, ended_words, cleared_words, over_words, noted_words, replaced_words, made_words}
use Rattle.moving.specs.MoveWords.{Ticks, Pushable, Stickable, Acceptable, Reducible}
use Rattle.moving.specs.Moved.{rests_by, rests_in}
use Rattle.moving.specs.Ready.{cleared-length, cleared-before, over-before, over-length, replaced-before}
use Rattle.moving.specs.Zeroing.{ended-zeroed}

pub hand-rests : {area : List ℕ} {c : ℕ} {h : Hand} → AtHand area c h → rests_by (eqb h.status 1) h.end h.head ≡ rests_in area c
hand-rests a = rw (a.status, a.end, a.head)

-- a move more can be counted
pub hand-counted : {area : List ℕ} {c : ℕ} {h : Hand} → AtHand area c h → 5 ≤ length area → get_or area 2 0 < 65536 → get_or area 3 0 < 65535 → Ticks area h.moves
hand-counted a long low few = record { long = long; low = low; few = few; count = a.moves }

-- ---- one store

-- a word that is not at hand
hand-same : {area area' : List ℕ} {c : ℕ} {h : Hand} → AtHand area c h → ((j : ℕ) → j < table_at c 5 → get_or area' j 0 ≡ get_or area j 0) → AtHand area' c h
hand-same {c = c} a e = record {
  status = a.status ∙ sym (e (table_at c 0) (omega arith));
  from = a.from ∙ sym (e (table_at c 1) (omega arith));
  head = a.head ∙ sym (e (table_at c 2) (omega arith));
  end = a.end ∙ sym (e (table_at c 3) (omega arith));
  marks = a.marks ∙ sym (e (table_at c 4) (omega arith));
  reductions = a.reductions ∙ sym (e 4 (omega arith));
  moves = rw (e 2 (omega arith), e 3 (omega arith)) a.moves;
  base = rw (e 1 (omega arith)) a.base;
}

module _ {area : List ℕ} {c : ℕ} {h : Hand} (a : AtHand area c h) (v : ℕ) where
  kept : (i j : ℕ) → (j ≡ i → ⊥) → {x : ℕ} → x ≡ get_or area j 0 → x ≡ get_or (set area i v) j 0
  kept i j n e = e ∙ sym (get_or-set_other area i j v 0 n)

  counts : (i : ℕ) → 3 < i → h.moves ≡ moves_in (set area i v)
  counts i l = rw (get_or-set_other area i 2 v 0 (omega arith), get_or-set_other area i 3 v 0 (omega arith)) a.moves

  based : (i : ℕ) → 3 < i → h.base ≡ slots_at (set area i v)
  based i l = rw (get_or-set_other area i 1 v 0 (omega arith)) a.base

  hand-beyond : (i : ℕ) → table_at c 5 ≤ i → AtHand (set area i v) c h
  hand-beyond i l = hand-same a (λ j q. get_or-set_other area i j v 0 (omega arith))

  hand-status : table_at c 0 < length area → AtHand (set area (table_at c 0) v) c
      (record { status = v; from = h.from; head = h.head; end = h.end; marks = h.marks; reductions = h.reductions; moves = h.moves; base = h.base; top = h.top })
  hand-status l = record {
    status = sym (get_or-set_same area (table_at c 0) v 0 l);
    from = kept (table_at c 0) (table_at c 1) (omega arith) a.from;
    head = kept (table_at c 0) (table_at c 2) (omega arith) a.head;
    end = kept (table_at c 0) (table_at c 3) (omega arith) a.end;
    marks = kept (table_at c 0) (table_at c 4) (omega arith) a.marks;
    reductions = kept (table_at c 0) 4 (omega arith) a.reductions;
    moves = counts (table_at c 0) (omega arith);
    base = based (table_at c 0) (omega arith);
  }

  hand-head : table_at c 2 < length area → AtHand (set area (table_at c 2) v) c
      (record { status = h.status; from = h.from; head = v; end = h.end; marks = h.marks; reductions = h.reductions; moves = h.moves; base = h.base; top = h.top })
  hand-head l = record {
    status = kept (table_at c 2) (table_at c 0) (omega arith) a.status;
    from = kept (table_at c 2) (table_at c 1) (omega arith) a.from;
    head = sym (get_or-set_same area (table_at c 2) v 0 l);
    end = kept (table_at c 2) (table_at c 3) (omega arith) a.end;
    marks = kept (table_at c 2) (table_at c 4) (omega arith) a.marks;
    reductions = kept (table_at c 2) 4 (omega arith) a.reductions;
    moves = counts (table_at c 2) (omega arith);
    base = based (table_at c 2) (omega arith);
  }

  hand_end : table_at c 3 < length area → AtHand (set area (table_at c 3) v) c
      (record { status = h.status; from = h.from; head = h.head; end = v; marks = h.marks; reductions = h.reductions; moves = h.moves; base = h.base; top = h.top })
  hand_end l = record {
    status = kept (table_at c 3) (table_at c 0) (omega arith) a.status;
    from = kept (table_at c 3) (table_at c 1) (omega arith) a.from;
    head = kept (table_at c 3) (table_at c 2) (omega arith) a.head;
    end = sym (get_or-set_same area (table_at c 3) v 0 l);
    marks = kept (table_at c 3) (table_at c 4) (omega arith) a.marks;
    reductions = kept (table_at c 3) 4 (omega arith) a.reductions;
    moves = counts (table_at c 3) (omega arith);
    base = based (table_at c 3) (omega arith);
  }

  hand-marks : table_at c 4 < length area → AtHand (set area (table_at c 4) v) c
      (record { status = h.status; from = h.from; head = h.head; end = h.end; marks = v; reductions = h.reductions; moves = h.moves; base = h.base; top = h.top })
  hand-marks l = record {
    status = kept (table_at c 4) (table_at c 0) (omega arith) a.status;
    from = kept (table_at c 4) (table_at c 1) (omega arith) a.from;
    head = kept (table_at c 4) (table_at c 2) (omega arith) a.head;
    end = kept (table_at c 4) (table_at c 3) (omega arith) a.end;
    marks = sym (get_or-set_same area (table_at c 4) v 0 l);
    reductions = kept (table_at c 4) 4 (omega arith) a.reductions;
    moves = counts (table_at c 4) (omega arith);
    base = based (table_at c 4) (omega arith);
  }

  hand-reductions : 4 < length area → AtHand (set area 4 v) c
      (record { status = h.status; from = h.from; head = h.head; end = h.end; marks = h.marks; reductions = v; moves = h.moves; base = h.base; top = h.top })
  hand-reductions l = record {
    status = kept 4 (table_at c 0) (omega arith) a.status;
    from = kept 4 (table_at c 1) (omega arith) a.from;
    head = kept 4 (table_at c 2) (omega arith) a.head;
    end = kept 4 (table_at c 3) (omega arith) a.end;
    marks = kept 4 (table_at c 4) (omega arith) a.marks;
    reductions = sym (get_or-set_same area 4 v 0 l);
    moves = counts 4 (omega arith);
    base = based 4 (omega arith);
  }

-- the move counted
pub hand-ticks : {area : List ℕ} {c : ℕ} {h : Hand} → AtHand area c h → 5 ≤ length area
    → AtHand (tick_words area) c
    (record { status = h.status; from = h.from; head = h.head; end = h.end; marks = h.marks; reductions = h.reductions; moves = h.moves + 1; base = h.base; top = h.top })
unfolding tick_words
hand-ticks {area} {c} {h} a l =
    let low : ℕ = (moves_in area + 1) % 65536 in
    let high : ℕ = (moves_in area + 1) / 65536 in
    let word : (j : ℕ) → 3 < j → get_or area j 0 ≡ get_or (set (set area 2 low) 3 high) j 0
    = λ j p. sym (get_or-set_other (set area 2 low) 3 j high 0 (omega arith) ∙ get_or-set_other area 2 j low 0 (omega arith)) in
    let second : get_or (set (set area 2 low) 3 high) 2 0 ≡ low = get_or-set_other (set area 2 low) 3 2 high 0 (omega arith) ∙ get_or-set_same area 2 low 0 (omega arith) in
    let third : get_or (set (set area 2 low) 3 high) 3 0 ≡ high = get_or-set_same (set area 2 low) 3 high 0 (simp length-set (omega arith)) in
    record {
      status = a.status ∙ word (table_at c 0) (omega arith);
      from = a.from ∙ word (table_at c 1) (omega arith);
      head = a.head ∙ word (table_at c 2) (omega arith);
      end = a.end ∙ word (table_at c 3) (omega arith);
      marks = a.marks ∙ word (table_at c 4) (omega arith);
      reductions = a.reductions ∙ word 4 (omega arith);
      moves = rw (second, third, a.moves) (omega arith);
      base = rw (get_or-set_other (set area 2 low) 3 1 high 0 (omega arith), get_or-set_other area 2 1 low 0 (omega arith)) a.base;
    }

-- the topmost terminal is no word of the area
pub hand-topped : {area : List ℕ} {c : ℕ} {h : Hand} → AtHand area c h → (top : ℕ)
    → AtHand area c (record {
      status = h.status;
      from = h.from;
      head = h.head;
      end = h.end;
      marks = h.marks;
      reductions = h.reductions;
      moves = h.moves;
      base = h.base;
      top = top;
    })
hand-topped a top = record { status = a.status; from = a.from; head = a.head; end = a.end; marks = a.marks; reductions = a.reductions; moves = a.moves; base = a.base }

-- ---- a move, not yet counted

module _ (area : List ℕ) (c : ℕ) (h : Hand) where
  -- a symbol put on
  module _ (mark : ℕ) (p : Pushable area c mark × AtHand area c h) where
    abbrev headed : ℕ
    headed = h.head + slot_word area h.head 2

    abbrev put : List ℕ
    put = set (set (set area (slot_at area h.head + 1) mark) (table_at c 2) headed) (table_at c 4) (h.marks + mark)

    pub hand-pushed : (put ≡ put_words area c mark)
        × AtHand put c
        (record {
          status = h.status;
          from = h.from;
          head = headed;
          end = h.end;
          marks = h.marks + mark;
          reductions = h.reductions;
          moves = h.moves;
          base = h.base;
          top = h.top;
        })
    unfolding put_words
    hand-pushed = (
      rw (p.1.head, p.1.marks),
      hand-marks {area = set (set area (slot_at area h.head + 1) mark) (table_at c 2) headed}
          (hand-head {area = set area (slot_at area h.head + 1) mark}
          (hand-beyond p.1 mark (slot_at area h.head + 1) (omega (arith, p.0.chunk))) headed (simp length-set (omega (arith, p.0.chunk, p.0.slot))))
          (h.marks + mark) (simp length-set (omega (arith, p.0.chunk, p.0.slot))),
    )

  -- a chunk stuck
  pub hand-stuck : (status : ℕ) → Stickable area c × AtHand area c h → AtHand (set area (table_at c 0) status) c
      (record { status = status; from = h.from; head = h.head; end = h.end; marks = h.marks; reductions = h.reductions; moves = h.moves; base = h.base; top = h.top })
  hand-stuck status p = hand-status p.1 status (omega (arith, p.0.chunk, p.0.room))

  -- the # of the end read
  module _ (p : Acceptable area c × AtHand area c h) where
    abbrev cleared : List ℕ
    cleared = cleared_words area (slot_at area (h.end - 1)) 4

    long-cleared : length cleared ≡ length area
    long-cleared = cleared-length area (slot_at area (h.end - 1)) 4 (omega (arith, p.0.some, p.0.room, p.1.end))

    pub hand-accepted : (set cleared (table_at c 3) (h.end - 1) ≡ ended_words area c)
        × AtHand (set cleared (table_at c 3) (h.end - 1)) c
        (record {
          status = h.status;
          from = h.from;
          head = h.head;
          end = h.end - 1;
          marks = h.marks;
          reductions = h.reductions;
          moves = h.moves;
          base = h.base;
          top = h.top;
        })
    hand-accepted = (
      rw p.1.end (ended-zeroed area c p.0),
      hand_end {area = cleared}
          (hand-same p.1 (λ j l. cleared-before area (slot_at area (h.end - 1)) 4 j (omega (arith, p.0.chunk)) (omega (arith, p.0.room, p.1.end))))
          (h.end - 1) (omega (arith, long-cleared, p.0.chunk, p.0.room)),
    )

  -- a handle replaced
  module _ (from symbol : ℕ) (p : Reducible area c from × AtHand area c h) where
    abbrev over : List ℕ
    over = over_words area from h.head symbol

    abbrev stored : List ℕ
    stored = set over (table_at c 4) (h.marks - 1)

    over-stored : stored ≡ replaced_words area c from symbol
    unfolding replaced_words
    over-stored = rw (p.1.head, p.1.marks)

    long-over : length over ≡ length area
    long-over = over-length area from h.head symbol (omega (arith, p.0.top, p.0.room.room, p.0.some, p.1.head))

    abbrev after_over : Hand
    after_over = record {
      status = h.status;
      from = h.from;
      head = h.head;
      end = h.end;
      marks = h.marks - 1;
      reductions = h.reductions;
      moves = h.moves;
      base = h.base;
      top = h.top;
    }

    hand-over : AtHand stored c after_over
    hand-over =
        hand-marks {area = over}
        (hand-same p.1 (λ j l. over-before area from h.head symbol j (omega (arith, p.0.chunk)) (omega (arith, p.0.some, p.1.head))
        (omega (arith, p.0.top, p.0.room.room, p.0.some, p.1.head))))
        (h.marks - 1) (omega (arith, long-over, p.0.chunk, p.0.room.room))

    -- the words of the front are as before
    pub front-over : (j : ℕ) → j < 5 → get_or stored j 0 ≡ get_or area j 0
    front-over j l = rw over-stored (replaced-before area c from symbol p.0 j l)

    module _ (rule : ℕ) where
      abbrev made : List ℕ
      made = noted_words stored rule (from - 1) (h.head - 1)

      hand-noted : AtHand made c
          (record {
            status = h.status;
            from = h.from;
            head = h.head;
            end = h.end;
            marks = h.marks - 1;
            reductions = h.reductions + 1;
            moves = h.moves;
            base = h.base;
            top = h.top;
          })
      unfolding noted_words
      hand-noted =
          let at : ℕ = made_at_word stored + 3 * get_or stored 4 0 in
          let far : table_at c 5 ≤ at = omega (arith, p.0.chunk, front-over 1 (omega arith)) in
          rw hand-over.reductions
          (hand-reductions
          (hand-beyond (hand-beyond (hand-beyond hand-over rule at far) (from - 1) (at + 1) (omega arith)) (h.head - 1) (at + 2) (omega arith))
          (get_or stored 4 0 + 1) (simp length-set (omega (arith, long-over, p.0.room.room))))

      pub hand-reduced : (made ≡ made_words area c from symbol rule)
          × AtHand made c
          (record {
            status = h.status;
            from = h.from;
            head = h.head;
            end = h.end;
            marks = h.marks - 1;
            reductions = h.reductions + 1;
            moves = h.moves;
            base = h.base;
            top = h.top;
          })
      hand-reduced = (
        rw p.1.head (ap (λ (l : List ℕ). noted_words l rule (from - 1) (head_of area c - 1)) (rw p.1.head at over-stored)),
        hand-noted,
      )
