-- The shifts and the index are below 64 by how a right side starts, seen from that side.
use Rattle.std.proofs.Common.{◌≡◌, refl, ℕ, Bool, List, ◌≤◌, ◌<◌, get_or, length, arith, true, false}
use Rattle.std.proofs.lemmas.List.{length-reverse}
use Rattle.laws.specs.Tests.{lt-ltb, le-ltb}
use Rattle.table.specs.Edges.{Front, terminal_first, nonterminal_first, Edged, edged, followed}
use Rattle.table.specs.MaskRows.{one_shifted}
use Rattle.table.specs.Sided.{from_end, turned}
use Rattle.table.proofs.sets.Side.brought.Goals as goal

turned-length : (b : Bool) (ws : List ℕ) → length (turned b ws) ≡ length ws
turned-length false ws = refl
turned-length true ws = length-reverse ws

begins : {ws : List ℕ} → Front ws → 0 < length ws
begins (terminal_first h) = omega arith
begins (nonterminal_first h l k) = omega arith

module _ (b : Bool) (right : List ℕ) (front : Front (turned b right)) where
  some : 0 < length right
  some = omega (arith, begins front, turned-length b right)

  more : 256 ≤ get_or (turned b right) 0 0 → 1 < length right
  more k = omega (arith, followed front k, turned-length b right)

  -- the outermost two words
  near : (w : ℕ) → w ≡ get_or (turned b right) 0 0 → Edged w (get_or (turned b right) 1 0)
  near w e = rw e (edged front)

pub word-near-requires : goal.word-near-requires
word-near-requires c = some (from_end c.args.self) c.args.right.now c.requires

pub overflow_shl-result : goal.overflow_shl-result
overflow_shl-result c = (near (from_end c.args.self) c.args.right.now c.requires c.word-near.result c.word-near.ensures).terminal_near c.if-near-lt256.true

pub returns-then-near-lt256 : goal.returns-then-near-lt256
returns-then-near-lt256 c =
    let w = c.word-near in
    let low = (near (from_end c.args.self) c.args.right.now c.requires w.result w.ensures).terminal_near c.if-near-lt256.true in
    rw (← w.ensures, lt-ltb w.result 256 c.if-near-lt256.true, one_shifted w.result low)

pub word-requires : goal.word-requires
word-requires c = more (from_end c.args.self) c.args.right.now c.requires (rw c.word-near.ensures at c.if-near-lt256.false)

pub overflow_shl-result-2 : goal.overflow_shl-result-2
overflow_shl-result-2 c =
    rw c.word.ensures ((near (from_end c.args.self) c.args.right.now c.requires c.word-near.result c.word-near.ensures).terminal_next c.if-near-lt256.false)

pub offset_bounds-masks-near : goal.offset_bounds-masks-near
offset_bounds-masks-near c = omega (arith, (near (from_end c.args.self) c.args.right.now c.requires c.word-near.result c.word-near.ensures).nonterminal_near)

pub bounds-masks-near : goal.bounds-masks-near
bounds-masks-near c = omega (arith, (near (from_end c.args.self) c.args.right.now c.requires c.word-near.result c.word-near.ensures).nonterminal_near, c.if-near-lt256.false)

pub returns : goal.returns
returns c =
    let w = c.word-near in
    let low : c.word.result < 64 = rw c.word.ensures ((near (from_end c.args.self) c.args.right.now c.requires w.result w.ensures).terminal_next c.if-near-lt256.false) in
    rw (← w.ensures, ← c.word.ensures, le-ltb w.result 256 c.if-near-lt256.false, one_shifted c.word.result low)
