-- `Turn::next_move`: rules 1 and 2 here, the others in `related`.
use Rattle.std.proofs.Common.{sym, ◌∙◌, arith}
use Rattle.moving.specs.Moved.{stuck-on-top, put-on-top, put_first}
use Rattle.moving.specs.OneMove.{can-push, can-stick, can-read}
use Rattle.moving.specs.Settled.{settles}
use Rattle.moving.specs.SettledReadings.{hand-next, of-next, of_nonterminal, of-top}
use Rattle.reader.proofs.turn.Turn.next_move.Goals as goal

pub slot_word-b-requires : goal.slot_word-b-requires
slot_word-b-requires c = let k = c.args.self.holding in hand-next k (settles k) (can-push c.requires.movable 0 (omega arith)).slot

pub stack-requires : goal.stack-requires
stack-requires c = can-read c.requires.movable

pub returns-then-nonterminal_on_top : goal.returns-then-nonterminal_on_top
returns-then-nonterminal_on_top c =
    let k = c.args.self.holding in
    let n = c.stack.ensures in
    record {
      possible = can-stick c.requires.movable;
      leaves = stuck-on-top (rw (of-next k (settles k) c.slot_word-b.ensures) at c.if-b-ge256.true)
          (of_nonterminal k (settles k) (rw (c.if-nonterminal_on_top.true, n.0, n.1, n.2) at c.nonterminal_on_top.ensures));
    }

pub returns-then-b-ge256 : goal.returns-then-b-ge256
returns-then-b-ge256 c =
    let k = c.args.self.holding in
    let n = c.stack.ensures in
    record {
      possible = can-push c.requires.movable 0 (omega arith);
      leaves = put-on-top (rw (of-next k (settles k) c.slot_word-b.ensures) at c.if-b-ge256.true)
          (of_nonterminal k (settles k) (rw (c.if-nonterminal_on_top.false, n.0, n.1, n.2) at c.nonterminal_on_top.ensures));
    }

pub related-requires : goal.related-requires
related-requires c =
    let k = c.args.self.holding in
    record {
      movable = c.requires.movable;
      next = of-next k (settles k) c.slot_word-b.ensures;
      terminal = c.if-b-ge256.false;
      top = rw (sym c.terminal.ensures ∙ c.in-Some.is) at (of-top k (settles k) c.requires.topped.0);
    }

pub returns-in-None : goal.returns-in-None
returns-in-None c =
    let k = c.args.self.holding in
    record {
      possible = can-push c.requires.movable 0 (omega arith);
      leaves = put_first (rw (of-next k (settles k) c.slot_word-b.ensures) at c.if-b-ge256.false)
          (rw (sym c.terminal.ensures ∙ c.in-None.is) at (of-top k (settles k) c.requires.topped.0));
    }
