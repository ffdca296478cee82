-- `Turn::takes`: no mark on the stack; or a handle, whose rule is looked up.
use Rattle.std.proofs.Common.{sym, ◌∙◌, arith}
use Rattle.moving.specs.Moved.{words-readable, put-unmarked, starts-below, handle-there, handle-counts, stuck-rule, has_left, reduces}
use Rattle.moving.specs.OneMove.{can-push, can-stick, can-read}
use Rattle.moving.specs.Settled.{settles}
use Rattle.moving.specs.SettledReadings.{hand-taking, hand-match, of-handle, of-rule}
use Rattle.reader.proofs.turn.Turn.takes.Goals as goal

pub returns-then-self-eq0 : goal.returns-then-self-eq0
returns-then-self-eq0 c =
    let k = c.args.self.holding in
    record {
      possible = can-push c.requires.compared.facing.movable 0 (omega arith);
      leaves = put-unmarked c.requires (sym (settles k).hand.marks ∙ c.if-self-eq0.true);
    }

pub stack-stack-requires : goal.stack-stack-requires
stack-stack-requires c = can-read c.requires.compared.facing.movable

pub match_rule-requires : goal.match_rule-requires
match_rule-requires c =
    let k = c.args.self.holding in
    let u = hand-taking k (settles k) c.requires c.if-self-eq0.false in
    let n = c.stack-stack.ensures in
    let handle = of-handle k (settles k) (rw (n.0, n.1, n.2) at c.find_handle-handle.ensures) in
    let m = u.takes_over.compared.facing.movable in
    let start = handle.starts in
    let r = hand-match k (settles k) _ _ (handle-there u _ start) (can-read m).stacked.room (starts-below u _ start) (handle-counts u _ start _ handle) in
    (words-readable m.held, rw (n.0, n.2) r.0, rw n.2 r.2, rw (n.0, n.2) r.3)

pub overflow_cast-result : goal.overflow_cast-result
overflow_cast-result c =
    let k = c.args.self.holding in
    let u = hand-taking k (settles k) c.requires c.if-self-eq0.false in
    let n = c.stack-stack.ensures in
    let handle = of-handle k (settles k) (rw (n.0, n.1, n.2) at c.find_handle-handle.ensures) in
    omega (arith, starts-below u _ handle.starts, (settles k).hand.head)

pub left_word-requires : goal.left_word-requires
left_word-requires c =
    let k = c.args.self.holding in
    let u = hand-taking k (settles k) c.requires c.if-self-eq0.false in
    let n = c.stack-stack.ensures in
    let handle = of-handle k (settles k) (rw (n.0, n.1, n.2) at c.find_handle-handle.ensures) in
    has_left u _ handle.starts _ (of-rule k (settles k) _ _ (rw (c.in-Some.is, n.0, n.2) at c.match_rule.ensures))

pub returns-in-Some : goal.returns-in-Some
returns-in-Some c =
    let k = c.args.self.holding in
    let u = hand-taking k (settles k) c.requires c.if-self-eq0.false in
    let n = c.stack-stack.ensures in
    let handle = of-handle k (settles k) (rw (n.0, n.1, n.2) at c.find_handle-handle.ensures) in
    rw c.left_word.ensures (reduces u _ handle.starts _ (of-rule k (settles k) _ _ (rw (c.in-Some.is, n.0, n.2) at c.match_rule.ensures)))

pub returns-in-None : goal.returns-in-None
returns-in-None c =
    let k = c.args.self.holding in
    let u = hand-taking k (settles k) c.requires c.if-self-eq0.false in
    let n = c.stack-stack.ensures in
    let handle = of-handle k (settles k) (rw (n.0, n.1, n.2) at c.find_handle-handle.ensures) in
    record {
      possible = can-stick u.takes_over.compared.facing.movable;
      leaves = stuck-rule u _ handle.starts (of-rule k (settles k) _ _ (rw (c.in-None.is, n.0, n.2) at c.match_rule.ensures));
    }
