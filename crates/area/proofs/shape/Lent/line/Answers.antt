-- The cases of `line_of`; sides within the slots have counts that can be added.
use Rattle.std.proofs.Common.{sym, ap, ◌∙◌}
use Rattle.std.specs.Prelude.{Some}
use Rattle.area.proofs.ShapeLaw.{countable, line-gone, line-unfit, line-bounded, stack-broken, unread-broken, sides-unfit, line-fit}
use Rattle.area.proofs.shape.Lent.line.Goals as goal

pub returns-then-is_gone : goal.returns-then-is_gone
returns-then-is_gone c =
    let a = c.args.self.now in
    let r = c.args.row in
    line-gone a.terminals a.nonterminals a.area.now c.args.walk r.status r.from r.head r.end r.marks (sym c.is_gone.ensures ∙ c.if-is_gone.true)

pub returns-then-not-bounds_fit : goal.returns-then-not-bounds_fit
returns-then-not-bounds_fit c =
    let a = c.args.self.now in
    let r = c.args.row in
    line-unfit a.terminals a.nonterminals a.area.now c.args.walk r.status r.from r.head r.end r.marks a.tokens_are c.bounds_fit.ensures
    (sym c.is_gone.ensures ∙ c.if-is_gone.false) c.if-not-bounds_fit.true

pub returns-in_err-stack : goal.returns-in_err-stack
returns-in_err-stack c =
    let a = c.args.self.now in
    let r = c.args.row in
    c.from_residual.ensures
    ∙ stack-broken a.terminals a.nonterminals a.area.now c.args.walk r.status r.from r.head r.end r.marks a.tokens_are c.bounds_fit.ensures c.if-not-bounds_fit.false
    (sym c.side.ensures ∙ c.in_err-stack.was)

pub returns-in_err-unread : goal.returns-in_err-unread
returns-in_err-unread c =
    let a = c.args.self.now in
    let r = c.args.row in
    c.from_residual-in_err-unread.ensures
    ∙ unread-broken a.terminals a.nonterminals a.area.now c.args.walk r.status r.from r.head r.end r.marks a.tokens_are c.bounds_fit.ensures c.if-not-bounds_fit.false
    (sym c.side.ensures ∙ c.in_ok-stack.was) (sym c.side-2.ensures ∙ c.in_err-unread.was)

pub returns-then-not-sides_fit : goal.returns-then-not-sides_fit
returns-then-not-sides_fit c =
    let a = c.args.self.now in
    let r = c.args.row in
    sides-unfit a.terminals a.nonterminals a.area.now c.args.walk r.status r.from r.head r.end r.marks a.tokens_are c.bounds_fit.ensures c.if-not-bounds_fit.false
    (sym c.side.ensures ∙ c.in_ok-stack.was) (sym c.side-2.ensures ∙ c.in_ok-unread.was) c.sides_fit.ensures c.if-not-sides_fit.true

pub counting-requires : goal.counting-requires
counting-requires c =
    let a = c.args.self.now in
    let r = c.args.row in
    countable a.terminals a.nonterminals a.area.now a.sized 63 c.args.walk c.requires r.status r.from r.head r.end r.marks
    (line-bounded a.terminals a.nonterminals a.area.now c.args.walk r.status r.from r.head r.end r.marks a.tokens_are c.bounds_fit.ensures c.if-not-bounds_fit.false)
    (sym c.side.ensures ∙ c.in_ok-stack.was) (sym c.side-2.ensures ∙ c.in_ok-unread.was)

pub returns : goal.returns
returns c =
    let a = c.args.self.now in
    let r = c.args.row in
    ap (λ walk. Some walk) c.counting.ensures
    ∙ line-fit a.terminals a.nonterminals a.area.now c.args.walk r.status r.from r.head r.end r.marks a.tokens_are c.bounds_fit.ensures c.if-not-bounds_fit.false
    (sym c.side.ensures ∙ c.in_ok-stack.was) (sym c.side-2.ensures ∙ c.in_ok-unread.was) c.sides_fit.ensures c.if-not-sides_fit.false
