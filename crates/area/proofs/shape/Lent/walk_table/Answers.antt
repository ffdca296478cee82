-- A row more: the walk goes on where the loop does, and counts no more than it has passed; a wrong row leaves none.
use Rattle.std.proofs.Common.{◌≡◌, sym, ◌∙◌, ◌-◌, get_or, rules, arith}
use Rattle.area.specs.Shape.{walk_of, fresh_walk}
use Rattle.area.proofs.ShapeLaw.{line-within, within-some, walk-step, within-here}
use Rattle.area.proofs.shape.Lent.walk_table.Goals as goal

pub loop-c-init : goal.loop-c-init
unfolding walk_of
loop-c-init c =
    let fresh : c.default-walk.result ≡ fresh_walk = search rules in
    let e : get_or c.args.self.now.area.now 1 0 - 0 ≡ get_or c.args.self.now.area.now 1 0 = omega arith in
    record {
      within = record { at = omega arith; live = omega arith; running = omega arith; unread = omega arith; symbols = omega arith; terminals = omega arith };
      rest = rw (fresh, e);
    }

pub line-requires : goal.line-requires
line-requires c =
    let lent = c.args.self.now in
    let l = c.loop-c in
    within-here lent.terminals lent.nonterminals l.c lent.area.now l.walk c.loop-c-test.true lent.sized l.invariant.within

pub returns-in_err-walk : goal.returns-in_err-walk
returns-in_err-walk c =
    let lent = c.args.self.now in
    let l = c.loop-c in
    c.from_residual.ensures
    ∙ sym (walk-step lent.terminals lent.nonterminals l.c lent.area.now l.walk c.loop-c-test.true (sym (rw c.row.ensures at c.line.ensures) ∙ c.in_err-walk.was))
    ∙ l.invariant.rest

pub loop-c-preserved : goal.loop-c-preserved
loop-c-preserved c =
    let lent = c.args.self.now in
    let l = c.loop-c in
    let r = c.row.result in
    record {
      within =
          within-some _ (line-within lent.terminals lent.nonterminals lent.area.now lent.sized l.c l.walk l.invariant.within r.status r.from r.head r.end r.marks)
          (sym c.line.ensures ∙ c.in_ok-walk.was);
      rest =
          sym (walk-step lent.terminals lent.nonterminals l.c lent.area.now l.walk c.loop-c-test.true (sym (rw c.row.ensures at c.line.ensures) ∙ c.in_ok-walk.was))
          ∙ l.invariant.rest;
    }
