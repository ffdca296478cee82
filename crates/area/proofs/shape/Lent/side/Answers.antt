-- A slot more: the scan goes on where the loop does, and counts at most one more of each; a wrong word leaves none.
use Rattle.std.proofs.Common.{sym, ◌∙◌, ◌≡◌, ◌+◌, ◌-◌, rules, arith}
use Rattle.area.specs.Shape.{side, fresh_scan}
use Rattle.area.proofs.ShapeLaw.{slot-few, few-some, scan-step}
use Rattle.area.proofs.shape.Lent.side.Goals as goal

pub loop-at-init : goal.loop-at-init
unfolding side
loop-at-init c =
    let fresh : c.default-scan.result ≡ fresh_scan = search rules in
    record {
      few = record { symbols = omega arith; terminals = omega arith; marks = omega arith };
      rest = rw (fresh, c.args.self.now.tokens_are);
    }

pub returns-in_err-scan : goal.returns-in_err-scan
returns-in_err-scan c =
    let lent = c.args.self.now in
    let l = c.loop-at in
    c.from_residual.ensures
    ∙ sym (scan-step lent.terminals lent.nonterminals lent.tokens c.args.to l.at lent.area.now l.scan c.loop-at-test.true (sym (rw c.slot.ensures at c.scan_slot.ensures) ∙ c.in_err-scan.was))
    ∙ l.invariant.rest

pub loop-at-preserved : goal.loop-at-preserved
loop-at-preserved c =
    let lent = c.args.self.now in
    let l = c.loop-at in
    let s = c.slot.result in
    let more : l.at + 1 - c.args.from ≡ l.at - c.args.from + 1 = omega arith in
    record {
      few = rw more (few-some _ (slot-few lent.terminals lent.nonterminals lent.tokens s.at l.scan s.symbol s.mark s.size s.last _ l.invariant.few) (sym c.scan_slot.ensures ∙ c.in_ok-scan.was));
      rest =
          sym (scan-step lent.terminals lent.nonterminals lent.tokens c.args.to l.at lent.area.now l.scan c.loop-at-test.true (sym (rw c.slot.ensures at c.scan_slot.ensures) ∙ c.in_ok-scan.was))
          ∙ l.invariant.rest;
    }
