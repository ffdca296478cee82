-- The zeros follow the slots, which are all stored when they begin.
use Rattle.std.proofs.Common.{◌≡◌, ◌+◌, ◌*◌, sym, ap, ◌∙◌, length, rules, arith}
use Rattle.std.proofs.lemmas.List.Edits.{sets}
use Rattle.layout.specs.Layout.{zeros}
use Rattle.start.specs.StartWords.{start_slots}
use Rattle.start.proofs.StartLaw.{slots-first, slots-last, zeros-stored, slots-stored}
use Rattle.start.proofs.begin.write_slots.Goals as goal

pub returns : goal.returns
returns c =
    let area = c.args.area.now in
    let tokens = c.args.tokens.now in
    let base = c.args.base in
    let l = c.loop-i in
    let last = base + 4 + 4 * length tokens in
    let all : l.i ≡ length tokens = omega (arith, c.loop-i-test.false, l.auto.i-end) in
    let laid = c.write_slot-2.ensures ∙ sym (slots-last l.area tokens last (length tokens) (omega arith)) ∙ (rw all at l.invariant.left) in
    let slots : c.write_slot-2.new.area ≡ sets area base (start_slots tokens) = laid ∙ rw c.write_slot.ensures (slots-first area tokens base) in
    let past : last + 4 ≡ base + 4 * (length tokens + 2) = omega arith in
    zeros-stored c.write_slot-2.new.area c.fill.new.self (last + 4) (3 * length tokens)
    (omega (arith, c.requires, c.write_slot-2.auto.area, l.auto.area, c.write_slot.auto.area)) (c.fill.ensures.after (λ y k. search rules))
    ∙ ap (λ xs. sets xs (last + 4) (zeros (3 * length tokens))) slots
    ∙ slots-stored area tokens base (last + 4) past
