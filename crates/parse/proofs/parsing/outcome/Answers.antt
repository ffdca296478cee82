-- `parsing::outcome`: each return by the tests that led there, with outcomes' laws of them (OutcomeTests).
use Rattle.std.proofs.Common.{◌++◌, ◌*◌, ◌∙◌, refl, ap, drop, get_or}
use Rattle.outcomes.specs.OutcomeTests.{is_stuck, at_rest, refuses, no_room, room}
use Rattle.parse.proofs.ParseSteps.{is-alone, written}
use Rattle.parse.proofs.parsing.outcome.Goals as goal

pub returns-then-status-ge17 : goal.returns-then-status-ge17
returns-then-status-ge17 c =
    let a = c.args in
    let p = refuses a.out.now (is_stuck a.area.now (is-alone c.requires) refl c.if-status-ge17.true c.stuck_refusal.ensures) in
    record { value = p.0; out_after = p.1 }

pub returns-then-out-size : goal.returns-then-out-size
returns-then-out-size c =
    let a = c.args in
    let rests = c.if-status-ge17.false in
    let p = no_room a.area.now a.out.now (at_rest a.area.now (is-alone c.requires) refl rests (c.requires.ended rests)) c.if-out-size.true in
    record { value = p.0; out_after = p.1 }

pub returns : goal.returns
returns c =
    let a = c.args in
    let rests = c.if-status-ge17.false in
    let full = at_rest a.area.now (is-alone c.requires) refl rests (c.requires.ended rests) in
    let report = ap (λ l. l ++ drop (3 * get_or a.area.now 4 0) a.out.now) (c.put_words.ensures ∙ written c.requires rests) in
    let p = room a.area.now a.out.now full c.if-out-size.false refl report in
    record { value = p.0; out_after = p.1 }
