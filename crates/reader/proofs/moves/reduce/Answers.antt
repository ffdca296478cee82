-- The symbol laid over the handle and the reduction put in, with the counts at hand, are `made_words`.
use Rattle.std.proofs.Common.{◌≡◌, refl, ◌<◌, get_or, arith, rules}
use Rattle.moving.specs.ReadWords.{top_word}
use Rattle.moving.specs.Settled.{settles, reduce-fits, can-lay, can-note, settled-reduced, top-reduced}
use Rattle.moving.specs.SettledReadings.{hand-below}
use Rattle.moving.specs.StackTops.{at-hand}
use Rattle.reader.proofs.moves.reduce.Goals as goal

pub new-requires : goal.new-requires
new-requires c = let p = c.requires in (p.1.base, hand-below p.1 (settles p.1) p.2)

pub overflow_sub-hand : goal.overflow_sub-hand
overflow_sub-hand c =
    let a = c.args in
    let few : get_or a.area.now 0 0 < 65536 = search rules in
    let fits = reduce-fits c.requires.1 a.from a.symbol a.rule c.top_word.result c.requires.0 few in
    omega (arith, fits)

pub lay-requires : goal.lay-requires
lay-requires c =
    let a = c.args in
    let few : get_or a.area.now 0 0 < 65536 = search rules in
    can-lay c.requires.1 a.from a.symbol a.rule c.top_word.result c.requires.0 few

pub overflow_sub-head : goal.overflow_sub-head
overflow_sub-head c =
    let a = c.args in
    let few : get_or a.area.now 0 0 < 65536 = search rules in
    let lies = can-lay c.requires.1 a.from a.symbol a.rule c.top_word.result c.requires.0 few in
    omega (arith, lies.1)

pub note-requires : goal.note-requires
note-requires c =
    let a = c.args in
    let few : get_or a.area.now 0 0 < 65536 = search rules in
    rw c.lay.ensures (can-note c.requires.1 a.from a.symbol a.rule c.top_word.result c.requires.0 few)

pub returns-clause-result_after : goal.returns-clause-result_after
returns-clause-result_after c =
    let a = c.args in
    let few : get_or a.area.now 0 0 < 65536 = search rules in
    let k = settled-reduced c.requires.1 a.from a.symbol a.rule c.top_word.result c.requires.0 few in
    rw (c.note.ensures, c.lay.ensures) (k.0, k.1, refl)

pub returns-clause-topped : goal.returns-clause-topped
returns-clause-topped c =
    let a = c.args in
    let p = c.requires in
    let few : get_or a.area.now 0 0 < 65536 = search rules in
    let n = c.new.ensures in
    let below = hand-below p.1 (settles p.1) p.2 in
    let word : c.top_word.result ≡ top_word c.top_terminal.result = grind arith in
    let found = at-hand _ c.top_terminal.ensures.small word (rw (n.0, n.1, n.2) at c.top_terminal.ensures.top) in
    let t = top-reduced p.1 a.from a.symbol a.rule c.top_word.result p.0 few p.3 (omega (arith, below.holds.stands.stop)) found in
    rw (c.note.ensures, c.lay.ensures) t
