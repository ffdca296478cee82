-- The marks cleared, the `end` taken over and the row put to 0 are `one_words`, and the move is counted.
use Rattle.std.proofs.Common.{List, ℕ, arith, rules, ap}
use Rattle.std.proofs.Math.Path.{sym, subst}
use Rattle.moving.specs.MoveWords.{tick_words, join_words, Ticks}
use Rattle.moving.specs.Ready.{one-ready}
use Rattle.moving.specs.Hands.{hand-counted}
use Rattle.moving.specs.Zeroing.{one-zeroed}
use Rattle.reader.proofs.moves.join_chunks.Goals as goal

pub tick-requires : goal.tick-requires
tick-requires c =
    let p = c.requires in
    let h = c.hand-other.ensures in
    rw (c.zero.ensures, c.unmark.ensures, h.base, h.from, h.head, h.end)
    (subst (λ (l : List ℕ). Ticks l c.hand-other.result.moves) (sym (one-zeroed _ _ _ p))
    (one-ready _ _ _ _ (hand-counted h (omega arith) (search rules) p.few)))

pub returns : goal.returns
unfolding join_words
returns c =
    let p = c.requires in
    let h = c.hand-other.ensures in
    rw (c.tick.ensures, c.zero.ensures, c.unmark.ensures, h.base, h.from, h.head, h.end) (ap tick_words (one-zeroed _ _ _ p))
