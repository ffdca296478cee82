-- Each step of the walk shows the pair at hand, and the terminals around a nonterminal.
use Rattle.std.proofs.Common.{refl}
use Rattle.language.specs.Words.{grammar_of}
use Rattle.table.specs.Walks.{pair, pair-around, step-alone, step-around, walking-end}
use Rattle.table.proofs.relations.Sets.right_shows.Goals as goal
use Rattle.table.proofs.relations.Sets.right_shows.Goals.{then-b-i, else-b-i}

pub show-requires : goal.show-requires
show-requires c = pair (grammar_of c.args.self.now.grammar.words.now) c.args.right.now c.requires.0 c.loop-i.invariant c.loop-i-test.true refl refl

pub show-requires-then-b-i : goal.show-requires-then-b-i
show-requires-then-b-i c =
    pair-around (grammar_of c.args.self.now.grammar.words.now) c.args.right.now c.requires.0 c.loop-i.invariant c.loop-i-test.true refl refl _ refl c.if-b-i.true

pub loop-i-preserved : goal.loop-i-preserved
loop-i-preserved c =
    let s = c.args.self.now in
    let g = grammar_of s.grammar.words.now in
    let right = c.args.right.now in
    elim c.if-b-i.branch [
      | then-b-i w ↦
          step-around g right c.requires.0 c.loop-i.invariant c.loop-i-test.true refl refl s.left s.right s.are_sets
          _ refl w.if-b-i.true c.show.ensures (rw w.rows-is w.show-then-b-i.ensures)
      | else-b-i w ↦
          step-alone g right c.requires.0 c.loop-i.invariant c.loop-i-test.true refl refl s.left s.right s.are_sets
          w.if-b-i.false (rw w.rows-is c.show.ensures)
    ]

pub returns : goal.returns
returns c = walking-end (grammar_of c.args.self.now.grammar.words.now) c.args.right.now c.loop-i.invariant c.loop-i-test.false
