-- Rule by rule what the rules so far show; the rows of all rules are the relations.
use Rattle.std.proofs.Common.{◌≡◌, ◌<◌, ℕ, List, false, map, length, sym, arith}
use Rattle.language.specs.Checks.{Passed}
use Rattle.language.specs.Symbols.{symbol_of}
use Rattle.language.specs.Words.{count_r, right_words, grammar_of}
use Rattle.language.proofs.WordsInRange.{rules-count}
use Rattle.words.specs.Rules.{right_of}
use Rattle.table.specs.Sided.{side-rules}
use Rattle.table.specs.Edges.{RightSide, right_side}
use Rattle.table.specs.Shown.{Adds, here, anywhere}
use Rattle.table.specs.RelationRows.{shown_in, seen_more, shows}
use Rattle.table.proofs.relations.Sets.relations.Goals as goal

module _ (words : List ℕ) (r : ℕ) (h : r < count_r words) (right : List ℕ) (is : right ≡ right_words words r) where
  side : Passed words → RightSide right
  side passed = rw is (right_side (side-rules words passed false) r h)

  shown : {before rows : List ℕ} → Adds (λ k a b. anywhere (here (grammar_of words) k a b) (map symbol_of right)) before rows
      → Adds (λ k a b. shown_in (grammar_of words) k a b r) before rows
  shown adds = rw (right_of words r h, sym is) adds

pub right_shows-requires : goal.right_shows-requires
right_shows-requires c =
    let g = c.args.self.now.grammar in
    (side g.words.now c.loop-r.r (omega arith) c.right.result.now c.right.ensures g.passed, c.loop-r.invariant.long)

pub loop-r-preserved : goal.loop-r-preserved
loop-r-preserved c =
    let words = c.args.self.now.grammar.words.now in
    seen_more c.loop-r.invariant (shown words c.loop-r.r (omega arith) c.right.result.now c.right.ensures c.right_shows.ensures)

pub returns : goal.returns
returns c =
    let words = c.args.self.now.grammar.words.now in
    let all : c.loop-r.r ≡ length (grammar_of words).rules = omega (arith, rules-count words) in
    shows (rw all at c.loop-r.invariant)
