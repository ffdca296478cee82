-- A place of a body is asked there and nowhere else; the next body starts where one ends, and the last ends at the end of the run.
use Rattle.std.proofs.Common.{◌≡◌, ◌<◌, ◌≤◌, eqb, ℕ, List, length, sym, ◌∙◌, arith, Ok}
use Rattle.refusals.specs.declared.Refusal.TheVariants.{Symbol}
use Rattle.language.specs.CheckSymbols.{bad_symbol}
use Rattle.language.specs.Words.{word, count_r}
use Rattle.words.specs.Bodies.{body_at, at_start, at_end}
use Rattle.words.specs.Laid.{Laid, within, short}
use Rattle.words.specs.Places.{Lies, wrong_word, asked-word, asked-before}
use Rattle.words.specs.Search.{clear-more, found_at, found_nowhere}
use Rattle.words.specs.declared.Body.{Body}
use Rattle.words.proofs.checks.Grammar.symbols.Goals as goal

module _ (words : List ℕ) (laid : Laid words) (r : ℕ) (h : r < count_r words) (body : Body) (is : body ≡ body_at words r) where
  lies : (p : ℕ) → body.start ≤ p → p < body.end → Lies words p r
  lies p k l = record { rule = h; starts = omega (arith, at_start is); ends = omega (arith, at_end is) }

  asked : (p : ℕ) → body.start ≤ p → p < body.end → bad_symbol words p ≡ wrong_word words (eqb p body.start) (word words p)
  asked p k l = rw (at_start is) (asked-word words laid p r (lies p k l))

pub loop-r-init : goal.loop-r-init
loop-r-init c =
    let words = c.args.self.now.words.now in
    let laid = c.args.self.now.laid in
    record {
      before = λ h k l. asked-before words laid k (omega (arith, laid.first));
      all = λ h. absurd (omega (arith, laid.headed.some_rule));
    }

pub offset_bounds-self-p : goal.offset_bounds-self-p
offset_bounds-self-p c =
    let words = c.args.self.now.words.now in
    let laid = c.args.self.now.laid in
    omega (arith, at_end c.body-body.ensures, within words laid c.loop-r.r (omega arith), short words laid)

pub bounds-self-p : goal.bounds-self-p
bounds-self-p c = omega (arith, at_end c.body-body.ensures, within c.args.self.now.words.now c.args.self.now.laid c.loop-r.r (omega arith))

pub overflow_cast-result : goal.overflow_cast-result
overflow_cast-result c =
    let words = c.args.self.now.words.now in
    let laid = c.args.self.now.laid in
    omega (arith, at_end c.body-body.ensures, within words laid c.loop-r.r (omega arith), short words laid)

pub returns-then-wrong : goal.returns-then-wrong
returns-then-wrong c =
    let words = c.args.self.now.words.now in
    let laid = c.args.self.now.laid in
    let l = c.loop-p in
    found_at (bad_symbol words) Symbol (Ok tt) (length words) l.p (omega (arith, at_end c.body-body.ensures, within words laid c.loop-r.r (omega arith))) l.invariant
    (asked words laid c.loop-r.r (omega arith) c.body-body.result c.body-body.ensures l.p l.auto.p c.loop-p-test.true ∙ sym c.wrong.ensures ∙ c.if-wrong.true)

pub loop-p-preserved : goal.loop-p-preserved
loop-p-preserved c =
    let words = c.args.self.now.words.now in
    let laid = c.args.self.now.laid in
    let l = c.loop-p in
    clear-more (bad_symbol words) l.p l.invariant
    (asked words laid c.loop-r.r (omega arith) c.body-body.result c.body-body.ensures l.p l.auto.p c.loop-p-test.true ∙ sym c.wrong.ensures ∙ c.if-wrong.false)

pub returns : goal.returns
returns c =
    let words = c.args.self.now.words.now in
    found_nowhere (bad_symbol words) Symbol (Ok tt) (length words) (length words) (omega arith) (c.loop-r.invariant.all (omega arith))
