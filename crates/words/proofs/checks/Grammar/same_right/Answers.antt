-- The two bodies are known by their places; a word that differs tells the right sides apart, and where none does they are the same.
use Rattle.std.proofs.Common.{◌≡◌, ◌+◌, ◌-◌, ◌<◌, ℕ, List, length, subst, ◌∙◌, arith}
use Rattle.language.specs.Words.{count_r}
use Rattle.words.specs.Bodies.{body_at, at_start, at_end}
use Rattle.words.specs.Laid.{Laid, short}
use Rattle.words.specs.PlacedTwins.{Body, body_of, twin-is-at, size-differs-at, word-differs-at, words_same-at}
use Rattle.words.specs.declared.Body as declared
use Rattle.words.proofs.checks.Grammar.same_right.Goals as goal

-- the body that stands where `body` says
module _ (words : List ℕ) (laid : Laid words) (r : ℕ) (h : r < count_r words) (body : declared.Body) (is : body ≡ body_at words r) where
  placed : Body words r body.start (body.end - body.start)
  placed = body_of laid h (at_start is) (at_end is)

  -- its words are there
  there : (j : ℕ) → j < body.end - body.start → body.start + j < length words
  there j k = omega (arith, placed.fitting.fits)

  few : (j : ℕ) → j < body.end - body.start → body.start + j < 2564
  few j k = omega (arith, there j k, short words laid)

pub returns-then-one-size : goal.returns-then-one-size
returns-then-one-size c =
    let words = c.args.self.now.words.now in
    let laid = c.args.self.now.laid in
    let one = placed words laid c.args.q c.requires.0 c.body-one.result c.body-one.ensures in
    let other = placed words laid c.args.r c.requires.1 c.body-other.result c.body-other.ensures in
    size-differs-at one other.fitting c.if-one-size.true ∙ twin-is-at other c.args.q

pub offset_bounds-self-one : goal.offset_bounds-self-one
offset_bounds-self-one c =
    omega (arith, few c.args.self.now.words.now c.args.self.now.laid c.args.q c.requires.0 c.body-one.result c.body-one.ensures c.loop-j.j (omega (arith, c.if-one-size.false)))

pub bounds-self-one : goal.bounds-self-one
bounds-self-one c =
    there c.args.self.now.words.now c.args.self.now.laid c.args.q c.requires.0 c.body-one.result c.body-one.ensures c.loop-j.j (omega (arith, c.if-one-size.false))

pub offset_bounds-self-other : goal.offset_bounds-self-other
offset_bounds-self-other c =
    omega (arith, few c.args.self.now.words.now c.args.self.now.laid c.args.r c.requires.1 c.body-other.result c.body-other.ensures c.loop-j.j (omega arith))

pub bounds-self-other : goal.bounds-self-other
bounds-self-other c =
    there c.args.self.now.words.now c.args.self.now.laid c.args.r c.requires.1 c.body-other.result c.body-other.ensures c.loop-j.j (omega arith)

pub returns-then-self-one : goal.returns-then-self-one
returns-then-self-one c =
    let words = c.args.self.now.words.now in
    let laid = c.args.self.now.laid in
    let one = placed words laid c.args.q c.requires.0 c.body-one.result c.body-one.ensures in
    let other = placed words laid c.args.r c.requires.1 c.body-other.result c.body-other.ensures in
    word-differs-at (subst (Body words c.args.q c.body-one.result.start) c.if-one-size.false one) other.fitting c.loop-j.j (omega arith) (omega arith) c.if-self-one.true ∙ twin-is-at other c.args.q

pub returns : goal.returns
returns c =
    let words = c.args.self.now.words.now in
    let laid = c.args.self.now.laid in
    let one = placed words laid c.args.q c.requires.0 c.body-one.result c.body-one.ensures in
    let other = placed words laid c.args.r c.requires.1 c.body-other.result c.body-other.ensures in
    words_same-at (subst (Body words c.args.q c.body-one.result.start) c.if-one-size.false one) other.fitting (λ j h k. c.loop-j.invariant j k (omega arith)) ∙ twin-is-at other c.args.q
