-- From the start no count of numbers passes the size of its buffer, so a caller may take so many from the buffer's front.
-- Document 01, "Sample rows": "Its own buffers hold 1,024 tokens, 2,564 grammar words and 64 cuts".
-- Rests on Readings, Feeding.
--
-- Main definitions: CountsInLimits, InLimits, SameLengths, AnswerLimits.
-- Main statements: limits-start, limits-fed, lengths-fed (a buffer keeps its length), limits-answer, limits-finish.
use Rattle.std.specs.Prelude.{◌≡◌, refl, false, List, [], ◌∷◌, ℕ, ◌+◌, ◌-◌, ◌*◌, ◌≤◌, leb, eqb, length, Option, Some, None, Result, Ok, Err, IfSome}
use Rattle.std.proofs.Common.{subst, ◌∙◌, arith, length-set}
use Rattle.laws.specs.Ascii.{line_feed, space}
use Rattle.laws.specs.Decimals.{is_digit}
use Rattle.laws.specs.Picks.{pick-with}
use Rattle.laws.specs.Tests.{leb-false}
use Rattle.text.specs.declared.reading.Counts.{Counts}
use Rattle.text.specs.declared.reading.Held.{Held}
use Rattle.text.specs.declared.reading.Line.{Line}
use Rattle.text.specs.declared.reading.Line.TheVariants.{Words, Tokens, Cuts}
use Rattle.text.specs.declared.reading.Phase.{Phase}
use Rattle.text.specs.declared.reading.Phase.TheVariants.{Fresh, Number, Space, Bad, Done}
use Rattle.text.specs.declared.reading.State.{State}
use Rattle.text.specs.Readings.{most_words, most_tokens, most_cuts}
use Rattle.text.specs.Feeding.{start, within, in_phase, started, next_line, opened, longer, full, kept_in, kept, followed, ended}
use Rattle.text.specs.Feeding.{fed_in, fed, fed_all, fed-in, answer_in, answer_of, finish_in, finish_of}

pub record CountsInLimits (c : Counts) : Type 0 where
  pub words_in : c.words ≤ most_words
  pub tokens_in : c.tokens ≤ most_tokens
  pub cuts_in : c.cuts ≤ most_cuts

abbrev pub InLimits : State → Type 0
InLimits s = CountsInLimits s.counts

pub limits-start : InLimits start
limits-start = record { words_in = omega arith; tokens_in = omega arith; cuts_in = omega arith }

limits-next : (s : State) (l : Line) → InLimits s → InLimits (next_line s l)
limits-next s Words i = i
limits-next s Tokens i = i
limits-next s Cuts i = i

limits-kept : (h : Held) (v : ℕ) → full h.state ≡ false → InLimits h.state → InLimits (kept h v).state
limits-kept h v = go h.state.line
  where
    at : Line → Held
    at l = within h (record h.state { line = l })

    go : (l : Line) → full (at l).state ≡ false → InLimits h.state → InLimits (kept (at l) v).state
    go Words f i = record { words_in = omega (arith, leb-false most_words h.state.counts.words f); tokens_in = i.tokens_in; cuts_in = i.cuts_in }
    go Tokens f i = record { words_in = i.words_in; tokens_in = omega (arith, leb-false most_tokens h.state.counts.tokens f); cuts_in = i.cuts_in }
    go Cuts f i = record { words_in = i.words_in; tokens_in = i.tokens_in; cuts_in = omega (arith, leb-false most_cuts h.state.counts.cuts f) }

module _ (h : Held) (byte : ℕ) (i : InLimits h.state) where
  abbrev Fine : Held → Type 0
  Fine k = InLimits k.state

  limits-started : InLimits (started h.state byte)
  limits-started = pick-with InLimits (is_digit byte) (λ d. i) (λ d. i)

  limits-ended : (v : ℕ) → Fine (ended h v byte)
  limits-ended v = pick-with Fine (full h.state) (λ f. i) (λ f. follow (limits-kept h v f i))
    where
      s : State
      s = (kept h v).state

      follow : InLimits s → InLimits (followed s byte)
      follow j =
          pick-with InLimits (eqb byte space) (λ e. j) (λ e. pick-with InLimits (eqb byte line_feed) (λ f. limits-next s s.line j) (λ f. j))

  limits-in : (p : Phase) → Fine (fed_in p h byte)
  limits-in Fresh = pick-with InLimits (eqb byte line_feed) (λ f. limits-next h.state h.state.line i) (λ f. limits-started)
  limits-in (Number v) =
      pick-with Fine (is_digit byte)
      (λ d. pick-with InLimits (leb (v * 10 + (byte - 48)) 65535) (λ f. i) (λ f. i))
      (λ d. limits-ended v)
  limits-in Space = limits-started
  limits-in Bad = i
  limits-in Done = i

-- every piece keeps the limits
pub limits-fed : (piece : List ℕ) (h : Held) → InLimits h.state → InLimits (fed_all h piece).state
unfolding fed_all
limits-fed [] h i = i
limits-fed (byte ∷ piece) h i =
    limits-fed piece (fed h byte) (subst (λ (k : Held). InLimits k.state) (fed-in h byte h.state.phase refl) (limits-in h byte i h.state.phase))

-- and the buffers' lengths
pub record SameLengths (h k : Held) : Type 0 where
  pub words_long : length k.words ≡ length h.words
  pub tokens_long : length k.tokens ≡ length h.tokens
  pub cuts_long : length k.cuts ≡ length h.cuts

same-all : (h : Held) (s : State) → SameLengths h (within h s)
same-all h s = record { words_long = refl; tokens_long = refl; cuts_long = refl }

same-kept : (h : Held) (v : ℕ) (l : Line) → SameLengths h (kept_in l h v)
same-kept h v Words = record { words_long = length-set h.words h.state.counts.words v; tokens_long = refl; cuts_long = refl }
same-kept h v Tokens = record { words_long = refl; tokens_long = length-set h.tokens h.state.counts.tokens v; cuts_long = refl }
same-kept h v Cuts = record { words_long = refl; tokens_long = refl; cuts_long = length-set h.cuts h.state.counts.cuts v }

same-ended : (h : Held) (v byte : ℕ) → SameLengths h (ended h v byte)
same-ended h v byte =
    pick-with (SameLengths h) (full h.state) (λ f. same-all h (in_phase h.state Bad))
    (λ f. let k = same-kept h v h.state.line in record { words_long = k.words_long; tokens_long = k.tokens_long; cuts_long = k.cuts_long })

same-in : (h : Held) (byte : ℕ) (p : Phase) → SameLengths h (fed_in p h byte)
same-in h byte Fresh = same-all h (opened h.state byte)
same-in h byte (Number v) = pick-with (SameLengths h) (is_digit byte) (λ d. same-all h (longer h.state v byte)) (λ d. same-ended h v byte)
same-in h byte Space = same-all h (started h.state byte)
same-in h byte Bad = same-all h h.state
same-in h byte Done = same-all h h.state

pub lengths-fed : (piece : List ℕ) (h : Held) → SameLengths h (fed_all h piece)
unfolding fed_all
lengths-fed [] h = same-all h h.state
lengths-fed (byte ∷ piece) h =
    let one = subst (SameLengths h) (fed-in h byte h.state.phase refl) (same-in h byte h.state.phase) in
    let more = lengths-fed piece (fed h byte) in
    record {
      words_long = more.words_long ∙ one.words_long;
      tokens_long = more.tokens_long ∙ one.tokens_long;
      cuts_long = more.cuts_long ∙ one.cuts_long;
    }

-- and so do the counts of an answer
abbrev pub AnswerLimits : Result Counts Line → Type 0
AnswerLimits (Err l) = Unit {0}
AnswerLimits (Ok c) = CountsInLimits c

pub limits-answer : (s : State) → InLimits s → IfSome (answer_of s) AnswerLimits
limits-answer s i = go s.phase
  where
    go : (p : Phase) → IfSome (answer_in p s) AnswerLimits
    go Fresh = tt
    go (Number v) = tt
    go Space = tt
    go Bad = tt
    go Done = i

pub limits-finish : (s : State) → InLimits s → AnswerLimits (finish_of s)
limits-finish s i = go (answer_of s) (limits-answer s i)
  where
    go : (a : Option (Result Counts Line)) → IfSome a AnswerLimits → AnswerLimits (finish_in a s)
    go None l = tt
    go (Some said) l = l
