-- Reading a text byte by byte: the state after a byte, after a piece, and what the lent buffers hold then.
-- Document 01, "Sample rows"; the sentences stand in Readings. TextFed shows that this reads what Readings says.
-- Rests on Readings.
--
-- Main definitions: held (a `Held` of src/reading.rt from its parts), fed, fed_all, start, answer_of, finish_of.
-- Main statements: fed-append (a piece and then another are one piece), bad-stays, done-stays (after that nothing changes).
use Rattle.std.specs.Prelude.{◌≡◌, refl, Bool, true, false, List, [], ◌∷◌, ◌++◌, ℕ, ◌+◌, ◌-◌, ◌*◌, ◌≤◌, ◌<◌, leb, eqb, length, get_or, drop, set, Option, Some, None, Result, Ok, Err}
use Rattle.std.proofs.Common.{sym, ◌∙◌, add-one, drop_of_length-le, drop-cons}
use Rattle.std.proofs.Math.Path.{ap}
use Rattle.laws.specs.Ascii.{line_feed, space}
use Rattle.laws.specs.Decimals.{is_digit}
use Rattle.laws.specs.Picks.{pick}
use Rattle.text.specs.declared.reading.Counts.{Counts}
use Rattle.text.specs.declared.reading.Held.{Held}
use Rattle.text.specs.declared.reading.Line.{Line}
use Rattle.text.specs.declared.reading.Line.TheVariants.{Words, Tokens, Cuts}
use Rattle.text.specs.declared.reading.Phase.{Phase}
use Rattle.text.specs.declared.reading.Phase.TheVariants.{Fresh, Number, Space, Bad, Done}
use Rattle.text.specs.declared.reading.State.{State}
use Rattle.text.specs.Readings.{most_words, most_tokens, most_cuts}

-- a state, and what the buffers hold
abbrev pub held : State → List ℕ → List ℕ → List ℕ → Held
held s w t c = record { state = s; words = w; tokens = t; cuts = c }

-- the same buffers with another state
abbrev pub within : Held → State → Held
within h s = held s h.words h.tokens h.cuts

-- nothing has been read
abbrev pub start : State
start = record { line = Words; phase = Fresh; counts = record { words = 0; tokens = 0; cuts = 0 } }

-- the same state in another phase
abbrev pub in_phase : State → Phase → State
in_phase s p = record s { phase = p }

-- a number must start: a digit
abbrev pub started : State → ℕ → State
started s byte = pick (is_digit byte) (in_phase s (Number (byte - 48))) (in_phase s Bad)

-- the line ends, and the next begins; the third is the last
abbrev pub next_line : State → Line → State
next_line s Words = record s { line = Tokens; phase = Fresh }
next_line s Tokens = record s { line = Cuts; phase = Fresh }
next_line s Cuts = in_phase s Done

abbrev pub line_ended : State → State
line_ended s = next_line s s.line

-- a line begins: it ends at once, or a number must start
abbrev pub opened : State → ℕ → State
opened s byte = pick (eqb byte line_feed) (line_ended s) (started s byte)

-- one more digit of a number
abbrev pub longer : State → ℕ → ℕ → State
longer s value digit = pick (leb (value * 10 + (digit - 48)) 65535) (in_phase s (Number (value * 10 + (digit - 48)))) (in_phase s Bad)

-- how many numbers the line has, and how many it may have
abbrev pub counted : State → Line → ℕ
counted s Words = s.counts.words
counted s Tokens = s.counts.tokens
counted s Cuts = s.counts.cuts

abbrev pub limit : Line → ℕ
limit Words = most_words
limit Tokens = most_tokens
limit Cuts = most_cuts

abbrev pub full : State → Bool
full s = leb (limit s.line) (counted s s.line)

-- one more number of the line, in the line's buffer
abbrev pub kept_in : Line → Held → ℕ → Held
kept_in Words h v =
    let c = h.state.counts in
    record h { state = record h.state { counts = record c { words = c.words + 1 } }; words = set h.words c.words v }
kept_in Tokens h v =
    let c = h.state.counts in
    record h { state = record h.state { counts = record c { tokens = c.tokens + 1 } }; tokens = set h.tokens c.tokens v }
kept_in Cuts h v =
    let c = h.state.counts in
    record h { state = record h.state { counts = record c { cuts = c.cuts + 1 } }; cuts = set h.cuts c.cuts v }

abbrev pub kept : Held → ℕ → Held
kept h v = kept_in h.state.line h v

-- what may follow a number: a space, or the line's end
abbrev pub followed : State → ℕ → State
followed s byte = pick (eqb byte space) (in_phase s Space) (pick (eqb byte line_feed) (line_ended s) (in_phase s Bad))

-- a number ends at a byte that is no digit
abbrev pub ended : Held → ℕ → ℕ → Held
ended h value byte = pick (full h.state) (within h (in_phase h.state Bad)) (within (kept h value) (followed (kept h value).state byte))

abbrev pub fed_in : Phase → Held → ℕ → Held
fed_in Fresh h byte = within h (opened h.state byte)
fed_in (Number value) h byte = pick (is_digit byte) (within h (longer h.state value byte)) (ended h value byte)
fed_in Space h byte = within h (started h.state byte)
fed_in Bad h byte = h
fed_in Done h byte = h

-- after one byte
unfoldable pub fed : Held → ℕ → Held
fed h byte = fed_in h.state.phase h byte

-- after the bytes of a piece
unfoldable pub fed_all : Held → List ℕ → Held
fed_all h [] = h
fed_all h (byte ∷ bytes) = fed_all (fed h byte) bytes

-- the number of a line
abbrev pub line_number : Line → ℕ
line_number Words = 1
line_number Tokens = 2
line_number Cuts = 3

-- what the text says so far: nothing while more of it is wanted
abbrev pub answer_in : Phase → State → Option (Result Counts Line)
answer_in Fresh s = None
answer_in (Number value) s = None
answer_in Space s = None
answer_in Bad s = Some (Err s.line)
answer_in Done s = Some (Ok s.counts)

abbrev pub answer_of : State → Option (Result Counts Line)
answer_of s = answer_in s.phase s

-- what it says where no more comes: the line that is being read is without its line feed
abbrev pub finish_in : Option (Result Counts Line) → State → Result Counts Line
finish_in None s = Err s.line
finish_in (Some said) s = said

abbrev pub finish_of : State → Result Counts Line
finish_of s = finish_in (answer_of s) s

-- a number ends where its line is full, and where it is not
pub ended-full : (h : Held) (value byte : ℕ) (r : State) → full h.state ≡ true → r ≡ in_phase h.state Bad → within h r ≡ ended h value byte
ended-full h value byte r f e = rw (f, e)

pub ended-kept : (h k : Held) (value byte : ℕ) (r : State) → full h.state ≡ false → k ≡ kept h value → r ≡ followed k.state byte
    → within k r ≡ ended h value byte
ended-kept h k value byte r f d e = ap (λ (s : State). within k s) e ∙ ap (λ (l : Held). within l (followed l.state byte)) d ∙ rw f

-- a byte in each phase
module _ (h : Held) (byte : ℕ) where
  pub fed-in : (p : Phase) → h.state.phase ≡ p → fed_in p h byte ≡ fed h byte
  unfolding fed
  fed-in p e = ap (λ (q : Phase). fed_in q h byte) (sym e)

  pub fed-fresh : (r : State) → h.state.phase ≡ Fresh → r ≡ opened h.state byte → within h r ≡ fed h byte
  fed-fresh r e d = ap (λ (s : State). within h s) d ∙ fed-in Fresh e

  pub fed-space : (r : State) → h.state.phase ≡ Space → r ≡ started h.state byte → within h r ≡ fed h byte
  fed-space r e d = ap (λ (s : State). within h s) d ∙ fed-in Space e

  pub fed-longer : (value : ℕ) (r : State) → h.state.phase ≡ Number value → is_digit byte ≡ true → r ≡ longer h.state value byte → within h r ≡ fed h byte
  fed-longer value r e t d = ap (λ (s : State). within h s) d ∙ rw t at (fed-in (Number value) e)

  pub fed-ended : (value : ℕ) (k : Held) → h.state.phase ≡ Number value → is_digit byte ≡ false → k ≡ ended h value byte → k ≡ fed h byte
  fed-ended value k e t d = d ∙ rw t at (fed-in (Number value) e)

  pub fed-bad : h.state.phase ≡ Bad → h ≡ fed h byte
  fed-bad e = fed-in Bad e

  pub fed-done : h.state.phase ≡ Done → h ≡ fed h byte
  fed-done e = fed-in Done e

-- a piece and then another are one piece
pub fed-append : (h : Held) (a b : List ℕ) → fed_all h (a ++ b) ≡ fed_all (fed_all h a) b
unfolding fed_all
fed-append h [] b = refl
fed-append h (byte ∷ a) b = fed-append (fed h byte) a b

-- after a bad line, and after the third line feed, no byte changes anything
pub bad-stays : (bytes : List ℕ) (h : Held) → h.state.phase ≡ Bad → fed_all h bytes ≡ h
unfolding fed_all
bad-stays [] h e = refl
bad-stays (byte ∷ bytes) h e = ap (λ (k : Held). fed_all k bytes) (sym (fed-bad h byte e)) ∙ bad-stays bytes h e

pub done-stays : (bytes : List ℕ) (h : Held) → h.state.phase ≡ Done → fed_all h bytes ≡ h
unfolding fed_all
done-stays [] h e = refl
done-stays (byte ∷ bytes) h e = ap (λ (k : Held). fed_all k bytes) (sym (fed-done h byte e)) ∙ done-stays bytes h e

-- a byte, and then those after it
pub fed-more : (h next : Held) (piece : List ℕ) (i : ℕ) → i < length piece → next ≡ fed h (get_or piece i 0)
    → fed_all h (drop i piece) ≡ fed_all next (drop (i + 1) piece)
unfolding fed_all
fed-more h next piece i l e = rw (drop-cons piece i 0 l, e, add-one)

pub fed-none : (h : Held) (piece : List ℕ) (i : ℕ) → length piece ≤ i → fed_all h (drop i piece) ≡ h
unfolding fed_all
fed-none h piece i l = rw (drop_of_length-le piece l)
