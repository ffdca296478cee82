-- A whole text fed in pieces of any size says what it says: the answer and the buffers are those of `read_text`.
-- Document 01, "Sample rows"; the sentences stand in Readings. "Text after the third line is not read": after the third line feed
-- nothing more is asked for.
-- Rests on Readings, ReadingLaws, Feeding, LineRead, LineFed, and on specs' TextFed.
--
-- Main statements: text-fed (the answer at the end, that nothing is asked for after the third line feed, and the buffers), numbers-fed (the
-- number of the line that is missing or bad: 1, 2 or 3), buffers-hold, pieces-fed and pieces-read (however the text is cut in pieces), early (an
-- answer given before the end stands, whatever comes).
use Rattle.std.specs.Prelude.{◌≡◌, refl, Bool, true, false, List, [], ◌∷◌, ◌++◌, ℕ, suc, ◌+◌, ◌≤◌, ◌<◌, eqb, length, set, Option, Some, None, Result, Err}
use Rattle.std.proofs.Common.{sym, ◌∙◌, add-zero, zero-add, add-one, arith}
use Rattle.std.proofs.Math.Path.{ap}
use Rattle.std.proofs.Math.Option.{none, some}
use Rattle.std.proofs.Math.Option.{Option as Maybe}
use Rattle.std.proofs.lemmas.List.Edits.{sets, sets-eq}
use Rattle.laws.specs.Ascii.{line_feed}
use Rattle.laws.specs.Parts.{flat}
use Rattle.laws.specs.Tests.{eqb-true}
use Rattle.text.specs.declared.reading.Counts.{Counts}
use Rattle.text.specs.declared.reading.Held.{Held}
use Rattle.text.specs.declared.reading.Line.{Line}
use Rattle.text.specs.declared.reading.Line.TheVariants.{Words, Tokens, Cuts}
use Rattle.text.specs.declared.reading.Phase.{Phase}
use Rattle.text.specs.declared.reading.Phase.TheVariants.{Fresh, Number, Space, Bad, Done}
use Rattle.text.specs.declared.reading.State.{State}
use Rattle.text.proofs.ReadingLaws.{bad-first, bad-second, bad-third, good-third, read-limited}
use Rattle.text.specs.Readings.{lines_of, line_of, at_most, most_words, most_tokens, most_cuts, Reading, lines, bad_line, read_lines, read_text}
use Rattle.text.specs.Feeding.{held, start, fed_all, fed-append, bad-stays, done-stays, line_number, answer_in, answer_of, finish_in, finish_of}
use Rattle.text.specs.LineRead.{numbers_after, line-is}
use Rattle.text.specs.LineFed.{NoFeed, held_in, line_done, kept_all, room, Broken, Ended, line-fed, NotDone, Unfinished, unfinished-stays}
use Rattle.text.specs.TextFed.{answer_for, number_in, onto, done, after_pieces, after, TextFed, TextHeld, NumberFed, NumbersFed}

-- a text has no line feed, or is cut at its first
data Cut : List ℕ → Type 0 where
  uncut : {text : List ℕ} → NoFeed text → Cut text
  cut_at : (line rest : List ℕ) → NoFeed line → Cut (line ++ (line_feed ∷ rest))

cut : (text : List ℕ) → Cut text
cut [] = uncut tt
cut (byte ∷ text) = go (eqb byte line_feed) refl (cut text)
  where
    go : (b : Bool) → eqb byte line_feed ≡ b → {text : List ℕ} → Cut text → Cut (byte ∷ text)
    go true e {text} c = rw (eqb-true byte line_feed e) (cut_at [] text tt)
    go false e (uncut {text} n) = uncut {text = byte ∷ text} (e, n)
    go false e (cut_at line rest n) = cut_at (byte ∷ line) rest (e, n)

lines-none : (text : List ℕ) → NoFeed text → lines_of text ≡ []
lines-none [] n = refl
lines-none (byte ∷ text) n = rw (n.0, lines-none text n.1)

lines-cut : (line rest : List ℕ) → NoFeed line → lines_of (line ++ (line_feed ∷ rest)) ≡ line ∷ lines_of rest
lines-cut [] rest n = refl
lines-cut (byte ∷ line) rest n = rw (n.0, lines-cut line rest n.1)

-- what a line does to a state in which it begins
data Level (h : Held) (text : List ℕ) : Type 0 where
  missing : lines_of text ≡ [] → Unfinished h.state.line (fed_all (held_in h Fresh) text) → Level h text
  spoilt : (line rest : List ℕ) → lines_of text ≡ line ∷ lines_of rest → line_of (room h.state) line ≡ none
      → Broken h.state.line (fed_all (held_in h Fresh) text) → Level h text
  passed : (line rest numbers : List ℕ) → lines_of text ≡ line ∷ lines_of rest → line_of (room h.state) line ≡ some numbers
      → fed_all (held_in h Fresh) text ≡ fed_all (line_done (kept_all numbers h)) rest → Level h text

level : (h : Held) {text : List ℕ} → Cut text → Level h text
level h (uncut {text} n) = missing (lines-none text n) (unfinished-stays text (held_in h Fresh) n tt)
level h (cut_at line rest n) = go (at_most (room h.state) (numbers_after line Fresh)) refl (line-fed rest line n Fresh h tt)
  where
    text : List ℕ
    text = line ++ (line_feed ∷ rest)

    go : (numbers : Maybe (List ℕ)) → at_most (room h.state) (numbers_after line Fresh) ≡ numbers → Ended h numbers (fed_all (held_in h Fresh) text) rest → Level h text
    go none e b = spoilt line rest (lines-cut line rest n) (line-is (room h.state) line ∙ e) b
    go (some numbers) e f = passed line rest numbers (lines-cut line rest n) (line-is (room h.state) line ∙ e) f

-- what numbers that are kept one after the other leave, in each line
abbrev at : Line → ℕ → ℕ → ℕ → State
at l w t c = record { line = l; phase = Fresh; counts = record { words = w; tokens = t; cuts = c } }

one-further : (n k : ℕ) → n + 1 + k ≡ n + suc k
one-further n k = omega arith

words-kept : (numbers : List ℕ) (w t c : ℕ) (W T C : List ℕ)
    → kept_all numbers (held (at Words w t c) W T C) ≡ held (at Words (w + length numbers) t c) (sets W w numbers) T C
words-kept [] w t c W T C = rw (add-zero w)
words-kept (v ∷ numbers) w t c W T C = words-kept numbers (w + 1) t c (set W w v) T C ∙ rw (one-further w (length numbers), add-one w)

tokens-kept : (numbers : List ℕ) (w t c : ℕ) (W T C : List ℕ)
    → kept_all numbers (held (at Tokens w t c) W T C) ≡ held (at Tokens w (t + length numbers) c) W (sets T t numbers) C
tokens-kept [] w t c W T C = rw (add-zero t)
tokens-kept (v ∷ numbers) w t c W T C = tokens-kept numbers w (t + 1) c W (set T t v) C ∙ rw (one-further t (length numbers), add-one t)

cuts-kept : (numbers : List ℕ) (w t c : ℕ) (W T C : List ℕ)
    → kept_all numbers (held (at Cuts w t c) W T C) ≡ held (at Cuts w t (c + length numbers)) W T (sets C c numbers)
cuts-kept [] w t c W T C = rw (add-zero c)
cuts-kept (v ∷ numbers) w t c W T C = cuts-kept numbers w t (c + 1) W T (set C c v) ∙ rw (one-further c (length numbers), add-one c)

-- what a state says that is bad, or in the midst of a line
answer-broken : (l : Line) (h : Held) → Broken l h → answer_of h.state ≡ Some (Err l)
answer-broken l h b = rw (b.1, b.0)

finish-unfinished : (l : Line) (h : Held) → Unfinished l h → finish_of h.state ≡ Err l
finish-unfinished l h u = rw (← u.0) (go h.state.phase u.1)
  where
    go : (p : Phase) → NotDone p → finish_in (answer_in p h.state) h.state ≡ Err h.state.line
    go Fresh o = refl
    go (Number v) o = refl
    go Space o = refl
    go Bad o = refl
    go Done o = absurd o

onto-sets : (numbers buffer : List ℕ) → length numbers ≤ length buffer → sets buffer 0 numbers ≡ onto numbers buffer
onto-sets numbers buffer h = sets-eq numbers buffer 0 (omega arith) ∙ rw (zero-add (length numbers))

pieces-one : (pieces : List (List ℕ)) (h : Held) → after_pieces pieces h ≡ fed_all h (flat pieces)
unfolding fed_all
pieces-one [] h = refl
pieces-one (piece ∷ pieces) h = pieces-one pieces (fed_all h piece) ∙ sym (fed-append h piece (flat pieces))

-- after an answer other than that more is wanted nothing changes
pub still : (h : Held) → (answer_of h.state ≡ None → ⊥) → (more : List ℕ) → fed_all h more ≡ h
still h = go h.state.phase refl
  where
    go : (p : Phase) → h.state.phase ≡ p → (answer_in p h.state ≡ None → ⊥) → (more : List ℕ) → fed_all h more ≡ h
    go Fresh e n more = absurd (n refl)
    go (Number v) e n more = absurd (n refl)
    go Space e n more = absurd (n refl)
    go Bad e n more = bad-stays more h e
    go Done e n more = done-stays more h e

pub finish-said : (s : State) → (answer_of s ≡ None → ⊥) → Some (finish_of s) ≡ answer_of s
finish-said s = go (answer_of s)
  where
    go : (a : Option (Result Counts Line)) → (a ≡ None → ⊥) → Some (finish_in a s) ≡ a
    go None n = absurd (n refl)
    go (Some said) n = refl

module _ (W T C : List ℕ) where
  bad-text : (text : List ℕ) (l : Line) → read_text text ≡ bad_line l → Unfinished l (after W T C text)
      → (2 < length (lines_of text) → answer_of (after W T C text).state ≡ Some (Err l)) → TextFed W T C text
  bad-text text l e u a =
      record {
        finished = finish-unfinished l (after W T C text) u ∙ ap answer_for (sym e);
        asked = λ three. a three ∙ ap (λ (r : Reading). Some (answer_for r)) (sym e);
        stored = λ words tokens cuts f. let z : ◌≡◌ {A = ℕ} 0 1 = cc in absurd (omega arith);
      }

  good-text : (text words tokens cuts : List ℕ) → read_text text ≡ lines words tokens cuts
      → after W T C text ≡ held (done words tokens cuts) (sets W 0 words) (sets T 0 tokens) (sets C 0 cuts) → TextFed W T C text
  good-text text words tokens cuts e f =
      record {
        finished = rw (f, e);
        asked = λ three. rw (f, e);
        stored = λ w t c g.
            let a : w ≡ words = cc in
            let b : t ≡ tokens = cc in
            let d : c ≡ cuts = cc in
            rw (a, b, d) f;
      }

  unfinished-broken : (l : Line) (h : Held) → Broken l h → Unfinished l h
  unfinished-broken l h b = (b.0, rw b.1 tt)

  read-is : (text : List ℕ) (ls : List (List ℕ)) → lines_of text ≡ ls → read_text text ≡ read_lines ls
  unfolding read_text
  read-is text ls e = ap read_lines e

  module _ (text : List ℕ) where
    -- the second line begins, and the third
    abbrev second : List ℕ → Held
    second words = held (at Tokens (0 + length words) 0 0) (sets W 0 words) T C

    abbrev third : List ℕ → List ℕ → Held
    third words tokens = held (at Cuts (0 + length words) (0 + length tokens) 0) (sets W 0 words) (sets T 0 tokens) C

    module _ (line₁ line₂ rest words tokens : List ℕ) (e : lines_of text ≡ line₁ ∷ (line₂ ∷ lines_of rest)) (g₁ : line_of most_words line₁ ≡ some words)
        (g₂ : line_of most_tokens line₂ ≡ some tokens) (f : after W T C text ≡ fed_all (third words tokens) rest) where
      abbrev ls : List (List ℕ)
      ls = line₁ ∷ (line₂ ∷ lines_of rest)

      third-read : Level (third words tokens) rest → TextFed W T C text
      third-read (missing m u) =
          bad-text text Cuts (read-is text ls e ∙ bad-third ls words g₁ tokens g₂ (rw m)) (rw f u) (λ three. absurd (omega (arith, ap length e, ap length m)))
      third-read (spoilt line₃ rest₃ e₃ n b) =
          bad-text text Cuts (read-is text ls e ∙ bad-third ls words g₁ tokens g₂ (rw e₃ n))
          (rw f (unfinished-broken Cuts (fed_all (third words tokens) rest) b)) (λ three. rw f (answer-broken Cuts (fed_all (third words tokens) rest) b))
      third-read (passed line₃ rest₃ cuts e₃ g₃ f₃) =
          good-text text words tokens cuts (read-is text ls e ∙ good-third ls words g₁ tokens g₂ cuts (rw e₃ g₃))
          (f ∙ f₃ ∙ ap (λ (k : Held). fed_all (line_done k) rest₃) (cuts-kept cuts (0 + length words) (0 + length tokens) 0 (sets W 0 words) (sets T 0 tokens) C)
          ∙ done-stays rest₃ _ refl ∙ rw (zero-add (length words), zero-add (length tokens), zero-add (length cuts)))

    module _ (line₁ rest words : List ℕ) (e : lines_of text ≡ line₁ ∷ lines_of rest) (g₁ : line_of most_words line₁ ≡ some words)
        (f : after W T C text ≡ fed_all (second words) rest) where
      second-read : Level (second words) rest → TextFed W T C text
      second-read (missing m u) =
          bad-text text Tokens (read-is text (line₁ ∷ lines_of rest) e ∙ bad-second (line₁ ∷ lines_of rest) words g₁ (rw m)) (rw f u)
          (λ three. absurd (omega (arith, ap length e, ap length m)))
      second-read (spoilt line₂ rest₂ e₂ n b) =
          bad-text text Tokens (read-is text (line₁ ∷ lines_of rest) e ∙ bad-second (line₁ ∷ lines_of rest) words g₁ (rw e₂ n))
          (rw f (unfinished-broken Tokens (fed_all (second words) rest) b)) (λ three. rw f (answer-broken Tokens (fed_all (second words) rest) b))
      second-read (passed line₂ rest₂ tokens e₂ g₂ f₂) =
          third-read line₁ line₂ rest₂ words tokens (e ∙ ap (λ (ls : List (List ℕ)). line₁ ∷ ls) e₂) g₁ g₂
          (f ∙ f₂ ∙ ap (λ (k : Held). fed_all (line_done k) rest₂) (tokens-kept tokens (0 + length words) 0 0 (sets W 0 words) T C))
          (level (third words tokens) (cut rest₂))

    first-read : Level (held start W T C) text → TextFed W T C text
    first-read (missing m u) = bad-text text Words (read-is text [] m ∙ bad-first [] refl) u (λ three. absurd (omega (arith, ap length m)))
    first-read (spoilt line₁ rest e n b) =
        bad-text text Words (read-is text (line₁ ∷ lines_of rest) e ∙ bad-first (line₁ ∷ lines_of rest) n) (unfinished-broken Words (after W T C text) b)
        (λ three. answer-broken Words (after W T C text) b)
    first-read (passed line₁ rest words e g f) =
        second-read line₁ rest words e g (f ∙ ap (λ (k : Held). fed_all (line_done k) rest) (words-kept words 0 0 0 W T C)) (level (second words) (cut rest))

  -- a text that has been fed whole
  pub text-fed : (text : List ℕ) → TextFed W T C text
  text-fed text = first-read text (level (held start W T C) (cut text))

  number-fed : (text : List ℕ) (l : Line) → read_text text ≡ bad_line l → NumberFed W T C text (line_number l)
  number-fed text l e =
      let f = text-fed text in
      let said : answer_for (read_text text) ≡ Err l = ap answer_for e in
      record {
        read = ap (λ (a : Result Counts Line). number_in (Some a)) said;
        at_end = ap (λ (a : Result Counts Line). number_in (Some a)) (f.finished ∙ said);
        at_once = λ three. ap number_in (f.asked three ∙ ap (λ (a : Result Counts Line). Some a) said);
      }

  -- the first of the three lines that is missing or bad has the number 1, the second 2, the third 3
  pub numbers-fed : (text : List ℕ) → NumbersFed W T C text
  numbers-fed text =
      let ls = lines_of text in
      let e = read-is text ls refl in
      record {
        first_line = λ a. number-fed text Words (e ∙ bad-first ls a);
        second_line = λ words a b. number-fed text Tokens (e ∙ bad-second ls words a b);
        third_line = λ words tokens a b c. number-fed text Cuts (e ∙ bad-third ls words a tokens b c);
      }

  -- buffers of the sizes that document 01 gives hold the numbers that have been read at their fronts, and the rest of them is as it was
  pub buffers-hold : most_words ≤ length W → most_tokens ≤ length T → most_cuts ≤ length C → (text words tokens cuts : List ℕ) → read_text text ≡ lines words tokens cuts
      → after W T C text ≡ held (done words tokens cuts) (onto words W) (onto tokens T) (onto cuts C)
  buffers-hold w t c text words tokens cuts e =
      let l = read-limited text words tokens cuts e in
      (text-fed text).stored words tokens cuts e
      ∙ rw (onto-sets words W (omega (arith, l.words_limited)), onto-sets tokens T (omega (arith, l.tokens_limited)), onto-sets cuts C (omega (arith, l.cuts_limited)))

  pub text-answered : (text : List ℕ) (s r : State) (W' T' C' : List ℕ) → s ≡ start → held r W' T' C' ≡ fed_all (held s W T C) text
      → (finish_of r ≡ answer_for (read_text text)) × TextHeld W T C text W' T' C'
  text-answered text s r W' T' C' e f =
      let g : held r W' T' C' ≡ after W T C text = f ∙ ap (λ (q : State). fed_all (held q W T C) text) e in (
        ap (λ (h : Held). finish_of h.state) g ∙ (text-fed text).finished,
        record { words_held = ap (λ (h : Held). h.words) g; tokens_held = ap (λ (h : Held). h.tokens) g; cuts_held = ap (λ (h : Held). h.cuts) g },
      )

  -- however a text is cut in pieces, feeding them is feeding the text
  pub pieces-fed : (pieces : List (List ℕ)) → after_pieces pieces (held start W T C) ≡ after W T C (flat pieces)
  pieces-fed pieces = pieces-one pieces (held start W T C)

  pub pieces-read : (pieces : List (List ℕ)) → finish_of (after_pieces pieces (held start W T C)).state ≡ answer_for (read_text (flat pieces))
  pieces-read pieces = ap (λ (h : Held). finish_of h.state) (pieces-fed pieces) ∙ (text-fed (flat pieces)).finished

  -- an answer other than that more is wanted stands, whatever comes
  pub early : (text : List ℕ) → (answer_of (after W T C text).state ≡ None → ⊥) → (more : List ℕ) → answer_of (after W T C text).state ≡ Some (answer_for (read_text (text ++ more)))
  early text n more =
      sym (finish-said (after W T C text).state n)
      ∙ ap (λ (h : Held). Some (finish_of h.state)) (sym (fed-append (held start W T C) text more ∙ still (after W T C text) n more))
      ∙ ap (λ (r : Result Counts Line). Some r) (text-fed (text ++ more)).finished
