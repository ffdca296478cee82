-- A whole line fed byte by byte: its numbers are kept and the next line begins, or the state is bad at this line.
-- Document 01, "Sample rows"; the sentences stand in Readings.
-- Rests on Readings, Feeding, LineRead.
--
-- Main definitions: NoFeed, held_in, line_done, kept_all, room, Broken, Ended, Unfinished.
-- Main statements: line-fed (a line with its line feed), unfinished-stays (a part of a line).
use Rattle.std.specs.Prelude.{◌≡◌, refl, Bool, true, false, List, [], ◌∷◌, ◌++◌, ℕ, zero, suc, ◌+◌, ◌-◌, ◌*◌, leb, eqb, length}
use Rattle.std.proofs.Common.{sym, ◌∙◌, arith}
use Rattle.std.proofs.Math.Path.{subst}
use Rattle.std.proofs.Math.Option.{Option, none, some}
use Rattle.std.proofs.Math.Dec.{leb-zero, leb-suc-suc}
use Rattle.laws.specs.Ascii.{line_feed, space}
use Rattle.laws.specs.Decimals.{is_digit}
use Rattle.laws.specs.Picks.{pick}
use Rattle.laws.specs.Tests.{le-leb, lt-leb}
use Rattle.text.specs.declared.reading.Held.{Held}
use Rattle.text.specs.declared.reading.Line.{Line}
use Rattle.text.specs.declared.reading.Line.TheVariants.{Words, Tokens, Cuts}
use Rattle.text.specs.declared.reading.Phase.{Phase}
use Rattle.text.specs.declared.reading.Phase.TheVariants.{Fresh, Number, Space, Bad, Done}
use Rattle.text.specs.declared.reading.State.{State}
use Rattle.text.specs.Readings.{both, at_most}
use Rattle.text.specs.Feeding.{within, in_phase, started, line_ended, opened, longer, counted, limit, full, kept, followed, ended, fed_in, fed, fed_all}
use Rattle.text.specs.Feeding.{ended-full, ended-kept, fed-fresh, fed-space, fed-longer, fed-ended, fed-in, bad-stays}
use Rattle.text.specs.LineRead.{Kind, digit, gap, other, kind, numbers_after}

-- no byte is a line feed
abbrev pub NoFeed : List ℕ → Type 0
NoFeed [] = Unit {0}
NoFeed (byte ∷ bytes) = (eqb byte line_feed ≡ false) × NoFeed bytes

abbrev pub held_in : Held → Phase → Held
held_in h p = within h (in_phase h.state p)

-- the line has ended well
abbrev pub line_done : Held → Held
line_done h = within h (line_ended h.state)

-- numbers kept one after the other
abbrev pub kept_all : List ℕ → Held → Held
kept_all [] h = h
kept_all (v ∷ vs) h = kept_all vs (kept h v)

-- how many more numbers the line may have
abbrev pub room : State → ℕ
room s = limit s.line - counted s s.line

-- the same at another line
abbrev at_line : Held → Line → Phase → Held
at_line h l p = within h (record { line = l; phase = p; counts = h.state.counts })

-- what goes by the line does not go by the phase
opened-any : (h : Held) (p : Phase) (byte : ℕ) → within h (opened (in_phase h.state p) byte) ≡ within h (opened h.state byte)
opened-any h p byte = go h.state.line
  where
    go : (l : Line) → within h (opened (at_line h l p).state byte) ≡ within h (opened (at_line h l h.state.phase).state byte)
    go Words = refl
    go Tokens = refl
    go Cuts = refl

ended-any : (h : Held) (p : Phase) (value byte : ℕ) → ended (held_in h p) value byte ≡ ended h value byte
ended-any h p value byte = go h.state.line
  where
    go : (l : Line) → ended (at_line h l p) value byte ≡ ended (at_line h l h.state.phase) value byte
    go Words = refl
    go Tokens = refl
    go Cuts = refl

line-kept : (h : Held) (v : ℕ) → (kept h v).state.line ≡ h.state.line
line-kept h v = go h.state.line
  where
    go : (l : Line) → (kept (at_line h l h.state.phase) v).state.line ≡ l
    go Words = refl
    go Tokens = refl
    go Cuts = refl

room-kept : (h : Held) (v k : ℕ) → room h.state ≡ suc k → room (kept h v).state ≡ k
room-kept h v k = go h.state.line
  where
    go : (l : Line) → room (at_line h l h.state.phase).state ≡ suc k → room (kept (at_line h l h.state.phase) v).state ≡ k
    go Words e = omega arith
    go Tokens e = omega arith
    go Cuts e = omega arith

-- a number that ends where there is no room, and where there is
ended-out : (h : Held) (v byte : ℕ) → room h.state ≡ 0 → ended h v byte ≡ held_in h Bad
ended-out h v byte e = sym (ended-full h v byte (in_phase h.state Bad) (le-leb (limit h.state.line) (counted h.state h.state.line) (omega arith)) refl)

ended-in : (h : Held) (v byte k : ℕ) → room h.state ≡ suc k → ended h v byte ≡ within (kept h v) (followed (kept h v).state byte)
ended-in h v byte k e =
    sym (ended-kept h (kept h v) v byte (followed (kept h v).state byte) (lt-leb (limit h.state.line) (counted h.state h.state.line) (omega arith)) refl refl)

-- the state is bad at this line
abbrev pub Broken : Line → Held → Type 0
Broken l h = (h.state.line ≡ l) × (h.state.phase ≡ Bad)

broken : (h : Held) (bytes : List ℕ) → Broken h.state.line (fed_all (held_in h Bad) bytes)
broken h bytes = rw (bad-stays bytes (held_in h Bad) refl) (refl, refl)

-- after a line that makes these numbers, or none because it is bad; `rest` comes after it
abbrev pub Ended : Held → Option (List ℕ) → Held → List ℕ → Type 0
Ended h none after rest = Broken h.state.line after
Ended h (some numbers) after rest = after ≡ fed_all (line_done (kept_all numbers h)) rest

-- the phases in the midst of a line
abbrev pub Open : Phase → Type 0
Open Fresh = Unit {0}
Open (Number value) = Unit {0}
Open Space = Unit {0}
Open Bad = ⊥
Open Done = ⊥

-- a byte in each phase of a line
module _ (h : Held) (byte : ℕ) where
  from-fresh : fed (held_in h Fresh) byte ≡ within h (opened h.state byte)
  from-fresh = sym (fed-fresh (held_in h Fresh) byte (opened (in_phase h.state Fresh) byte) refl refl) ∙ opened-any h Fresh byte

  from-space : fed (held_in h Space) byte ≡ within h (started h.state byte)
  from-space = sym (fed-space (held_in h Space) byte (started h.state byte) refl refl)

  from-digit : (value : ℕ) → is_digit byte ≡ true → fed (held_in h (Number value)) byte ≡ within h (longer h.state value byte)
  from-digit value d = sym (fed-longer (held_in h (Number value)) byte value (longer h.state value byte) refl d refl)

  from-number : (value : ℕ) → is_digit byte ≡ false → fed (held_in h (Number value)) byte ≡ ended h value byte
  from-number value d =
      sym (fed-ended (held_in h (Number value)) byte value (ended (held_in h (Number value)) value byte) refl d refl) ∙ ended-any h (Number value) value byte

-- one more number among those that there is room for
both-out : (v : ℕ) (others : Option (List ℕ)) → at_most 0 (both (some v) others) ≡ none
both-out v none = refl
both-out v (some numbers) = rw (lt-leb (suc (length numbers)) 0 (omega arith))

both-in : (v k : ℕ) (others : Option (List ℕ)) → at_most (suc k) (both (some v) others) ≡ both (some v) (at_most k others)
both-in v k none = refl
both-in v k (some numbers) = rw (leb-suc-suc (length numbers) k) (go (leb (length numbers) k))
  where
    go : (b : Bool) → pick b (some (v ∷ numbers)) none ≡ both (some v) (pick b (some numbers) none)
    go true = refl
    go false = refl

ended-both : (h : Held) (v : ℕ) (others : Option (List ℕ)) (after : Held) (rest : List ℕ)
    → Ended (kept h v) others after rest → Ended h (both (some v) others) after rest
ended-both h v none after rest t = (t.0 ∙ line-kept h v, t.1)
ended-both h v (some numbers) after rest t = t

module _ (rest : List ℕ) where
  -- what is to be shown of a line
  abbrev FedRight : List ℕ → Type 0
  FedRight line = (p : Phase) (h : Held) → Open p → Ended h (at_most (room h.state) (numbers_after line p)) (fed_all (held_in h p) (line ++ (line_feed ∷ rest))) rest

  -- one byte, and then the others
  step : (h : Held) (p : Phase) (byte : ℕ) (bytes : List ℕ) (numbers : Option (List ℕ)) (next : Held) → fed (held_in h p) byte ≡ next
      → Ended h numbers (fed_all next bytes) rest → Ended h numbers (fed_all (held_in h p) (byte ∷ bytes)) rest
  unfolding fed_all
  step h p byte bytes numbers next e t = subst (λ (k : Held). Ended h numbers (fed_all k bytes) rest) (sym e) t

  -- the line ends here
  at_end : FedRight []
  at_end Fresh h o = rw (leb-zero (room h.state)) (step h Fresh line_feed rest (some []) (line_done h) (from-fresh h line_feed) refl)
  at_end (Number v) h o = go (room h.state) refl
    where
      go : (k : ℕ) → room h.state ≡ k → Ended h (at_most k (some (v ∷ []))) (fed_all (held_in h (Number v)) (line_feed ∷ rest)) rest
      go zero e = step h (Number v) line_feed rest none (held_in h Bad) (from-number h line_feed v refl ∙ ended-out h v line_feed e) (broken h rest)
      go (suc k) e =
          rw (le-leb 1 (suc k) (omega arith))
          (step h (Number v) line_feed rest (some (v ∷ [])) (line_done (kept h v)) (from-number h line_feed v refl ∙ ended-in h v line_feed k e) refl)
  at_end Space h o = step h Space line_feed rest none (held_in h Bad) (from-space h line_feed) (broken h rest)
  at_end Bad h o = absurd o
  at_end Done h o = absurd o

  module _ (byte : ℕ) (line : List ℕ) (no-feed : eqb byte line_feed ≡ false) (rest-right : FedRight line) where
    abbrev bytes : List ℕ
    bytes = line ++ (line_feed ∷ rest)

    -- the byte makes the line bad
    spoilt : (h : Held) (p : Phase) → fed (held_in h p) byte ≡ held_in h Bad → Ended h none (fed_all (held_in h p) (byte ∷ bytes)) rest
    spoilt h p e = step h p byte bytes none (held_in h Bad) e (broken h bytes)

    -- the byte is a digit that starts a number or goes on with one, and the line goes on
    onward : (h : Held) (p : Phase) (v : ℕ) → fed (held_in h p) byte ≡ held_in h (Number v)
        → Ended h (at_most (room h.state) (numbers_after line (Number v))) (fed_all (held_in h p) (byte ∷ bytes)) rest
    onward h p v e =
        step h p byte bytes (at_most (room h.state) (numbers_after line (Number v))) (held_in h (Number v)) e (rest-right (Number v) h tt)

    -- a number must start
    at_start : (h : Held) (p : Phase) → fed (held_in h p) byte ≡ within h (started h.state byte)
        → Ended h (at_most (room h.state) (pick (is_digit byte) (numbers_after line (Number (byte - 48))) none)) (fed_all (held_in h p) (byte ∷ bytes)) rest
    at_start h p e = go (is_digit byte) refl
      where
        go : (d : Bool) → is_digit byte ≡ d
            → Ended h (at_most (room h.state) (pick d (numbers_after line (Number (byte - 48))) none)) (fed_all (held_in h p) (byte ∷ bytes)) rest
        go true d = onward h p (byte - 48) (rw d at e)
        go false d = spoilt h p (rw d at e)

    -- one more digit
    at-digit : (h : Held) (v : ℕ) → is_digit byte ≡ true → (fits : Bool) → leb (v * 10 + (byte - 48)) 65535 ≡ fits
        → Ended h (at_most (room h.state) (pick fits (numbers_after line (Number (v * 10 + (byte - 48)))) none)) (fed_all (held_in h (Number v)) (byte ∷ bytes)) rest
    at-digit h v d true e = onward h (Number v) (v * 10 + (byte - 48)) (rw e at (from-digit h byte v d))
    at-digit h v d false e = spoilt h (Number v) (rw e at (from-digit h byte v d))

    -- a space after a number
    at-space : (h : Held) (v : ℕ) → byte ≡ space → (k : ℕ) → room h.state ≡ k
        → Ended h (at_most k (both (some v) (numbers_after line Space))) (fed_all (held_in h (Number v)) (byte ∷ bytes)) rest
    at-space h v e zero r = rw (both-out v (numbers_after line Space)) (spoilt h (Number v) (from-number h byte v (rw e) ∙ ended-out h v byte r))
    at-space h v e (suc k) r =
        rw (both-in v k (numbers_after line Space))
        (step h (Number v) byte bytes (both (some v) (at_most k (numbers_after line Space))) (held_in (kept h v) Space)
        (from-number h byte v (rw e) ∙ ended-in h v byte k r ∙ rw e)
        (ended-both h v (at_most k (numbers_after line Space)) (fed_all (held_in (kept h v) Space) bytes) rest
        (rw (room-kept h v k r) at (rest-right Space (kept h v) tt))))

    -- anything else after a number
    at-other : (h : Held) (v : ℕ) → is_digit byte ≡ false → eqb byte space ≡ false → (k : ℕ) → room h.state ≡ k
        → Ended h none (fed_all (held_in h (Number v)) (byte ∷ bytes)) rest
    at-other h v d s zero r = spoilt h (Number v) (from-number h byte v d ∙ ended-out h v byte r)
    at-other h v d s (suc k) r =
        step h (Number v) byte bytes none (held_in (kept h v) Bad) (from-number h byte v d ∙ ended-in h v byte k r ∙ rw (s, no-feed))
        (ended-both h v none (fed_all (held_in (kept h v) Bad) bytes) rest (broken (kept h v) bytes))

    in-number : (h : Held) (v : ℕ) → Kind byte
        → Ended h (at_most (room h.state) (numbers_after (byte ∷ line) (Number v))) (fed_all (held_in h (Number v)) (byte ∷ bytes)) rest
    in-number h v (digit d s) = rw d (at-digit h v d (leb (v * 10 + (byte - 48)) 65535) refl)
    in-number h v (gap e) = rw e (rw e at (at-space h v e (room h.state) refl))
    in-number h v (other d s) = rw (d, s) (at-other h v d s (room h.state) refl)

    one-more : FedRight (byte ∷ line)
    one-more Fresh h o = at_start h Fresh (from-fresh h byte ∙ rw no-feed)
    one-more (Number v) h o = in-number h v (kind byte)
    one-more Space h o = at_start h Space (from-space h byte)
    one-more Bad h o = absurd o
    one-more Done h o = absurd o

  pub line-fed : (line : List ℕ) → NoFeed line → FedRight line
  line-fed [] n = at_end
  line-fed (byte ∷ line) n = one-more byte line n.0 (line-fed line n.1)

-- this line is being read, or is bad
abbrev pub NotDone : Phase → Type 0
NotDone Fresh = Unit {0}
NotDone (Number value) = Unit {0}
NotDone Space = Unit {0}
NotDone Bad = Unit {0}
NotDone Done = ⊥

abbrev pub Unfinished : Line → Held → Type 0
Unfinished l h = (h.state.line ≡ l) × NotDone h.state.phase

pick-keeps : {A : Type 0} (P : A → Type 0) (b : Bool) {x y : A} → P x → P y → P (pick b x y)
pick-keeps P true p q = p
pick-keeps P false p q = q

module _ (h : Held) (byte : ℕ) (no-feed : eqb byte line_feed ≡ false) where
  -- after this byte in phase p
  abbrev Stays : Held → Type 0
  Stays = Unfinished h.state.line

  start-stays : Stays (within h (started h.state byte))
  start-stays = pick-keeps (λ (s : State). Stays (within h s)) (is_digit byte) (refl, tt) (refl, tt)

  longer-stays : (v : ℕ) → Stays (within h (longer h.state v byte))
  longer-stays v = pick-keeps (λ (s : State). Stays (within h s)) (leb (v * 10 + (byte - 48)) 65535) (refl, tt) (refl, tt)

  ended-stays : (v : ℕ) → Stays (ended h v byte)
  ended-stays v =
      pick-keeps Stays (full h.state) (refl, tt)
      (rw no-feed (pick-keeps (λ (s : State). Stays (within (kept h v) s)) (eqb byte space) (line-kept h v, tt) (line-kept h v, tt)))

  in-phase-stays : (p : Phase) → h.state.phase ≡ p → NotDone p → Stays (fed_in p h byte)
  in-phase-stays Fresh e o = rw no-feed start-stays
  in-phase-stays (Number v) e o = pick-keeps Stays (is_digit byte) (longer-stays v) (ended-stays v)
  in-phase-stays Space e o = start-stays
  in-phase-stays Bad e o = (refl, rw e tt)
  in-phase-stays Done e o = absurd o

  byte-stays : NotDone h.state.phase → Stays (fed h byte)
  byte-stays o = subst Stays (fed-in h byte h.state.phase refl) (in-phase-stays h.state.phase refl o)

-- a part of a line does not end it
pub unfinished-stays : (bytes : List ℕ) (h : Held) → NoFeed bytes → NotDone h.state.phase → Unfinished h.state.line (fed_all h bytes)
unfolding fed_all
unfinished-stays [] h n o = (refl, o)
unfinished-stays (byte ∷ bytes) h n o =
    let one = byte-stays h byte n.0 o in
    let more = unfinished-stays bytes (fed h byte) n.1 one.1 in
    (more.0 ∙ one.0, more.1)
