-- A line read byte by byte makes the numbers that its parts between the spaces stand for.
-- Document 01, "Sample rows"; the sentences stand in Readings.
-- Rests on Readings.
--
-- Main definitions: Kind, numbers_after. Main statements: kind, line-is (a line's numbers are those that its bytes make one by one).
use Rattle.std.specs.Prelude.{◌≡◌, refl, Bool, true, false, List, [], ◌∷◌, ℕ, ◌+◌, ◌-◌, ◌*◌, ◌≤◌, ◌<◌, leb, eqb}
use Rattle.std.proofs.Common.{sym, ap, ◌∙◌, zero-add, arith}
use Rattle.std.proofs.Math.Bool.{and-false}
use Rattle.std.proofs.Math.Option.{Option, none, some}
use Rattle.std.proofs.Math.Dec.{leb-zero}
use Rattle.laws.specs.Ascii.{space}
use Rattle.laws.specs.Decimals.{is_digit, all_digits, value_from, digit-range}
use Rattle.laws.specs.Picks.{pick}
use Rattle.laws.specs.Tests.{eqb-true, leb-true, leb-false, lt-leb, le-leb}
use Rattle.text.specs.declared.reading.Phase.{Phase}
use Rattle.text.specs.declared.reading.Phase.TheVariants.{Fresh, Number, Space, Bad, Done}
use Rattle.text.specs.Readings.{divided, parts_of, number_from, both, numbers_of, at_most, line_of}

-- a byte of a line is a digit, a space, or has no place there
pub data Kind (byte : ℕ) : Type 0 where
  digit : is_digit byte ≡ true → eqb byte space ≡ false → Kind byte
  gap : byte ≡ space → Kind byte
  other : is_digit byte ≡ false → eqb byte space ≡ false → Kind byte

pub kind : (byte : ℕ) → Kind byte
kind byte = go (eqb byte space) refl (is_digit byte) refl
  where
    go : (s : Bool) → eqb byte space ≡ s → (d : Bool) → is_digit byte ≡ d → Kind byte
    go true s d e = gap (eqb-true byte space s)
    go false s true d = digit d s
    go false s false d = other d s

-- the numbers that the rest of a line makes, after what stood last in it
abbrev pub numbers_after : List ℕ → Phase → Option (List ℕ)
numbers_after [] Fresh = some []
numbers_after [] (Number value) = some (value ∷ [])
numbers_after [] Space = none
numbers_after [] Bad = none
numbers_after [] Done = none
numbers_after (byte ∷ line) Fresh = pick (is_digit byte) (numbers_after line (Number (byte - 48))) none
numbers_after (byte ∷ line) (Number value) =
    pick (is_digit byte) (pick (leb (value * 10 + (byte - 48)) 65535) (numbers_after line (Number (value * 10 + (byte - 48)))) none)
    (pick (eqb byte space) (both (some value) (numbers_after line Space)) none)
numbers_after (byte ∷ line) Space = pick (is_digit byte) (numbers_after line (Number (byte - 48))) none
numbers_after (byte ∷ line) Bad = none
numbers_after (byte ∷ line) Done = none

-- digits do not make a value less
value-grows : (value : ℕ) (digits : List ℕ) → value ≤ value_from value digits
value-grows value [] = omega arith
value-grows value (d ∷ digits) = omega (arith, value-grows (value * 10 + (d - 48)) digits)

-- one more digit
number-longer : (value byte : ℕ) (bytes : List ℕ) → is_digit byte ≡ true
    → number_from value (byte ∷ bytes) ≡ pick (leb (value * 10 + (byte - 48)) 65535) (number_from (value * 10 + (byte - 48)) bytes) none
number-longer value byte bytes d = go (leb (value * 10 + (byte - 48)) 65535) refl
  where
    next : ℕ
    next = value * 10 + (byte - 48)

    go : (b : Bool) → leb next 65535 ≡ b → number_from value (byte ∷ bytes) ≡ pick b (number_from next bytes) none
    go true e = rw d
    go false e =
        let more : 65535 < value_from next bytes = omega (arith, value-grows next bytes, leb-false next 65535 e) in
        rw (d, lt-leb (value_from next bytes) 65535 more, and-false (all_digits bytes))

-- the parts of a line of which the first goes on from a value
abbrev numbers_on : ℕ → List (List ℕ) → Option (List ℕ)
numbers_on value [] = none
numbers_on value (part ∷ parts) = both (number_from value part) (numbers_of parts)

both-none : (b : Bool) (o : Option ℕ) (others : Option (List ℕ)) → both (pick b o none) others ≡ pick b (both o others) none
both-none true o others = refl
both-none false o others = refl

pick-same : {A : Type 0} (b : Bool) (a : A) → pick b a a ≡ a
pick-same true a = refl
pick-same false a = refl

-- a digit in front of the first part
on-digit : (value byte : ℕ) (parts : List (List ℕ)) → is_digit byte ≡ true
    → numbers_on value (divided false byte parts) ≡ pick (leb (value * 10 + (byte - 48)) 65535) (numbers_on (value * 10 + (byte - 48)) parts) none
on-digit value byte [] d = sym (pick-same (leb (value * 10 + (byte - 48)) 65535) none)
on-digit value byte (part ∷ parts) d =
    rw (number-longer value byte part d, both-none (leb (value * 10 + (byte - 48)) 65535) (number_from (value * 10 + (byte - 48)) part) (numbers_of parts))

-- some other byte there
on-other : (value byte : ℕ) (parts : List (List ℕ)) → is_digit byte ≡ false → numbers_on value (divided false byte parts) ≡ none
on-other value byte [] d = refl
on-other value byte (part ∷ parts) d = rw d

-- there is always a first part
data Some : List (List ℕ) → Type 0 where
  some_part : (part : List ℕ) (parts : List (List ℕ)) → Some (part ∷ parts)

parts-some : (line : List ℕ) → Some (parts_of line)
parts-some [] = some_part [] []
parts-some (byte ∷ line) = go (eqb byte space) (parts-some line)
  where
    go : (b : Bool) {parts : List (List ℕ)} → Some parts → Some (divided b byte parts)
    go true {parts} s = some_part [] parts
    go false (some_part part parts) = some_part (byte ∷ part) parts

-- a number starts with a digit
of-digit : (byte : ℕ) {parts : List (List ℕ)} → Some parts → is_digit byte ≡ true → numbers_of (divided false byte parts) ≡ numbers_on (byte - 48) parts
of-digit byte (some_part part parts) d = rw (d, zero-add)

of-other : (byte : ℕ) {parts : List (List ℕ)} → Some parts → is_digit byte ≡ false → numbers_of (divided false byte parts) ≡ none
of-other byte (some_part part parts) d = rw d

-- what the bytes make one by one is what the parts stand for
record Agrees (line : List ℕ) : Type 0 where
  space_next : numbers_after line Space ≡ numbers_of (parts_of line)
  number_next : (value : ℕ) → value ≤ 65535 → numbers_after line (Number value) ≡ numbers_on value (parts_of line)

number-ends : (value : ℕ) (parts : List (List ℕ)) → value ≤ 65535 → both (some value) (numbers_of parts) ≡ numbers_on value ([] ∷ parts)
number-ends value parts h = rw (le-leb value 65535 h)

agrees : (line : List ℕ) → Agrees line
agrees [] = record { space_next = refl; number_next = λ value h. number-ends value [] h }
agrees (byte ∷ line) = go (kind byte) (agrees line)
  where
    go : Kind byte → Agrees line → Agrees (byte ∷ line)
    go (digit d s) rest =
        let small : byte - 48 ≤ 65535 = omega (arith, (digit-range byte d).1) in
        record {
          space_next = rw (d, s) (rest.number_next (byte - 48) small ∙ sym (of-digit byte (parts-some line) d));
          number_next = λ value h. rw (d, s, on-digit value byte (parts_of line) d) (longer (value * 10 + (byte - 48)) (leb (value * 10 + (byte - 48)) 65535) refl);
        }
      where
        longer : (next : ℕ) (b : Bool) → leb next 65535 ≡ b → pick b (numbers_after line (Number next)) none ≡ pick b (numbers_on next (parts_of line)) none
        longer next true e = rest.number_next next (leb-true next 65535 e)
        longer next false e = refl
    go (gap e) rest =
        record {
          space_next = rw e;
          number_next = λ value h. rw (e, rest.space_next) (number-ends value (parts_of line) h);
        }
    go (other d s) rest =
        record {
          space_next = rw (d, s) (sym (of-other byte (parts-some line) d));
          number_next = λ value h. rw (d, s) (sym (on-other value byte (parts_of line) d));
        }

-- a line's numbers
pub line-is : (limit : ℕ) (line : List ℕ) → line_of limit line ≡ at_most limit (numbers_after line Fresh)
line-is limit [] = rw (leb-zero limit)
line-is limit (byte ∷ line) = ap (λ (o : Option (List ℕ)). at_most limit o) (sym (agrees (byte ∷ line)).space_next)
