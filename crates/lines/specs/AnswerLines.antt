-- The lines that `rows` writes, as bytes, and a line put into a lent run of bytes.
-- Document 01, "Sample rows": "it writes this, first line tokens, chunks, moves, then the report"; "A refusal is one line, `refused 18 2`";
-- "gives `text L`".
-- Rests on laws' Ascii, Decimals and Parts.
--
-- Main definitions: spaced, answer_line, parse_line, entry_line, refused_line, text_line; written, end_after.
-- Main statements: end-within (the place after a line is within the run); written-fits, written-not, end-fits, end-not.
use Rattle.std.specs.Prelude.{◌≡◌, refl, Bool, true, false, List, [], ◌∷◌, ◌++◌, ℕ, suc, ◌+◌, ◌/◌, ◌%◌, ◌≤◌, ◌<◌, leb, length, get_or, take, drop, set}
use Rattle.std.proofs.Common.{sym, ap, ◌∙◌, append_assoc, add-one, arith, length-append, drop_of_length-le, drop-cons}
use Rattle.std.proofs.lemmas.List.Edits.{sets, sets-eq}
use Rattle.laws.specs.Ascii.{ascii, line_feed, space}
use Rattle.laws.specs.Decimals.{digit_byte, decimal, decimal-large}
use Rattle.laws.specs.Parts.{sets-append}
use Rattle.laws.specs.Picks.{pick}
use Rattle.laws.specs.Tests.{leb-true, le-leb, lt-leb}

-- what stands after a number: a space before the next, a line feed after the last
abbrev pub separator : List ℕ → ℕ
separator [] = line_feed
separator (next ∷ numbers) = space

-- numbers parted by single spaces, and the line feed
abbrev pub spaced : List ℕ → List ℕ
spaced [] = []
spaced (number ∷ numbers) = decimal number ++ (separator numbers ∷ spaced numbers)

-- a word, with its space, and numbers
abbrev pub answer_line : List ℕ → List ℕ → List ℕ
answer_line word numbers = word ++ spaced numbers

-- `parse n C moves`
unfoldable pub parse_line : ℕ → ℕ → ℕ → List ℕ
parse_line tokens chunks moves = answer_line (ascii "parse ") (tokens ∷ chunks ∷ moves ∷ [])

-- an entry of the report: rule, first place, place after the last
unfoldable pub entry_line : ℕ → ℕ → ℕ → List ℕ
entry_line rule first after = answer_line [] (rule ∷ first ∷ after ∷ [])

-- `refused number value`
unfoldable pub refused_line : ℕ → ℕ → List ℕ
refused_line number value = answer_line (ascii "refused ") (number ∷ value ∷ [])

-- `text L`
unfoldable pub text_line : ℕ → List ℕ
text_line line = answer_line (ascii "text ") (line ∷ [])

-- there is room for these bytes from place `at` on
abbrev pub fits : List ℕ → ℕ → List ℕ → Bool
fits out at bytes = leb (at + length bytes) (length out)

-- the bytes stand from place `at` on, and nothing else has changed; where they have no room nothing has
unfoldable pub written : List ℕ → ℕ → List ℕ → List ℕ
written out at bytes = pick (fits out at bytes) (take at out ++ (bytes ++ drop (at + length bytes) out)) out

-- the place after them; where they have no room, the place itself
unfoldable pub end_after : List ℕ → ℕ → List ℕ → ℕ
end_after out at bytes = pick (fits out at bytes) (at + length bytes) at

-- a number's digits before the last, and the last
pub put-last : (l : List ℕ) (i v : ℕ) → 10 ≤ v → set (sets l i (decimal (v / 10))) (i + length (decimal (v / 10))) (digit_byte (v % 10)) ≡ sets l i (decimal v)
put-last l i v h = sym (ap (λ (d : List ℕ). sets l i d) (decimal-large v h) ∙ sets-append l i (decimal (v / 10)) (digit_byte (v % 10) ∷ []))

-- the byte at i of those that are being put, and the ones after it
pub put-more : (l : List ℕ) (at i : ℕ) (bytes : List ℕ) → i < length bytes
    → sets l (at + i) (drop i bytes) ≡ sets (set l (at + i) (get_or bytes i 0)) (at + (i + 1)) (drop (i + 1) bytes)
put-more l at i bytes h =
    let e : at + (i + 1) ≡ suc (at + i) = omega arith in
    rw (drop-cons bytes i 0 h, e, add-one i)

pub put-none : (l : List ℕ) (at i : ℕ) (bytes : List ℕ) → length bytes ≤ i → sets l at (drop i bytes) ≡ l
put-none l at i bytes h = rw (drop_of_length-le bytes h)

-- what stands after the number before place `next`
pub separator-space : (numbers : List ℕ) (next : ℕ) → next < length numbers → separator (drop next numbers) ≡ space
separator-space numbers next h = rw (drop-cons numbers next 0 h)

pub separator-feed : (numbers : List ℕ) (next : ℕ) → length numbers ≤ next → separator (drop next numbers) ≡ line_feed
separator-feed numbers next h = rw (drop_of_length-le numbers h)

-- the number at i of those that are being put, and the ones after it
module _ (numbers : List ℕ) (i : ℕ) (h : i < length numbers) where
  abbrev number : ℕ
  number = get_or numbers i 0

  spaced-next : spaced (drop i numbers) ≡ decimal number ++ (separator (drop (i + 1) numbers) ∷ spaced (drop (i + 1) numbers))
  spaced-next = rw (drop-cons numbers i 0 h, add-one i)

  pub spaced-length : length (spaced (drop i numbers)) ≡ length (decimal number) + 1 + length (spaced (drop (i + 1) numbers))
  spaced-length = omega (arith, ap length spaced-next ∙ length-append (decimal number) (separator (drop (i + 1) numbers) ∷ spaced (drop (i + 1) numbers)))

  spaced-put : (l : List ℕ) (at : ℕ)
      → sets l at (spaced (drop i numbers))
      ≡ sets (set (sets l at (decimal number)) (at + length (decimal number)) (separator (drop (i + 1) numbers))) (at + length (decimal number) + 1)
      (spaced (drop (i + 1) numbers))
  spaced-put l at =
      let s = separator (drop (i + 1) numbers) in
      let rest = spaced (drop (i + 1) numbers) in
      ap (λ (bytes : List ℕ). sets l at bytes) spaced-next ∙ sets-append l at (decimal number) (s ∷ rest)
      ∙ ap (λ (k : ℕ). sets (set (sets l at (decimal number)) (at + length (decimal number)) s) k rest) (sym (add-one (at + length (decimal number))))

  -- the digits put, and then the byte after them
  pub spaced-more : (l last : List ℕ) (at after s : ℕ) → after ≡ at + length (decimal number) → last ≡ sets l at (decimal number)
      → s ≡ separator (drop (i + 1) numbers) → sets l at (spaced (drop i numbers)) ≡ sets (set last after s) (after + 1) (spaced (drop (i + 1) numbers))
  spaced-more l last at after s f g e = rw (g, f, e) (spaced-put l at)

pub spaced-none : (numbers : List ℕ) (i : ℕ) → length numbers ≤ i → spaced (drop i numbers) ≡ []
spaced-none numbers i h = rw (drop_of_length-le numbers h)

-- a line that fits, and one that does not
pub written-fits : (out : List ℕ) (at : ℕ) (bytes : List ℕ) → at + length bytes ≤ length out → sets out at bytes ≡ written out at bytes
unfolding written
written-fits out at bytes h = sets-eq bytes out at h ∙ append_assoc (take at out) bytes (drop (at + length bytes) out) ∙ rw (le-leb (at + length bytes) (length out) h)

pub written-not : (out : List ℕ) (at : ℕ) (bytes : List ℕ) → length out < at + length bytes → out ≡ written out at bytes
unfolding written
written-not out at bytes h = rw (lt-leb (at + length bytes) (length out) h)

pub end-fits : (out : List ℕ) (at : ℕ) (bytes : List ℕ) → at + length bytes ≤ length out → at + length bytes ≡ end_after out at bytes
unfolding end_after
end-fits out at bytes h = rw (le-leb (at + length bytes) (length out) h)

pub end-not : (out : List ℕ) (at : ℕ) (bytes : List ℕ) → length out < at + length bytes → at ≡ end_after out at bytes
unfolding end_after
end-not out at bytes h = rw (lt-leb (at + length bytes) (length out) h)

-- a place within the run stays within it
pub end-within : (out : List ℕ) (at : ℕ) (bytes : List ℕ) → at ≤ length out → end_after out at bytes ≤ length out
unfolding end_after
end-within out at bytes h = go (fits out at bytes) refl
  where
    go : (b : Bool) → fits out at bytes ≡ b → pick b (at + length bytes) at ≤ length out
    go true e = leb-true (at + length bytes) (length out) e
    go false e = h
