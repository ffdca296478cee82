-- Laws of what a text says: a number, line by line, after its third line feed, and how many numbers there can be.
-- Document 01, "Sample rows"; the sentences stand in Readings.
-- Rests on Readings, and on laws' Decimals.
--
-- Main statements: decimal-read (a number in decimal notation is read as that number); after-third (what follows the third line feed
-- decides nothing); bad-first, bad-second, bad-third, good-third; read-limited (what is read has no more numbers than there may be).
use Rattle.std.specs.Prelude.{◌≡◌, refl, Bool, true, false, List, [], ◌∷◌, ◌++◌, ℕ, ◌≤◌, ◌<◌, leb, eqb, length}
use Rattle.std.proofs.Common.{ap, ◌∙◌, arith}
use Rattle.std.proofs.Math.Option.{Option, none, some}
use Rattle.std.proofs.Math.ListN.{get_elem?}
use Rattle.laws.specs.Ascii.{line_feed}
use Rattle.laws.specs.Decimals.{all_digits, value_from, decimal, decimal-some, decimal-digits, decimal-value}
use Rattle.laws.specs.Picks.{pick}
use Rattle.laws.specs.Tests.{leb-true, le-leb}
use Rattle.text.specs.declared.reading.Line.TheVariants.{Words, Tokens, Cuts}
use Rattle.text.specs.Readings.{divided, lines_of, parts_of, number_of, numbers_of, at_most, present_line, good_line, most_words}
use Rattle.text.specs.Readings.{most_tokens, most_cuts, lines, bad_line, read_lines, read_text}

-- what is written in decimal notation is read
pub decimal-read : (v : ℕ) → v ≤ 65535 → number_of (decimal v) ≡ some v
decimal-read v h = go (decimal v) (decimal-some v) (decimal-digits v) (decimal-value v)
  where
    go : (bytes : List ℕ) → 0 < length bytes → all_digits bytes ≡ true → value_from 0 bytes ≡ v → number_of bytes ≡ some v
    go [] l d e = absurd (omega arith)
    go (byte ∷ bytes) l d e = rw (d, e, le-leb v 65535 h)

-- the reading, line by line
module _ (text : List (List ℕ)) where
  pub bad-first : good_line 0 most_words text ≡ none → read_lines text ≡ bad_line Words
  bad-first a = rw (a, read_lines)

  module _ (words : List ℕ) (a : good_line 0 most_words text ≡ some words) where
    pub bad-second : good_line 1 most_tokens text ≡ none → read_lines text ≡ bad_line Tokens
    bad-second b = rw (a, b, read_lines)

    module _ (tokens : List ℕ) (b : good_line 1 most_tokens text ≡ some tokens) where
      pub bad-third : good_line 2 most_cuts text ≡ none → read_lines text ≡ bad_line Cuts
      bad-third c = rw (a, b, c, read_lines)

      pub good-third : (cuts : List ℕ) → good_line 2 most_cuts text ≡ some cuts → read_lines text ≡ lines words tokens cuts
      good-third cuts c = rw (a, b, c, read_lines)

-- more text makes more lines, after those that were there
record Longer (text more : List ℕ) : Type 0 where
  extra : List (List ℕ)
  is : lines_of (text ++ more) ≡ lines_of text ++ extra

longer-lines : (text more : List ℕ) → Longer text more
longer-lines [] more = record { extra = lines_of more; is = refl }
longer-lines (byte ∷ text) more = go (eqb byte line_feed) refl (lines_of text) refl (longer-lines text more)
  where
    go : (b : Bool) → eqb byte line_feed ≡ b → (ls : List (List ℕ)) → lines_of text ≡ ls → Longer text more → Longer (byte ∷ text) more
    go true e ls f rest = record { extra = rest.extra; is = rw (e, rest.is) }
    go false e [] f rest = record { extra = divided false byte rest.extra; is = rw (e, rest.is, f) }
    go false e (l ∷ ls) f rest = record { extra = rest.extra; is = rw (e, rest.is, f) }

-- "Text after the third line is not read"
pub after-third : (text more : List ℕ) → 2 < length (lines_of text) → read_text (text ++ more) ≡ read_text text
unfolding read_text
after-third text more h = ap read_lines (longer-lines text more).is ∙ go (lines_of text) h (longer-lines text more).extra
  where
    go : (ls : List (List ℕ)) → 2 < length ls → (extra : List (List ℕ)) → read_lines (ls ++ extra) ≡ read_lines ls
    go [] h extra = absurd (omega arith)
    go (a ∷ []) h extra = absurd (omega arith)
    go (a ∷ (b ∷ [])) h extra = absurd (omega arith)
    go (a ∷ (b ∷ (c ∷ ls))) h extra = refl

-- a good line has no more numbers than it may have
limited : (limit : ℕ) (numbers : List ℕ) (o : Option (List ℕ)) → at_most limit o ≡ some numbers → length numbers ≤ limit
limited limit numbers none e = let z : ◌≡◌ {A = ℕ} 0 1 = cc in absurd (omega arith)
limited limit numbers (some l) e = go (leb (length l) limit) refl e
  where
    go : (b : Bool) → leb (length l) limit ≡ b → pick b (some l) none ≡ some numbers → length numbers ≤ limit
    go true t e = let f : l ≡ numbers = cc in omega (arith, leb-true (length l) limit t, ap length f)
    go false t e = let z : ◌≡◌ {A = ℕ} 0 1 = cc in absurd (omega arith)

good-limited : (limit : ℕ) (numbers : List ℕ) (o : Option (List ℕ)) → present_line limit o ≡ some numbers → length numbers ≤ limit
good-limited limit numbers none e = let z : ◌≡◌ {A = ℕ} 0 1 = cc in absurd (omega arith)
good-limited limit numbers (some []) e = let f : [] ≡ numbers = cc in omega (arith, ap length f)
good-limited limit numbers (some (byte ∷ line)) e = limited limit numbers (numbers_of (parts_of (byte ∷ line))) e

pub record Limited (words tokens cuts : List ℕ) : Type 0 where
  pub words_limited : length words ≤ most_words
  pub tokens_limited : length tokens ≤ most_tokens
  pub cuts_limited : length cuts ≤ most_cuts

-- what is read has no more numbers than there may be
pub read-limited : (text words tokens cuts : List ℕ) → read_text text ≡ lines words tokens cuts → Limited words tokens cuts
unfolding read_text
read-limited text words tokens cuts e =
    go (good_line 0 most_words (lines_of text)) refl (good_line 1 most_tokens (lines_of text)) refl (good_line 2 most_cuts (lines_of text)) refl
  where
    ls : List (List ℕ)
    ls = lines_of text

    go : (a : Option (List ℕ)) → good_line 0 most_words ls ≡ a → (b : Option (List ℕ)) → good_line 1 most_tokens ls ≡ b → (c : Option (List ℕ)) → good_line 2 most_cuts ls ≡ c
        → Limited words tokens cuts
    go none a b b' c c' = let r = bad-first ls a in let z : ◌≡◌ {A = ℕ} 0 1 = cc in absurd (omega arith)
    go (some w) a none b c c' = let r = bad-second ls w a b in let z : ◌≡◌ {A = ℕ} 0 1 = cc in absurd (omega arith)
    go (some w) a (some t) b none c = let r = bad-third ls w a t b c in let z : ◌≡◌ {A = ℕ} 0 1 = cc in absurd (omega arith)
    go (some w) a (some t) b (some k) c =
        let r = good-third ls w a t b k c in
        let f : w ≡ words = cc in
        let g : t ≡ tokens = cc in
        let h : k ≡ cuts = cc in
        record {
          words_limited = good-limited most_words words (get_elem? ls 0) (a ∙ ap some f);
          tokens_limited = good-limited most_tokens tokens (get_elem? ls 1) (b ∙ ap some g);
          cuts_limited = good-limited most_cuts cuts (get_elem? ls 2) (c ∙ ap some h);
        }
