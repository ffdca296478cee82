-- What words have that pass 1, and those that pass 1 and 2: the head's ranges, and bodies in rule order without gaps.
-- Document 01, "The grammar words": "then the contents, R words, each the word place at which that rule's body starts; then the
-- bodies in rule order, without gaps"; "each right side 1 to 8 symbols".
-- Rests on language's Words, CheckHead, CheckContents and WordsInRange.
--
-- Main definitions: Headed, Laid, Ended. Main statements: headed, laid, ended; ends_next, ends_last; rises, within, short.
use Rattle.std.specs.Prelude.{◌≡◌, List, ℕ, zero, suc, ◌+◌, ◌-◌, ◌*◌, ◌≤◌, ◌<◌, length}
use Rattle.std.proofs.Common.{arith, lit<}
use Rattle.std.proofs.Math.Decide.{dec_lt, ℕ_discrete}
use Rattle.std.proofs.Math.Option.{none}
use Rattle.laws.specs.Least.{Nowhere, finds-none}
use Rattle.laws.specs.Tests.{lt-ltb, le-ltb}
use Rattle.language.specs.Words.{count_t, count_n, count_a, count_r, entry, body_end, Outside, too_low, too_high}
use Rattle.language.specs.CheckHead.{BadHead, head_absent, head_stage}
use Rattle.language.proofs.CheckHead.{head-finds}
use Rattle.language.specs.CheckContents.{BadContents, entry_absent, entry_first, entry_step, last_body, contents_stage}
use Rattle.language.proofs.CheckContents.{contents-finds}
use Rattle.language.proofs.WordsInRange.{few-terminals, few-nonterminals, few-axioms, few-rules}

-- "T at most 63", "N at most 64; the first A are the axioms", "R at most 256"
pub record Headed (words : List ℕ) : Type 0 where
  pub present : 4 ≤ length words
  pub terminals : count_t words ≤ 63
  pub nonterminals : count_n words ≤ 64
  pub axioms : count_a words ≤ count_n words
  pub some_rule : 1 ≤ count_r words
  pub rules : count_r words ≤ 256

-- every entry is there, the first body starts after them, and every body is 2 to 9 words
pub record Laid (words : List ℕ) : Type 0 where
  pub headed : Headed words
  pub present : 4 + count_r words ≤ length words
  pub first : entry words 0 ≡ 4 + count_r words
  pub least : (r : ℕ) → r < count_r words → entry words r + 2 ≤ body_end words r
  pub most : (r : ℕ) → r < count_r words → body_end words r ≤ entry words r + 9

-- what tells the end of rule r's body is there: its entry, and the next one where there is a next rule
abbrev pub Ended : List ℕ → ℕ → Type 0
Ended words r = (4 + r < length words) × (suc r < count_r words → 5 + r < length words)

pub ended : {words : List ℕ} → Laid words → {r : ℕ} → r < count_r words → Ended words r
ended l h = (omega (arith, l.present), λ k. omega (arith, l.present))

not-outside : (low high v : ℕ) → (Outside low high v → ⊥) → (low ≤ v) × (v ≤ high)
not-outside low high v h =
    let a : v < low → ⊥ = λ l. h (too_low l) in
    let b : high < v → ⊥ = λ l. h (too_high l) in
    (omega arith, omega arith)

module _ (words : List ℕ) where
  pub ends_next : (r : ℕ) → suc r < count_r words → body_end words r ≡ entry words (suc r)
  ends_next r h = rw (lt-ltb (suc r) (count_r words) h, body_end)

  pub ends_last : (r : ℕ) → count_r words ≤ suc r → body_end words r ≡ length words
  ends_last r h = rw (le-ltb (suc r) (count_r words) h, body_end)

  -- words that pass 1
  pub headed : head_stage.fails_at words ≡ none → Headed words
  headed e = record {
    present = let a : length words ≤ 3 → ⊥ = λ h. n 3 (head_absent (lit< tt) h) in omega arith;
    terminals = (few-terminals words n).1;
    nonterminals = (few-nonterminals words n).1;
    axioms = (few-axioms words n).1;
    some_rule = (few-rules words n).0;
    rules = (few-rules words n).1;
  }
    where
      n : Nowhere (BadHead words)
      n = (finds-none (head-finds words)).0 e

  -- words that pass 1 and 2
  pub laid : Headed words → contents_stage.fails_at words ≡ none → Laid words
  laid h e = record {
    headed = h;
    present = there;
    first = start (ℕ_discrete (entry words 0) (4 + count_r words));
    least = λ r k. (body r k (dec_lt (suc r) (count_r words))).0;
    most = λ r k. (body r k (dec_lt (suc r) (count_r words))).1;
  }
    where
      n : Nowhere (BadContents words)
      n = (finds-none (contents-finds words)).0 e

      some : 1 ≤ count_r words
      some = h.some_rule

      there : 4 + count_r words ≤ length words
      there =
          let a : length words ≤ 4 + (count_r words - 1) → ⊥ = λ l. n (count_r words - 1) (entry_absent (omega (arith, some)) l) in
          omega (arith, some)

      start : Dec (entry words 0 ≡ 4 + count_r words) → entry words 0 ≡ 4 + count_r words
      start (yes q) = q
      start (no q) = absurd (n 0 (entry_first some q))

      body : (r : ℕ) → r < count_r words → Dec (suc r < count_r words) → (entry words r + 2 ≤ body_end words r) × (body_end words r ≤ entry words r + 9)
      body r k (yes l) =
          let b = not-outside (entry words r + 2) (entry words r + 9) (entry words (suc r)) (λ o. n (suc r) (entry_step l o)) in
          rw (ends_next r l) b
      body r k (no l) =
          let last : r ≡ count_r words - 1 = omega arith in
          let b = not-outside 2 9 (length words - entry words (count_r words - 1)) (λ o. n (count_r words) (last_body o)) in
          let b' : (2 ≤ length words - entry words r) × (length words - entry words r ≤ 9) = rw last b in
          rw (ends_last r (omega arith)) (omega arith, omega arith)

  module _ (l : Laid words) where
    -- the bodies stand in rule order
    pub rises : (q r : ℕ) → q < r → r < count_r words → body_end words q ≤ entry words r
    rises q zero h k = absurd (omega arith)
    rises q (suc r) h k = go (dec_lt q r) (λ i. rises q r i (omega arith))
      where
        go : Dec (q < r) → (q < r → body_end words q ≤ entry words r) → body_end words q ≤ entry words (suc r)
        go (yes i) rest = omega (arith, rest i, l.least r (omega arith), ends_next r k)
        go (no i) rest = let e : q ≡ r = omega arith in rw (e, ends_next r k) (omega arith)

    -- and within the run
    pub within : (r : ℕ) → r < count_r words → body_end words r ≤ length words
    within r h = go (dec_lt (suc r) (count_r words))
      where
        go : Dec (suc r < count_r words) → body_end words r ≤ length words
        go (yes k) =
            let e : count_r words ≤ suc (count_r words - 1) = omega arith in
            omega (arith, rises r (count_r words - 1) (omega arith) (omega arith), l.least (count_r words - 1) (omega arith), ends_last (count_r words - 1) e)
        go (no k) = omega (arith, ends_last r (omega arith))

    low : (r : ℕ) → r < count_r words → entry words r ≤ 4 + count_r words + 9 * r
    low zero h = omega (arith, l.first)
    low (suc r) h = omega (arith, low r (omega arith), l.most r (omega arith), ends_next r h)

    -- "2,564 grammar words" are the most
    pub short : length words ≤ 2564
    short =
        let some : 1 ≤ count_r words = l.headed.some_rule in
        let many : count_r words ≤ 256 = l.headed.rules in
        let h : count_r words - 1 < count_r words = omega arith in
        let e : count_r words ≤ suc (count_r words - 1) = omega arith in
        omega (arith, low (count_r words - 1) h, l.most (count_r words - 1) h, ends_last (count_r words - 1) e)
