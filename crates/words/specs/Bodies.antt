-- Where the body of a rule stands: the place of its left side, and the place at which it ends.
-- Document 01, "The grammar words": "then the contents, R words, each the word place at which that rule's body starts"; "A body ends where the
-- next starts, the last at the end of the run". Total, as language's Words: an absent word is 0.
-- Rests on Laid and on language's Words.
--
-- Main definition: body_at. Main statements: at_start, at_end (the two places of equal bodies); start-absent, ends-short.
use Rattle.std.specs.Prelude.{◌≡◌, refl, List, [], ◌∷◌, ℕ, zero, suc, ◌+◌, ◌≤◌, length}
use Rattle.std.proofs.Common.{sym, ap, arith}
use Rattle.language.specs.Words.{word, entry, body_end}
use Rattle.words.specs.declared.Body.{Body}
use Rattle.words.specs.Laid.{ends_last}

abbrev pub body_at : List ℕ → ℕ → Body
body_at words r = record { start = entry words r; end = body_end words r }

-- equal bodies have the same two places
pub at_start : {body other : Body} → body ≡ other → body.start ≡ other.start
at_start e = ap (λ (b : Body). b.start) e

pub at_end : {body other : Body} → body ≡ other → body.end ≡ other.end
at_end e = ap (λ (b : Body). b.end) e

absent : (words : List ℕ) (i : ℕ) → length words ≤ i → ◌≡◌ {A = ℕ} 0 (word words i)
absent [] i h = refl
absent (w ∷ words) zero h = absurd (omega arith)
absent (w ∷ words) (suc i) h = absent words i (omega arith)

-- an entry past the run is 0
pub start-absent : (words : List ℕ) (r : ℕ) → length words ≤ 4 + r → ◌≡◌ {A = ℕ} 0 (entry words r)
start-absent words r h = absent words (4 + r) h

-- words without R have no next body
pub ends-short : (words : List ℕ) (r : ℕ) → length words ≤ 3 → length words ≡ body_end words r
ends-short words r h = sym (ends_last words r (omega (arith, absent words 3 h)))
