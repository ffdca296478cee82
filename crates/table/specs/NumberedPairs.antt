-- The relations as numbers, 4 for two of them: what the rows say of a pair, the matrix's entry with its conflicts, and a table of those
-- numbers, in which 4 tells a conflict.
-- Document 01, "Sets and matrix": "blank (0): none of these"; 6 CONFLICT "a pair has two relations", "least 64a + b".
-- Rests on RelationRows and Filled, and on language's Conflicts and Matrix.
--
-- Main definitions: pair_number, number_in, entry_in, marked_at.
-- Main statements: two_is, number_at, entry-is, entry-none, table_more, table-whole, marked-clash, marked-free, marked-matrix.
use Rattle.std.specs.Prelude.{◌≡◌, refl, ◌⊎◌, Bool, true, false, ◌&&◌, ◌||◌, List, ◌∷◌, ℕ, zero, suc, ◌+◌, ◌*◌, ◌/◌, ◌%◌, ◌≤◌, ◌<◌, get_or}
use Rattle.std.proofs.Common.{sym, ap, ap₂, ◌∙◌, inl, inr, arith}
use Rattle.std.proofs.Math.Bool.{or-false}
use Rattle.std.proofs.lemmas.List.Edits.{sets}
use Rattle.laws.specs.Picks.{pick}
use Rattle.laws.specs.Least.{Clear}
use Rattle.laws.specs.Tabulate.{tabulate, tabulate_from, get_d_tabulate}
use Rattle.language.specs.Symbols.{yields, equal, takes, relation_number}
use Rattle.language.specs.Grammar.{Grammar}
use Rattle.language.specs.RelationTests.{first_of, relation_of}
use Rattle.language.specs.Conflicts.{two_of, clash_at}
use Rattle.language.specs.Matrix.{entry_at}
use Rattle.language.proofs.Matrix.{number_small}
use Rattle.table.specs.Filled.{Rowed, rowed-more, rowed-whole}
use Rattle.table.specs.Shown.{holds}
use Rattle.table.specs.RelationRows.{Shows, byte-at, clash-at, byte-is, clash-is, byte-none, clash-none}

-- the relation's number, and 4 for two relations
abbrev pub pair_number : Bool → Bool → Bool → ℕ
pair_number e y t = pick (two_of e y t) 4 (relation_number (first_of e y t))

-- two of the three, by whether = is one of them
pub two_is : (e y t : Bool) → ((e && (y || t)) || (y && t)) ≡ two_of e y t
two_is true true t = refl
two_is true false t = or-false t
two_is false true t = refl
two_is false false t = refl

-- what the rows say of a pair; and of the pair at v
abbrev pub number_in : List ℕ → ℕ → ℕ → ℕ
number_in rows a b = pair_number (holds rows equal a b) (holds rows yields a b) (holds rows takes a b)

abbrev pub entry_in : List ℕ → ℕ → ℕ
entry_in rows v = number_in rows (v / 64) (v % 64)

pub number_at : (rows : List ℕ) (a b : ℕ) → b < 64 → number_in rows a b ≡ entry_in rows (64 * a + b)
number_at rows a b h = ap₂ (λ (two : Bool) (n : ℕ). pick two 4 n) (clash-at rows a b h) (byte-at rows a b h)

-- the matrix's entry, and 4 for a conflict
abbrev pub marked_at : Grammar → ℕ → ℕ
marked_at g v = pick (clash_at g v) 4 (entry_at g v)

module _ (g : Grammar) (v : ℕ) where
  -- the rows have the matrix's entries, and 4 for a conflict, where both numbers are at most T
  pub entry-is : (rows : List ℕ) → Shows g rows → v / 64 < 64 → v / 64 ≤ g.terminals → v % 64 ≤ g.terminals → entry_in rows v ≡ marked_at g v
  entry-is rows are i p q = ap₂ (λ (two : Bool) (n : ℕ). pick two 4 n) (clash-is g v rows are i p q) (byte-is g v rows are i p q)

  -- past T there is none
  pub entry-none : (g.terminals < v / 64) ⊎ (g.terminals < v % 64) → marked_at g v ≡ 0
  entry-none past = ap₂ (λ (two : Bool) (n : ℕ). pick two 4 n) (clash-none g v past) (byte-none g v past)

-- the table after its first a rows: one row more, and all rows up to T's
module _ (g : Grammar) {a t : ℕ} {table : List ℕ} (all : t ≡ g.terminals) (done : Rowed (marked_at g) 4096 a table) where
  pub table_more : (rows : List ℕ) → Shows g rows → t < 64 → a ≤ t → Rowed (marked_at g) 4096 (a + 1) (sets table (64 * a) (tabulate_from (entry_in rows) (t + 1) (64 * a)))
  table_more rows are low h =
      rowed-more (marked_at g) 4096 done (entry_in rows) t low (omega arith)
      (λ v i j. entry-is g v rows are (omega arith) (omega arith) (omega arith)) (λ v i j. entry-none g v (inr (omega arith)))

  pub table-whole : t < a → table ≡ tabulate (marked_at g) 4096
  table-whole h = rowed-whole (marked_at g) 4096 done (λ v i j. entry-none g v (inl (omega arith)))

-- in the table 4 tells a conflict, and the other numbers that there is none
module _ (g : Grammar) (table : List ℕ) (is : table ≡ tabulate (marked_at g) 4096) (v : ℕ) (h : v < 4096) where
  marked-at : get_or table v 0 ≡ pick (clash_at g v) 4 (entry_at g v)
  marked-at = ap (λ (t : List ℕ). get_or t v 0) is ∙ get_d_tabulate (marked_at g) 4096 v 0 h

  pub marked-clash : get_or table v 0 ≡ 4 → clash_at g v ≡ true
  marked-clash e = go (clash_at g v) (sym marked-at ∙ e)
    where
      go : (two : Bool) → pick two 4 (entry_at g v) ≡ 4 → two ≡ true
      go true q = refl
      go false q = absurd (omega (arith, number_small (relation_of g (v / 64) (v % 64))))

  pub marked-free : (get_or table v 0 ≡ 4 → ⊥) → clash_at g v ≡ false
  marked-free d = go (clash_at g v) marked-at
    where
      go : (two : Bool) → get_or table v 0 ≡ pick two 4 (entry_at g v) → two ≡ false
      go true q = absurd (d q)
      go false q = refl

-- lists of what is the same below n
from-same : (f h : ℕ → ℕ) (n i : ℕ) → ((k : ℕ) → k < i + n → f k ≡ h k) → tabulate_from f n i ≡ tabulate_from h n i
from-same f h zero i same = refl
from-same f h (suc n) i same = ap₂ (λ (x : ℕ) (l : List ℕ). x ∷ l) (same i (omega arith)) (from-same f h n (suc i) (λ k l. same k (omega arith)))

-- where no pair has two relations the table is the matrix
pub marked-matrix : (g : Grammar) → Clear (clash_at g) 4096 → tabulate (marked_at g) 4096 ≡ tabulate (entry_at g) 4096
marked-matrix g clear = from-same (marked_at g) (entry_at g) 4096 0 (λ v h. ap (λ (two : Bool). pick two 4 (entry_at g v)) (clear v (omega arith)))
