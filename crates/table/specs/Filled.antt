-- A table of zeros filled row by row, each row from its start as far as its values go on; and a table copied from the front to a longer run.
-- Document 01, "Sets and matrix": "The matrix has 64 by 64 entries, one byte each, a over b at 64a + b; unused ones are 0"; "anything
-- beyond is untouched".
-- Rests on laws' Tabulate.
--
-- Main definition: Rowed. Main statements: row_first, row_more, row_last; rowed-none, rowed-more, rowed-whole; copied_more, copied-whole.
use Rattle.std.specs.Prelude.{◌≡◌, refl, ◌⊎◌, List, ◌++◌, ℕ, zero, suc, ◌+◌, ◌*◌, ◌-◌, ◌≤◌, ◌<◌, length, get_or, take, drop, set, replicate}
use Rattle.std.proofs.Common.{sym, ap, ◌∙◌, inl, inr, arith, add-one, length-set, get_or-set_same, get_or-set_other, ext_get_or, take-suc, drop-cons, length-take-le, take_all}
use Rattle.std.proofs.Math.Decide.{dec_lt, ℕ_discrete}
use Rattle.std.proofs.lemmas.List.{length-replicate, get_or-replicate, set_at}
use Rattle.std.proofs.lemmas.List.Edits.{sets}
use Rattle.std.proofs.Math.Seq.{length-sets, append_snoc}
use Rattle.laws.specs.Tabulate.{tabulate, tabulate_from, length-tabulate, get_d_tabulate}

-- ---- one row: the values h at, h (at + 1), .. , put from `at` on

module _ (h : ℕ → ℕ) where
  -- the first of those that are left, and then the rest
  pub row_more : (table : List ℕ) (start b t : ℕ) → b ≤ t
      → sets table (start + b) (tabulate_from h (t + 1 - b) (start + b))
      ≡ sets (set table (start + b) (h (start + b))) (start + (b + 1)) (tabulate_from h (t + 1 - (b + 1)) (start + (b + 1)))
  row_more table start b t l =
      let e : t + 1 - b ≡ suc (t + 1 - (b + 1)) = omega arith in
      let f : start + (b + 1) ≡ suc (start + b) = omega arith in
      rw (e, f)

  pub row_first : (table : List ℕ) (start t : ℕ)
      → sets table (start + 0) (tabulate_from h (t + 1 - 0) (start + 0)) ≡ sets table start (tabulate_from h (t + 1) start)
  row_first table start t =
      let e : t + 1 - 0 ≡ t + 1 = omega arith in
      let f : start + 0 ≡ start = omega arith in
      rw (e, f)

  pub row_last : (table : List ℕ) (start b t : ℕ) → t < b → sets table (start + b) (tabulate_from h (t + 1 - b) (start + b)) ≡ table
  row_last table start b t l = let e : t + 1 - b ≡ 0 = omega arith in rw e

  -- outside the row the table is as it was, within it has the values
  outside : (n at v : ℕ) (table : List ℕ) → (v < at) ⊎ (at + n ≤ v) → get_or (sets table at (tabulate_from h n at)) v 0 ≡ get_or table v 0
  outside zero at v table o = refl
  outside (suc n) at v table o = outside n (suc at) v (set table at (h at)) (past o) ∙ get_or-set_other table at v (h at) 0 (other o)
    where
      past : (v < at) ⊎ (at + suc n ≤ v) → (v < suc at) ⊎ (suc at + n ≤ v)
      past (inl l) = inl (omega arith)
      past (inr l) = inr (omega arith)

      other : (v < at) ⊎ (at + suc n ≤ v) → v ≡ at → ⊥
      other (inl l) e = omega arith
      other (inr l) e = omega arith

  within : (n at v : ℕ) (table : List ℕ) → at + n ≤ length table → at ≤ v → v < at + n → get_or (sets table at (tabulate_from h n at)) v 0 ≡ h v
  within zero at v table long low high = absurd (omega arith)
  within (suc n) at v table long low high =
      go (ℕ_discrete v at) (λ d. within n (suc at) v (set table at (h at)) (omega (arith, length-set table at (h at))) (omega arith) (omega arith))
    where
      go : Dec (v ≡ at) → ((v ≡ at → ⊥) → get_or (sets (set table at (h at)) (suc at) (tabulate_from h n (suc at))) v 0 ≡ h v)
          → get_or (sets (set table at (h at)) (suc at) (tabulate_from h n (suc at))) v 0 ≡ h v
      go (yes e) rest = outside n (suc at) v (set table at (h at)) (inl (omega arith)) ∙ rw e (get_or-set_same table at (h at) 0 (omega arith))
      go (no d) rest = rest d

-- ---- all rows

-- `size` entries, of which those of the first a rows are the values of f, and those after them 0
pub record Rowed (f : ℕ → ℕ) (size a : ℕ) (table : List ℕ) : Type 0 where
  pub long : length table ≡ size
  pub filled : (v : ℕ) → v < 64 * a → get_or table v 0 ≡ f v
  pub bare : (v : ℕ) → 64 * a ≤ v → v < size → get_or table v 0 ≡ 0

module _ (f : ℕ → ℕ) (size : ℕ) where
  pub rowed-none : Rowed f size 0 (replicate size 0)
  rowed-none = record {
    long = length-replicate {A = ℕ} size 0;
    filled = λ v l. absurd (omega arith);
    bare = λ v l k. get_or-replicate {A = ℕ} size v 0 0 k;
  }

  -- a row more, of values up to t: those are f's, and past t f is 0
  pub rowed-more : {a : ℕ} {table : List ℕ} → Rowed f size a table → (h : ℕ → ℕ) (t : ℕ) → t < 64 → 64 * a + 64 ≤ size
      → ((v : ℕ) → 64 * a ≤ v → v ≤ 64 * a + t → h v ≡ f v) → ((v : ℕ) → 64 * a + t < v → v < 64 * a + 64 → f v ≡ 0)
      → Rowed f size (a + 1) (sets table (64 * a) (tabulate_from h (t + 1) (64 * a)))
  rowed-more {a} {table} r h t low room same none = record {
    long = length-sets table (64 * a) (tabulate_from h (t + 1) (64 * a)) ∙ r.long;
    filled = λ v l. first v l (dec_lt v (64 * a)) (dec_lt (64 * a + t) v);
    bare = λ v l k. outside h (t + 1) (64 * a) v table (inr (omega arith)) ∙ r.bare v (omega arith) k;
  }
    where
      first : (v : ℕ) → v < 64 * (a + 1) → Dec (v < 64 * a) → Dec (64 * a + t < v) → get_or (sets table (64 * a) (tabulate_from h (t + 1) (64 * a))) v 0 ≡ f v
      first v l (yes k) p = outside h (t + 1) (64 * a) v table (inl k) ∙ r.filled v k
      first v l (no k) (yes p) =
          outside h (t + 1) (64 * a) v table (inr (omega arith)) ∙ r.bare v (omega arith) (omega arith) ∙ sym (none v p (omega arith))
      first v l (no k) (no p) = within h (t + 1) (64 * a) v table (omega (arith, r.long)) (omega arith) (omega arith) ∙ same v (omega arith) (omega arith)

  -- all rows in which f is not 0
  pub rowed-whole : {a : ℕ} {table : List ℕ} → Rowed f size a table → ((v : ℕ) → 64 * a ≤ v → v < size → f v ≡ 0) → table ≡ tabulate f size
  rowed-whole {a} {table} r none = ext_get_or 0 table (tabulate f size) (r.long ∙ sym (length-tabulate f size)) (λ v l. at v (omega (arith, r.long)) (dec_lt v (64 * a)))
    where
      at : (v : ℕ) → v < size → Dec (v < 64 * a) → get_or table v 0 ≡ get_or (tabulate f size) v 0
      at v l (yes k) = r.filled v k ∙ sym (get_d_tabulate f size v 0 l)
      at v l (no k) = r.bare v (omega arith) l ∙ sym (none v (omega arith) l) ∙ sym (get_d_tabulate f size v 0 l)

-- ---- the copy

module _ (table run : List ℕ) (n : ℕ) (long : length table ≡ n) (room : n ≤ length run) where
  -- one entry more is copied
  pub copied_more : (i : ℕ) (now : List ℕ) → i < n → now ≡ take i table ++ drop i run → set now i (get_or table i 0) ≡ take (i + 1) table ++ drop (i + 1) run
  copied_more i now h e =
      rw (
        e,
        add-one i,
        drop-cons run i 0 (omega arith),
        set_at (take i table) (get_or run i 0) (drop (suc i) run) (get_or table i 0) i (length-take-le i table (omega arith)),
        take-suc table i 0 (omega arith),
        append_snoc,
      )

  -- all are, and what stood beyond stands there
  pub copied-whole : (i : ℕ) (now : List ℕ) → n ≤ i → i ≤ n → now ≡ take i table ++ drop i run → now ≡ table ++ drop n run
  copied-whole i now h k e =
      let q : i ≡ n = omega arith in
      (rw q at e) ∙ ap (λ (l : List ℕ). l ++ drop n run) (take_all n table (omega arith))
