-- The entry that is put is the first of those that are left to put.
use Rattle.std.proofs.Common.{◌≡◌, ◌+◌, ◌*◌, ◌<◌, ℕ, List, false, set, Option, Some, refl, sym, ap, ◌∙◌, arith, below_more}
use denote.Enum.Declared.{tag_of}
use Rattle.language.specs.Symbols.{Relation, blank, yields, equal, takes, relation_number}
use Rattle.table.specs.contracts.relations.Relation.{the_type}
use Rattle.table.specs.declared.relations.Relation as code
use Rattle.table.specs.Filled.{row_more, row_last}
use Rattle.table.specs.RelationRows.{as_code, only_in, relation_in, two_in, byte_in, clash_in, byte-at, clash-at, some-told}
use Rattle.table.proofs.relations.write_row.Goals as goal

-- the number of a relation
number : (k : Relation) → tag_of the_type (as_code k) ≡ relation_number k
number blank = refl
number yields = refl
number equal = refl
number takes = refl

module _ (rows : List ℕ) (a b : ℕ) (low : b < 64) (relation : code.Relation) (is : ◌≡◌ {A = Option code.Relation} (Some relation) (only_in rows a b)) where
  told : (two_in rows a b ≡ false) × (relation ≡ as_code (relation_in rows a b))
  told = some-told (two_in rows a b) (as_code (relation_in rows a b)) relation is

  -- the byte that is put is the entry, and the pair has no two relations
  entry : tag_of the_type relation ≡ byte_in rows (64 * a + b)
  entry = ap (tag_of the_type) told.1 ∙ number (relation_in rows a b) ∙ byte-at rows a b low

  free : clash_in rows (64 * a + b) ≡ false
  free = sym (clash-at rows a b low) ∙ told.0

pub loop-b-preserved : goal.loop-b-preserved
loop-b-preserved c =
    let a = c.args in
    let l = c.loop-b in
    let is = sym c.in-Some.is ∙ c.between.ensures in
    record {
      left = rw (entry a.rows.now a.a l.b (omega arith) c.in-Some.relation is) (sym (row_more (byte_in a.rows.now) l.matrix (64 * a.a) l.b a.t (omega arith)) ∙ l.invariant.left);
      free = below_more _ _ l.invariant.free (free a.rows.now a.a l.b (omega arith) c.in-Some.relation is);
    }

pub returns-in-Some : goal.returns-in-Some
returns-in-Some c =
    let a = c.args in
    let l = c.loop-b in
    let is = sym c.in-Some.is ∙ c.between.ensures in
    let past : a.t < l.b + 1 = omega arith in
    let all : (k : ℕ) → k < l.b + 1 → clash_in a.rows.now (64 * a.a + k) ≡ false = below_more _ _ l.invariant.free (free a.rows.now a.a l.b (omega arith) c.in-Some.relation is) in
    record {
      written = rw (entry a.rows.now a.a l.b (omega arith) c.in-Some.relation is)
          (sym (row_last (byte_in a.rows.now) (set l.matrix (64 * a.a + l.b) (byte_in a.rows.now (64 * a.a + l.b))) (64 * a.a) (l.b + 1) a.t past)
          ∙ sym (row_more (byte_in a.rows.now) l.matrix (64 * a.a) l.b a.t (omega arith)) ∙ l.invariant.left);
      free = λ b h. all b (omega arith);
    }
