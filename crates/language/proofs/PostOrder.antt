-- What is proved of specs' PostOrder. The post-order of a forest entry by entry: each stands for a tree of its rule over its own tokens, and there is one a node.
--
-- Main statements: entry-cases (where an entry stands), entries-count (one a node), entry-tree (what it stands for).
use Rattle.std.specs.Prelude.{◌≡◌, refl, ℕ, suc, ◌+◌, length}
use mathlib.Core.List.Memᴰ
use mathlib.Core.List.{List, [], ◌∷◌, ◌++◌, append-nil, append_assoc, Memᴰ}
use Rattle.std.proofs.Common.{⊎_elim, arith, length-append}
use Rattle.language.specs.Grammar.{Grammar}
use Rattle.language.specs.Trees.{Span, Reduction, Forest, none, leaf, node, frontier, Grown, width, post_order, Tree, forest_of}
use Rattle.language.specs.PostOrder.{EntryTree, node_entry, nodes}

-- an entry of a node and its siblings: one of the node's children's, the node's own, or one of the siblings'
pub entry-cases : {C : Type 0} {x : Reduction Span} (i r : ℕ) (children f : Forest)
    → (Memᴰ x (post_order i children) → C) → (x ≡ node_entry i r children → C) → (Memᴰ x (post_order (i + width children) f) → C)
    → Memᴰ x (post_order i (node r children f)) → C
entry-cases i r children f below own beside m =
    ⊎_elim below (λ k. ⊎_elim own beside (Memᴰ.cases_cons k)) (Memᴰ.append_cases (post_order i children) m)

-- one entry a node
pub entries-count : (i : ℕ) (f : Forest) → length (post_order i f) ≡ nodes f
entries-count i none = refl
entries-count i (leaf a f) = entries-count (suc i) f
entries-count i (node r children f) =
    simp length-append (omega (arith, entries-count i children, entries-count (i + width children) f))

module _ {g : Grammar} where
  -- the same entry in a longer row, with tokens put before it or after it
  put-before : {i j : ℕ} {u : List ℕ} {x : Reduction Span} (t : List ℕ) → j ≡ i + length t → EntryTree g j u x → EntryTree g i (t ++ u) x
  put-before t e k = record {
    tree = k.tree;
    grown = k.grown;
    rule_is = k.rule_is;
    before = t ++ k.before;
    after = k.after;
    row_is = rw k.row_is (simp append_assoc);
    first_is = simp length-append (omega (arith, k.first_is));
    after_is = k.after_is;
  }

  put-after : {i : ℕ} {u : List ℕ} {x : Reduction Span} (t : List ℕ) → EntryTree g i u x → EntryTree g i (u ++ t) x
  put-after t k = record {
    tree = k.tree;
    grown = k.grown;
    rule_is = k.rule_is;
    before = k.before;
    after = k.after ++ t;
    row_is = rw k.row_is (simp append_assoc);
    first_is = k.first_is;
    after_is = k.after_is;
  }

  own-tree : (i : ℕ) (t : List ℕ) (tree : Tree) → Grown g (forest_of tree)
      → EntryTree g i (frontier tree.children ++ t) (node_entry i tree.rule tree.children)
  own-tree i t tree h = record {
    tree = tree;
    grown = h;
    rule_is = refl;
    before = [];
    after = t;
    row_is = simp append-nil;
    first_is = omega arith;
    after_is = simp append-nil;
  }

  -- an entry of a grown forest stands for a tree of its rule over its tokens
  pub entry-tree : {x : Reduction Span} (i : ℕ) (f : Forest) → Grown g f → Memᴰ x (post_order i f) → EntryTree g i (frontier f) x
  entry-tree i none h m = absurd (Memᴰ.not-nil m)
  entry-tree i (leaf a f) h m = put-before (a ∷ []) (omega arith) (entry-tree (suc i) f h m)
  entry-tree i (node r children f) h m =
      entry-cases i r children f
      (λ k. put-after (frontier f) (entry-tree i children h.1 k))
      (λ e. rw e (own-tree i (frontier f) (record { rule = r; children = children }) (h.0, h.1, tt)))
      (λ k. put-before (frontier children) refl (entry-tree (i + width children) f h.2 k))
      m
