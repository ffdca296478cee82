-- What is proved of specs' Derivations. Derivations: one step, its closure, and that they are what trees show.
--
-- Main statements: forest-derives and derives-forest (a string of symbols derives a terminal string exactly when a forest has
-- them as roots and frontier); tree-derives, derives-tree and derives-exactly (the same of one nonterminal and a tree).
use Rattle.std.specs.Prelude.{◌≡◌, refl, ◌↔◌, ℕ}
use Rattle.std.proofs.Common.{◌∙◌, arith}
use mathlib.Core.List.{List, [], ◌∷◌, ◌++◌, append-nil, append_assoc, map-append, nil≢cons, head-eq_of_cons-eq, tail-eq_of_cons-eq}
use Rattle.language.specs.Symbols.{Symbol, terminal, nonterminal}
use Rattle.language.specs.Grammar.{Grammar, left_side, Spells}
use Rattle.language.specs.Trees.{Forest, none, leaf, node, frontier, roots, Grown, Tree, forest_of}
use Rattle.language.specs.Derivations.{Derives, ForestOf, Step, TreeOf, at_once, by_step, terminals}

module _ {g : Grammar} where
  pub derives-trans : {u v w : List Symbol} → Derives g u v → Derives g v w → Derives g u w
  derives-trans at_once e = e
  derives-trans (by_step s d) e = by_step s (derives-trans d e)

  -- a step within a longer string
  step-between : {u v : List Symbol} (x y : List Symbol) → Step g u v → Step g (x ++ (u ++ y)) (x ++ (v ++ y))
  step-between x y s = record {
    before = x ++ s.before;
    after = s.after ++ y;
    rule = s.rule;
    string = s.string;
    spelled = s.spelled;
    from = rw s.from (simp append_assoc);
    to = rw s.to (simp append_assoc);
  }

  pub derives-between : {u v : List Symbol} (x y : List Symbol) → Derives g u v → Derives g (x ++ (u ++ y)) (x ++ (v ++ y))
  derives-between x y at_once = at_once
  derives-between x y (by_step s d) = by_step (step-between x y s) (derives-between x y d)

  derives-after : {u v : List Symbol} (x : List Symbol) → Derives g u v → Derives g (x ++ u) (x ++ v)
  derives-after x d = simp append-nil at (derives-between x [] d)

  pub derives-append : {u v w x : List Symbol} → Derives g u v → Derives g w x → Derives g (u ++ w) (v ++ x)
  derives-append {v = v} {w = w} d e = derives-trans (derives-between [] w d) (derives-after v e)

  -- a rule applied to the first symbol, and what follows
  first_step : {r : ℕ} {w v : List Symbol} (y : List Symbol) → Spells g r w → Derives g (w ++ y) v → Derives g (nonterminal (left_side g r) ∷ y) v
  first_step {r} {w} y s d = by_step (record { before = []; after = y; rule = r; string = w; spelled = s; from = refl; to = refl }) d

  pub forest-derives : (f : Forest) → Grown g f → Derives g (roots g f) (terminals (frontier f))
  forest-derives none h = at_once
  forest-derives (leaf a f) h = derives-after (terminal a ∷ []) (forest-derives f h)
  forest-derives (node r children f) h =
      rw (map-append terminal (frontier children) (frontier f))
      (first_step (roots g f) h.0 (derives-append (forest-derives children h.1) (forest-derives f h.2)))

  -- the three ways in which a forest is made, by roots and frontier
  none_of : ForestOf g [] []
  none_of = record { forest = none; grown = tt; roots_are = refl; frontier_is = refl }

  leaf-of : {c : Symbol} {w : List Symbol} {u : List ℕ} (a : ℕ) → terminal a ≡ c → ForestOf g w u → ForestOf g (c ∷ w) (a ∷ u)
  leaf-of a e f = record { forest = leaf a f.forest; grown = f.grown; roots_are = rw (e, f.roots_are); frontier_is = rw f.frontier_is }

  node_of : {c : Symbol} {v w : List Symbol} {t u : List ℕ} (r : ℕ) → nonterminal (left_side g r) ≡ c → Spells g r v → ForestOf g v t → ForestOf g w u
      → ForestOf g (c ∷ w) (t ++ u)
  node_of r e s children f = record {
    forest = node r children.forest f.forest;
    grown = (rw children.roots_are s, children.grown, f.grown);
    roots_are = rw (e, f.roots_are);
    frontier_is = rw (children.frontier_is, f.frontier_is);
  }

  leaves : (u : List ℕ) → ForestOf g (terminals u) u
  leaves [] = none_of
  leaves (a ∷ u) = leaf-of a refl (leaves u)

  standing : (f : Forest) → Grown g f → ForestOf g (roots g f) (frontier f)
  standing f h = record { forest = f; grown = h; roots_are = refl; frontier_is = refl }

-- a forest cut in two between its roots
record Split (g : Grammar) (w y : List Symbol) (u : List ℕ) : Type 0 where
  left : List ℕ
  right : List ℕ
  fore : ForestOf g w left
  hind : ForestOf g y right
  whole : left ++ right ≡ u

module _ {g : Grammar} where
  split : {y : List Symbol} (w : List Symbol) (f : Forest) → Grown g f → roots g f ≡ w ++ y → Split g w y (frontier f)
  split [] f h e = record { left = []; right = frontier f; fore = none_of; hind = rw e at (standing f h); whole = refl }
  split (c ∷ w) none h e = absurd (nil≢cons e)
  split (c ∷ w) (leaf a f) h e =
      let s = split w f h (tail-eq_of_cons-eq e) in
      record { left = a ∷ s.left; right = s.right; fore = leaf-of a (head-eq_of_cons-eq e) s.fore; hind = s.hind; whole = rw s.whole }
  split (c ∷ w) (node r children f) h e =
      let s = split w f h.2 (tail-eq_of_cons-eq e) in
      record {
        left = frontier children ++ s.left;
        right = s.right;
        fore = node_of r (head-eq_of_cons-eq e) h.0 (standing children h.1) s.fore;
        hind = s.hind;
        whole = rw (append_assoc, s.whole);
      }

  -- the roots that a rule spells, gathered under a node of that rule
  gather : {r : ℕ} {w : List Symbol} (x y : List Symbol) (f : Forest) → Grown g f → Spells g r w → roots g f ≡ x ++ (w ++ y)
      → ForestOf g (x ++ (nonterminal (left_side g r) ∷ y)) (frontier f)
  gather {r} {w} [] y f h s e = let t = split w f h e in rw t.whole at (node_of r refl s t.fore t.hind)
  gather (c ∷ x) y none h s e = absurd (nil≢cons e)
  gather (c ∷ x) y (leaf a f) h s e = leaf-of a (head-eq_of_cons-eq e) (gather x y f h s (tail-eq_of_cons-eq e))
  gather (c ∷ x) y (node q children f) h s e =
      node_of q (head-eq_of_cons-eq e) h.0 (standing children h.1) (gather x y f h.2 s (tail-eq_of_cons-eq e))

  derives-forest-at : {w v : List Symbol} {u : List ℕ} → Derives g w v → v ≡ terminals u → ForestOf g w u
  derives-forest-at {u = u} at_once e = rw e (leaves u)
  derives-forest-at {u = u} (by_step s d) e =
      let f : ForestOf g _ u = derives-forest-at d e in
      rw (s.from, ← f.frontier_is) (gather s.before s.after f.forest f.grown s.spelled (f.roots_are ∙ s.to))

  pub derives-forest : {w : List Symbol} {u : List ℕ} → Derives g w (terminals u) → ForestOf g w u
  derives-forest d = derives-forest-at d refl

  pub tree-derives : (t : Tree) → Grown g (forest_of t) → Derives g (nonterminal (left_side g t.rule) ∷ []) (terminals (frontier (forest_of t)))
  tree-derives t h = forest-derives (forest_of t) h

  tree_of : {k : ℕ} (f : Forest) → Grown g f → roots g f ≡ nonterminal k ∷ [] → TreeOf g k (frontier f)
  tree_of none h e = absurd (nil≢cons e)
  tree_of (leaf a f) h e = let z : ◌≡◌ {A = ℕ} 0 1 = cc in absurd (omega arith)
  tree_of (node r children none) h e = record { tree = record { rule = r; children = children }; grown = h; root_is = cc; frontier_is = refl }
  tree_of (node r children (leaf a f)) h e = let z : ◌≡◌ {A = ℕ} 0 1 = cc in absurd (omega arith)
  tree_of (node r children (node q below f)) h e = let z : ◌≡◌ {A = ℕ} 0 1 = cc in absurd (omega arith)

  pub derives-tree : {k : ℕ} {u : List ℕ} → Derives g (nonterminal k ∷ []) (terminals u) → TreeOf g k u
  derives-tree {u = u} d = let f : ForestOf g _ u = derives-forest d in rw f.frontier_is at (tree_of f.forest f.grown f.roots_are)

  -- a nonterminal derives a terminal string exactly when a tree has it as root and frontier
  pub derives-exactly : {k : ℕ} {u : List ℕ} → Derives g (nonterminal k ∷ []) (terminals u) ↔ TreeOf g k u
  derives-exactly = (derives-tree, λ t. rw (t.root_is, t.frontier_is) at (tree-derives t.tree t.grown))
