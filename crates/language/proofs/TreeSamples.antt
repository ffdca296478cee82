-- What is proved of specs' TreeSamples. Document 01's sample row under grammar K: its tree, the tree's post-order, a report put in order and
-- matching, computed from the definitions.
--
-- Main statements: sample-derived, sample-report, sample-put-in-order, sample-matching.
use Rattle.std.specs.Prelude.{◌≡◌, refl, [], ◌∷◌, ◌++◌, reverse, ℕ, ◌<◌}
use Rattle.std.proofs.Math.Option.{some, none}
use Rattle.std.proofs.Common.{lit<}
use Rattle.laws.specs.Tests.{below-up_to}
use Rattle.language.specs.Symbols.{terminal, nonterminal}
use Rattle.language.specs.Grammar.{Grammar, rule_at, in_play, Spells}
use Rattle.language.specs.Words.{grammar_of}
use Rattle.language.specs.Trees.{Span, Reduction, frontier, Grown, post_order, forest_of}
use Rattle.language.specs.Derivations.{Derives, terminals}
use Rattle.language.proofs.Derivations.{tree-derives}
use Rattle.language.specs.Matching.{matching}
use Rattle.language.specs.Reports.{put_in_order, report_words}
use Rattle.language.specs.TreeSamples.{K, sample_row, sample_tree}

pub sample-frontier : frontier (forest_of sample_tree) ≡ sample_row
sample-frontier = refl

spelled-in-K : (r : ℕ) → r < 5 → Spells K r (rule_at K r).right
unfolding in_play grammar_of
spelled-in-K r h = record { plays = below-up_to 5 r h; spelling = refl }

pub sample-grown : Grown K (forest_of sample_tree)
unfolding grammar_of
sample-grown =
    let s : Spells K 0 (terminal 1 ∷ []) = spelled-in-K 0 (lit< tt) in
    let list : Spells K 3 (nonterminal 0 ∷ terminal 2 ∷ nonterminal 0 ∷ []) = spelled-in-K 3 (lit< tt) in
    let bracketed : Spells K 2 (terminal 3 ∷ nonterminal 1 ∷ terminal 4 ∷ terminal 5 ∷ []) = spelled-in-K 2 (lit< tt) in
    (list, (s, tt, (bracketed, (list, (s, tt, (s, tt, tt)), tt), tt)), tt)

pub sample-derived : Derives K (nonterminal 1 ∷ []) (terminals sample_row)
unfolding grammar_of
sample-derived = tree-derives sample_tree sample-grown

pub sample-report : report_words (post_order 0 (forest_of sample_tree)) ≡ 0 ∷ 0 ∷ 1 ∷ 0 ∷ 3 ∷ 4 ∷ 0 ∷ 5 ∷ 6 ∷ 3 ∷ 3 ∷ 6 ∷ 2 ∷ 2 ∷ 8 ∷ 3 ∷ 0 ∷ 8 ∷ []
sample-report = refl

-- the same entries the other way round, and two of equal spans
pub sample-put-in-order : put_in_order (reverse (post_order 0 (forest_of sample_tree))) ≡ post_order 0 (forest_of sample_tree)
sample-put-in-order = refl

abbrev over : ℕ → Reduction Span
over r = record { rule = r; value = record { first = 2; after = 3 } }

equal-spans : report_words (put_in_order (over 7 ∷ over 4 ∷ [])) ≡ 4 ∷ 2 ∷ 3 ∷ 7 ∷ 2 ∷ 3 ∷ []
equal-spans = refl

-- a right side of K, one of no rule, and one of two rules
pub sample-matching : matching K (nonterminal 0 ∷ terminal 2 ∷ nonterminal 0 ∷ []) ≡ some 3
unfolding in_play grammar_of
sample-matching = refl

pub sample-no-rule : matching K (terminal 2 ∷ []) ≡ none
unfolding in_play grammar_of
sample-no-rule = refl

abbrev twice : Grammar
twice = record { terminals = K.terminals; nonterminals = K.nonterminals; axioms = K.axioms; rules = K.rules ++ K.rules }

sample-least : matching twice (nonterminal 0 ∷ terminal 2 ∷ nonterminal 0 ∷ []) ≡ some 3
unfolding in_play grammar_of
sample-least = refl
