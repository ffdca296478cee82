-- What is proved of specs' TableOf. The table that a reader uses: relations from the bytes of a matrix, rules and axioms from the grammar words, spans as values.
--
-- Main statements: end-mark-of-words, laws-of-words; own-end-mark, own-laws.
use Rattle.std.specs.Prelude.{◌≡◌, refl, List, [], ◌++◌, ℕ, ◌+◌, ◌*◌, ◌≤◌, ◌<◌}
use Rattle.std.proofs.Common.{sym, ap, ◌∙◌, inl, inr, append-nil, arith}
use Rattle.std.proofs.Math.Decide.{dec_lt}
use Rattle.std.proofs.Math.ListN.{get_or-append}
use Rattle.laws.specs.Tests.{lt-ltb, le-ltb, ltb-true}
use Rattle.language.specs.Symbols.{Relation, blank, yields, equal, takes, relation_number}
use Rattle.language.specs.Grammar.{Grammar}
use Rattle.language.specs.Words.{count_a, grammar_of}
use Rattle.language.specs.SetMasks.{InRange}
use Rattle.language.specs.RelationTests.{relation_of}
use Rattle.language.proofs.RelationPairs.{end-relations, unused-blank}
use Rattle.language.proofs.Conflicts.{relation-exactly}
use Rattle.language.specs.Matrix.{matrix_of}
use Rattle.language.proofs.Matrix.{matrix-at, matrix-length}
use Rattle.language.proofs.Matching.{spelled_by, matching_of}
use Rattle.language.proofs.WordsInRange.{in_range, few-terminals}
use Rattle.language.proofs.PassedWords.{never-adjacent, have-terminals, no-twins}
use Rattle.language.specs.Loads.{Accepted}
use Rattle.language.specs.Trees.{Span}
use Rattle.machine.specs.Moves.{Table}
use Rattle.machine.specs.Laws.{EndMark, Laws}
use Rattle.machine.specs.TableOf.{own_table, relation_at, relation_from, table_of}

number-relation : (r : Relation) → relation_from (relation_number r) ≡ r
number-relation blank = refl
number-relation yields = refl
number-relation equal = refl
number-relation takes = refl

-- the matrix of a grammar, with anything beyond it, gives the grammar's relations
pub relation-of-matrix : (g : Grammar) (rest : List ℕ) → g.terminals ≤ 63 → (a b : ℕ) → relation_at (matrix_of g ++ rest) a b ≡ relation_of g a b
relation-of-matrix g rest few a b = go (dec_lt a 64) (dec_lt b 64)
  where
    go : Dec (a < 64) → Dec (b < 64) → relation_at (matrix_of g ++ rest) a b ≡ relation_of g a b
    go (yes h) (yes k) =
        rw (lt-ltb a 64 h, lt-ltb b 64 k, relation_at)
        (ap relation_from (get_or-append (matrix_of g) rest 0 (64 * a + b) (omega (arith, matrix-length g)) ∙ matrix-at g a b h k)
        ∙ number-relation (relation_of g a b))
    go (no h) k = rw (le-ltb a 64 (omega arith), relation_at) (sym (unused-blank g a b (inl (omega arith))))
    go (yes h) (no k) = rw (lt-ltb a 64 h, le-ltb b 64 (omega arith), relation_at) (sym (unused-blank g a b (inr (omega arith))))

-- ---- accepted words with their own matrix, and anything beyond it

module _ (words : List ℕ) (accepted : Accepted words) (rest : List ℕ) where
  abbrev g : Grammar
  g = grammar_of words

  abbrev table : Table Span
  table = table_of words (matrix_of g ++ rest)

  range : InRange g
  range = in_range words accepted.passed.head accepted.passed.symbols

  few : g.terminals ≤ 63
  unfolding grammar_of
  few = (few-terminals words accepted.passed.head).1

  pub relation-of-words : (a b : ℕ) → table.relation a b ≡ relation_of g a b
  relation-of-words a b = relation-of-matrix g rest few a b

  -- "# equals #", # takes over nothing and nothing yields to it
  pub end-mark-of-words : EndMark table
  end-mark-of-words =
      let e = end-relations range in
      record {
        nothing_yields = λ a q. e.nothing_yields a (sym (relation-of-words a 0) ∙ q);
        never_takes = λ b q. e.never_takes b (sym (relation-of-words 0 b) ∙ q);
        equal_after = λ b q. e.equal_after b (sym (relation-of-words 0 b) ∙ q);
        equal_before = λ a q. e.equal_before a (sym (relation-of-words a 0) ∙ q);
      }

  -- *laws from the words*: all that sound and complete assume
  pub laws-of-words : Laws g table
  unfolding grammar_of
  laws-of-words = record {
    equal_of = λ {a} {b} e. relation-of-words a b ∙ (relation-exactly range accepted.free a b).is_equal.1 e;
    yields_of = λ {a} {b} e. relation-of-words a b ∙ (relation-exactly range accepted.free a b).is_yields.1 e;
    takes_of = λ {a} {b} e. relation-of-words a b ∙ (relation-exactly range accepted.free a b).is_takes.1 e;
    matching_of = λ s. matching_of (no-twins accepted.passed.twins) s;
    spelled_by = λ {r} {w} q. spelled_by w q;
    left_of = λ s. refl;
    apart = λ s h. never-adjacent accepted.passed.forms s h;
    has_terminal = λ {r} {w} s. have-terminals accepted.passed.forms r w s;
    not_end = λ s h. let p = range.terminal_positive s h in omega arith;
    axiom_of = λ {k} h. lt-ltb k (count_a words) h;
    of_axiom = λ {k} q. ltb-true k (count_a words) q;
  }

-- ---- .. and nothing beyond it

module _ {words : List ℕ} (accepted : Accepted words) where
  pub own-end-mark : EndMark (own_table words)
  own-end-mark = rw (append-nil (matrix_of (grammar_of words))) at (end-mark-of-words words accepted [])

  pub own-laws : Laws (grammar_of words) (own_table words)
  own-laws = rw (append-nil (matrix_of (grammar_of words))) at (laws-of-words words accepted [])
