-- The matrix of an accepted load: any run that begins with its 4,096 bytes keeps the shape rules, and a reader knows the same table by it.
-- Document 01: 15 "is never given to a start with the words and matrix of an accepted load"; "The matrix needs 4,096 bytes .. anything
-- beyond is untouched".
-- Rests on Calls, on language's Loads and Matrix, machine's TableOf, and matrix's EndMarkOfShape.
--
-- Main statements: own-bytes, shape_is, table_is; from below, for all here: own_table, own-end-mark, own-laws, own-shape.
use Rattle.std.specs.Prelude.{◌≡◌, true, List, [], ◌++◌, ℕ, length, take, drop, ltb, Ok}
use Rattle.std.proofs.Common.{sym, ap, subst, ◌∙◌, append-nil, take-append-drop, take_at}
use Rattle.language.specs.Grammar.{left_side}
use Rattle.language.specs.Words.{count_a, grammar_of}
use Rattle.language.specs.Matching.{matching}
use Rattle.language.specs.Matrix.{matrix_of}
use Rattle.language.proofs.Matrix.{matrix-length}
use Rattle.language.specs.Loads.{Accepted, load_answer, loaded_bytes, load_bytes}
use Rattle.language.proofs.Loads.{accepted-exactly}
use Rattle.machine.specs.Spans.{span_of}
use Rattle.machine.specs.TableOf.{relation_at, table_of}
use Rattle.machine.proofs.TableOf.{relation-of-words}
use Rattle.machine.specs.TableOf.{own_table}
use Rattle.matrix.specs.GrammarShape.{grammar_in_shape}
use Rattle.matrix.specs.EndMarkOfShape.{matrix-in-shape}
use Rattle.demands.specs.Calls.{OfLoad}

module _ {words : List ℕ} (accepted : Accepted words) where
  same-relations : (rest : List ℕ) (a b : ℕ) → relation_at (matrix_of (grammar_of words) ++ rest) a b ≡ relation_at (matrix_of (grammar_of words)) a b
  same-relations rest a b =
      let own = rw (append-nil (matrix_of (grammar_of words))) at (relation-of-words words accepted [] a b) in
      relation-of-words words accepted rest a b ∙ sym own

  same-table : (rest : List ℕ) → table_of words (matrix_of (grammar_of words) ++ rest) ≡ own_table words
  same-table rest = λ i. record {
    relation = λ a b. same-relations rest a b i;
    matching = matching (grammar_of words);
    left_side = left_side (grammar_of words);
    is_axiom = λ k. ltb k (count_a words);
    value = λ r spans. span_of spans;
  }

module _ (words bytes : List ℕ) (loads : load_answer words (length bytes) ≡ Ok tt) where
  pub accepted : Accepted words
  accepted = ((accepted-exactly words (length bytes)).0 loads).0

  left : load_bytes words bytes ≡ matrix_of (grammar_of words) ++ drop 4096 bytes
  unfolding load_bytes
  left = rw (loads, loaded_bytes)

  module _ (matrix : List ℕ) (own : OfLoad words bytes matrix) where
    pub own-bytes : matrix ≡ matrix_of (grammar_of words) ++ drop 4096 matrix
    own-bytes =
        let first = take_at (matrix_of (grammar_of words)) (drop 4096 bytes) 4096 (matrix-length (grammar_of words)) in
        sym (take-append-drop 4096 matrix) ∙ ap (λ l. l ++ drop 4096 matrix) (own ∙ ap (λ l. take 4096 l) left ∙ first)

    -- 15 is not given to such a matrix
    pub shape_is : grammar_in_shape words matrix ≡ true
    shape_is = subst (λ m. grammar_in_shape words m ≡ true) (sym own-bytes) (matrix-in-shape words accepted (drop 4096 matrix))

    -- a reader knows the same table by it
    pub table_is : table_of words matrix ≡ own_table words
    table_is = ap (λ m. table_of words m) own-bytes ∙ same-table accepted (drop 4096 matrix)
