-- What is proved of specs' Symbols. Symbols and relations: the vocabulary that everything else speaks in.
--
-- Main statements: same_string-eq, same_string-refl.
use Rattle.std.specs.Prelude.{◌≡◌, refl, true, List, [], ◌∷◌}
use Rattle.std.proofs.Common.{ap, ap₂}
use Rattle.std.proofs.lemmas.Bool.{false≢true}
use Rattle.laws.specs.Tests.{and_both, both-and, eqb-true, eq-eqb}
use Rattle.language.specs.Symbols.{Symbol, nonterminal, same_string, same_symbol, terminal}

same_symbol-eq : (x y : Symbol) → same_symbol x y ≡ true → x ≡ y
same_symbol-eq (terminal a) (terminal b) e = ap terminal (eqb-true a b e)
same_symbol-eq (terminal a) (nonterminal k) e = absurd (false≢true e)
same_symbol-eq (nonterminal j) (terminal b) e = absurd (false≢true e)
same_symbol-eq (nonterminal j) (nonterminal k) e = ap nonterminal (eqb-true j k e)

same_symbol-refl : (x : Symbol) → same_symbol x x ≡ true
same_symbol-refl (terminal a) = eq-eqb a a refl
same_symbol-refl (nonterminal k) = eq-eqb k k refl

-- the test of strings tells equality
pub same_string-eq : (v w : List Symbol) → same_string v w ≡ true → v ≡ w
same_string-eq [] [] e = refl
same_string-eq [] (y ∷ w) e = absurd (false≢true e)
same_string-eq (x ∷ v) [] e = absurd (false≢true e)
same_string-eq (x ∷ v) (y ∷ w) e =
    let k = and_both (same_symbol x y) (same_string v w) e in
    ap₂ {C = List Symbol} (λ z u. z ∷ u) (same_symbol-eq x y k.0) (same_string-eq v w k.1)

pub same_string-refl : (w : List Symbol) → same_string w w ≡ true
same_string-refl [] = refl
same_string-refl (x ∷ w) = both-and (same_symbol x x) (same_string w w) (same_symbol-refl x) (same_string-refl w)
