-- What is proved of specs' CheckForm. Check 4, FORM: "a right side has two adjacent nonterminals, or no terminal"; value: "first such rule".
--
-- Main statements: adjacent-iff, no-terminal-iff, form-finds.
use Rattle.std.specs.Prelude.{◌≡◌, refl, true, false, ◌↔◌, ◌⊎◌, List, [], ◌∷◌, ◌++◌, ℕ, ◌<◌, length}
use Rattle.std.proofs.Common.{sym, ◌∙◌, inl, inr}
use Rattle.std.proofs.lemmas.Bool.{false≢true}
use Rattle.laws.specs.Least.{Finds, first_below, first_finds}
use Rattle.laws.specs.Tests.{or_cases, or-first, or-second}
use Rattle.language.specs.Symbols.{Symbol, terminal, nonterminal}
use Rattle.language.specs.Grammar.{Grammar, rule_at}
use Rattle.language.proofs.RightSides.{has-later}
use Rattle.language.specs.CheckForm.{Adjacent, BadForm, NoTerminal, adjacent, bad_form, form_adjacent, form_bare, no_terminal}

adjacent-after : {w : List Symbol} (x : Symbol) → Adjacent w → Adjacent (x ∷ w)
adjacent-after x a = record { one = a.one; other = a.other; stand = has-later x a.stand }

to-adjacent : (w : List Symbol) → adjacent w ≡ true → Adjacent w
to-adjacent [] e = absurd (false≢true e)
to-adjacent (terminal a ∷ w) e = adjacent-after (terminal a) (to-adjacent w e)
to-adjacent (nonterminal k ∷ []) e = absurd (false≢true e)
to-adjacent (nonterminal k ∷ terminal a ∷ w) e = adjacent-after (nonterminal k) (adjacent-after (terminal a) (to-adjacent w e))
to-adjacent (nonterminal k ∷ nonterminal j ∷ w) e = record { one = k; other = j; stand = record { before = []; after = w; is = refl } }

adjacent-in : (before after : List Symbol) (k j : ℕ) → adjacent (before ++ (nonterminal k ∷ nonterminal j ∷ after)) ≡ true
adjacent-in [] after k j = refl
adjacent-in (terminal a ∷ before) after k j = adjacent-in before after k j
adjacent-in (nonterminal i ∷ []) after k j = refl
adjacent-in (nonterminal i ∷ terminal a ∷ before) after k j = adjacent-in before after k j
adjacent-in (nonterminal i ∷ nonterminal h ∷ before) after k j = refl

pub adjacent-iff : (w : List Symbol) → (adjacent w ≡ true) ↔ Adjacent w
adjacent-iff w = (to-adjacent w, λ a. rw a.stand.is (adjacent-in a.stand.before a.stand.after a.one a.other))

terminal-in : (before after : List Symbol) (a : ℕ) → no_terminal (before ++ (terminal a ∷ after)) ≡ false
terminal-in [] after a = refl
terminal-in (terminal b ∷ before) after a = refl
terminal-in (nonterminal k ∷ before) after a = terminal-in before after a

of_none : (w : List Symbol) → NoTerminal w → no_terminal w ≡ true
of_none [] n = refl
of_none (terminal a ∷ w) n = absurd (n a (record { before = []; after = w; is = refl }))
of_none (nonterminal k ∷ w) n = of_none w (λ a h. n a (has-later (nonterminal k) h))

to_none : (w : List Symbol) → no_terminal w ≡ true → NoTerminal w
to_none w e a h = false≢true (sym (rw h.is (terminal-in h.before h.after a)) ∙ e)

pub no-terminal-iff : (w : List Symbol) → (no_terminal w ≡ true) ↔ NoTerminal w
no-terminal-iff w = (to_none w, of_none w)

pub form-finds : (g : Grammar) → Finds (BadForm g) (first_below (bad_form g) (length g.rules))
form-finds g = first_finds (bad_form g) (length g.rules) (BadForm g) to of
  where
    right : ℕ → List Symbol
    right r = (rule_at g r).right

    to : (r : ℕ) → r < length g.rules → bad_form g r ≡ true → BadForm g r
    to r h e = go (or_cases (adjacent (right r)) (no_terminal (right r)) e)
      where
        go : (adjacent (right r) ≡ true) ⊎ (no_terminal (right r) ≡ true) → BadForm g r
        go (inl q) = form_adjacent h ((adjacent-iff (right r)).0 q)
        go (inr q) = form_bare h ((no-terminal-iff (right r)).0 q)

    of : (r : ℕ) → BadForm g r → (r < length g.rules) × (bad_form g r ≡ true)
    of r (form_adjacent h a) = (h, or-first (adjacent (right r)) (no_terminal (right r)) ((adjacent-iff (right r)).1 a))
    of r (form_bare h n) = (h, or-second (adjacent (right r)) (no_terminal (right r)) ((no-terminal-iff (right r)).1 n))
