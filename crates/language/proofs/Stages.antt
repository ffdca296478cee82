-- What is proved of specs' Stages. Checks made one after another, each over the whole input before the next: the first that fails refuses.
--
-- Main statements: given-exactly, follows-exactly, failing-finds.
use Rattle.std.specs.Prelude.{◌≡◌, refl, Bool, true, false, ◌↔◌, List, [], ◌∷◌, ◌++◌, ℕ, Ok, Err}
use Rattle.std.proofs.Common.{sym, ap, ◌∙◌, arith}
use Rattle.std.proofs.lemmas.Bool.{false≢true}
use Rattle.std.proofs.Math.Option.{Option, none, some}
use Rattle.laws.specs.Least.{Nowhere, Finds, nowhere, least, least-once}
use Rattle.refusals.specs.declared.Refusal.{Refusal}
use Rattle.refusals.specs.Answers.{Answer}
use Rattle.language.specs.Stages.{Condition, Follows, Given, Ready, Stage, checked, failing, fails, finding, goes_on, passes, passes_all}
use Rattle.language.specs.Stages.{ready, refused_by, stages_of, stands, then_checked}

module _ {Input : Type 0} (input : Input) where
  -- the answer is a given one
  pub given : {cs : List (Condition Input)} → Ready input cs → Given input cs (checked (stages_of cs) input)
  given ready = passes_all
  given (finding {c = c} {cs = cs} f next) = go (c.stage.fails_at input) f (λ n. given (next n))
    where
      go : (found : Option ℕ) → Finds (c.Holds input) found → (Nowhere (c.Holds input) → Given input cs (checked (stages_of cs) input))
          → Given input (c ∷ cs) (refused_by c.stage.refusal found (checked (stages_of cs) input))
      go none (nowhere n) rest = passes n (rest n)
      go (some v) (least l) rest = fails l

  -- no other answer is given
  pub given-once : {cs : List (Condition Input)} {a b : Answer} → Given input cs a → Given input cs b → a ≡ b
  given-once passes_all passes_all = refl
  given-once (fails {c = c} l) (fails m) = ap (λ v. Err (c.stage.refusal v)) (least-once l m)
  given-once (fails {v = v} l) (passes n h) = absurd (n v l.holds)
  given-once (passes n g) (fails {v = v} m) = absurd (n v m.holds)
  given-once (passes n g) (passes m h) = given-once g h

  -- an answer is what the checks say exactly when it is given
  pub given-exactly : {cs : List (Condition Input)} → Ready input cs → (answer : Answer) → (checked (stages_of cs) input ≡ answer) ↔ Given input cs answer
  given-exactly r answer = (λ e. rw e at (given r), λ g. given-once (given r) g)

  -- where no check is left, nothing is refused
  pub none_left : {A : Type 0} {refusal : Refusal} → Given input [] (Err refusal) → A
  none_left g = elim g [ ]

pub checked-append : {Input : Type 0} (first second : List (Stage Input)) (input : Input)
    → checked (first ++ second) input ≡ then_checked (checked first input) second input
checked-append [] second input = refl
checked-append (stage ∷ first) second input = go (stage.fails_at input) (checked-append first second input)
  where
    go : (found : Option ℕ) → checked (first ++ second) input ≡ then_checked (checked first input) second input
        → refused_by stage.refusal found (checked (first ++ second) input) ≡ then_checked (refused_by stage.refusal found (checked first input)) second input
    go none ih = ih
    go (some v) ih = refl

module _ {Input : Type 0} (input : Input) (later : List (Condition Input)) where
  pub follows-exactly : (first : Answer) → (first ≡ Ok tt → Ready input later) → (answer : Answer)
      → (then_checked first (stages_of later) input ≡ answer) ↔ Follows input first later answer
  follows-exactly first r answer = (λ e. to first refl e, from answer)
    where
      to : (a : Answer) → first ≡ a → then_checked a (stages_of later) input ≡ answer → Follows input first later answer
      to (Ok _) q e = goes_on q ((given-exactly input (r q) answer).0 e)
      to (Err refusal) q e = rw (sym e) (stands q)

      from : (a : Answer) → Follows input first later a → then_checked first (stages_of later) input ≡ a
      from a (stands q) = ap (λ (k : Answer). then_checked k (stages_of later) input) q
      from a (goes_on q g) = ap (λ (k : Answer). then_checked k (stages_of later) input) q ∙ (given-exactly input (r q) a).1 g

-- ---- a condition with one value

-- such a search finds it
pub failing-finds : (P : ℕ → Type 0) (broken : Bool) (v : ℕ) → (broken ≡ true → P v) → ((u : ℕ) → P u → (broken ≡ true) × (u ≡ v)) → Finds P (failing broken v)
failing-finds P true v to of = least (record { holds = to refl; least = λ u h p. let e = (of u p).1 in omega arith })
failing-finds P false v to of = nowhere (λ u p. false≢true (of u p).0)
