-- The first bad head word is found, or none is.
use Rattle.std.proofs.Common.{◌≡◌, true, false, refl, arith, rules, tests, Ok}
use Rattle.std.proofs.lemmas.Iterator.{first_from_Range}
use Rattle.refusals.specs.declared.Refusal.TheVariants.{Head}
use Rattle.language.specs.CheckHead.{bad_head}
use Rattle.words.specs.Search.{Found, find-some, find-none}
use Rattle.words.proofs.checks.head.Goals as goal

pub overflow_cast-result : goal.overflow_cast-result
overflow_cast-result c =
    let words = c.args.words.now in
    let found : Found (bad_head words) (4) c.find.result = first_from_Range _ _ _ _ (λ k. bad_head words k ≡ true) (λ k. bad_head words k ≡ false) c.find.ensures.ran (λ x q k. search (rules, tests)) (λ x q k. (search rules, search (rules, tests))) in
    omega (arith, (find-some (bad_head words) (bad_head words) (4) (4) (refl) (λ k h. refl) Head (Ok tt) found c.in-Some.i c.in-Some.is).0)

pub returns-in-Some : goal.returns-in-Some
returns-in-Some c =
    let words = c.args.words.now in
    let found : Found (bad_head words) (4) c.find.result = first_from_Range _ _ _ _ (λ k. bad_head words k ≡ true) (λ k. bad_head words k ≡ false) c.find.ensures.ran (λ x q k. search (rules, tests)) (λ x q k. (search rules, search (rules, tests))) in
    (find-some (bad_head words) (bad_head words) (4) (4) (refl) (λ k h. refl) Head (Ok tt) found c.in-Some.i c.in-Some.is).1

pub returns-in-None : goal.returns-in-None
returns-in-None c =
    let words = c.args.words.now in
    let found : Found (bad_head words) (4) c.find.result = first_from_Range _ _ _ _ (λ k. bad_head words k ≡ true) (λ k. bad_head words k ≡ false) c.find.ensures.ran (λ x q k. search (rules, tests)) (λ x q k. (search rules, search (rules, tests))) in
    find-none (bad_head words) (bad_head words) (4) (4) (refl) (λ k h. refl) Head (Ok tt) found c.in-None.is
