-- The first bad entry is found, or R where the last body is bad, or none is.
use Rattle.std.proofs.Common.{◌≡◌, true, false, ◌+◌, suc, refl, arith, rules, tests, Ok}
use Rattle.std.proofs.lemmas.Iterator.{first_from_Range}
use Rattle.refusals.specs.declared.Refusal.TheVariants.{Contents}
use Rattle.language.specs.CheckContents.{bad_contents}
use Rattle.language.specs.Words.{count_r}
use Rattle.words.specs.Search.{Found, find-within, find-some, find-none}
use Rattle.words.proofs.checks.contents.Goals as goal

pub overflow_cast-result : goal.overflow_cast-result
overflow_cast-result c =
    let words = c.args.words.now in
    let found : Found (bad_contents words) _ c.find.result = first_from_Range _ _ _ _ (λ k. bad_contents words k ≡ true) (λ k. bad_contents words k ≡ false) c.find.ensures.ran (λ x q k. search (rules, tests)) (λ x q k. (search rules, search (rules, tests))) in
    omega (arith, (find-some (bad_contents words) (bad_contents words) _ _ refl (λ k h. refl) Contents (Ok tt) found c.in-Some.r c.in-Some.is).0)

pub returns-in-Some : goal.returns-in-Some
returns-in-Some c =
    let words = c.args.words.now in
    let found : Found (bad_contents words) _ c.find.result = first_from_Range _ _ _ _ (λ k. bad_contents words k ≡ true) (λ k. bad_contents words k ≡ false) c.find.ensures.ran (λ x q k. search (rules, tests)) (λ x q k. (search rules, search (rules, tests))) in
    find-within (bad_contents words) Contents (Ok tt) found (suc (count_r words)) (omega (arith, c.word.ensures.is)) c.in-Some.r c.in-Some.is

pub returns-in-None : goal.returns-in-None
returns-in-None c =
    let words = c.args.words.now in
    let found : Found (bad_contents words) (c.word.result + 1) c.find.result = first_from_Range _ _ _ _ (λ k. bad_contents words k ≡ true) (λ k. bad_contents words k ≡ false) c.find.ensures.ran (λ x q k. search (rules, tests)) (λ x q k. (search rules, search (rules, tests))) in
    find-none (bad_contents words) (bad_contents words) (suc (count_r words)) (c.word.result + 1) (omega (arith, c.word.ensures.is)) (λ k h. refl) Contents (Ok tt) found c.in-None.is
