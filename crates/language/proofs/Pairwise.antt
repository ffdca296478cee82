-- What is proved of specs' Pairwise. A relation that holds of each element of a list and every later one: rising numbers, entries in order, spans that differ.
--
-- Main statements: pairwise_append, pairwise-weaken.
use Rattle.std.proofs.Common.{⊎_elim}
use mathlib.Core.List.Memᴰ
use mathlib.Core.List.{List, ◌++◌, Memᴰ}
use Rattle.std.specs.Prelude.{refl}
use Rattle.language.specs.Pairwise.{Pairwise, cons, nil}

-- of two lists one after the other
pub pairwise_append : {A : Type 0} {R : A → A → Type 0} {l m : List A} → Pairwise R l → Pairwise R m
    → ((x y : A) → Memᴰ x l → Memᴰ y m → R x y) → Pairwise R (l ++ m)
pairwise_append nil q h = q
pairwise_append (cons {x = x} {l = l} a p) q h =
    cons
    (λ y k. ⊎_elim (a y) (h x y (Memᴰ.head refl)) (Memᴰ.append_cases l k))
    (pairwise_append p q (λ z y k. h z y (Memᴰ.tail k)))

pub pairwise-weaken : {A : Type 0} {R S : A → A → Type 0} {l : List A} → ((x y : A) → R x y → S x y) → Pairwise R l → Pairwise S l
pairwise-weaken h nil = nil
pairwise-weaken h (cons {x = x} a p) = cons (λ y k. h x y (a y k)) (pairwise-weaken h p)
