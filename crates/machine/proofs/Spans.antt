-- What is proved of specs' Spans. The value that the machine proper gives a left side: the span of its right side's spans.
--
-- Main statements: unread-tokens, span-of-roots.
use Rattle.std.specs.Prelude.{◌≡◌, refl, List, [], ◌∷◌, ◌++◌, ℕ, suc, ◌+◌, length}
use Rattle.std.proofs.Common.{ap, ◌∙◌, arith, length-append}
use Rattle.language.specs.Trees.{Span, Forest, none, leaf, node, frontier, width}
use Rattle.machine.specs.Entries.{Unread, terminal_at}
use Rattle.machine.specs.States.{unread_from}
use Rattle.machine.specs.Spans.{last_after, span_of, spans_from, tokens_from}

pub tokens_append : (i : ℕ) (s t : List ℕ) → tokens_from i (s ++ t) ≡ tokens_from i s ++ tokens_from (i + length s) t
tokens_append i [] t = ap (λ j. tokens_from j t) (omega arith)
tokens_append i (a ∷ s) t =
    ap {B = List (Unread Span)} (λ u. terminal_at a (record { first = i; after = suc i }) ∷ u)
    (tokens_append (suc i) s t ∙ ap (λ j. tokens_from (suc i) s ++ tokens_from j t) (omega arith))

-- an uncut row's unread symbols: its tokens, and then #
pub unread-tokens : (i : ℕ) (tokens : List ℕ)
    → unread_from i tokens ≡ tokens_from i tokens ++ (terminal_at 0 (record { first = i + length tokens; after = i + length tokens }) ∷ [])
unread-tokens i [] = ap {B = List (Unread Span)} (λ j. terminal_at 0 (record { first = j; after = j }) ∷ []) (omega arith)
unread-tokens i (a ∷ tokens) =
    ap {B = List (Unread Span)} (λ u. terminal_at a (record { first = i; after = suc i }) ∷ u)
    (unread-tokens (suc i) tokens
    ∙ ap {B = List (Unread Span)} (λ j. tokens_from (suc i) tokens ++ (terminal_at 0 (record { first = j; after = j }) ∷ [])) (omega arith))

last-of-roots : (v : Span) (i : ℕ) (f : Forest) → v.after ≡ i → last_after v (spans_from i f) ≡ i + width f
last-of-roots v i none e = omega arith
last-of-roots v i (leaf a f) e = last-of-roots (record { first = i; after = suc i }) (suc i) f refl ∙ omega arith
last-of-roots v i (node r children f) e =
    let z : length (frontier children ++ frontier f) ≡ width children + width f = length-append (frontier children) (frontier f) in
    last-of-roots (record { first = i; after = i + width children }) (i + width children) f refl ∙ omega arith

-- the roots of a forest that is not empty span all that it covers
pub span-of-roots : (i : ℕ) (f : Forest) → (f ≡ none → ⊥) → span_of (spans_from i f) ≡ record { first = i; after = i + width f }
span-of-roots i none h = absurd (h refl)
span-of-roots i (leaf a f) h =
    λ k. record { first = i; after = last-of-roots (record { first = 0; after = i }) i (leaf a f) refl k }
span-of-roots i (node r children f) h = λ k. record { first = i; after = last-of-roots (record { first = 0; after = i }) i (node r children f) refl k }
