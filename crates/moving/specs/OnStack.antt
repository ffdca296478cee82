-- A stack as a fact of the words, which one left open: what reading its topmost symbol asks, and what stands under it.
-- Rests on ReadWords, Walks and StackWords.
--
-- Main definition: IsStacked. Main statements: is_stacked; stack-ends, stack-room, stack-under, nonterminal-some.
use Rattle.std.specs.Prelude.{◌≡◌, true, List, [], ◌∷◌, ℕ, ◌<◌, ◌≤◌, length}
use Rattle.std.proofs.Common.{sym, arith}
use Rattle.std.proofs.lemmas.Bool.{false≢true}
use Rattle.std.proofs.Math.Bridge.{le_prop}
use Rattle.std.proofs.Math.Logic.{∥∥₁_elim, ∥∥₁_prop}
use Rattle.moving.specs.MoveWords.{slot_at}
use Rattle.language.specs.Trees.{Span}
use Rattle.machine.specs.Entries.{Entry, top_is_nonterminal}
use Rattle.moving.specs.ReadWords.{Holds, Stacked, start_slot, EndsBlock, NonterminalOnTop}
use Rattle.moving.specs.Walks.{held-ends, held-under}

-- the slots from s up to e hold some stack
abbrev pub IsStacked : List ℕ → ℕ → ℕ → Type 0
IsStacked area s e = ∥ Stacked area s e ∥₁

pub is_stacked : {area : List ℕ} {s e : ℕ} → Stacked area s e → IsStacked area s e
is_stacked h = ∣ h ∣₁

module _ {area : List ℕ} {s e : ℕ} (h : IsStacked area s e) where
  pub stack-room : slot_at area e ≤ length area
  stack-room = ∥∥₁_elim h le_prop (λ k. k.room)

  module _ (l : s < e) where
    -- a block ends there
    pub stack-ends : EndsBlock area e
    stack-ends = record {
      some = ∥∥₁_elim h le_prop (λ k. (held-ends k.stack k.holds l).some);
      fits = ∥∥₁_elim h le_prop (λ k. (held-ends k.stack k.holds l).fits);
      within = stack-room;
    }

    -- what stands under it
    pub stack-under : IsStacked area s (start_slot area e)
    stack-under = ∥∥₁_elim h ∥∥₁_prop (λ k. ∣ held-under k.stack k.holds l ∣₁)

  -- a stack with a nonterminal on top has a symbol
  pub nonterminal-some : NonterminalOnTop area s e true → s < e
  nonterminal-some n = ∥∥₁_elim h le_prop (λ k. go k.stack k.holds (sym (n.found k.stack k.holds)))
    where
      go : (stack : List (Entry Span)) → Holds area s e stack → top_is_nonterminal stack ≡ true → s < e
      go [] k b = absurd (false≢true b)
      go (x ∷ stack) k b = omega (arith, k.stands.stop)
