-- The call of a join by what code finds in the words: out of shape, a number that is not live, no live chunk after it, one of the two
-- not at rest, and otherwise the join that is made.
-- Document 01: "a join 15, 12, 14"; "14 NO JOIN: no live chunk to the right, or either not at rest".
-- Rests on CallLaws, OneMove, JoinLaw and OnWords, and on machine's GivenExactly.
--
-- Main definition: Follows. Main statements: follows, joining; join-bad, join-gone, join-alone, join-moving, join-can, join-made.
use Rattle.std.specs.Prelude.{◌≡◌, refl, Bool, true, false, ◌&&◌, List, ℕ, ◌+◌, ◌<◌, get_or, Ok, Err, Some, None}
use Rattle.std.proofs.Math.Path.{sym}
use Rattle.std.proofs.Common.{ap, ◌∙◌}
use Rattle.std.proofs.Math.Option.{none, some}
use Rattle.laws.specs.Tests.{not-both}
use Rattle.refusals.specs.declared.Refusal.TheVariants.{BadState, NoChunk, NoJoin}
use Rattle.language.specs.Trees.{Span}
use Rattle.machine.specs.States.{Called, join}
use Rattle.machine.specs.Allowed.{AllGone, Live, NextLive, IsAtRest}
use Rattle.machine.proofs.AllowedExactly.{rests-to}
use Rattle.machine.specs.GivenExactly.{CannotJoin, no_live_right, left_not_at_rest, right_not_at_rest}
use Rattle.machine.proofs.GivenExactly.{join-no-chunk, no-join-exactly}
use Rattle.layout.specs.Layout.{decode}
use Rattle.area.specs.Shape.{in_shape}
use Rattle.moving.specs.MoveWords.{join_words, Joinable}
use Rattle.moving.specs.Searches.{found_of, found-some, found-none}
use Rattle.moving.specs.ReadWords.{live_after}
use Rattle.moving.specs.LiveWords.{NextIs, next_is, no_next}
use Rattle.moving.specs.JoinLaw.{next_number, next_chunk}
use Rattle.moving.specs.MoveLaw.{runs_on}
use Rattle.moving.specs.OneMove.{Held, held-live, runs-held, rests-held, next-held, Joining, can-join, joins_so, joined_words}
use Rattle.moving.specs.Moved.{live_in, rests_in}
use Rattle.moving.specs.CallLaws.{rests-true, rests-false, the_live, none-live, there}
use Rattle.moving.specs.Calls.{called_answer, called_area, join_call, join_answer, join_area}
use Rattle.moving.specs.OnWords.{join-broken, join-in-shape}

module _ {words bytes area : List ℕ} (c : ℕ) (h : Held words bytes area) (e : live_in area c ≡ true) where
  alone : None ≡ found_of (live_after area c) → AllGone (the_live h e).after
  alone q = go (rw (found-none (live_after area c) q) at (next-held h (the_live h e)))
    where
      go : NextIs (the_live h e).after (c + 1) none → AllGone (the_live h e).after
      go (no_next g) = g

  -- d is the next live chunk
  pub record Follows (d : ℕ) : Type 0 where
    pub next-live : NextLive (the_live h e).after
    pub number_is : d ≡ next_number h.state (the_live h e) next-live

  pub follows : (d : ℕ) → Some d ≡ found_of (live_after area c) → Follows d
  follows d q = go (rw (found-some d (live_after area c) q) at (next-held h (the_live h e)))
    where
      go : NextIs (the_live h e).after (c + 1) (some d) → Follows d
      go (next_is m p) = record { next-live = m; number_is = p }

  module _ {d : ℕ} (f : Follows d) where
    abbrev right_live : Live h.state.chunks (next_number h.state (the_live h e) f.next-live)
    right_live = next_chunk h.state (the_live h e) f.next-live

    pub right-listed : d < get_or area 1 0
    right-listed = rw f.number_is (held-live h right_live).0

    abbrev pub joining : rests_in area c ≡ true → rests_in area d ≡ true → Joining words bytes area c d
    joining p q = record {
      held = h;
      live = the_live h e;
      next = f.next-live;
      number_is = f.number_is;
      left_rests = rests-held h (the_live h e) (rests-true area c p);
      right_rests = rests-held h right_live (rests-true area _ (rw f.number_is at q));
    }

    right_moves : rests_in area d ≡ false → IsAtRest f.next-live.chunk → ⊥
    right_moves q r =
        let p = rests-false area (next_number h.state (the_live h e) f.next-live) (rw f.number_is at q) in
        not-both _ (rests-to r) (runs_on (runs-held h right_live p.0 p.1))

  left_moves : rests_in area c ≡ false → IsAtRest (the_live h e).chunk → ⊥
  left_moves q r = let p = rests-false area c q in not-both _ (rests-to r) (runs_on (runs-held h (the_live h e) p.0 p.1))

module _ (words bytes area : List ℕ) (c : ℕ) where
  by_call : {k : Called Span} → join_call words bytes area c ≡ k → (called_answer k ≡ join_answer words bytes area c) × (called_area k area ≡ join_area words bytes area c)
  unfolding join_answer join_area
  by_call q = (sym (ap called_answer q), sym (ap (λ (k : Called Span). called_area k area) q))

  pub join-bad : in_shape words bytes area ≡ false → (Err BadState ≡ join_answer words bytes area c) × (area ≡ join_area words bytes area c)
  join-bad e = by_call (join-broken words bytes area c e)

  module _ (low : get_or area 2 0 < 65536) (shape : in_shape words bytes area ≡ true) where
    abbrev pub lent : Held words bytes area
    lent = there words bytes area c low shape

    by_state : join_call words bytes area c ≡ join c (decode area)
    by_state = join-in-shape words bytes area c shape

    pub join-gone : live_in area c ≡ false → (Err NoChunk ≡ join_answer words bytes area c) × (area ≡ join_area words bytes area c)
    join-gone e = by_call (by_state ∙ (join-no-chunk c (decode area)).1 (none-live lent e))

    cannot : CannotJoin c (decode area) → (Err NoJoin ≡ join_answer words bytes area c) × (area ≡ join_area words bytes area c)
    cannot k = by_call (by_state ∙ (no-join-exactly c (decode area)).1 k)

    module _ (e : live_in area c ≡ true) where
      pub join-alone : None ≡ found_of (live_after area c) → (Err NoJoin ≡ join_answer words bytes area c) × (area ≡ join_area words bytes area c)
      join-alone q = cannot (no_live_right (the_live lent e) (alone c lent e q))

      join-left : rests_in area c ≡ false → (Err NoJoin ≡ join_answer words bytes area c) × (area ≡ join_area words bytes area c)
      join-left q = cannot (left_not_at_rest (the_live lent e) (left_moves c lent e q))

      join-right : (d : ℕ) → Some d ≡ found_of (live_after area c) → rests_in area d ≡ false
          → (Err NoJoin ≡ join_answer words bytes area c) × (area ≡ join_area words bytes area c)
      join-right d n q = let f = follows c lent e d n in cannot (right_not_at_rest (the_live lent e) f.next-live (right_moves c lent e f q))

      pub join-made : (d : ℕ) → Some d ≡ found_of (live_after area c) → rests_in area c ≡ true → rests_in area d ≡ true
          → (Ok tt ≡ join_answer words bytes area c) × (join_words area c d ≡ join_area words bytes area c)
      join-made d n p q =
          let f = follows c lent e d n in
          let z = by_call (by_state ∙ joins_so (joining c lent e f p q)) in
          (z.0, joined_words (joining c lent e f p q) ∙ z.1)

      -- "or either not at rest"
      pub join-moving : (d : ℕ) → Some d ≡ found_of (live_after area c) → (rests_in area c && rests_in area d) ≡ false
          → (Err NoJoin ≡ join_answer words bytes area c) × (area ≡ join_area words bytes area c)
      join-moving d n q = go (rests_in area c) refl q
        where
          go : (t : Bool) → rests_in area c ≡ t → (t && rests_in area d) ≡ false → (Err NoJoin ≡ join_answer words bytes area c) × (area ≡ join_area words bytes area c)
          go true p z = join-right d n z
          go false p z = join-left p

      pub join-can : (d : ℕ) → Some d ≡ found_of (live_after area c) → rests_in area c ≡ true → rests_in area d ≡ true → Joinable area c d
      join-can d n p q = can-join (joining c lent e (follows c lent e d n) p q)
