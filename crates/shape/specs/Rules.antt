-- The rules that speak of the whole area, test by test: chunk 0 (d), the last end (e), the counts (i) and (j), the zeros (k). Each test
-- of a state's words says what Kept says of the state.
-- Document 01, 15 BAD STATE; docs/AREA.md, rules (d), (e), (i), (j), (k).
-- Rests on Encoded and Chunkwise.
--
-- Main definitions: Counts (what a walk of the whole table counts), Walked.
-- Main statements: walk-counts; first_to, first-of; end-to, end-of; potential-is; blank-zeros, blank-reads.
use Rattle.std.specs.Prelude.{◌≡◌, Bool, true, false, ℕ, zero, suc, ◌+◌, ◌≤◌, ◌<◌, eqb, leb, length, get_or, take, drop, Some}
use Rattle.std.specs.Prelude as Prelude
use Rattle.std.proofs.Math.Path.{refl}
use Rattle.std.proofs.Common.{sym, ap, ap₂, subst, ◌∙◌}
use Rattle.std.proofs.lemmas.Bool.{false≢true}
use mathlib.Core.List.{List, [], ◌∷◌, ◌++◌}
use Rattle.std.proofs.Math.Option.{Option, none, some}
use native.Mathlib.Omega.{arith}
use Rattle.laws.specs.Tests.{eqb-true, eq-eqb, leb-true, le-leb}
use Rattle.laws.specs.Picks.{pick, all_of, each_of}
use Rattle.laws.specs.Passed.{both, unless}
use Rattle.language.specs.Trees.{Span, Reduction}
use Rattle.machine.specs.Entries.{Unread, Entry}
use Rattle.machine.specs.Chunks.{Chunk}
use Rattle.machine.specs.States.{live}
use Rattle.results.specs.Bounded.{unread_in, symbols_in, terminals_in, running_in, potential_in}
use Rattle.area.specs.declared.shape.Walk.{Walk}
use Rattle.layout.specs.Layout.{stack_size, unread_size, status_word, total, rows, slots, zeros, encode}
use Rattle.layout.specs.Kept.{LastHolds, Ending, whole, accepted, FirstLive, first_live}
use Rattle.layout.specs.Lengths.{no-slots, tiles-within}
use Rattle.area.specs.Shape.{fresh_walk, walk_of, first_fits, end_fits, potential_of, blank}
use Rattle.shape.specs.Blocks.{same-some}
use Rattle.shape.specs.Walks.{AllFit, walked_all, walk-passes, counted-all, status-word}
use Rattle.shape.specs.Chunkwise.{tiles-from, last-from}
use Rattle.shape.specs.Encoded.{area, slots_from}

-- ---- the counts of a walk

pub record Counts (chunks : List (Option (Chunk Span))) (w : Walk) : Type 0 where
  pub at_is : w.at ≡ total chunks
  pub live_is : w.live ≡ length (live chunks)
  pub running_is : w.running ≡ running_in (live chunks)
  pub unread_is : w.unread ≡ unread_in (live chunks)
  pub symbols_are : w.symbols ≡ symbols_in (live chunks)
  pub terminals_are : w.terminals ≡ terminals_in (live chunks)

-- a walk that passes, and counts so
pub record Walked (chunks : List (Option (Chunk Span))) (o : Prelude.Option Walk) : Type 0 where
  pub walk : Walk
  pub is : o ≡ Some walk
  pub counts : Counts chunks walk

pub walked-counts : {chunks : List (Option (Chunk Span))} {o : Prelude.Option Walk} {w : Walk} → Walked chunks o → o ≡ Some w → Counts chunks w
walked-counts {chunks = chunks} p e = subst (λ v. Counts chunks v) (same-some (sym p.is ∙ e)) p.counts

-- chunks that fit end within the slots
pub total-within : {t N n : ℕ} {chunks : List (Option (Chunk Span))} → AllFit t N n 0 chunks → total chunks ≤ n + 2
total-within {chunks = chunks} f = omega (arith, tiles-within (omega arith) (tiles-from f))

pub walk-counts : {t N n : ℕ} {chunks : List (Option (Chunk Span))} → t < 256 → AllFit t N n 0 chunks → (words after beyond : List ℕ) → get_or words 0 0 ≡ n
    → get_or words 1 0 ≡ length chunks → drop 5 words ≡ rows 0 chunks ++ after → slots_from words 0 ≡ slots chunks ++ beyond
    → Walked chunks (walk_of t N words)
unfolding walk_of
walk-counts {t} {N} {n} {chunks} few f words after beyond n-is c-is d b =
    let r = counted-all chunks fresh_walk in
    record {
      walk = walked_all fresh_walk chunks;
      is = rw c-is (walk-passes t N n few words n-is f 5 fresh_walk after beyond refl (omega (arith, total-within f)) d b);
      counts = record {
        at_is = omega (arith, r.at_then);
        live_is = omega (arith, r.live_then);
        running_is = omega (arith, r.running_then);
        unread_is = omega (arith, r.unread_then);
        symbols_are = omega (arith, r.symbols_then);
        terminals_are = omega (arith, r.terminals_then);
      };
    }

-- (j)
pub potential-is : {chunks : List (Option (Chunk Span))} {w : Walk} → Counts chunks w → potential_of w ≡ potential_in (live chunks)
potential-is c = rw (c.unread_is, c.symbols_are, c.live_is, c.terminals_are, c.running_is)

-- ---- (d) chunk 0, and (e) the last end

some-stack : (stack : List (Entry Span)) → 0 < length stack → 0 < stack_size stack
some-stack [] h = h
some-stack (x ∷ stack) h = omega arith

stack_some : (stack : List (Entry Span)) → 0 < stack_size stack → 0 < length stack
stack_some [] h = h
stack_some (x ∷ stack) h = omega arith

-- the two ways to end, as numbers
data EndView (n : ℕ) (chunks : List (Chunk Span)) (end : ℕ) : Type 0 where
  whole_view : end ≡ n + 2 → LastHolds chunks → EndView n chunks end
  accepted_view : end ≡ n + 1 → length chunks ≡ 1 → unread_in chunks ≡ 0 → EndView n chunks end

end-view : {n end : ℕ} {chunks : List (Chunk Span)} → Ending n chunks end → EndView n chunks end
end-view (whole h) = whole_view refl h
end-view (accepted {c = c} q) = accepted_view refl refl (omega (arith, ap length q))

accepted-of : (n : ℕ) (c : Chunk Span) (others : List (Chunk Span)) → length others ≡ 0 → c.unread ≡ [] → Ending n (c ∷ others) (n + 1)
accepted-of n c [] l q = accepted q
accepted-of n c (d ∷ others) l q = absurd (omega arith)

none-total : (chunks : List (Option (Chunk Span))) → length (live chunks) ≡ 0 → total chunks ≡ 0
none-total [] h = refl
none-total (none ∷ chunks) h = omega (arith, none-total chunks h)
none-total (some c ∷ chunks) h = absurd (omega arith)

none-size : (unread : List (Unread Span)) → length unread ≡ 0 → unread_size unread ≡ 0
none-size [] h = refl
none-size (x ∷ unread) h = absurd (omega arith)

either_true : (b : Bool) {x : Bool} → x ≡ true → pick b true x ≡ true
either_true true h = refl
either_true false h = h

module _ (n moves : ℕ) (reductions : List (Reduction Span)) (rest : List ℕ) where
  -- the area of these chunks
  abbrev with : List (Option (Chunk Span)) → List ℕ
  with chunks = area n (record { chunks = chunks; reductions = reductions; moves = moves }) rest

  pub first_to : {chunks : List (Option (Chunk Span))} → FirstLive chunks → first_fits (with chunks) ≡ true
  unfolding encode
  first_to (first_live {c = c} h) = rw (status-word c.status, le-leb 1 (0 + stack_size c.stack) (omega (arith, some-stack c.stack h)))

  pub first-of : (chunks : List (Option (Chunk Span))) → 0 < length chunks → first_fits (with chunks) ≡ true → FirstLive chunks
  unfolding encode
  first-of [] h e = absurd (omega arith)
  first-of (none ∷ chunks) h e = absurd (false≢true e)
  first-of (some c ∷ chunks) h e =
      let p = unless (eqb (status_word c.status) 0) (leb 1 (0 + stack_size c.stack)) e in
      first_live (stack_some c.stack (omega (arith, leb-true 1 (0 + stack_size c.stack) p.good)))

  end-tested : {chunks : List (Option (Chunk Span))} {w : Walk} → FirstLive chunks → Counts chunks w → EndView n (live chunks) (total chunks)
      → end_fits (with chunks) w ≡ true
  unfolding encode
  end-tested {w = w} f k (whole_view q h) = rw (eq-eqb w.at (n + 2) (k.at_is ∙ q))
  end-tested {w = w} (first_live {c = c} {chunks = chunks} f) k (accepted_view q l u) =
      let all-else : total chunks ≡ 0 = none-total chunks (omega arith) in
      let nothing_unread : unread_size c.unread ≡ 0 = none-size c.unread (omega arith) in
      let head-is : 0 + stack_size c.stack ≡ n + 1 = omega arith in
      either_true (eqb w.at (n + 2))
      (rw (eq-eqb w.at (n + 1) (k.at_is ∙ q), eq-eqb w.live 1 (k.live_is ∙ l), eq-eqb (0 + stack_size c.stack) (n + 1) head-is))

  pub end-to : {chunks : List (Option (Chunk Span))} {w : Walk} → FirstLive chunks → Counts chunks w → Ending n (live chunks) (total chunks)
      → end_fits (with chunks) w ≡ true
  end-to f k e = end-tested f k (end-view e)

  pub end-of : {t N : ℕ} {chunks : List (Option (Chunk Span))} {w : Walk} → AllFit t N n 0 chunks → FirstLive chunks → Counts chunks w
      → end_fits (with chunks) w ≡ true → Ending n (live chunks) (total chunks)
  unfolding encode
  end-of {w = w} a (first_live {c = c} {chunks = chunks} f) k = go (eqb w.at (n + 2)) refl
    where
      all : List (Option (Chunk Span))
      all = some c ∷ chunks

      tests : List Bool
      tests = eqb w.at (n + 1) ∷ eqb w.live 1 ∷ eqb (0 + stack_size c.stack) (n + 1) ∷ []

      go : (b : Bool) → eqb w.at (n + 2) ≡ b → pick b true (all_of tests) ≡ true → Ending n (live all) (total all)
      go true q h = let e : total all ≡ n + 2 = sym k.at_is ∙ eqb-true w.at (n + 2) q in rw e (whole (last-from a (omega arith) (omega arith)))
      go false q h =
          let es = each_of tests h in
          let e : total all ≡ n + 1 = sym k.at_is ∙ eqb-true w.at (n + 1) es.0 in
          let l : length (live all) ≡ 1 = sym k.live_is ∙ eqb-true w.live 1 es.1.0 in
          let head-is : 0 + stack_size c.stack ≡ n + 1 = eqb-true (0 + stack_size c.stack) (n + 1) es.1.1.0 in
          rw e (accepted-of n c (live chunks) (omega arith) (no-slots c.unread (omega arith)))

-- ---- (k) zeros

pub blank-zeros : (k : ℕ) (words : List ℕ) → blank k (zeros k ++ words) ≡ true
blank-zeros zero words = refl
blank-zeros (suc k) words = blank-zeros k words

pub blank-reads : (k : ℕ) (words : List ℕ) → k ≤ length words → blank k words ≡ true → take k words ≡ zeros k
blank-reads zero words h e = refl
blank-reads (suc k) [] h e = absurd (omega arith)
blank-reads (suc k) (x ∷ words) h e =
    let p = both (eqb x 0) (blank k words) e in
    ap₂ {C = List ℕ} (λ y l. y ∷ l) (eqb-true x 0 p.passes) (blank-reads k words (omega arith) p.good)
