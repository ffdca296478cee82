-- What is proved of specs' Schedules. Schedules: steps and joins one after the other, in any order that the calls allow; and what each does to the live chunks.
--
-- Main statements: turned (what one turn of a chunk is), listed (a step or a join on the live chunks), schedule-listed (a
-- schedule on the live chunks; the count of moves is the number of turns).
use Rattle.std.specs.Prelude.{◌≡◌, refl, Bool, true, false, List, [], ◌∷◌, ◌++◌, ℕ, zero, suc, ◌<◌, length, get_or, set, take, drop}
use Rattle.std.proofs.Common.{sym, ap, ◌∙◌, append_assoc, append-nil, arith}
use Rattle.std.proofs.Math.Option.{Option, none, some}
use Rattle.refusals.specs.declared.Refusal.{Refusal}
use Rattle.refusals.specs.declared.Refusal.TheVariants.{NoChunk, NoJoin}
use Rattle.language.specs.Trees.{Reduction}
use Rattle.machine.specs.Entries.{Unread, Entry}
use Rattle.machine.specs.Moves.{Table, Action, reads, replaces, sticks, move}
use Rattle.machine.specs.Chunks.{Status, running, stuck, Chunk, Turn, rests, makes, at_rest, done, turn_of, turn, joined}
use Rattle.machine.specs.States.{State, Called, refused, became, Next, chunk_at, step_by, step, under, next_live, join_with, join, live}
use Rattle.machine.specs.Schedules.{AllListed, Changed, Follows, IsLive, Listed, Made, Schedule, Turned, Turns, at-rest, by_join, by_step}
use Rattle.machine.specs.Schedules.{follows, further, got_stuck, has_read, has_replaced, in_motion, joins_two, moves_one, no_turn, no_change, nothing, one_change}
use Rattle.machine.specs.Schedules.{one_turn}

module _ {Value : Type 0} (table : Table Value) where
  -- what a chunk does in its turn: it rests, or it makes one move
  pub turned : (c : Chunk Value) → Turns table c (turn table c)
  turned c = go c.status c.stack c.unread
    where
      act : (stack : List (Entry Value)) (b : Unread Value) (unread : List (Unread Value)) (a : Action Value) → move table stack b ≡ a
          → Turns table (record { stack = stack; unread = b ∷ unread; status = running }) (done a stack b unread)
      act stack b unread (reads stack') q = in_motion refl (has_read b q)
      act stack b unread (replaces r v stack') q = in_motion refl (has_replaced b q)
      act stack b unread (sticks why) q = in_motion refl (got_stuck b q)

      go : (status : Status) (stack : List (Entry Value)) (unread : List (Unread Value))
          → Turns table (record { stack = stack; unread = unread; status = status }) (turn_of table status stack unread)
      go (stuck why) stack unread = at-rest refl
      go running stack [] = at-rest refl
      go running stack (b ∷ unread) = act stack b unread (move table stack b) refl

  -- some chunk is left
  pub some_left : {chunks chunks' : List (Chunk Value)} {made : List (Reduction Value)} → Changed table chunks made chunks' → 0 < length chunks'
  some_left (moves_one m) = omega arith
  some_left (joins_two a b) = omega arith
  some_left (further m) = omega arith

  zero-after-move : (chunks : List (Option (Chunk Value))) (n : ℕ) (c : Chunk Value) → IsLive (get_or chunks 0 none) → IsLive (get_or (set chunks n (some c)) 0 none)
  zero-after-move [] n c h = absurd h
  zero-after-move (d ∷ chunks) zero c h = tt
  zero-after-move (d ∷ chunks) (suc n) c h = h

  data Answer (s : State Value) : Called Value → Type 0 where
    refuses : {why : Refusal} → Answer s (refused why)
    becomes : {s' : State Value} → Listed table s s' → Answer s (became s')

  move-listed : (chunks : List (Option (Chunk Value))) (n : ℕ) {c c' : Chunk Value} {made : List (Reduction Value)} → get_or chunks n none ≡ some c
      → Made table c made c' → Changed table (live chunks) made (live (set chunks n (some c')))
  move-listed [] n q m = let z : ◌≡◌ {A = ℕ} 0 1 = cc in absurd (omega arith)
  move-listed (none ∷ chunks) zero q m = let z : ◌≡◌ {A = ℕ} 0 1 = cc in absurd (omega arith)
  move-listed (some d ∷ chunks) zero {c} q m = let z : d ≡ c = cc in rw z (moves_one m)
  move-listed (none ∷ chunks) (suc n) q m = move-listed chunks n q m
  move-listed (some d ∷ chunks) (suc n) q m = further (move-listed chunks n q m)

  step-answer : (c : ℕ) (s : State Value) → Answer s (step table c s)
  step-answer c s = go (chunk_at s c) refl
    where
      by : {chunk : Chunk Value} (t : Turn Value) → chunk_at s c ≡ some chunk → Turns table chunk t → Answer s (step_by c s t)
      by rests q t = refuses
      by (makes made chunk') q (in_motion r m) =
          becomes (record { made = made; changed = move-listed s.chunks c q m; added = refl; counted = refl; zero_stays = zero-after-move s.chunks c chunk' })

      go : (o : Option (Chunk Value)) → chunk_at s c ≡ o → Answer s (elim o [ none ↦ refused NoChunk | some chunk ↦ step_by c s (turn table chunk) ])
      go none q = refuses
      go (some chunk) q = by (turn table chunk) q (turned chunk)

module _ {Value : Type 0} where
  pub next-live : (chunks : List (Option (Chunk Value))) → Follows chunks (next_live chunks)
  next-live [] = nothing refl
  next-live (some d ∷ chunks) = follows refl
  next-live (none ∷ chunks) = go (next_live chunks) (next-live chunks)
    where
      go : (o : Option (Next Value)) → Follows chunks o → Follows (none ∷ chunks) (under o)
      go none (nothing q) = nothing q
      go (some next) (follows q) = follows q

module _ {Value : Type 0} (table : Table Value) where
  join-listed : (chunks : List (Option (Chunk Value))) (n : ℕ) {c : Chunk Value} (next : Next Value) → get_or chunks n none ≡ some c
      → Follows (drop (suc n) chunks) (some next) → at_rest c ≡ true → at_rest next.chunk ≡ true
      → Changed table (live chunks) [] (live (take n chunks ++ (some (joined c next.chunk) ∷ next.rest)))
  join-listed [] n next q f a b = let z : ◌≡◌ {A = ℕ} 0 1 = cc in absurd (omega arith)
  join-listed (none ∷ chunks) zero next q f a b = let z : ◌≡◌ {A = ℕ} 0 1 = cc in absurd (omega arith)
  join-listed (some d ∷ chunks) zero {c} next q (follows e) a b = let z : d ≡ c = cc in rw (z, e) (joins_two a b)
  join-listed (none ∷ chunks) (suc n) next q f a b = join-listed chunks n next q f a b
  join-listed (some d ∷ chunks) (suc n) next q f a b = further (join-listed chunks n next q f a b)

  zero-after-join : (chunks : List (Option (Chunk Value))) (n : ℕ) (c : Chunk Value) (rest : List (Option (Chunk Value))) → IsLive (get_or chunks 0 none)
      → IsLive (get_or (take n chunks ++ (some c ∷ rest)) 0 none)
  zero-after-join [] n c rest h = absurd h
  zero-after-join (d ∷ chunks) zero c rest h = tt
  zero-after-join (d ∷ chunks) (suc n) c rest h = h

  join-answer : (c : ℕ) (s : State Value) → Answer table s (join c s)
  join-answer c s = go (chunk_at s c) refl
    where
      by₂ : (chunk : Chunk Value) (next : Next Value) (a b : Bool) → at_rest chunk ≡ a → at_rest next.chunk ≡ b → chunk_at s c ≡ some chunk
          → Follows (drop (suc c) s.chunks) (some next) → Answer table s (join_with c s chunk next)
      by₂ chunk next false b p r q f = rw (p, join_with) refuses
      by₂ chunk next true false p r q f = rw (p, join_with, r) refuses
      by₂ chunk next true true p r q f =
          rw (p, join_with, r) (becomes (record {
            made = [];
            changed = join-listed s.chunks c next q f p r;
            added = sym (append-nil _);
            counted = refl;
            zero_stays = zero-after-join s.chunks c (joined chunk next.chunk) next.rest;
          }))

      by : (chunk : Chunk Value) (o : Option (Next Value)) → chunk_at s c ≡ some chunk → Follows (drop (suc c) s.chunks) o
          → Answer table s (elim o [ none ↦ refused NoJoin | some next ↦ join_with c s chunk next ])
      by chunk none q f = refuses
      by chunk (some next) q f = by₂ chunk next (at_rest chunk) (at_rest next.chunk) refl refl q f

      go : (o : Option (Chunk Value)) → chunk_at s c ≡ o
          → Answer table s (elim o [
            | none ↦ refused NoChunk
            | some chunk ↦ elim (next_live (drop (suc c) s.chunks)) [ none ↦ refused NoJoin | some next ↦ join_with c s chunk next ]
          ])
      go none q = refuses
      go (some chunk) q = by chunk (next_live (drop (suc c) s.chunks)) q (next-live (drop (suc c) s.chunks))

  pub listed : {s s' : State Value} → Turned table s s' → Listed table s s'
  listed {s} {s'} t = go t
    where
      of : Answer table s (became s') → Listed table s s'
      of (becomes l) = l

      go : Turned table s s' → Listed table s s'
      go (by_step c q) = of (rw q at (step-answer table c s))
      go (by_join c q) = of (rw q at (join-answer c s))

  pub schedule-listed : {s s' : State Value} {n : ℕ} → Schedule table s n s' → AllListed table s n s'
  schedule-listed {s} no_turn = record { made = []; changes = no_change; added = sym (append-nil _); counted = omega arith }
  schedule-listed {s} (one_turn {s' = s₁} t k) =
      let one = listed t in
      let all = schedule-listed k in
      record {
        made = one.made ++ all.made;
        changes = one_change one.changed all.changes;
        added = all.added ∙ ap (λ l. l ++ all.made) one.added ∙ append_assoc s.reductions one.made all.made;
        counted = omega (arith, one.counted, all.counted);
      }
