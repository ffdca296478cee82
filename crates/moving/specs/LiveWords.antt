-- Which numbers are live, off the status words of the table: number c, and the next live one after it.
-- Document 01: "12 NO CHUNK: number not live"; "Joining chunk c to the next live chunk"; docs/AREA.md: a gone chunk's row is zeros.
-- Rests on AroundChunk, on machine's AllowedExactly, and on laws' Least.
--
-- Main definitions: is_live, NextIs. Main statements: live-status, live-number, number-live, next-status.
use Rattle.std.specs.Prelude.{◌≡◌, refl, Bool, true, false, List, [], ◌∷◌, ◌++◌, ℕ, suc, ◌+◌, ◌-◌, ◌<◌, ltb, length, get_or}
use Rattle.std.proofs.Common.{sym, ap, ◌∙◌, add-zero, arith, get_or-drop}
use Rattle.std.proofs.Math.Option.{Option, none, some}
use Rattle.laws.specs.Least.{first_from}
use Rattle.laws.specs.Tests.{lt-ltb}
use Rattle.language.specs.Trees.{Span}
use Rattle.machine.specs.Chunks.{Chunk}
use Rattle.machine.specs.States.{State}
use Rattle.machine.specs.Allowed.{AllGone, no_number, one_gone, Live, NextLive}
use Rattle.machine.specs.AllowedExactly.{LiveView, is-live, not_live}
use Rattle.machine.proofs.AllowedExactly.{live_view, live-drop}
use Rattle.layout.specs.Layout.{encode, row_word, status_word}
use Rattle.shape.specs.Encoded.{chunks-at}
use Rattle.moving.specs.AroundChunk.{status-word, status-some, gone-word, chunks-count, number-within}

abbrev pub is_live : Option (Chunk Span) → Bool
is_live none = false
is_live (some c) = true

-- the first live one of some numbers, the first of them i
pub data NextIs (chunks : List (Option (Chunk Span))) (i : ℕ) : Option ℕ → Type 0 where
  next_is : {d : ℕ} (m : NextLive chunks) → d ≡ i + length m.between → NextIs chunks i (some d)
  no_next : AllGone chunks → NextIs chunks i none

first_live : (test : ℕ → Bool) (chunks : List (Option (Chunk Span))) (i : ℕ) → ((j : ℕ) → j < length chunks → test (i + j) ≡ is_live (get_or chunks j none))
    → NextIs chunks i (first_from test (length chunks) i)
first_live test [] i h = no_next no_number
first_live test (some c ∷ chunks) i h =
    rw (ap test (sym (add-zero i)) ∙ h 0 (omega arith), first_from)
    (next_is {d = i} (record { between = []; chunk = c; beyond = chunks; all_gone = no_number; after_is = refl }) (omega arith))
first_live test (none ∷ chunks) i h =
    let later : (j : ℕ) → j < length chunks → test (suc i + j) ≡ is_live (get_or chunks j none) = λ j l. ap test (omega arith) ∙ h (suc j) (omega arith) in
    rw (ap test (sym (add-zero i)) ∙ h 0 (omega arith), first_from) (one_further (first_live test chunks (suc i) later))
  where
    one_further : {o : Option ℕ} → NextIs chunks (suc i) o → NextIs (none ∷ chunks) i o
    one_further (next_is {d = d} m q) =
        next_is {d = d} (record {
          between = none ∷ m.between;
          chunk = m.chunk;
          beyond = m.beyond;
          all_gone = one_gone m.all_gone;
          after_is = ap (λ (l : List (Option (Chunk Span))). none ∷ l) m.after_is;
        }) (omega arith)
    one_further (no_next g) = no_next (one_gone g)

module _ (n : ℕ) (s : State Span) (rest : List ℕ) where
  -- a status word is 0 exactly where the number is gone
  pub live-status : (d : ℕ) → d < length s.chunks → ltb 0 (row_word (encode n s ++ rest) d 0) ≡ is_live (get_or s.chunks d none)
  live-status d h = go (live_view s.chunks d) refl
    where
      go : {o : Option (Chunk Span)} → LiveView s.chunks d o → get_or s.chunks d none ≡ o → ltb 0 (row_word (encode n s ++ rest) d 0) ≡ is_live o
      go (is-live l) q = rw (status-word n s rest l) (lt-ltb 0 (status_word l.chunk.status) (status-some l.chunk.status))
      go (not_live a) q = rw (gone-word n s rest d h q)

  -- number c is live exactly where it is one of the table and its status is not 0
  pub live-number : {c : ℕ} → c < get_or (encode n s ++ rest) 1 0 → 0 < row_word (encode n s ++ rest) c 0 → Live s.chunks c
  live-number {c} h e = go (live_view s.chunks c) refl
    where
      go : {o : Option (Chunk Span)} → LiveView s.chunks c o → get_or s.chunks c none ≡ o → Live s.chunks c
      go (is-live l) q = l
      go (not_live a) q = absurd (omega (arith, gone-word n s rest c (omega (arith, chunks-at n s rest)) q))

  pub number-live : {c : ℕ} → Live s.chunks c → (c < get_or (encode n s ++ rest) 1 0) × (0 < row_word (encode n s ++ rest) c 0)
  number-live l = (rw (chunks-at n s rest) (number-within n s rest l), rw (status-word n s rest l) (status-some l.chunk.status))

  -- the least live number after c
  pub next-status : {c : ℕ} (l : Live s.chunks c)
      → NextIs l.after (c + 1) (first_from (λ d. ltb 0 (row_word (encode n s ++ rest) d 0)) (get_or (encode n s ++ rest) 1 0 - (c + 1)) (c + 1))
  next-status {c} l =
      let e : get_or (encode n s ++ rest) 1 0 - (c + 1) ≡ length l.after = omega (arith, chunks-at n s rest, chunks-count n s rest l, l.number_is) in
      rw e (first_live (λ d. ltb 0 (row_word (encode n s ++ rest) d 0)) l.after (c + 1)
      (λ j h. live-status (c + 1 + j) (omega (arith, chunks-count n s rest l, l.number_is)) ∙ ap is_live (later j)))
    where
      later : (j : ℕ) → get_or s.chunks (c + 1 + j) none ≡ get_or l.after j none
      later j =
          let z : c + 1 + j ≡ suc c + j = omega arith in
          rw z (sym (get_or-drop (suc c) s.chunks j none) ∙ ap (λ (chunks : List (Option (Chunk Span))). get_or chunks j none) (live-drop l))
