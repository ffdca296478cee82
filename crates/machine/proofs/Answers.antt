-- What is proved of specs' Answers. A row's outcome as an answer with a report run: the entries written, or the refusal.
--
-- Main statement: outcome-room-given.
use Rattle.std.specs.Prelude.{◌≡◌, refl, Bool, true, false, ◌↔◌, ℕ, ◌*◌, ltb, length, Ok, Err}
use Rattle.std.proofs.Common.{sym, ap, ◌∙◌, arith}
use Rattle.laws.specs.Tests.{ltb-true, lt-ltb}
use Rattle.refusals.specs.declared.Refusal.TheVariants.{NoRoom}
use Rattle.refusals.specs.Answers.{ReportAnswer}
use Rattle.machine.specs.States.{Outcome, refused_row, reported}
use Rattle.machine.specs.Answers.{NoRoomForReport, no_room, outcome_answer}

-- 11 is given for the report exactly when there is one and the run to be written is too short; an outcome itself is never 11
pub outcome-room-given : (o : Outcome) → ((v : ℕ) → o ≡ refused_row (NoRoom v) → ⊥) → (room v : ℕ)
    → (outcome_answer o room ≡ Err (NoRoom v)) ↔ NoRoomForReport o room v
outcome-room-given (refused_row refusal) never room v = (λ e. absurd (never v (ap refused_row (inner e))), other)
  where
    inner : ◌≡◌ {A = ReportAnswer} (Err refusal) (Err (NoRoom v)) → refusal ≡ NoRoom v
    inner e = cc

    other : NoRoomForReport (refused_row refusal) room v → ◌≡◌ {A = ReportAnswer} (Err refusal) (Err (NoRoom v))
    other (no_room e q h) = let z : ◌≡◌ {A = ℕ} 0 1 = cc in absurd (omega arith)
outcome-room-given (reported entries moves) never room v = (to (ltb room (3 * length entries)) refl, of)
  where
    same : (u : ℕ) → ◌≡◌ {A = ReportAnswer} (Err (NoRoom u)) (Err (NoRoom v)) → u ≡ v
    same u e = cc

    to : (b : Bool) → ltb room (3 * length entries) ≡ b
        → ◌≡◌ {A = ReportAnswer} (elim b [ true ↦ Err (NoRoom (3 * length entries)) | false ↦ Ok (record { entries = length entries; moves = moves }) ]) (Err (NoRoom v))
        → NoRoomForReport (reported entries moves) room v
    to true q e = let s : 3 * length entries ≡ v = same (3 * length entries) e in no_room refl (sym s) (rw s at (ltb-true room (3 * length entries) q))
    to false q e = let z : ◌≡◌ {A = ℕ} 0 1 = cc in absurd (omega arith)

    of : NoRoomForReport (reported entries moves) room v → outcome_answer (reported entries moves) room ≡ Err (NoRoom v)
    of (no_room {entries = l} {moves = m} e q h) =
        let s : entries ≡ l = cc in
        let t : v ≡ 3 * length entries = q ∙ ap (λ k. 3 * length k) (sym s) in
        rw (lt-ltb room (3 * length entries) (rw t at h), outcome_answer) (ap (λ u. Err (NoRoom u)) (sym t))
