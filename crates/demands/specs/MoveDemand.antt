-- Demand 2 on step, run and join: an accepted call takes the area from the words of a state s to the words of a state s' exactly when
-- document 01's sentences, as machine's relations say them, have that move of that chunk from s to s'; a run exactly when that many
-- such moves lead there, and join likewise.
-- Document 01, "Moves of a chunk", rules 1 to 6 and joining; "A chunk can be run with a budget K"; "Any other state that keeps the shape
-- rules gets the move named above": the state is any that keeps the rules, reached or not, with any words and matrix that do. "Doing
-- nothing on a move, or leaving chunks untouched until one call does the whole row" is so shut out, and so is an invented count.
-- A lent area in shape holds such a state: the one it decodes to. Its words have 16 bits, so its word 2 is below 65,536.
-- Rests on OnWords, on machine's AllowedExactly and Counts, and shape's InShape and Safe.
--
-- Main definitions: StepLeaves, RunLeaves, JoinLeaves.
-- What is proved of them: proofs' MoveDemand.
use Rattle.std.proofs.Math.Path.{◌≡◌}
use Rattle.std.specs.Prelude.{List, ◌++◌, ℕ, Ok}
use Rattle.language.specs.Trees.{Span}
use Rattle.machine.specs.States.{State}
use Rattle.layout.specs.Layout.{encode}
use Rattle.shape.specs.Safe.{Safe}
use Rattle.moving.specs.Calls.{step_answer, step_area, run_answer, run_area, join_answer, join_area}

-- a step of chunk c is accepted and leaves the words of s', a state of n tokens that keeps the rules; what stands beyond stays
abbrev pub StepLeaves : List ℕ → List ℕ → List ℕ → List ℕ → ℕ → ℕ → State Span → Type 0
StepLeaves words matrix area beyond n c s' = (step_answer words matrix area c ≡ Ok tt) × Safe words n s' × (step_area words matrix area c ≡ encode n s' ++ beyond)

-- a run of chunk c answers j moves and leaves the words of s'
abbrev pub RunLeaves : List ℕ → List ℕ → List ℕ → List ℕ → ℕ → ℕ → ℕ → ℕ → State Span → Type 0
RunLeaves words matrix area beyond n c budget j s' =
    (run_answer words matrix area c budget ≡ Ok j) × Safe words n s' × (run_area words matrix area c budget ≡ encode n s' ++ beyond)

-- a join of chunk c is accepted and leaves the words of s'
abbrev pub JoinLeaves : List ℕ → List ℕ → List ℕ → List ℕ → ℕ → ℕ → State Span → Type 0
JoinLeaves words matrix area beyond n c s' = (join_answer words matrix area c ≡ Ok tt) × Safe words n s' × (join_area words matrix area c ≡ encode n s' ++ beyond)
