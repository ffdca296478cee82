-- The demands, each as a type over the names that the contracts of the public functions cite; that each is proved: Proved.
-- What they assume is only what a caller sees: load and start answered 0, the tokens are 1 to 16,384 in 1..T, runs are long enough, the matrix lent
-- to later calls begins with the 4,096 bytes that load left; and of a lent area that its word 2 has 16 bits, as every lent word has.
-- Rests on PublicCalls and ContractsMet, GivenDemand, AnswersDemand; ParseDemand, MoveDemand, Reached, SameReport and Finishing.
--
-- Main definitions: Demand1, Demand1Contracts, Demand1Parse; Demand2Parse, Demand2Moves, Demand2Reached; Demand3, Demand3Finishes;
-- StartNever15.
use Rattle.std.specs.Prelude.{◌≡◌, true, ◌↔◌, ℕ, ◌+◌, ◌*◌, ◌-◌, ◌≤◌, ◌<◌, length, get_or, drop, Ok, Err}
use mathlib.Core.List.{List, [], ◌∷◌, ◌++◌, Memᴰ}
use Rattle.refusals.specs.declared.Refusal.{Refusal}
use Rattle.refusals.specs.declared.Refusal.TheVariants.{BadState}
use Rattle.refusals.specs.Refusals.{answer_number, report_value}
use Rattle.language.specs.Words.{grammar_of}
use Rattle.language.specs.Loads.{load_answer}
use Rattle.language.specs.Trees.{Span}
use Rattle.machine.specs.States.{State, start}
use Rattle.machine.specs.TableOf.{table_of}
use Rattle.machine.specs.Allowed.{Steps, JoinsAt}
use Rattle.machine.specs.Counts.{RunNamed}
use Rattle.results.specs.ReadThrough.{ReadThrough}
use Rattle.results.specs.Confluent.{without_moves}
use Rattle.results.specs.UncutRow.{InLanguage, AxiomTree}
use Rattle.layout.specs.Layout.{need, encode, decode, moves_in, beyond_in}
use Rattle.area.specs.Shape.{in_shape}
use Rattle.start.specs.Start.{start_answer}
use Rattle.shape.specs.Safe.{Safe}
use Rattle.parse.specs.ParseCall.{parse_outcome, parse_answer, parse_out}
use Rattle.report.specs.ReportCall.{report_outcome, report_answer, report_out}
use Rattle.demands.specs.PublicCalls.{PublicCall, GivesBack, promised, Keeps, number_for, numbers_for, Written, written}
use Rattle.demands.specs.GivenDemand.{GivenFor}
use Rattle.demands.specs.AnswersDemand.{ParseAreaLeft}
use Rattle.demands.specs.Calls.{Call, matrix_for, call_made, area_after, moves_made, OfLoad, AllOfLoad, Begun}
use Rattle.machine.specs.TableOf.{own_table}
use Rattle.demands.specs.Standing.{Standing}
use Rattle.demands.specs.ParseDemand.{RightTokens, UncutReader, entries_of, ParseReports, GotStuck}
use Rattle.demands.specs.MoveDemand.{StepLeaves, RunLeaves, JoinLeaves}
use Rattle.demands.specs.Reached.{EachRight}
use Rattle.demands.specs.Finishing.{SomeMove, AllMove, first_calls, report_after, GoesOn, CanFinish}
use seplogic.Ra.Ura.{Ura}
use base.Logic.{SProp}
use prog.Memory.{Memory}
use prog.Routine.{Routine}
use types.Logic.{Logic}
use contract.Monad.{Fun}
use Rattle.demands.specs.ContractsMet.{AsPromised}

-- ---- demand 1

-- "Every grammar, token list, cutting and call gets an answer, with nothing assumed checked beforehand": no public function asks anything of what it is
-- lent, and what its contract says of the answer and of each run is `promised`, whatever the program logic's model
abbrev pub Demand1Contracts : Type 2
Demand1Contracts =
    (M : Type 1) (𝓤 : Ura M) (𝓛 : Logic 𝓤) (mem : Memory → SProp 𝓤) (routines : Routine → Fun 𝓤) → AsPromised 𝓛 mem routines

-- any public call with any words lent to it, whatever they are
pub record Answers (call : PublicCall) : Type 1 where
  -- "The promise admits one answer only": some answer and some content of each run keep the lines of the contract, and no other
  pub answered : Keeps call (promised call)
  pub one_only : (x y : GivesBack call) → Keeps call x → Keeps call y → x ≡ y
  -- "A refusal carries its listed number": 0, or one of the numbers that document 01 lists for the call, in the order of its checks
  pub listed : Memᴰ (number_for call) (0 ∷ numbers_for call)
  -- ".. and place": an answer, with its value, is given exactly when its sentence of the table holds and the checks before it passed
  pub given : GivenFor call
  -- "what was lent to that call still holds what it held": every run that it may write, the one-call parse's work area aside
  pub refused_keeps : (number_for call ≡ 0 → ⊥) → {w : Written} → Memᴰ w (written call) → w.after ≡ w.before
  -- "anything beyond is untouched", on success too
  pub beyond_keeps : {w : Written} → Memᴰ w (written call) → get_or w.before 2 0 < 65536 → drop w.counted w.after ≡ drop w.counted w.before

abbrev pub Demand1 : Type 1
Demand1 = (call : PublicCall) → Answers call

-- "but for the one-call parse's work area, which ends as zeros once used"
abbrev pub Demand1Parse : Type 0
Demand1Parse = (words tokens area out : List ℕ) → ParseAreaLeft words tokens area out

-- ---- demand 2, parse

pub record ParseRight (words tokens : List ℕ) (room : ℕ) (out : List ℕ) : Type 0 where
  -- parse accepts exactly when the grammar of the words derives the tokens from an axiom
  pub accepts : (answer_number (parse_answer words tokens room (length out)) ≡ 0) ↔ InLanguage (grammar_of words) tokens
  -- the uncut reader: chunk 0 makes one move after the other until it rests; there is one such reading
  pub reader : UncutReader words tokens
  pub one_reading : {moves : ℕ} {last : State Span} → ReadThrough (own_table words) (start tokens []) moves last
      → (moves ≡ reader.moves) × (last ≡ reader.last)
  -- its report is the post-order of the one tree, and its count is the number of the reader's moves
  pub reports : (t : AxiomTree (grammar_of words) tokens) → ParseReports words tokens room out (entries_of t) reader.moves
  pub one_tree : (t t' : AxiomTree (grammar_of words) tokens) → t.of_root.tree ≡ t'.of_root.tree
  -- where no axiom derives the tokens it answers the number and place at which the uncut reader gets stuck, never 16 or 20
  pub refuses : (InLanguage (grammar_of words) tokens → ⊥)
      → (refusal : Refusal) × GotStuck tokens reader.last refusal
      × (parse_answer words tokens room (length out) ≡ Err refusal) × (parse_out words tokens room out ≡ out)

-- words accepted by load, 1 to 16,384 tokens in 1..T, runs long enough
abbrev pub Demand2Parse : Type 0
Demand2Parse =
    (words bytes tokens : List ℕ) → load_answer words (length bytes) ≡ Ok tt → RightTokens words tokens
    → (room : ℕ) → need (length tokens) 1 ≤ room → (out : List ℕ) → 3 * length tokens ≤ length out → ParseRight words tokens room out

-- ---- demand 2, step, run and join

-- how many tokens an area tells of
abbrev pub tokens_in : List ℕ → ℕ
tokens_in area = get_or area 0 0

pub record MovesRight (words matrix area : List ℕ) : Type 0 where
  -- the area has the words of the state s that it decodes to, which keeps the rules
  pub words_of : area ≡ encode (tokens_in area) (decode area) ++ beyond_in area
  pub keeps_rules : Safe words (tokens_in area) (decode area)
  -- an accepted step takes the area from the words of s to the words of s' exactly when rules 1 to 6 have that move of that chunk
  pub steps : (c : ℕ) (s' : State Span) → StepLeaves words matrix area (beyond_in area) (tokens_in area) c s' ↔ Steps (table_of words matrix) c (decode area) s'
  -- so for each move of a run: it answers j exactly when j such moves lead there, and then the budget is spent or the chunk rests
  pub runs : (c budget j : ℕ) (s' : State Span)
      → RunLeaves words matrix area (beyond_in area) (tokens_in area) c budget j s' ↔ RunNamed (table_of words matrix) c budget (decode area) j s'
  -- a join is accepted and leaves the words of s' exactly when it joins as document 01 says
  pub joins : (c : ℕ) (s' : State Span) → JoinLeaves words matrix area (beyond_in area) (tokens_in area) c s' ↔ JoinsAt c (decode area) s'

-- any lent area that keeps the shape rules, reached or not; its words have 16 bits
abbrev pub Demand2Moves : Type 0
Demand2Moves = (words matrix area : List ℕ) → get_or area 2 0 < 65536 → in_shape words matrix area ≡ true → MovesRight words matrix area

-- .. so wherever calls have come to after one accepted load and one accepted start, with nothing assumed of the area
abbrev pub Demand2Reached : Type 0
Demand2Reached =
    (words bytes tokens cuts area₀ : List ℕ) → Begun words bytes tokens cuts area₀ → (calls : List Call) → AllOfLoad words bytes calls
    → (matrix : List ℕ) → OfLoad words bytes matrix → MovesRight words matrix (area_after words area₀ calls)

-- ---- demand 3

-- one accepted load, one accepted start, then any list of step, run and join calls, any chunk numbers and budgets, refused ones
-- included, with those words and any matrix runs whose first 4,096 bytes are the load's; `area` is what they leave
pub record AnyOrder (words bytes tokens cuts area₀ : List ℕ) (calls : List Call) (area : List ℕ) : Type 0 where
  -- the area has the words of a state that so many named moves reach from the start
  pub reached : Standing words tokens cuts area (moves_made words area₀ calls)
  -- (a) none of the calls answers 15, and a refused one changes nothing; nor does the report answer 15
  pub each_call : EachRight words area₀ calls
  pub report_not_15 : (matrix : List ℕ) → OfLoad words bytes matrix → (room : ℕ) → answer_number (report_answer words matrix area room) ≡ 15 → ⊥
  -- (b) while the report answers 16, some step or join answers 0
  pub goes_on : (matrix : List ℕ) → OfLoad words bytes matrix → (room : ℕ) → answer_number (report_answer words matrix area room) ≡ 16
      → SomeMove words matrix area
  -- .. and once it does not, no call makes a move
  pub rests : (matrix : List ℕ) → OfLoad words bytes matrix → (room : ℕ) → (answer_number (report_answer words matrix area room) ≡ 16 → ⊥)
      → (call : Call) → OfLoad words bytes (matrix_for call) → call_made words area call ≡ 0
  -- (c) steps accepted, answers of runs and joins accepted are together the area's count, at most nC + n + 4C - 2, C a chunk more than
  -- cuts; a report's own count is this too
  pub counted : moves_in area ≡ moves_made words area₀ calls
  pub few : moves_made words area₀ calls ≤ length tokens * (length cuts + 1) + length tokens + 4 * (length cuts + 1) - 2
  pub report_count : (matrix : List ℕ) → OfLoad words bytes matrix → (room : ℕ) {entries count : ℕ} → report_answer words matrix area room ≡ Ok (record { entries = entries; moves = count })
      → count ≡ moves_made words area₀ calls
  -- (d) where the report does not answer 16, its number, value, entries and written words are parse's, and only the count may differ; the
  -- value of a report is the number of its entries. Parse needs its own area; a short report run gives both 11
  pub same_as_parse : (matrix : List ℕ) → OfLoad words bytes matrix → (out : List ℕ) → (answer_number (report_answer words matrix area (length out)) ≡ 16 → ⊥)
      → (room : ℕ) → need (length tokens) 1 ≤ room
      → (answer_number (report_answer words matrix area (length out)) ≡ answer_number (parse_answer words tokens room (length out)))
      × (report_value (report_answer words matrix area (length out)) ≡ report_value (parse_answer words tokens room (length out)))
      × (report_out words matrix area out ≡ parse_out words tokens room out)
  -- .. for the outcome itself is parse's, its count aside, whatever the runs
  pub same_outcome : (matrix : List ℕ) → OfLoad words bytes matrix → (room : ℕ) → (answer_number (report_answer words matrix area room) ≡ 16 → ⊥)
      → without_moves (report_outcome words matrix area) ≡ without_moves (parse_outcome words tokens)

abbrev pub Demand3 : Type 0
Demand3 =
    (words bytes tokens cuts area₀ : List ℕ) → Begun words bytes tokens cuts area₀ → (calls : List Call) → AllOfLoad words bytes calls
    → AnyOrder words bytes tokens cuts area₀ calls (area_after words area₀ calls)

-- (e) so every schedule that goes on while it can finishes: any endless list of calls, of which a later one makes a move wherever the report
-- answers 16. After some number of its calls the report does not answer 16, and by (d) it is parse's
pub record Finish (words bytes tokens cuts area₀ matrix : List ℕ) (room : ℕ) : Type 0 where
  pub every_schedule : (schedule : ℕ → Call) → ((i : ℕ) → OfLoad words bytes (matrix_for (schedule i))) → GoesOn words area₀ matrix room schedule
      → (k : ℕ) × (report_after words area₀ matrix room (first_calls schedule k) ≡ 16 → ⊥)
  -- no list of calls that each make a move is longer than the bound; and wherever calls have come to, some steps and joins finish
  pub no_longer : {calls : List Call} → AllOfLoad words bytes calls → AllMove words area₀ calls
      → length calls ≤ length tokens * (length cuts + 1) + length tokens + 4 * (length cuts + 1) - 2
  pub from_anywhere : {calls : List Call} → AllOfLoad words bytes calls → CanFinish words bytes area₀ matrix room calls

abbrev pub Demand3Finishes : Type 0
Demand3Finishes =
    (words bytes tokens cuts area₀ : List ℕ) → Begun words bytes tokens cuts area₀ → (matrix : List ℕ) → OfLoad words bytes matrix
    → (room : ℕ) → Finish words bytes tokens cuts area₀ matrix room

-- 15 "is never given to a start with the words and matrix of an accepted load", whatever the tokens, the cuts and the area
abbrev pub StartNever15 : Type 0
StartNever15 =
    (words bytes matrix : List ℕ) → load_answer words (length bytes) ≡ Ok tt → OfLoad words bytes matrix
    → (tokens cuts : List ℕ) (room : ℕ) → start_answer words matrix tokens cuts room ≡ Err BadState → ⊥
