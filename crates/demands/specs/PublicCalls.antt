-- The public calls as one list: what each is lent, what it gives back, what its contract says, and the numbers that document 01 lists for it.
-- Document 01, "Refusal numbers": "Loading checks 1 to 6 in that order .., then 11. Asking a set checks 1 to 5, then 21. .. Start checks 15, 7, 8,
-- 9, 10, 11; a move or run 15, 12, 13; a join 15, 12, 14; the report 15, 16, 17 to 20, 11. The one-call parse checks 1 to 9 by number, then 11 for the
-- work area, then 17 to 20, then 11 for the report"; "All return number and value and leave lent memory unchanged"; "anything beyond is untouched".
-- A run that a call only reads is lent as shared, so that no program can write to it; of the others the contract gives every word.
-- Rests on the definitions that the contracts cite, and on nothing else.
--
-- Main definitions: PublicCall; GivesBack, promised, Keeps (that the contracts in code say just this: ContractsMet); number_for, numbers_for; Written, written.
use Rattle.std.specs.Prelude.{◌≡◌, Bool, List, [], ◌∷◌, ℕ, ◌+◌, ◌*◌, length, Ok, Err}
use Rattle.std.specs.List.{list_all}
use Rattle.refusals.specs.declared.Refusal.{Refusal}
use Rattle.refusals.specs.Answers.{Answer, SetAnswer, RunAnswer, ReportAnswer}
use Rattle.refusals.specs.Refusals.{number_of, value_of, stuck_refusal, answer_number}
use Rattle.language.specs.Checks.{check_symbols, check_words}
use Rattle.language.specs.Loads.{load_answer, load_bytes, left_set_answer, right_set_answer}
use Rattle.words.specs.declared.Body.{Body}
use Rattle.words.specs.Bodies.{body_at}
use Rattle.layout.specs.Layout.{need, need_in}
use Rattle.matrix.specs.GrammarShape.{grammar_in_shape}
use Rattle.area.specs.Shape.{in_shape}
use Rattle.start.specs.Start.{start_answer, start_area}
use Rattle.moving.specs.Calls.{step_answer, step_area, run_answer, run_area, join_answer, join_area}
use Rattle.moving.specs.ReadCall.{read_answer, read_area}
use Rattle.parse.specs.ParseCall.{parse_answer, parse_area, parse_out}
use Rattle.report.specs.ReportCall.{report_answer, report_out, entry_tokens, entry_start, entry_end, word_address}

-- a call, with every word lent to it; `place` is where the token run stands. The elements of `all-are` are of any type A, and `equal` is that type's own eq
pub data PublicCall : Type 1 where
  number-of : (refusal : Refusal) → PublicCall
  value-of : (refusal : Refusal) → PublicCall
  stuck-refusal : (status place : ℕ) → PublicCall
  check-symbols : (words : List ℕ) → PublicCall
  check-words : (words : List ℕ) → PublicCall
  body-of : (words : List ℕ) (r : ℕ) → PublicCall
  load : (words bytes : List ℕ) → PublicCall
  left-set : (words : List ℕ) (k : ℕ) → PublicCall
  right-set : (words : List ℕ) (k : ℕ) → PublicCall
  all-are : {A : Type 0} (equal : A → A → Bool) (elements : List A) (wanted : A) → PublicCall
  grammar-in-shape : (words matrix : List ℕ) → PublicCall
  in-shape : (words matrix area : List ℕ) → PublicCall
  start : (words matrix tokens cuts area : List ℕ) → PublicCall
  step : (words matrix area : List ℕ) (c : ℕ) → PublicCall
  run : (words matrix area : List ℕ) (c budget : ℕ) → PublicCall
  join : (words matrix area : List ℕ) (c : ℕ) → PublicCall
  read-through : (words matrix tokens area : List ℕ) → PublicCall
  report : (words matrix area out : List ℕ) → PublicCall
  parse : (words tokens area out : List ℕ) → PublicCall
  entry-range : (entries : List ℕ) (e count : ℕ) → PublicCall
  entry-tokens : (entries : List ℕ) (e : ℕ) (tokens : List ℕ) (place : ℕ × ℕ) → PublicCall

-- the answer, and after it the runs that the call may write as they are when it ends; of a part of the tokens its words and its place
abbrev pub GivesBack : PublicCall → Type 0
GivesBack (number-of refusal) = ℕ
GivesBack (value-of refusal) = ℕ
GivesBack (stuck-refusal status place) = Refusal
GivesBack (check-symbols words) = Answer
GivesBack (check-words words) = Answer
GivesBack (body-of words r) = Body
GivesBack (load words bytes) = Answer × List ℕ
GivesBack (left-set words k) = SetAnswer
GivesBack (right-set words k) = SetAnswer
GivesBack (all-are equal elements wanted) = Bool
GivesBack (grammar-in-shape words matrix) = Bool
GivesBack (in-shape words matrix area) = Bool
GivesBack (start words matrix tokens cuts area) = Answer × List ℕ
GivesBack (step words matrix area c) = Answer × List ℕ
GivesBack (run words matrix area c budget) = RunAnswer × List ℕ
GivesBack (join words matrix area c) = Answer × List ℕ
GivesBack (read-through words matrix tokens area) = Answer × List ℕ
GivesBack (report words matrix area out) = ReportAnswer × List ℕ
GivesBack (parse words tokens area out) = ReportAnswer × List ℕ × List ℕ
GivesBack (entry-range entries e count) = ℕ × ℕ
GivesBack (entry-tokens entries e tokens place) = List ℕ × (ℕ × ℕ)

-- what the contract promises, for any words lent
abbrev pub promised : (call : PublicCall) → GivesBack call
promised (number-of refusal) = number_of refusal
promised (value-of refusal) = value_of refusal
promised (stuck-refusal status place) = stuck_refusal status place
promised (check-symbols words) = check_symbols words
promised (check-words words) = check_words words
promised (body-of words r) = body_at words r
promised (load words bytes) = (load_answer words (length bytes), load_bytes words bytes)
promised (left-set words k) = left_set_answer words k
promised (right-set words k) = right_set_answer words k
promised (all-are equal elements wanted) = list_all (λ x. equal x wanted) elements
promised (grammar-in-shape words matrix) = grammar_in_shape words matrix
promised (in-shape words matrix area) = in_shape words matrix area
promised (start words matrix tokens cuts area) = (start_answer words matrix tokens cuts (length area), start_area words matrix tokens cuts area)
promised (step words matrix area c) = (step_answer words matrix area c, step_area words matrix area c)
promised (run words matrix area c budget) = (run_answer words matrix area c budget, run_area words matrix area c budget)
promised (join words matrix area c) = (join_answer words matrix area c, join_area words matrix area c)
promised (read-through words matrix tokens area) = (read_answer words matrix tokens (length area), read_area words matrix tokens area)
promised (report words matrix area out) = (report_answer words matrix area (length out), report_out words matrix area out)
promised (parse words tokens area out) =
    (parse_answer words tokens (length area) (length out), parse_area words tokens area, parse_out words tokens (length area) out)
promised (entry-range entries e count) = (entry_start entries e count, entry_end entries e count)
promised (entry-tokens entries e tokens place) = (entry_tokens entries e tokens, word_address place (entry_start entries e (length tokens)))

-- two lines of a contract, and three, each an equation
abbrev pub Both : {A B : Type 0} → A × B → A × B → Type 0
Both x p = (x.0 ≡ p.0) × (x.1 ≡ p.1)

abbrev pub AllThree : {A B C : Type 0} → A × B × C → A × B × C → Type 0
AllThree x p = (x.0 ≡ p.0) × (x.1 ≡ p.1) × (x.2 ≡ p.2)

-- the contract is kept: a line for the answer, and one for each run that the call may write
abbrev pub Keeps : (call : PublicCall) → GivesBack call → Type 0
Keeps (number-of refusal) x = x ≡ promised (number-of refusal)
Keeps (value-of refusal) x = x ≡ promised (value-of refusal)
Keeps (stuck-refusal status place) x = x ≡ promised (stuck-refusal status place)
Keeps (check-symbols words) x = x ≡ promised (check-symbols words)
Keeps (check-words words) x = x ≡ promised (check-words words)
Keeps (body-of words r) x = x ≡ promised (body-of words r)
Keeps (load words bytes) x = Both x (promised (load words bytes))
Keeps (left-set words k) x = x ≡ promised (left-set words k)
Keeps (right-set words k) x = x ≡ promised (right-set words k)
Keeps (all-are equal elements wanted) x = x ≡ promised (all-are equal elements wanted)
Keeps (grammar-in-shape words matrix) x = x ≡ promised (grammar-in-shape words matrix)
Keeps (in-shape words matrix area) x = x ≡ promised (in-shape words matrix area)
Keeps (start words matrix tokens cuts area) x = Both x (promised (start words matrix tokens cuts area))
Keeps (step words matrix area c) x = Both x (promised (step words matrix area c))
Keeps (run words matrix area c budget) x = Both x (promised (run words matrix area c budget))
Keeps (join words matrix area c) x = Both x (promised (join words matrix area c))
Keeps (read-through words matrix tokens area) x = Both x (promised (read-through words matrix tokens area))
Keeps (report words matrix area out) x = Both x (promised (report words matrix area out))
Keeps (parse words tokens area out) x = AllThree x (promised (parse words tokens area out))
Keeps (entry-range entries e count) x = Both x (promised (entry-range entries e count))
Keeps (entry-tokens entries e tokens place) x = Both x (promised (entry-tokens entries e tokens place))

-- the number of the answer; a call that refuses nothing has 0
abbrev pub number_for : PublicCall → ℕ
number_for (number-of refusal) = 0
number_for (value-of refusal) = 0
number_for (stuck-refusal status place) = 0
number_for (check-symbols words) = answer_number (check_symbols words)
number_for (check-words words) = answer_number (check_words words)
number_for (body-of words r) = 0
number_for (load words bytes) = answer_number (load_answer words (length bytes))
number_for (left-set words k) = answer_number (left_set_answer words k)
number_for (right-set words k) = answer_number (right_set_answer words k)
number_for (all-are equal elements wanted) = 0
number_for (grammar-in-shape words matrix) = 0
number_for (in-shape words matrix area) = 0
number_for (start words matrix tokens cuts area) = answer_number (start_answer words matrix tokens cuts (length area))
number_for (step words matrix area c) = answer_number (step_answer words matrix area c)
number_for (run words matrix area c budget) = answer_number (run_answer words matrix area c budget)
number_for (join words matrix area c) = answer_number (join_answer words matrix area c)
number_for (read-through words matrix tokens area) = answer_number (read_answer words matrix tokens (length area))
number_for (report words matrix area out) = answer_number (report_answer words matrix area (length out))
number_for (parse words tokens area out) = answer_number (parse_answer words tokens (length area) (length out))
number_for (entry-range entries e count) = 0
number_for (entry-tokens entries e tokens place) = 0

-- the numbers of its refusals, in the order of the checks
abbrev pub numbers_for : PublicCall → List ℕ
numbers_for (number-of refusal) = []
numbers_for (value-of refusal) = []
numbers_for (stuck-refusal status place) = []
numbers_for (check-symbols words) = 1 ∷ 2 ∷ 3 ∷ []
numbers_for (check-words words) = 1 ∷ 2 ∷ 3 ∷ 4 ∷ 5 ∷ []
numbers_for (body-of words r) = []
numbers_for (load words bytes) = 1 ∷ 2 ∷ 3 ∷ 4 ∷ 5 ∷ 6 ∷ 11 ∷ []
numbers_for (left-set words k) = 1 ∷ 2 ∷ 3 ∷ 4 ∷ 5 ∷ 21 ∷ []
numbers_for (right-set words k) = 1 ∷ 2 ∷ 3 ∷ 4 ∷ 5 ∷ 21 ∷ []
numbers_for (all-are equal elements wanted) = []
numbers_for (grammar-in-shape words matrix) = []
numbers_for (in-shape words matrix area) = []
numbers_for (start words matrix tokens cuts area) = 15 ∷ 7 ∷ 8 ∷ 9 ∷ 10 ∷ 11 ∷ []
numbers_for (step words matrix area c) = 15 ∷ 12 ∷ 13 ∷ []
numbers_for (run words matrix area c budget) = 15 ∷ 12 ∷ 13 ∷ []
numbers_for (join words matrix area c) = 15 ∷ 12 ∷ 14 ∷ []
numbers_for (read-through words matrix tokens area) = 15 ∷ 7 ∷ 8 ∷ 9 ∷ 11 ∷ []
numbers_for (report words matrix area out) = 15 ∷ 16 ∷ 17 ∷ 18 ∷ 19 ∷ 20 ∷ 11 ∷ []
numbers_for (parse words tokens area out) = 1 ∷ 2 ∷ 3 ∷ 4 ∷ 5 ∷ 6 ∷ 7 ∷ 8 ∷ 9 ∷ 11 ∷ 17 ∷ 18 ∷ 19 ∷ 20 ∷ 11 ∷ []
numbers_for (entry-range entries e count) = []
numbers_for (entry-tokens entries e tokens place) = []

-- how many words of a report run are written: three an entry, none on a refusal
abbrev pub words_of : ReportAnswer → ℕ
words_of (Ok given) = 3 * given.entries
words_of (Err refusal) = 0

-- a run that a call may write: what it held, what it holds when the call ends, and how many words or bytes at its front the call counts
pub record Written : Type 0 where
  pub before : List ℕ
  pub after : List ℕ
  pub counted : ℕ

-- every such run; the one-call parse's work area is spoken of apart
abbrev pub written : PublicCall → List Written
written (number-of refusal) = []
written (value-of refusal) = []
written (stuck-refusal status place) = []
written (check-symbols words) = []
written (check-words words) = []
written (body-of words r) = []
written (load words bytes) = record { before = bytes; after = load_bytes words bytes; counted = 4096 } ∷ []
written (left-set words k) = []
written (right-set words k) = []
written (all-are equal elements wanted) = []
written (grammar-in-shape words matrix) = []
written (in-shape words matrix area) = []
written (start words matrix tokens cuts area) =
    record { before = area; after = start_area words matrix tokens cuts area; counted = need (length tokens) (length cuts + 1) } ∷ []
written (step words matrix area c) = record { before = area; after = step_area words matrix area c; counted = need_in area } ∷ []
written (run words matrix area c budget) = record { before = area; after = run_area words matrix area c budget; counted = need_in area } ∷ []
written (join words matrix area c) = record { before = area; after = join_area words matrix area c; counted = need_in area } ∷ []
written (read-through words matrix tokens area) = record { before = area; after = read_area words matrix tokens area; counted = need (length tokens) 1 } ∷ []
written (report words matrix area out) =
    record { before = out; after = report_out words matrix area out; counted = words_of (report_answer words matrix area (length out)) } ∷ []
written (parse words tokens area out) =
    record { before = out; after = parse_out words tokens (length area) out; counted = words_of (parse_answer words tokens (length area) (length out)) } ∷ []
written (entry-range entries e count) = []
written (entry-tokens entries e tokens place) = []
