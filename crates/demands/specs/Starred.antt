-- The starred samples of document 01, all of them, as one table under one theorem, computed from the definitions that the contracts cite.
-- Document 01, "Sample rows": "Cases with * are the proved set"; "How far promises go": "The starred cases are shown from the
-- definitions as a single table under a single theorem".
-- Rests on language's Loads, start's Start, moving's Calls, parse's ParseCall and report's ReportCall; and on OnWords and OwnMatrix, by which an area's
-- words are worked out as those of a state, and tests of the whole matrix are passed over.
--
-- Main definitions: Question, Reply, reply_to, cases.
-- What is proved of them: proofs' Starred.
use Rattle.std.specs.Prelude.{◌≡◌, ℕ, ◌*◌, take, Ok, Err}
use mathlib.Core.List.{List, [], ◌∷◌}
use Rattle.std.proofs.Math.Option.{Option, none, some}
use Rattle.std.proofs.Math.ListN.{length}
use Rattle.refusals.specs.Answers.{Answer, SetAnswer, ReportAnswer}
use Rattle.refusals.specs.Refusals.{number_of, value_of}
use Rattle.language.specs.CheckSamples.{words_k}
use Rattle.language.specs.Loads.{load_answer, load_bytes, left_set_answer, right_set_answer}
use Rattle.language.specs.Trees.{Span}
use Rattle.machine.specs.Chunks.{running, stuck, Chunk}
use Rattle.machine.specs.States.{chunk_at, place_of, refusal_of}
use Rattle.results.specs.Bounded.{most_moves}
use Rattle.layout.specs.Layout.{need, zeros, decode}
use Rattle.start.specs.Start.{start_area}
use Rattle.moving.specs.Calls.{run_area, join_area}
use Rattle.parse.specs.ParseCall.{parse_answer, parse_out}
use Rattle.report.specs.ReportCall.{report_answer, report_out}

-- ---- what a sample asks, and what it says

pub data Question : Type 0 where
  -- the left set, the right set of a nonterminal
  left-set : List ℕ → ℕ → Question
  right-set : List ℕ → ℕ → Question
  -- a grammar loaded
  loaded : List ℕ → Question
  -- a row parsed in one call
  uncut : List ℕ → List ℕ → Question
  -- a row cut in two: both chunks moved until at rest, joined, and moved until at rest
  cut_at : ℕ → List ℕ → List ℕ → Question
  -- the same row before the join: on what chunk 1 rests
  before_join : ℕ → List ℕ → List ℕ → Question

pub data Reply : Type 0 where
  terminals : ℕ → ℕ → Reply
  success : Reply
  -- the report's words, and the moves
  report_of : List ℕ → ℕ → Reply
  -- a number and a value
  refusal : ℕ → ℕ → Reply
  -- a chunk that is not stuck
  unstuck : Reply

-- ---- the definitions that the contracts cite, asked so

abbrev pub of_set : SetAnswer → Reply
of_set (Ok set) = terminals set.mask set.size
of_set (Err r) = refusal (number_of r) (value_of r)

abbrev pub of_answer : Answer → Reply
of_answer (Ok _) = success
of_answer (Err r) = refusal (number_of r) (value_of r)

-- a report's answer, with the words then written
abbrev pub of_report : ReportAnswer → List ℕ → Reply
of_report (Ok report) out = report_of (take (3 * report.entries) out) report.moves
of_report (Err r) out = refusal (number_of r) (value_of r)

-- the matrix that load leaves
abbrev pub bytes_of : List ℕ → List ℕ
bytes_of words = load_bytes words (zeros 4096)

-- chunk c run until at rest: no row of so many tokens in two chunks outlasts the budget
abbrev pub to_rest : List ℕ → List ℕ → ℕ → List ℕ → List ℕ
to_rest words tokens c area = run_area words (bytes_of words) area c (most_moves (length tokens) 2)

-- a row cut in two, both chunks moved until at rest
abbrev pub apart : ℕ → List ℕ → List ℕ → List ℕ
apart cut words tokens = to_rest words tokens 1 (to_rest words tokens 0 (start_area words (bytes_of words) tokens (cut ∷ []) (zeros (need (length tokens) 2))))

-- then joined, and moved until at rest
abbrev pub together : ℕ → List ℕ → List ℕ → List ℕ
together cut words tokens = to_rest words tokens 0 (join_area words (bytes_of words) (apart cut words tokens) 0)

-- a chunk's refusal, if it is stuck
abbrev pub of_chunk : Option (Chunk Span) → Reply
of_chunk none = unstuck
of_chunk (some chunk) = elim chunk.status [
  | running ↦ unstuck
  | stuck why ↦ refusal (number_of (refusal_of why (place_of chunk.unread))) (value_of (refusal_of why (place_of chunk.unread)))
]

-- the words that the area of an uncut row needs
abbrev pub room_for : List ℕ → ℕ
room_for tokens = need (length tokens) 1

abbrev pub reply_to : Question → Reply
reply_to (left-set words k) = of_set (left_set_answer words k)
reply_to (right-set words k) = of_set (right_set_answer words k)
reply_to (loaded words) = of_answer (load_answer words 4096)
reply_to (uncut words tokens) =
    of_report (parse_answer words tokens (room_for tokens) (3 * length tokens)) (parse_out words tokens (room_for tokens) (zeros (3 * length tokens)))
reply_to (cut_at cut words tokens) =
    of_report (report_answer words (bytes_of words) (together cut words tokens) (3 * length tokens))
    (report_out words (bytes_of words) (together cut words tokens) (zeros (3 * length tokens)))
reply_to (before_join cut words tokens) = of_chunk (chunk_at (decode (apart cut words tokens)) 1)

-- ---- the samples

pub record Case : Type 0 where
  pub asked : Question
  pub replied : Reply

abbrev case : Question → Reply → Case
case q r = record { asked = q; replied = r }

-- "K with a sixth rule L -> I , L"
abbrev pub words_k6 : List ℕ
words_k6 =
    5 ∷ 2 ∷ 2 ∷ 6 ∷ 10 ∷ 12 ∷ 17 ∷ 22 ∷ 26 ∷ 30
    ∷ 0 ∷ 1 ∷ 0 ∷ 3 ∷ 256 ∷ 4 ∷ 5 ∷ 0 ∷ 3 ∷ 257 ∷ 4 ∷ 5 ∷ 1 ∷ 256 ∷ 2 ∷ 256 ∷ 1 ∷ 257 ∷ 2 ∷ 256 ∷ 1 ∷ 256 ∷ 2 ∷ 257 ∷ []

-- "Words 2 2 1 2, 6 10, 0 257 2 257, 1 1"
abbrev pub words19 : List ℕ
words19 = 2 ∷ 2 ∷ 1 ∷ 2 ∷ 6 ∷ 10 ∷ 0 ∷ 257 ∷ 2 ∷ 257 ∷ 1 ∷ 1 ∷ []

abbrev pub cases : List Case
cases =
    -- "K: left sets 10 and 14, right sets 34 and 38 (I, L); sizes 2, 3, 2, 3."
    case (left-set words_k 0) (terminals 10 2)
    ∷ case (left-set words_k 1) (terminals 14 3)
    ∷ case (right-set words_k 0) (terminals 34 2)
    ∷ case (right-set words_k 1) (terminals 38 3)
    -- "1 -> report 0 0 1, 3 moves uncut."
    ∷ case (uncut words_k (1 ∷ [])) (report_of (0 ∷ 0 ∷ 1 ∷ []) 3)
    -- "1 1 -> 17 at 1. 3 1 4 -> 17 at 3."
    ∷ case (uncut words_k (1 ∷ 1 ∷ [])) (refusal 17 1)
    ∷ case (uncut words_k (3 ∷ 1 ∷ 4 ∷ [])) (refusal 17 3)
    -- "2 -> 18 at 1. 1 2 -> 18 at 2. 3 4 5 -> 18 at 3."
    ∷ case (uncut words_k (2 ∷ [])) (refusal 18 1)
    ∷ case (uncut words_k (1 ∷ 2 ∷ [])) (refusal 18 2)
    ∷ case (uncut words_k (3 ∷ 4 ∷ 5 ∷ [])) (refusal 18 3)
    -- "1 2 4 1 1, cut at 3 -> 18 at 2, though chunk 1 rests on 17 at 4."
    ∷ case (cut_at 3 words_k (1 ∷ 2 ∷ 4 ∷ 1 ∷ 1 ∷ [])) (refusal 18 2)
    ∷ case (before_join 3 words_k (1 ∷ 2 ∷ 4 ∷ 1 ∷ 1 ∷ [])) (refusal 17 4)
    -- "K with a sixth rule L -> I , L: 6, value 130."
    ∷ case (loaded words_k6) (refusal 6 130)
    -- "Words 2 2 1 2, 6 10, 0 257 2 257, 1 1 and row 1 -> 19 at 1."
    ∷ case (uncut words19 (1 ∷ [])) (refusal 19 1)
    -- "Row 0 -> 9 at 0; no tokens -> 7."
    ∷ case (uncut words_k (0 ∷ [])) (refusal 9 0)
    ∷ case (uncut words_k []) (refusal 7 0)
    ∷ []

-- each case of a list is as the table says
pub data AllAsSaid : List Case → Type 0 where
  no_more : AllAsSaid []
  as_said : {c : Case} {rest : List Case} → reply_to c.asked ≡ c.replied → AllAsSaid rest → AllAsSaid (c ∷ rest)

-- ---- shown

-- The answers are computed, but for three tests of grammar and matrix that are known to pass once the words load, and for the
-- words of an area, which are those of the state that the machine's calls, computed, come to.
