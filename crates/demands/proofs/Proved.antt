-- The demands are proved. Each theorem is put together from the files that prove its sentences.
-- Rests on Demands and on all that it rests on.
--
-- demand-1-contracts, demand-1: every public call has one answer, a listed number or success, given exactly when its sentence holds, and a refusal leaves
-- what was lent; demand-1-parse: the one-call parse's work area, which ends as zeros once used.
-- demand-2-parse: parse accepts exactly the language, its report is the one tree's post-order, a refusal is the uncut reader's.
-- demand-2-moves: step, run and join make exactly the moves that document 01 names; demand-2-reached: so wherever calls have come to.
-- demand-3: any order of calls after one accepted load and one accepted start. demand-3-finishes: those that go on while they can finish.
-- start-never-15: nor does a start after an accepted load answer 15.
use Rattle.std.proofs.Common.{sym, subst, ◌∙◌, true≢false}
use Rattle.std.specs.Prelude.{◌↔◌, List, ℕ}
use Rattle.language.specs.Trees.{Span}
use Rattle.machine.specs.States.{State}
use Rattle.machine.specs.TableOf.{table_of}
use Rattle.machine.specs.Allowed.{Steps, JoinsAt}
use Rattle.machine.specs.Counts.{RunNamed}
use Rattle.results.specs.ReadThrough.{read-once}
use Rattle.layout.specs.Layout.{decode, beyond_in}
use Rattle.start.specs.Start.{bad-state-given}
use Rattle.demands.proofs.GivenDemand.{given-for}
use Rattle.demands.proofs.AnswersDemand.{number-listed, lent-kept, beyond-kept, parse-area-left}
use Rattle.demands.specs.Calls.{area_after}
use Rattle.machine.specs.TableOf.{own_table}
use Rattle.demands.proofs.OwnMatrix.{accepted, shape_is}
use Rattle.demands.proofs.Standing.{standing-after}
use Rattle.demands.proofs.ParseDemand.{uncut-reader, parse-accepts-exactly, parse-reports, parse-refuses, one-tree-only}
use Rattle.demands.specs.MoveDemand.{StepLeaves, RunLeaves, JoinLeaves}
use Rattle.demands.proofs.MoveDemand.{step-demand, run-demand, join-demand, lent-state}
use Rattle.demands.proofs.Reached.{each_right, report-never-15, moves-counted, moves-few, in-shape-there, low-there}
use Rattle.demands.proofs.SameReport.{same-but-moves, same-report, report-counts}
use Rattle.demands.proofs.Finishing.{some-move, finished-stays, lists-end, goes-on-finishes, can-finish}
use Rattle.demands.specs.ContractsMet.{contracts, promise-kept, one-answer-only}
use Rattle.demands.specs.Demands.{Demand1Contracts, Demand1, Demand1Parse, Demand2Parse, Demand2Moves, Demand2Reached}
use Rattle.demands.specs.Demands.{Demand3, Demand3Finishes, StartNever15, tokens_in}

pub demand-1-contracts : Demand1Contracts
demand-1-contracts M 𝓤 𝓛 mem routines = contracts 𝓛 mem routines

pub demand-1 : Demand1
demand-1 call = record {
  answered = promise-kept call;
  one_only = one-answer-only call;
  listed = number-listed call;
  given = given-for call;
  refused_keeps = lent-kept call;
  beyond_keeps = beyond-kept call;
}

pub demand-1-parse : Demand1Parse
demand-1-parse = parse-area-left

pub demand-2-parse : Demand2Parse
demand-2-parse words bytes tokens loads right room enough out long =
    let a = accepted words bytes loads in
    let reading = uncut-reader a right in
    record {
      accepts = parse-accepts-exactly a right reading room enough out long;
      reader = reading;
      one_reading = λ r. read-once (own_table words) r reading.reading;
      reports = parse-reports a right reading room enough out long;
      one_tree = one-tree-only a right;
      refuses = parse-refuses a right reading room enough out long;
    }

pub demand-2-moves : Demand2Moves
demand-2-moves words matrix area low shape =
    let h = lent-state words matrix area low shape in
    let n : ℕ = tokens_in area in
    let s : State Span = decode area in
    let beyond : List ℕ = beyond_in area in
    record {
      words_of = h.2;
      keeps_rules = h.1;
      steps = λ c s'.
          subst (λ a. StepLeaves words matrix a beyond n c s' ↔ Steps (table_of words matrix) c s s') (sym h.2)
          (step-demand words matrix h.0 h.1 beyond c s');
      runs = λ c budget j s'.
          subst (λ a. RunLeaves words matrix a beyond n c budget j s' ↔ RunNamed (table_of words matrix) c budget s j s') (sym h.2)
          (run-demand words matrix h.0 h.1 beyond c budget j s');
      joins = λ c s'. subst (λ a. JoinLeaves words matrix a beyond n c s' ↔ JoinsAt c s s') (sym h.2) (join-demand words matrix h.0 h.1 beyond c s');
    }

pub demand-2-reached : Demand2Reached
demand-2-reached words bytes tokens cuts area₀ begun calls own matrix of_load =
    demand-2-moves words matrix (area_after words area₀ calls) (low-there begun own) (in-shape-there begun own matrix of_load)

pub demand-3 : Demand3
demand-3 words bytes tokens cuts area₀ begun calls own = record {
  reached = standing-after begun own;
  each_call = each_right begun own;
  report_not_15 = report-never-15 begun own;
  goes_on = some-move begun own;
  rests = finished-stays begun own;
  counted = moves-counted begun own;
  few = moves-few begun own;
  report_count = report-counts begun own;
  same_as_parse = same-report begun own;
  same_outcome = same-but-moves begun own;
}

pub demand-3-finishes : Demand3Finishes
demand-3-finishes words bytes tokens cuts area₀ begun matrix of_load room = record {
  every_schedule = goes-on-finishes begun matrix of_load room;
  no_longer = lists-end begun;
  from_anywhere = can-finish begun matrix of_load room;
}

pub start-never-15 : StartNever15
start-never-15 words bytes matrix loads of_load tokens cuts room e =
    true≢false (sym (shape_is words bytes loads matrix of_load) ∙ (bad-state-given words matrix tokens cuts room).0 e)
