-- What the contracts of the public functions ask and say, read off the functions themselves: each asks nothing of what is lent, and what it ensures is,
-- line by line, the answer and the runs of `promised`.
-- Document 01: "Every grammar, token list, cutting and call gets an answer, with nothing assumed checked beforehand"; "Each public function promises
-- its answer and the final content of everything lent to it, for all inputs, refusals too".
-- A function's `clauses` are what its proof is held to; `args` are its parameters in their order, `end` what its slices refer to when it ends, `now` the
-- words of a slice. 𝓤, 𝓛, mem and routines are the program logic's own.
-- The generic `all_are` is read off at every type T with an equality, and at u8 and u16, the two types that it is called at. A generic function's T comes with
-- a lifetime of the logic's, which has to end within those that T's values name: of any T nothing else is asked, and of u8 and u16, which name none, nothing.
-- Rests on PublicCalls, on the contracts in crates refusals, words, table, matrix, area, start, reader, parse and report, on std's eq of u8 and of u16, and
-- on nothing else.
--
-- Main definition: AsPromised. Main statements: contracts; promise-kept, one-answer-only (what keeps these lines is one answer and one content of each run).
use Rattle.std.specs.Prelude.{◌≡◌, refl, eqb}
use Rattle.std.specs.declared.cmp.PartialEq.{Ghosts}
use Rattle.std.specs.contracts.prelude.U8PartialEq.TheImpl.{ghosts as own_u8}
use Rattle.std.specs.contracts.prelude.U16PartialEq.TheImpl.{ghosts as own_u16}
use Rattle.std.proofs.Common.{sym, ap, ◌∙◌}
use seplogic.Ra.Ura.{Ura}
use base.Logic.{SProp, both⊢, via, emp∗, mono_l}
use prog.Memory.{Memory}
use prog.Routine.{Routine}
use types.Logic.{Logic}
use mir.Syntax.{Dict}
use denote.RattleType.{RattleType}
use denote.Builtin.{u8, u16}
use contract.Monad.{Fun}
use contract.Notation
use contract.Conj.{top}
use contract.Fact.{fact_i}
use contract.Lifetimes.{Lfts}
use contract.BorrowLft.{◌⊑◌, ⊑_static}
use Rattle.refusals.specs.contracts.Refusal.number as number
use Rattle.refusals.specs.contracts.Refusal.value as value
use Rattle.refusals.specs.contracts.stuck_refusal as stuck-refusal
use Rattle.words.specs.contracts.check_symbols as check-symbols
use Rattle.words.specs.contracts.check_words as check-words
use Rattle.words.specs.contracts.body_of as body-of
use Rattle.table.specs.contracts.load as load
use Rattle.table.specs.contracts.left_set as left-set
use Rattle.table.specs.contracts.right_set as right-set
use Rattle.matrix.specs.contracts.all_are as all-are
use Rattle.matrix.specs.contracts.grammar_in_shape as grammar-in-shape
use Rattle.area.specs.contracts.in_shape as in-shape
use Rattle.start.specs.contracts.start as start
use Rattle.reader.specs.contracts.step as step
use Rattle.reader.specs.contracts.run as run
use Rattle.reader.specs.contracts.join as join
use Rattle.reader.specs.contracts.read_through as read-through
use Rattle.parse.specs.contracts.parse as parse
use Rattle.report.specs.contracts.report as report
use Rattle.report.specs.contracts.entry_range as entry-range
use Rattle.report.specs.contracts.entry_tokens as entry-tokens
use Rattle.demands.specs.PublicCalls.{PublicCall, GivesBack, promised, Both, AllThree, Keeps}
use Rattle.demands.specs.PublicCalls as call

module _ {M : Type 1} {𝓤 : Ura M} (𝓛 : Logic 𝓤) (mem : Memory → SProp 𝓤) (routines : Routine → Fun 𝓤) where
  abbrev 𝓝 : Notation.Connectives 𝓤
  𝓝 = Notation.connectives 𝓤

  open 𝓝 use {⌜◌⌝, ◌∗◌, ⊤ₛ}

  -- a contract of one line, of two and of three, each an equation: the lines of Keeps
  abbrev one_line : {A : Type 0} → A → A → SProp 𝓤
  one_line x p = ⌜ x ≡ p ⌝

  abbrev two_lines : {A B : Type 0} → A × B → A × B → SProp 𝓤
  two_lines x p = ⌜ x.0 ≡ p.0 ⌝ ∗ ⌜ x.1 ≡ p.1 ⌝

  abbrev three_lines : {A B C : Type 0} → A × B × C → A × B × C → SProp 𝓤
  three_lines x p = ⌜ x.0 ≡ p.0 ⌝ ∗ (⌜ x.1 ≡ p.1 ⌝ ∗ ⌜ x.2 ≡ p.2 ⌝)

  -- it asks nothing, and says just this
  abbrev Says : SProp 𝓤 → SProp 𝓤 → SProp 𝓤 → Type 2
  Says requires ensures lines = (requires ≡ ⊤ₛ) × (ensures ≡ lines)

  -- to ask what is so is to ask nothing
  asks_nothing : (φ : Type 0) → φ → ⌜ φ ⌝ ∗ ⊤ₛ ≡ ⊤ₛ
  asks_nothing φ x = both⊢ 𝓤 (top 𝓤 (⌜ φ ⌝ ∗ ⊤ₛ)) (via 𝓤 (⊤ₛ ∗ ⊤ₛ) (emp∗ 𝓤 ⊤ₛ) (mono_l 𝓤 ⊤ₛ (fact_i 𝓤 φ ⊤ₛ x)))

  pub record AsPromised : Type 2 where
    pub of_number : (κs args r end : _)
        → Says ((number.clauses 𝓛 mem routines κs args).requires tt) ((number.clauses 𝓛 mem routines κs args).ensures tt r end)
        (one_line r (promised (call.number-of args.0)))
    pub of_value : (κs args r end : _)
        → Says ((value.clauses 𝓛 mem routines κs args).requires tt) ((value.clauses 𝓛 mem routines κs args).ensures tt r end)
        (one_line r (promised (call.value-of args.0)))
    pub of_stuck_refusal : (κs args r end : _)
        → Says ((stuck-refusal.clauses 𝓛 mem routines κs args).requires tt) ((stuck-refusal.clauses 𝓛 mem routines κs args).ensures tt r end)
        (one_line r (promised (call.stuck-refusal args.0 args.1.0)))
    pub of_check_symbols : (κs args r end : _)
        → Says ((check-symbols.clauses 𝓛 mem routines κs args).requires tt) ((check-symbols.clauses 𝓛 mem routines κs args).ensures tt r end)
        (one_line r (promised (call.check-symbols args.0.now)))
    pub of_check_words : (κs args r end : _)
        → Says ((check-words.clauses 𝓛 mem routines κs args).requires tt) ((check-words.clauses 𝓛 mem routines κs args).ensures tt r end)
        (one_line r (promised (call.check-words args.0.now)))
    pub of_body_of : (κs args r end : _)
        → Says ((body-of.clauses 𝓛 mem routines κs args).requires tt) ((body-of.clauses 𝓛 mem routines κs args).ensures tt r end)
        (one_line r (promised (call.body-of args.0.now args.1.0)))
    pub of_load : (κs args r end : _)
        → Says ((load.clauses 𝓛 mem routines κs args).requires tt) ((load.clauses 𝓛 mem routines κs args).ensures tt r end)
        (two_lines (r, end.1.0.now) (promised (call.load args.0.now args.1.0.now)))
    pub of_left_set : (κs args r end : _)
        → Says ((left-set.clauses 𝓛 mem routines κs args).requires tt) ((left-set.clauses 𝓛 mem routines κs args).ensures tt r end)
        (one_line r (promised (call.left-set args.0.now args.1.0)))
    pub of_right_set : (κs args r end : _)
        → Says ((right-set.clauses 𝓛 mem routines κs args).requires tt) ((right-set.clauses 𝓛 mem routines κs args).ensures tt r end)
        (one_line r (promised (call.right-set args.0.now args.1.0)))
    -- at any type T, `own` its equality and κs.1.1.0 its lifetime; then at u8 and at u16
    pub of_all_are : (T : RattleType) (own : Ghosts T.Denot) (dict : Dict) (κs : Lfts 3) (args r end : _) → κs.1.1.0 ⊑ T.lives
        → Says ((all-are.clauses T own dict 𝓛 mem routines κs args).requires tt) ((all-are.clauses T own dict 𝓛 mem routines κs args).ensures tt r end)
        (one_line r (promised (call.all-are own.eq args.0.now args.1.0.now)))
    pub of_all_are_bytes : (dict : Dict) (κs args r end : _)
        → Says ((all-are.clauses u8 own_u8 dict 𝓛 mem routines κs args).requires tt) ((all-are.clauses u8 own_u8 dict 𝓛 mem routines κs args).ensures tt r end)
        (one_line r (promised (call.all-are eqb args.0.now args.1.0.now)))
    pub of_all_are_words : (dict : Dict) (κs args r end : _)
        → Says ((all-are.clauses u16 own_u16 dict 𝓛 mem routines κs args).requires tt) ((all-are.clauses u16 own_u16 dict 𝓛 mem routines κs args).ensures tt r end)
        (one_line r (promised (call.all-are eqb args.0.now args.1.0.now)))
    pub of_grammar_in_shape : (κs args r end : _)
        → Says ((grammar-in-shape.clauses 𝓛 mem routines κs args).requires tt) ((grammar-in-shape.clauses 𝓛 mem routines κs args).ensures tt r end)
        (one_line r (promised (call.grammar-in-shape args.0.now args.1.0.now)))
    pub of_in_shape : (κs args r end : _)
        → Says ((in-shape.clauses 𝓛 mem routines κs args).requires tt) ((in-shape.clauses 𝓛 mem routines κs args).ensures tt r end)
        (one_line r (promised (call.in-shape args.0.now args.1.0.now args.1.1.0.now)))
    pub of_start : (κs args r end : _)
        → Says ((start.clauses 𝓛 mem routines κs args).requires tt) ((start.clauses 𝓛 mem routines κs args).ensures tt r end)
        (two_lines (r, end.1.1.1.1.0.now)
        (promised (call.start args.0.now args.1.0.now args.1.1.0.now args.1.1.1.0.now args.1.1.1.1.0.now)))
    pub of_step : (κs args r end : _)
        → Says ((step.clauses 𝓛 mem routines κs args).requires tt) ((step.clauses 𝓛 mem routines κs args).ensures tt r end)
        (two_lines (r, end.1.1.0.now) (promised (call.step args.0.now args.1.0.now args.1.1.0.now args.1.1.1.0)))
    pub of_run : (κs args r end : _)
        → Says ((run.clauses 𝓛 mem routines κs args).requires tt) ((run.clauses 𝓛 mem routines κs args).ensures tt r end)
        (two_lines (r, end.1.1.0.now) (promised (call.run args.0.now args.1.0.now args.1.1.0.now args.1.1.1.0 args.1.1.1.1.0)))
    pub of_join : (κs args r end : _)
        → Says ((join.clauses 𝓛 mem routines κs args).requires tt) ((join.clauses 𝓛 mem routines κs args).ensures tt r end)
        (two_lines (r, end.1.1.0.now) (promised (call.join args.0.now args.1.0.now args.1.1.0.now args.1.1.1.0)))
    pub of_read_through : (κs args r end : _)
        → Says ((read-through.clauses 𝓛 mem routines κs args).requires tt) ((read-through.clauses 𝓛 mem routines κs args).ensures tt r end)
        (two_lines (r, end.1.1.1.0.now) (promised (call.read-through args.0.now args.1.0.now args.1.1.0.now args.1.1.1.0.now)))
    pub of_report : (κs args r end : _)
        → Says ((report.clauses 𝓛 mem routines κs args).requires tt) ((report.clauses 𝓛 mem routines κs args).ensures tt r end)
        (two_lines (r, end.1.1.1.0.now) (promised (call.report args.0.now args.1.0.now args.1.1.0.now args.1.1.1.0.now)))
    pub of_parse : (κs args r end : _)
        → Says ((parse.clauses 𝓛 mem routines κs args).requires tt) ((parse.clauses 𝓛 mem routines κs args).ensures tt r end)
        (three_lines (r, end.1.1.0.now, end.1.1.1.0.now) (promised (call.parse args.0.now args.1.0.now args.1.1.0.now args.1.1.1.0.now)))
    pub of_entry_range : (κs args r end : _)
        → Says ((entry-range.clauses 𝓛 mem routines κs args).requires tt) ((entry-range.clauses 𝓛 mem routines κs args).ensures tt r end)
        (two_lines (r.start, r.end) (promised (call.entry-range args.0.now args.1.0 args.1.1.0)))
    pub of_entry_tokens : (κs args r end : _)
        → Says ((entry-tokens.clauses 𝓛 mem routines κs args).requires tt) ((entry-tokens.clauses 𝓛 mem routines κs args).ensures tt r end)
        (two_lines (r.now, r.ref_ptr) (promised (call.entry-tokens args.0.now args.1.0 args.1.1.0.now args.1.1.0.ref_ptr)))

  pub contracts : AsPromised
  contracts = record {
    of_number = λ κs args r end. (refl, refl);
    of_value = λ κs args r end. (refl, refl);
    of_stuck_refusal = λ κs args r end. (refl, refl);
    of_check_symbols = λ κs args r end. (refl, refl);
    of_check_words = λ κs args r end. (refl, refl);
    of_body_of = λ κs args r end. (refl, refl);
    of_load = λ κs args r end. (refl, refl);
    of_left_set = λ κs args r end. (refl, refl);
    of_right_set = λ κs args r end. (refl, refl);
    of_all_are = λ T own dict κs args r end within. (asks_nothing (κs.1.1.0 ⊑ T.lives) within, refl);
    of_all_are_bytes = λ dict κs args r end. (asks_nothing (κs.1.1.0 ⊑ u8.lives) (⊑_static κs.1.1.0), refl);
    of_all_are_words = λ dict κs args r end. (asks_nothing (κs.1.1.0 ⊑ u16.lives) (⊑_static κs.1.1.0), refl);
    of_grammar_in_shape = λ κs args r end. (refl, refl);
    of_in_shape = λ κs args r end. (refl, refl);
    of_start = λ κs args r end. (refl, refl);
    of_step = λ κs args r end. (refl, refl);
    of_run = λ κs args r end. (refl, refl);
    of_join = λ κs args r end. (refl, refl);
    of_read_through = λ κs args r end. (refl, refl);
    of_report = λ κs args r end. (refl, refl);
    of_parse = λ κs args r end. (refl, refl);
    of_entry_range = λ κs args r end. (refl, refl);
    of_entry_tokens = λ κs args r end. (refl, refl);
  }

-- ---- one answer only

both : {A B : Type 0} {x y p : A × B} → Both x p → Both y p → x ≡ y
both {x = x} {y = y} h k = ap (λ a. (a, x.1)) (h.0 ∙ sym k.0) ∙ ap (λ b. (y.0, b)) (h.1 ∙ sym k.1)

all_three : {A B C : Type 0} {x y p : A × B × C} → AllThree x p → AllThree y p → x ≡ y
all_three {x = x} {y = y} h k =
    ap (λ a. (a, x.1, x.2)) (h.0 ∙ sym k.0) ∙ ap (λ b. (y.0, b, x.2)) (h.1 ∙ sym k.1) ∙ ap (λ c. (y.0, y.1, c)) (h.2 ∙ sym k.2)

-- there is an answer that keeps the contract, whatever is lent
pub promise-kept : (call : PublicCall) → Keeps call (promised call)
promise-kept (call.number-of refusal) = refl
promise-kept (call.value-of refusal) = refl
promise-kept (call.stuck-refusal status place) = refl
promise-kept (call.check-symbols words) = refl
promise-kept (call.check-words words) = refl
promise-kept (call.body-of words r) = refl
promise-kept (call.load words bytes) = (refl, refl)
promise-kept (call.left-set words k) = refl
promise-kept (call.right-set words k) = refl
promise-kept (call.all-are equal elements wanted) = refl
promise-kept (call.grammar-in-shape words matrix) = refl
promise-kept (call.in-shape words matrix area) = refl
promise-kept (call.start words matrix tokens cuts area) = (refl, refl)
promise-kept (call.step words matrix area c) = (refl, refl)
promise-kept (call.run words matrix area c budget) = (refl, refl)
promise-kept (call.join words matrix area c) = (refl, refl)
promise-kept (call.read-through words matrix tokens area) = (refl, refl)
promise-kept (call.report words matrix area out) = (refl, refl)
promise-kept (call.parse words tokens area out) = (refl, refl, refl)
promise-kept (call.entry-range entries e count) = (refl, refl)
promise-kept (call.entry-tokens entries e tokens place) = (refl, refl)

-- and there is no other
pub one-answer-only : (call : PublicCall) (x y : GivesBack call) → Keeps call x → Keeps call y → x ≡ y
one-answer-only (call.number-of refusal) x y p q = p ∙ sym q
one-answer-only (call.value-of refusal) x y p q = p ∙ sym q
one-answer-only (call.stuck-refusal status place) x y p q = p ∙ sym q
one-answer-only (call.check-symbols words) x y p q = p ∙ sym q
one-answer-only (call.check-words words) x y p q = p ∙ sym q
one-answer-only (call.body-of words r) x y p q = p ∙ sym q
one-answer-only (call.load words bytes) x y p q = both p q
one-answer-only (call.left-set words k) x y p q = p ∙ sym q
one-answer-only (call.right-set words k) x y p q = p ∙ sym q
one-answer-only (call.all-are equal elements wanted) x y p q = p ∙ sym q
one-answer-only (call.grammar-in-shape words matrix) x y p q = p ∙ sym q
one-answer-only (call.in-shape words matrix area) x y p q = p ∙ sym q
one-answer-only (call.start words matrix tokens cuts area) x y p q = both p q
one-answer-only (call.step words matrix area c) x y p q = both p q
one-answer-only (call.run words matrix area c budget) x y p q = both p q
one-answer-only (call.join words matrix area c) x y p q = both p q
one-answer-only (call.read-through words matrix tokens area) x y p q = both p q
one-answer-only (call.report words matrix area out) x y p q = both p q
one-answer-only (call.parse words tokens area out) x y p q = all_three p q
one-answer-only (call.entry-range entries e count) x y p q = both p q
one-answer-only (call.entry-tokens entries e tokens place) x y p q = both p q
