-- What is proved of specs' ParseDemand. Demand 2 on the one-call parse: for words that load accepts and runs long enough it accepts exactly when an
-- axiom derives the tokens; its report is the post-order of their one tree; otherwise it answers the number and place at which the uncut reader gets
-- stuck.
--
-- Main statements: parse-accepts-exactly, parse-reports, parse-refuses, one-tree-only; the reader: uncut-reader; uncut-finished.
use Rattle.std.specs.Prelude.{◌≡◌, refl, ◌↔◌, ◌⊎◌, ℕ, ◌*◌, ◌≤◌, length, Err}
use Rattle.std.proofs.Common.{◌∙◌, inl, inr, arith}
use Rattle.std.proofs.Math.Path.{ap}
use mathlib.Core.List.{List}
use Rattle.refusals.specs.declared.Refusal.{Refusal}
use Rattle.refusals.specs.declared.Refusal.TheVariants.{Unfinished}
use Rattle.refusals.specs.Refusals.{number_of, value_of, answer_number}
use Rattle.language.specs.Words.{grammar_of}
use Rattle.language.specs.Loads.{Accepted}
use Rattle.machine.specs.Moves.{Stuck}
use Rattle.machine.specs.States.{Outcome, refused_row, refusal_of, outcome}
use Rattle.results.specs.Progress.{Answered}
use Rattle.machine.specs.Answers.{outcome_answer, outcome_out}
use Rattle.results.specs.UncutRow.{InLanguage, AxiomTree, FirstRefusal, first-refusal-number, Verdict, reads-through, verdict}
use Rattle.results.specs.UncutRow.{report-of-tree, refused-exactly, tree-in-language, one-axiom-tree}
use Rattle.results.specs.UncutRow as uncut
use Rattle.machine.proofs.GivenExactly.{value-stuck, stuck-exactly, outcome-refuses}
use Rattle.layout.specs.Layout.{need}
use Rattle.parse.specs.ParseCall.{parse_answer, parse_out}
use Rattle.machine.proofs.TableOf.{own-end-mark, own-laws}
use Rattle.demands.specs.ParseDemand.{GotStuck, ParseReports, RightTokens, UncutReader, entries_of, parse-answers, parse-reads, parse-writes, tokens-no-end, written}

module _ {words : List ℕ} (accepted : Accepted words) {tokens : List ℕ} (right : RightTokens words tokens) where
  -- the uncut reader of such a row, of which there is one (machine's read-once)
  pub uncut-reader : UncutReader words tokens
  uncut-reader =
      let k = reads-through (own-laws accepted) (own-end-mark accepted) (λ r vs. refl) tokens (tokens-no-end accepted right) in
      record { moves = k.0; last = k.1; reading = k.2 }

  module _ (reader : UncutReader words tokens) where
    pub uncut-verdict : Verdict (grammar_of words) tokens reader.moves (outcome reader.last)
    uncut-verdict = verdict (own-laws accepted) (own-end-mark accepted) (λ r vs. refl) tokens (tokens-no-end accepted right) reader.reading

    -- it comes to an answer
    pub uncut-finished : Answered reader.last
    uncut-finished = go uncut-verdict
      where
        go : {o : Outcome} → Verdict (grammar_of words) tokens reader.moves o → o ≡ refused_row Unfinished → ⊥
        go (uncut.accepted t) e = let z : ◌≡◌ {A = ℕ} 0 1 = cc in omega arith
        go (uncut.refused {why = why} never first) e =
            let z : why ≡ Unfinished = cc in
            let n = (first-refusal-number first).0 in
            let y = ap number_of z in
            omega arith

    -- runs long enough
    module _ (room : ℕ) (enough : need (length tokens) 1 ≤ room) (out : List ℕ) (long : 3 * length tokens ≤ length out) where
      refused-with : {refusal : Refusal} → outcome reader.last ≡ refused_row refusal
          → (parse_answer words tokens room (length out) ≡ Err refusal) × (parse_out words tokens room out ≡ out)
      refused-with e = (
        parse-answers accepted right room enough (length out) ∙ ap (λ x. outcome_answer x (length out)) (parse-reads accepted right reader ∙ e),
        parse-writes accepted right room enough out ∙ ap (λ x. outcome_out x out) (parse-reads accepted right reader ∙ e),
      )

      -- a row with a tree is reported: the post-order of the tree, whichever is taken, and the number of moves that the reader made
      pub parse-reports : (t : AxiomTree (grammar_of words) tokens) → ParseReports words tokens room out (entries_of t) reader.moves
      parse-reports t = written accepted right reader room enough out long (report-of-tree (own-laws accepted) (own-end-mark accepted) (λ r vs. refl) tokens (tokens-no-end accepted right) reader.reading t)

      got_stuck : {refusal : Refusal} → FirstRefusal (length tokens) refusal → outcome reader.last ≡ refused_row refusal
          → GotStuck tokens reader.last refusal
      got_stuck {refusal} first e = go (outcome-refuses reader.last refusal e)
        where
          go : (refusal ≡ Unfinished) ⊎ ((why : Stuck) × (place : ℕ) × (refusal ≡ refusal_of why place)) → GotStuck tokens reader.last refusal
          go (inl z) = let n = (first-refusal-number first).0 in let y = ap number_of z in absurd (omega arith)
          go (inr (why, place, z)) =
              let n = first-refusal-number first in
              record {
                why = why;
                place = place;
                stuck_so = (stuck-exactly reader.last why place).0 (e ∙ ap refused_row z);
                refusal_is = z;
                number_low = n.0;
                number_high = n.1;
                place_within = let v = ap value_of z ∙ value-stuck why place in omega (arith, n.2);
              }

      -- a row that no axiom derives is refused as the reader gets stuck: 17, 18 or 19, never 16 or 20; the report run stays
      pub parse-refuses : (InLanguage (grammar_of words) tokens → ⊥)
          → (refusal : Refusal) × GotStuck tokens reader.last refusal
          × (parse_answer words tokens room (length out) ≡ Err refusal) × (parse_out words tokens room out ≡ out)
      parse-refuses never =
          let r = (refused-exactly (own-laws accepted) (own-end-mark accepted) (λ r vs. refl) tokens (tokens-no-end accepted right) reader.reading).0 never in
          let w = refused-with r.2 in
          (r.0, got_stuck r.1 r.2, w.0, w.1)

      -- accepted exactly when an axiom derives the tokens
      pub parse-accepts-exactly : (answer_number (parse_answer words tokens room (length out)) ≡ 0) ↔ InLanguage (grammar_of words) tokens
      parse-accepts-exactly = (
        (λ e. to uncut-verdict refl e),
        (λ d. ap answer_number (parse-reports (tree-in-language.0 d)).0),
      )
        where
          to : {o : Outcome} → Verdict (grammar_of words) tokens reader.moves o → outcome reader.last ≡ o
              → answer_number (parse_answer words tokens room (length out)) ≡ 0 → InLanguage (grammar_of words) tokens
          to (uncut.accepted t) q e = tree-in-language.1 t
          to (uncut.refused never first) q e =
              let w = ap answer_number (refused-with q).0 in
              let n = (first-refusal-number first).0 in
              absurd (omega arith)

  -- one tree only
  pub one-tree-only : (t t' : AxiomTree (grammar_of words) tokens) → t.of_root.tree ≡ t'.of_root.tree
  one-tree-only = one-axiom-tree (own-laws accepted) (own-end-mark accepted) (λ r vs. refl) tokens (tokens-no-end accepted right)
