-- The shape rules are exact: an area is in shape exactly when its words are those of a state that keeps the rules, and then any others.
-- Document 01, 15 BAD STATE: "grammar, matrix or work area breaks the shape rules listed in docs/"; "15 is given whenever one of them is
-- broken and never otherwise".
-- t, N: how many terminals and nonterminals the grammar has; n: how many tokens the row has.
-- Rests on ShapeOfKept, Rules and WalksRead.
--
-- Main definitions: HoldsState, Stated. Main statements: shape-state, shape-exactly.
use Rattle.std.specs.Prelude.{◌≡◌, refl, true, Some, None, ◌↔◌, List, [], ◌∷◌, ◌++◌, ℕ, zero, suc, ◌+◌, ◌*◌, ◌-◌, ◌/◌, ◌%◌, ◌≤◌, ◌<◌, leb, length, get_or, take, drop}
use Rattle.std.specs.Prelude as Prelude
use Rattle.std.proofs.Common.{sym, ap, ap₂, ◌∙◌, zero-add, arith, length-drop}
use Rattle.std.proofs.Math.Option.{Option}
use Rattle.std.proofs.lemmas.Bool.{false≢true}
use Rattle.laws.specs.Tests.{leb-true}
use Rattle.laws.specs.Picks.{each_of}
use Rattle.laws.specs.Passed.{both}
use Rattle.laws.specs.Parts.{held_at}
use Rattle.language.specs.Trees.{Span, Reduction}
use Rattle.language.specs.Reports.{report_words}
use Rattle.machine.specs.Chunks.{Chunk}
use Rattle.machine.specs.States.{State}
use Rattle.results.specs.Bounded.{most_moves}
use Rattle.area.specs.declared.shape.Walk.{Walk}
use Rattle.layout.specs.Layout.{need, front, total, rows, slots, zeros, encode, slots_at, made_at_word}
use Rattle.layout.specs.Kept.{FirstLive, Kept}
use Rattle.area.specs.Shape.{rule_c, fresh_walk, walk_of, first_fits, end_fits, rule_i, rule_j, potential_of, blank, rule_k, walk_fits, area_in_shape}
use Rattle.shape.specs.Walks.{AllFit}
use Rattle.shape.specs.WalksRead.{walk-reads}
use Rattle.shape.specs.Chunkwise.{tiles-from, ranged-from, fine-from, stuck-from}
use Rattle.shape.specs.Encoded.{slots_from, area_is}
use Rattle.shape.specs.Rules.{Counts, walked-counts, total-within, walk-counts, potential-is, first-of, end-of, blank-reads}
use Rattle.shape.specs.ShapeOfKept.{shape-complete}

-- an area holds this state, which keeps the rules; only its first words are the state's, the rest may be any
pub record HoldsState (t N : ℕ) (words : List ℕ) (s : State Span) : Type 0 where
  pub chunks_are : length s.chunks ≡ get_or words 1 0
  pub is : words ≡ encode (get_or words 0 0) s ++ drop (need (get_or words 0 0) (get_or words 1 0)) words
  pub kept : Kept t N (get_or words 0 0) s

pub record Stated (t N : ℕ) (words : List ℕ) : Type 0 where
  pub state : State Span
  pub holds_state : HoldsState t N words state

-- ---- the parts of an area

-- reductions, three words each
record Threes (m : ℕ) (words : List ℕ) : Type 0 where
  made : List (Reduction Span)
  count_is : length made ≡ m
  words_are : take (3 * m) words ≡ report_words made

threes : (m : ℕ) (words : List ℕ) → 3 * m ≤ length words → Threes m words
threes zero words h = record { made = []; count_is = refl; words_are = refl }
threes (suc m) [] h = absurd (omega arith)
threes (suc m) (a ∷ []) h = absurd (omega arith)
threes (suc m) (a ∷ b ∷ []) h = absurd (omega arith)
threes (suc m) (a ∷ b ∷ c ∷ words) h =
    let r = threes m words (omega arith) in
    let e : 3 * suc m ≡ suc (suc (suc (3 * m))) = omega arith in
    record {
      made = record { rule = a; value = record { first = b; after = c } } ∷ r.made;
      count_is = ap suc r.count_is;
      words_are = rw e (ap {B = List ℕ} (λ l. a ∷ b ∷ c ∷ l) r.words_are);
    }

front-is : (words : List ℕ) → 5 ≤ length words → get_or words 2 0 < 65536
    → words ≡ front (get_or words 0 0) (get_or words 1 0) (get_or words 2 0 + 65536 * get_or words 3 0) (get_or words 4 0) ++ drop 5 words
front-is [] h l = absurd (omega arith)
front-is (a ∷ []) h l = absurd (omega arith)
front-is (a ∷ b ∷ []) h l = absurd (omega arith)
front-is (a ∷ b ∷ c ∷ []) h l = absurd (omega arith)
front-is (a ∷ b ∷ c ∷ d ∷ []) h l = absurd (omega arith)
front-is (a ∷ b ∷ c ∷ d ∷ e ∷ words) h l =
    let p : (c + 65536 * d) % 65536 ≡ c = omega arith in
    let q : (c + 65536 * d) / 65536 ≡ d = omega arith in
    rw (p, q)

-- the parts of an area, one after the other
module _ (words : List ℕ) (chunks : List (Option (Chunk Span))) (made : List (Reduction Span)) where
  abbrev n : ℕ
  n = get_or words 0 0

  abbrev state_of : State Span
  state_of = record { chunks = chunks; reductions = made; moves = get_or words 2 0 + 65536 * get_or words 3 0 }

  abbrev after : List ℕ
  after = drop (need n (get_or words 1 0)) words

  assembled : 5 ≤ length words → get_or words 2 0 < 65536 → length chunks ≡ get_or words 1 0 → length made ≡ get_or words 4 0
      → drop 5 words ≡ rows 0 chunks ++ slots_from words 0
      → slots_from words 0 ≡ slots chunks ++ slots_from words (total chunks)
      → slots_from words (total chunks) ≡ zeros (4 * (n + 2 - total chunks)) ++ drop (made_at_word words) words
      → drop (made_at_word words) words ≡ report_words made ++ drop (made_at_word words + 3 * length made) words
      → drop (made_at_word words + 3 * length made) words ≡ zeros (3 * (n - length made)) ++ after
      → words ≡ encode n state_of ++ after
  assembled five low c-is m-is e₁ e₂ e₃ e₄ e₅ =
      let from₄ = e₄ ∙ ap (λ l. report_words made ++ l) e₅ in
      let from₃ = e₃ ∙ ap (λ l. zeros (4 * (n + 2 - total chunks)) ++ l) from₄ in
      let from₁ = e₁ ∙ ap (λ l. rows 0 chunks ++ l) (e₂ ∙ ap (λ l. slots chunks ++ l) from₃) in
      front-is words five low ∙ ap₂ (λ c m. front n c state_of.moves m ++ drop 5 words) (sym c-is) (sym m-is)
      ∙ ap (λ l. front n (length chunks) state_of.moves (length made) ++ l) from₁ ∙ sym (area_is n state_of after)

-- ---- what the rules say of them

-- (c)
record InRanges (words : List ℕ) : Type 0 where
  some_token : 1 ≤ get_or words 0 0
  few_tokens : get_or words 0 0 ≤ 16384
  some_chunk : 1 ≤ get_or words 1 0
  few_chunks : get_or words 1 0 ≤ 64
  long : need (get_or words 0 0) (get_or words 1 0) ≤ length words

in-ranges : (words : List ℕ) → rule_c words ≡ true → InRanges words
in-ranges words h =
    let n : ℕ = get_or words 0 0 in
    let c : ℕ = get_or words 1 0 in
    let r = each_of (leb 1 n ∷ leb n 16384 ∷ leb 1 c ∷ leb c 64 ∷ leb (need n c) (length words) ∷ []) h in
    record {
      some_token = leb-true 1 n r.0;
      few_tokens = leb-true n 16384 r.1.0;
      some_chunk = leb-true 1 c r.1.1.0;
      few_chunks = leb-true c 64 r.1.1.1.0;
      long = leb-true (need n c) (length words) r.1.1.1.1.0;
    }

-- (d) to (h): the chunks of an area
record Chunked (t N : ℕ) (words : List ℕ) (w : Walk) : Type 0 where
  chunks : List (Option (Chunk Span))
  count_is : length chunks ≡ get_or words 1 0
  table_is : drop 5 words ≡ rows 0 chunks ++ slots_from words 0
  slots_are : slots_from words 0 ≡ slots chunks ++ slots_from words (total chunks)
  all_fit : AllFit t N (get_or words 0 0) 0 chunks
  counts : Counts chunks w

chunked : (t N : ℕ) (words : List ℕ) → t < 256 → InRanges words → (w : Walk) → walk_of t N words ≡ Some w → Chunked t N words w
unfolding walk_of
chunked t N words few i w o =
    let r = walk-reads t N (get_or words 0 0) few words refl (omega arith) (get_or words 1 0) 5 fresh_walk (omega arith) o in
    let table = held_at words 5 (5 * get_or words 1 0) (slots_at words + 4 * 0) (rows 0 r.chunks) r.table_is (omega arith) in
    let held = held_at words (slots_at words + 4 * 0) (4 * total r.chunks) (slots_at words + 4 * total r.chunks) (slots r.chunks) r.slots_are (omega arith) in
    let passed = walk-counts few r.all_fit words (slots_from words 0) (slots_from words (total r.chunks)) refl (sym r.count_is) table held in
    record {
      chunks = r.chunks;
      count_is = r.count_is;
      table_is = table;
      slots_are = held;
      all_fit = r.all_fit;
      counts = walked-counts passed o;
    }

-- .. and its reductions
module _ (t N : ℕ) (words : List ℕ) (w : Walk) (i : InRanges words) (k : Chunked t N words w) (made : List (Reduction Span)) (m-is : length made ≡ get_or words 4 0) where
  -- (k): its words are those of a state
  words_of : get_or words 2 0 < 65536 → length made ≤ get_or words 0 0 → take (3 * length made) (drop (made_at_word words) words) ≡ report_words made
      → rule_k words w ≡ true → words ≡ encode (get_or words 0 0) (state_of words k.chunks made) ++ after words k.chunks made
  words_of low l q h =
      let n : ℕ = get_or words 0 0 in
      let c : ℕ = total k.chunks in
      let made-from : ℕ = made_at_word words in
      let unused-from : ℕ = made_at_word words + 3 * length made in
      let within : c ≤ n + 2 = total-within k.all_fit in
      let b = both (blank (made-from - (slots_at words + 4 * w.at)) (slots_from words w.at)) _ h in
      let z : made-from - (slots_at words + 4 * c) ≡ 4 * (n + 2 - c) = omega arith in
      let b₁ : blank (4 * (n + 2 - c)) (slots_from words c) ≡ true = rw z at (rw k.counts.at_is at b.passes) in
      let b₂ : blank (3 * (n - length made)) (drop unused-from words) ≡ true = rw m-is b.good in
      let r₁ = blank-reads (4 * (n + 2 - c)) (slots_from words c) (omega (arith, length-drop (slots_at words + 4 * c) words)) b₁ in
      let r₂ = blank-reads (3 * (n - length made)) (drop unused-from words) (omega (arith, length-drop unused-from words)) b₂ in
      assembled words k.chunks made (omega arith) low k.count_is m-is k.table_is k.slots_are
      (held_at words (slots_at words + 4 * c) (4 * (n + 2 - c)) made-from (zeros (4 * (n + 2 - c))) r₁ (omega arith))
      (held_at words made-from (3 * length made) unused-from (report_words made) q refl)
      (held_at words unused-from (3 * (n - length made)) (need n (get_or words 1 0)) (zeros (3 * (n - length made))) r₂ (omega arith))

  -- .. that keeps the rules
  kept_of : words ≡ encode (get_or words 0 0) (state_of words k.chunks made) ++ after words k.chunks made
      → first_fits words ≡ true → end_fits words w ≡ true → rule_i words w ≡ true → rule_j words w ≡ true
      → Kept t N (get_or words 0 0) (state_of words k.chunks made)
  kept_of is p₁ p₂ p₃ p₄ =
      let n : ℕ = get_or words 0 0 in
      let moves : ℕ = get_or words 2 0 + 65536 * get_or words 3 0 in
      let rest : List ℕ = after words k.chunks made in
      let f : FirstLive k.chunks = first-of n moves made rest k.chunks (omega (arith, k.count_is)) (sym (ap first_fits is) ∙ p₁) in
      record {
        some_token = i.some_token;
        few_tokens = i.few_tokens;
        few_chunks = omega (arith, k.count_is, i.few_chunks);
        first = f;
        end = total k.chunks;
        ending = end-of n moves made rest k.all_fit f k.counts (sym (ap (λ l. end_fits l w) is) ∙ p₂);
        tiles = rw zero-add at (tiles-from k.all_fit);
        ranged = ranged-from k.all_fit;
        fine = fine-from k.all_fit;
        stuck_fine = stuck-from k.all_fit;
        room = omega (arith, leb-true (get_or words 4 0 + w.terminals) n p₃, k.counts.terminals_are);
        bounded = rw (← potential-is k.counts, k.count_is) (leb-true (moves + potential_of w) (most_moves n (get_or words 1 0)) p₄);
      }

-- an area in shape holds a state that keeps the rules
pub shape-state : (t N : ℕ) (words : List ℕ) → t < 256 → get_or words 2 0 < 65536 → area_in_shape t N words ≡ true → Stated t N words
unfolding area_in_shape
shape-state t N words few low h = let p = both (rule_c words) _ h in walked (in-ranges words p.passes) (walk_of t N words) refl p.good
  where
    walked : InRanges words → (o : Prelude.Option Walk) → walk_of t N words ≡ o → walk_fits words o ≡ true → Stated t N words
    walked i None e g = absurd (false≢true g)
    walked i (Some w) e g =
        let r = each_of (first_fits words ∷ end_fits words w ∷ rule_i words w ∷ rule_j words w ∷ rule_k words w ∷ []) g in
        let k = chunked t N words few i w e in
        let few-made : get_or words 4 0 + w.terminals ≤ get_or words 0 0 = leb-true _ _ r.1.1.0 in
        let m = threes (get_or words 4 0) (drop (made_at_word words) words) (omega (arith, length-drop (made_at_word words) words, i.long)) in
        let is = words_of t N words w i k m.made m.count_is low (omega (arith, m.count_is)) (rw m.count_is m.words_are) r.1.1.1.1.0 in
        record {
          state = state_of words k.chunks m.made;
          holds_state = record {
            chunks_are = k.count_is;
            is = is;
            kept = kept_of t N words w i k m.made m.count_is is r.0 r.1.0 r.1.1.0 r.1.1.1.0;
          };
        }

-- in shape exactly when the words are those of a state that keeps the rules
pub shape-exactly : (t N : ℕ) (words : List ℕ) → t < 256 → get_or words 2 0 < 65536 → (area_in_shape t N words ≡ true) ↔ Stated t N words
shape-exactly t N words few low = (shape-state t N words few low, back)
  where
    back : Stated t N words → area_in_shape t N words ≡ true
    back r =
        let k = r.holds_state in
        ap (area_in_shape t N) k.is ∙ shape-complete few k.kept (drop (need (get_or words 0 0) (get_or words 1 0)) words)
