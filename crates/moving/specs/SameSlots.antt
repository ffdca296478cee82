-- Two areas with the same slots: the words from the slots on are the same, those before them may differ. What is read of the slots is the same,
-- and what is stored there leaves the same.
-- Rests on MoveWords, ReadWords and MatchWords.
--
-- Main definition: SameSlots. Main statements: same_back; slot_same, stacked-same, laid_same, top-same, nonterminal-same, axiom-same, handle-is-same,
-- whole_same, handle-words-same (what is read); set_same, cleared-same, over-same (what is stored).
use Rattle.std.specs.Prelude.{ℕ, zero, suc, ◌+◌, ◌*◌, ◌-◌, ◌<◌, ◌≤◌, ◌≡◌, refl, Bool, true, false, List, [], ◌∷◌, ◌++◌, ltb, length, get_or, take, drop, set}
use Rattle.std.specs.Prelude.{Option as Answered}
use Rattle.std.proofs.Common.{sym, ap, ◌∙◌, arith, length-set, length-drop, length-take-le, ext_get_or, get_or-append-add, get_or-drop, get_or-set_other, get_or-set_same}
use Rattle.std.proofs.Math.Decide.{dec_lt}
use Rattle.std.proofs.Math.Seq.{set_out}
use Rattle.language.specs.Trees.{Span}
use Rattle.machine.specs.Entries.{Entry}
use Rattle.layout.specs.Layout.{zeros, slots_at, slot_word}
use Rattle.moving.specs.MoveWords.{slot_at, Stands, Laid, cleared_words, laid_words, over_words}
use Rattle.moving.specs.ReadWords.{Holds, Stacked, TopIs, NonterminalOnTop, EndAndAxiom, HandleIs}
use Rattle.moving.specs.MatchWords.{symbol_words, handle_words, Whole, no_block, a_block}
use Rattle.moving.specs.StackWords.{stands_alike}
use Rattle.moving.specs.Ready.{cleared-before, cleared-length}

pub record SameSlots (area other : List ℕ) : Type 0 where
  pub long : length area ≡ length other
  pub chunks : get_or area 1 0 ≡ get_or other 1 0
  pub words : (j : ℕ) → slots_at area ≤ j → get_or area j 0 ≡ get_or other j 0

pub same_back : {area other : List ℕ} → SameSlots area other → SameSlots other area
same_back m = record { long = sym m.long; chunks = sym m.chunks; words = λ j l. sym (m.words j (omega (arith, m.chunks))) }

drop-same : (area other : List ℕ) (i : ℕ) → length area ≡ length other → ((j : ℕ) → i ≤ j → get_or area j 0 ≡ get_or other j 0) → drop i area ≡ drop i other
drop-same area other i e h =
    ext_get_or 0 (drop i area) (drop i other) (simp length-drop (ap (λ (n : ℕ). n - i) e)) (λ k l. get_or-drop i area k 0 ∙ h (i + k) (omega arith) ∙ sym (get_or-drop i other k 0))

-- ---- what is read

module _ {area other : List ℕ} (m : SameSlots area other) where
  pub slot_same : (s k : ℕ) → slot_word area s k ≡ slot_word other s k
  slot_same s k = m.words (slot_at area s + k) (omega arith) ∙ rw m.chunks

  stands_same : {i j : ℕ} {stack : List (Entry Span)} → slots_at area ≤ i → Stands area i j stack → Stands other i j stack
  stands_same l = stands_alike m.long (λ k p q. m.words k (omega arith))

  pub laid_same : {i j : ℕ} → slots_at area ≤ i → Laid area i j → Laid other i j
  laid_same l h = record { stack = h.stack; stands = stands_same l h.stands }

  holds_same : {s e : ℕ} {stack : List (Entry Span)} → Holds area s e stack → Holds other s e stack
  holds_same {s} {e} {stack} h = record { stands = rw m.chunks at (stands_same (omega arith) h.stands); told = h.told }

  pub stacked-same : {s e : ℕ} → Stacked area s e → Stacked other s e
  stacked-same h = record { stack = h.stack; holds = holds_same h.holds; room = rw (m.chunks, m.long) at h.room }

  words_same : (fuel s e : ℕ) → symbol_words fuel area s e ≡ symbol_words fuel other s e
  words_same zero s e = refl
  words_same (suc fuel) s e = go (ltb s e) (words_same fuel (s + slot_word other s 2) e)
    where
      go : (b : Bool) → symbol_words fuel area (s + slot_word other s 2) e ≡ symbol_words fuel other (s + slot_word other s 2) e
          → ◌≡◌ {A = List ℕ} (elim b [ true ↦ slot_word area s 0 ∷ symbol_words fuel area (s + slot_word area s 2) e | false ↦ [] ])
          (elim b [ true ↦ slot_word other s 0 ∷ symbol_words fuel other (s + slot_word other s 2) e | false ↦ [] ])
      go true r = rw (slot_same s 0, slot_same s 2) (ap (λ (l : List ℕ). slot_word other s 0 ∷ l) r)
      go false r = refl

  pub handle-words-same : (s e : ℕ) → handle_words area s e ≡ handle_words other s e
  unfolding handle_words
  handle-words-same s e = words_same (e - s) s e

  pub whole_same : {e s : ℕ} → Whole area e s → Whole other e s
  whole_same (no_block q) = no_block q
  whole_same (a_block {s = s} h w) = a_block (rw (slot_same s 2) at h) (rw (slot_same s 2) at (whole_same w))

module _ {area other : List ℕ} (m : SameSlots area other) {s e : ℕ} where
  pub top-same : {top : Answered ℕ} → TopIs area s e top → TopIs other s e top
  top-same t = record { found = λ stack h. t.found stack (holds_same (same_back m) h) }

  pub nonterminal-same : {on : Bool} → NonterminalOnTop area s e on → NonterminalOnTop other s e on
  nonterminal-same t = record { found = λ stack h. t.found stack (holds_same (same_back m) h) }

  pub axiom-same : {axioms : ℕ} {whole : Bool} → EndAndAxiom area s e axioms whole → EndAndAxiom other s e axioms whole
  axiom-same t = record { found = λ stack h. t.found stack (holds_same (same_back m) h) }

  pub handle-is-same : {start count : ℕ} → HandleIs area s e start count → HandleIs other s e start count
  handle-is-same t = record {
    starts = record { found = λ stack h. t.starts.found stack (holds_same (same_back m) h) };
    counted = λ stack h. t.counted stack (holds_same (same_back m) h);
  }

-- ---- what is stored

-- one word
pub set_same : (area other : List ℕ) → length area ≡ length other → (i v j : ℕ) → get_or area j 0 ≡ get_or other j 0 → get_or (set area i v) j 0 ≡ get_or (set other i v) j 0
set_same area other e i v j h = go (dec_lt j i) (dec_lt i j) (dec_lt i (length area))
  where
    go : Dec (j < i) → Dec (i < j) → Dec (i < length area) → get_or (set area i v) j 0 ≡ get_or (set other i v) j 0
    go (yes l) d k = get_or-set_other area i j v 0 (omega arith) ∙ h ∙ sym (get_or-set_other other i j v 0 (omega arith))
    go (no l) (yes d) k = get_or-set_other area i j v 0 (omega arith) ∙ h ∙ sym (get_or-set_other other i j v 0 (omega arith))
    go (no l) (no d) (yes k) =
        let q : j ≡ i = omega arith in
        rw q (get_or-set_same area i v 0 k ∙ sym (get_or-set_same other i v 0 (omega arith)))
    go (no l) (no d) (no k) = rw (set_out area i v (omega arith), set_out other i v (omega arith)) h

-- `count` words put to 0
pub cleared-same : (area other : List ℕ) → length area ≡ length other → (i count : ℕ) → i + count ≤ length area → ((j : ℕ) → i ≤ j → get_or area j 0 ≡ get_or other j 0)
    → (j : ℕ) → get_or area j 0 ≡ get_or other j 0 → get_or (cleared_words area i count) j 0 ≡ get_or (cleared_words other i count) j 0
unfolding cleared_words
cleared-same area other e i count l h j same = go (dec_lt j i)
  where
    past : (words rest : List ℕ) → length (take i words) ≡ i → i ≤ j → get_or (take i words ++ rest) j 0 ≡ get_or rest (j - i) 0
    past words rest q p =
        let k : j ≡ length (take i words) + (j - i) = omega arith in
        ap (λ (n : ℕ). get_or (take i words ++ rest) n 0) k ∙ get_or-append-add (take i words) rest (j - i) 0

    go : Dec (j < i) → get_or (take i area ++ (zeros count ++ drop (i + count) area)) j 0 ≡ get_or (take i other ++ (zeros count ++ drop (i + count) other)) j 0
    go (yes p) = cleared-before area i count j p (omega arith) ∙ same ∙ sym (cleared-before other i count j p (omega arith))
    go (no p) =
        ap (λ (w : List ℕ). get_or (take i area ++ (zeros count ++ w)) j 0) (drop-same area other (i + count) e (λ k q. h k (omega arith)))
        ∙ past area _ (length-take-le i area (omega arith)) (omega arith) ∙ sym (past other _ (length-take-le i other (omega arith)) (omega arith))

-- one symbol laid on zeros, and laid over a handle
block_same : (area other : List ℕ) → length area ≡ length other → (i symbol size j : ℕ) → get_or area j 0 ≡ get_or other j 0
    → get_or (laid_words area i symbol size) j 0 ≡ get_or (laid_words other i symbol size) j 0
unfolding laid_words
block_same area other e i symbol size j h =
    set_same (set (set area i symbol) (i + 2) size) (set (set other i symbol) (i + 2) size) (simp length-set e) (i + 4 * size - 1) size j
    (set_same (set area i symbol) (set other i symbol) (simp length-set e) (i + 2) size j (set_same area other e i symbol j h))

pub over-same : {area other : List ℕ} (m : SameSlots area other) (from head symbol : ℕ) → from < head → slot_at area head ≤ length area
    → (j : ℕ) → get_or area j 0 ≡ get_or other j 0 → get_or (over_words area from head symbol) j 0 ≡ get_or (over_words other from head symbol) j 0
over-same {area} {other} m from head symbol l room j same =
    let i : ℕ = slot_at area from in
    let count : ℕ = slot_at area head - slot_at area from in
    let in_area : i + count ≤ length area = omega arith in
    let long : length (cleared_words area i count) ≡ length (cleared_words other i count)
    = cleared-length area i count in_area ∙ m.long ∙ sym (cleared-length other i count (omega (arith, m.long))) in
    rw (← m.chunks)
    (block_same (cleared_words area i count) (cleared_words other i count) long i symbol (head - from) j
    (cleared-same area other m.long i count in_area (λ k q. m.words k (omega arith)) j same))
