-- What is proved of specs' Loads. Loading a grammar and asking a set: the answers, what is left in the lent bytes, and when exactly each refusal is given.
--
-- Main statements: conflict-given, load-room-given, accepted-exactly, no-nonterminal-given, set_given.
use Rattle.std.specs.Prelude.{◌≡◌, refl, true, ◌↔◌, List, [], ◌∷◌, ℕ, ◌≤◌, ◌<◌, ltb, leb, Ok, Err}
use Rattle.std.proofs.Common.{arith}
use Rattle.laws.specs.Least.{Least, Nowhere, Finds, finds-none}
use Rattle.laws.specs.Tests.{ltb-true, ltb-false, lt-ltb, leb-true, leb-false, le-leb, false-unless}
use Rattle.refusals.specs.declared.Refusal.TheVariants.{Conflict, NoRoom, NoNonterminal}
use Rattle.refusals.specs.Answers.{Answer}
use Rattle.language.specs.Words.{count_n, grammar_of}
use Rattle.language.specs.Stages.{stages_of, all_asked, Ready, ready, finding, Given, passes_all, fails, passes}
use Rattle.language.proofs.Stages.{none_left}
use Rattle.language.specs.Stages.{then_checked, Follows, stands, goes_on}
use Rattle.language.proofs.Stages.{checked-append, follows-exactly, failing-finds}
use Rattle.language.specs.Checks.{word_conditions, check_words, Passed}
use Rattle.language.proofs.Checks.{words-told, words-pass}
use Rattle.language.specs.Conflicts.{ConflictFree, ConflictAt}
use Rattle.language.proofs.Conflicts.{conflict-finds, conflict-none}
use Rattle.language.proofs.WordsInRange.{in_range, few-terminals}
use Rattle.language.specs.Loads.{Accepted, LoadInput, NoRoomForMatrix, NoSuchNonterminal, SetInput, conflict_condition, load_answer, matrix_room, nonterminal_condition, past-the-last, past_the_last, room_condition}
use Rattle.language.specs.Loads.{set_checked, too_short}

-- ---- load

pub room-finds : (input : LoadInput) → Finds (NoRoomForMatrix input) (matrix_room input)
room-finds input = failing-finds (NoRoomForMatrix input) (ltb input.room 4096) 4096 (λ e. too_short (ltb-true input.room 4096 e) refl) of
  where
    of : (v : ℕ) → NoRoomForMatrix input v → (ltb input.room 4096 ≡ true) × (v ≡ 4096)
    of v (too_short r q) = (lt-ltb input.room 4096 r, q)

module _ (words : List ℕ) (room : ℕ) where
  abbrev input : LoadInput
  input = record { words = words; room = room }

  table-ready : Passed words → Ready input (conflict_condition ∷ room_condition ∷ [])
  table-ready p = finding (conflict-finds (in_range words p.head p.symbols)) (λ n. finding (room-finds input) (λ m. ready))

  -- 6 and 11 follow 1 to 5
  after-words : load_answer words room ≡ then_checked (check_words words) (stages_of (conflict_condition ∷ room_condition ∷ [])) input
  unfolding load_answer check_words
  after-words = checked-append (stages_of (all_asked (λ input. input.words) word_conditions)) (stages_of (conflict_condition ∷ room_condition ∷ [])) input

  by : (answer : Answer) → (load_answer words room ≡ answer) ↔ Follows input (check_words words) (conflict_condition ∷ room_condition ∷ []) answer
  by answer = rw after-words (follows-exactly input (conflict_condition ∷ room_condition ∷ []) (check_words words) (λ d. table-ready ((words-pass words).0 d)) answer)

  passed_then : {answer : Answer} → Passed words → Given input (conflict_condition ∷ room_condition ∷ []) answer → load_answer words room ≡ answer
  passed_then {answer} p g = (by answer).1 (goes_on ((words-pass words).1 p) g)

  -- 6 is given at v exactly when 1 to 5 are not, and v is the least 64a + b of a pair a, b with two relations
  pub conflict-given : (v : ℕ) → (load_answer words room ≡ Err (Conflict v)) ↔ (Passed words × Least (ConflictAt (grammar_of words)) v)
  conflict-given v = (λ e. out ((by (Err (Conflict v))).0 e), λ l. passed_then l.0 (fails l.1))
    where
      out : {v : ℕ} → Follows input (check_words words) (conflict_condition ∷ room_condition ∷ []) (Err (Conflict v)) → Passed words × Least (ConflictAt (grammar_of words)) v
      out {v} (stands e) = elim (words-told words (Err (Conflict v)) e) [ ]
      out (goes_on d (fails l)) = ((words-pass words).0 d, l)
      out (goes_on d (passes n (passes m g))) = none_left input g

  no-conflict : Passed words → Nowhere (ConflictAt (grammar_of words)) → ConflictFree (grammar_of words)
  unfolding grammar_of
  no-conflict p n =
      let r = in_range words p.head p.symbols in
      let few = (few-terminals words p.head).1 in
      (conflict-none r (omega arith)).0 ((finds-none (conflict-finds r)).1 n)

  free-nowhere : ConflictFree (grammar_of words) → Nowhere (ConflictAt (grammar_of words))
  free-nowhere f v c = f _ _ c.1

  -- 11 is given, with value 4,096, exactly when the words are accepted and the run has fewer bytes
  pub load-room-given : (v : ℕ) → (load_answer words room ≡ Err (NoRoom v)) ↔ (Accepted words × (room < 4096) × (v ≡ 4096))
  load-room-given v = (λ e. out ((by (Err (NoRoom v))).0 e), λ l. back l.0 l.1 l.2)
    where
      short : {u : ℕ} → NoRoomForMatrix input u → (room < 4096) × (u ≡ 4096)
      short (too_short r q) = (r, q)

      out : {v : ℕ} → Follows input (check_words words) (conflict_condition ∷ room_condition ∷ []) (Err (NoRoom v)) → Accepted words × (room < 4096) × (v ≡ 4096)
      out {v} (stands e) = elim (words-told words (Err (NoRoom v)) e) [ ]
      out (goes_on d (passes h (fails l))) =
          let p = (words-pass words).0 d in
          (record { passed = p; free = no-conflict p h }, (short l.holds).0, (short l.holds).1)
      out (goes_on d (passes h (passes q g))) = none_left input g

      back : Accepted words → room < 4096 → v ≡ 4096 → load_answer words room ≡ Err (NoRoom v)
      back a r q =
          passed_then a.passed (passes (free-nowhere a.free) (fails (record { holds = too_short r q; least = λ u l n. let z = (short n).1 in omega arith })))

  -- load succeeds exactly when the words are accepted and the run has 4,096 bytes or more
  pub accepted-exactly : (load_answer words room ≡ Ok tt) ↔ (Accepted words × (4096 ≤ room))
  accepted-exactly = (λ e. out ((by (Ok tt)).0 e), λ l. passed_then l.0.passed (passes (free-nowhere l.0.free) (passes (none-short l.1) passes_all)))
    where
      long : Nowhere (NoRoomForMatrix input) → 4096 ≤ room
      long n = ltb-false room 4096 (false-unless (ltb room 4096) (λ e. n 4096 (too_short (ltb-true room 4096 e) refl)))

      none-short : 4096 ≤ room → (v : ℕ) → NoRoomForMatrix input v → ⊥
      none-short h v (too_short r q) = omega arith

      out : Follows input (check_words words) (conflict_condition ∷ room_condition ∷ []) (Ok tt) → Accepted words × (4096 ≤ room)
      out (goes_on d (passes h (passes q passes_all))) =
          let p = (words-pass words).0 d in
          (record { passed = p; free = no-conflict p h }, long q)

-- ---- asking a set

pub nonterminal-finds : (input : SetInput) → Finds (NoSuchNonterminal input) (past_the_last input)
nonterminal-finds input =
    failing-finds (NoSuchNonterminal input) (leb (count_n input.words) input.number) 0
    (λ e. past-the-last (leb-true (count_n input.words) input.number e) refl) of
  where
    of : (v : ℕ) → NoSuchNonterminal input v → (leb (count_n input.words) input.number ≡ true) × (v ≡ 0)
    of v (past-the-last h q) = (le-leb (count_n input.words) input.number h, q)

module _ (words : List ℕ) (k : ℕ) where
  abbrev asking : SetInput
  asking = record { words = words; number = k }

  -- 21 follows 1 to 5
  set-after-words : set_checked words k ≡ then_checked (check_words words) (stages_of (nonterminal_condition ∷ [])) asking
  unfolding set_checked check_words
  set-after-words = checked-append (stages_of (all_asked (λ input. input.words) word_conditions)) (stages_of (nonterminal_condition ∷ [])) asking

  set-by : (answer : Answer) → (set_checked words k ≡ answer) ↔ Follows asking (check_words words) (nonterminal_condition ∷ []) answer
  set-by answer = rw set-after-words (follows-exactly asking (nonterminal_condition ∷ []) (check_words words) (λ d. finding (nonterminal-finds asking) (λ n. ready)) answer)

  -- 21 is given exactly when 1 to 5 are not, and the number is N or above
  pub no-nonterminal-given : (set_checked words k ≡ Err NoNonterminal) ↔ (Passed words × (count_n words ≤ k))
  no-nonterminal-given = (λ e. out ((set-by (Err NoNonterminal)).0 e), λ l. back l.0 l.1)
    where
      past : {v : ℕ} → NoSuchNonterminal asking v → count_n words ≤ k
      past (past-the-last h q) = h

      out : Follows asking (check_words words) (nonterminal_condition ∷ []) (Err NoNonterminal) → Passed words × (count_n words ≤ k)
      out (stands e) = elim (words-told words (Err NoNonterminal) e) [ ]
      out (goes_on d (fails l)) = ((words-pass words).0 d, past l.holds)
      out (goes_on d (passes n g)) = none_left asking g

      back : Passed words → count_n words ≤ k → set_checked words k ≡ Err NoNonterminal
      back p h =
          (set-by (Err NoNonterminal)).1 (goes_on ((words-pass words).1 p) (fails {v = 0} (record { holds = past-the-last h refl; least = λ u l n. omega arith })))

  -- a set is given exactly when 1 to 5 are not, and the number is below N
  pub set_given : (set_checked words k ≡ Ok tt) ↔ (Passed words × (k < count_n words))
  set_given = (λ e. out ((set-by (Ok tt)).0 e), λ l. (set-by (Ok tt)).1 (goes_on ((words-pass words).1 l.0) (passes (none-past l.1) passes_all)))
    where
      low : Nowhere (NoSuchNonterminal asking) → k < count_n words
      low n = leb-false (count_n words) k (false-unless (leb (count_n words) k) (λ e. n 0 (past-the-last (leb-true (count_n words) k e) refl)))

      none-past : k < count_n words → (v : ℕ) → NoSuchNonterminal asking v → ⊥
      none-past h v (past-the-last l q) = omega arith

      out : Follows asking (check_words words) (nonterminal_condition ∷ []) (Ok tt) → Passed words × (k < count_n words)
      out (goes_on d (passes h passes_all)) = ((words-pass words).0 d, low h)
