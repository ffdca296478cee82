-- Rule (f) for one side of a chunk: a scan of its slots passes exactly where they hold whole blocks of symbols, each standing on its
-- slots; it counts those symbols, their terminals and their marks.
-- Document 01, 15 BAD STATE; docs/AREA.md, rules (f) and (g).
-- t, N: how many terminals and nonterminals the grammar has; n: how many tokens the row has.
-- Rests on Blocks.
--
-- Main definitions: rising_words, Placed, Scanned, Passes, HoldsEntries. Main statements: scan-passes, scan-reads.
use Rattle.std.specs.Prelude.{◌≡◌, refl, Bool, true, false, List, [], ◌∷◌, ◌++◌, ℕ, zero, suc, ◌+◌, ◌*◌, ◌-◌, ◌≤◌, ◌<◌, eqb, length, take, Option, Some}
use Rattle.std.proofs.Common.{sym, ap, ◌∙◌, subst, append_assoc, zero-add, arith}
use Rattle.std.proofs.lemmas.Option.{option_and_then_some}
use Rattle.laws.specs.Tests.{eqb-true, ne_eqb, lt-ltb, le-ltb}
use Rattle.laws.specs.Picks.{pick}
use Rattle.language.specs.Trees.{Span}
use Rattle.machine.specs.Entries.{Entry, terminal_on, nonterminal_on, symbol, unmarked}
use Rattle.results.specs.RunsEnd.{one_unless_end, terminals_on}
use Rattle.area.specs.declared.shape.Scan.{Scan}
use Rattle.layout.specs.Layout.{more, size, block, mark_word, stack_size, marks}
use Rattle.layout.specs.Kept.{SymbolInRange}
use Rattle.area.specs.Shape.{tag, one_if_terminal, scan_slot, scanned, fresh_scan, side_fits}
use Rattle.shape.specs.Blocks.{same-some, last_slots, block-slots, EntryStands, word, Opening, tests-to-stands, passed_over, scan-block, SlotView, starts, goes_on, slot-view}

-- entries from the bottom up, as their words stand
abbrev pub rising_words : List (Entry Span) → List ℕ
rising_words [] = []
rising_words (x ∷ entries) = block (mark_word x) (unmarked x) ++ rising_words entries

-- entries side by side on the slots from s up to e
pub data Placed (t N n : ℕ) : ℕ → List (Entry Span) → ℕ → Type 0 where
  no_more : {s e : ℕ} → s ≡ e → Placed t N n s [] e
  then_stands : {s e : ℕ} {x : Entry Span} {entries : List (Entry Span)} → EntryStands t N n s x → Placed t N n (s + size (unmarked x)) entries e
      → Placed t N n s (x ∷ entries) e

pub placed_end : {t N n s e : ℕ} {entries : List (Entry Span)} → Placed t N n s entries e → e ≡ s + stack_size entries
placed_end (no_more q) = omega arith
placed_end (then_stands st p) = omega (arith, placed_end p)

-- ---- entries in place pass the scan

abbrev passed_all : Scan → List (Entry Span) → Scan
passed_all st [] = st
passed_all st (x ∷ entries) = passed_all (passed_over st x) entries

scan-entries : {t N n slot e : ℕ} {entries : List (Entry Span)} → t < 256 → Placed t N n slot entries e → (st : Scan) (words : List ℕ)
    → st.within ≡ 0 → scanned t N n (stack_size entries) slot (rising_words entries ++ words) st ≡ Some (passed_all st entries)
scan-entries few (no_more q) st words i = refl
scan-entries {t} {N} {n} {slot} few (then_stands {x = x} {entries = entries} h p) st words i =
    let e : stack_size entries + size (unmarked x) ≡ size (unmarked x) + stack_size entries = omega arith in
    rw (e, append_assoc (block (mark_word x) (unmarked x)) (rising_words entries) words)
    (scan-block t N n few (stack_size entries) slot st x (rising_words entries ++ words) i h ∙ scan-entries few p (passed_over st x) words refl)

-- a scan that has passed all of these entries and no more
pub record Scanned (entries : List (Entry Span)) (st : Scan) : Type 0 where
  pub fits : side_fits st ≡ true
  pub symbols_are : st.symbols ≡ length entries
  pub terminals_are : st.terminals ≡ terminals_on entries
  pub marks_are : st.marks ≡ marks entries

-- .. and its answer
pub record Passes (entries : List (Entry Span)) (o : Option Scan) : Type 0 where
  pub scan : Scan
  pub is : o ≡ Some scan
  pub scanned_all : Scanned entries scan

pub passes-scan : {entries : List (Entry Span)} {o : Option Scan} {st : Scan} → Passes entries o → o ≡ Some st → Scanned entries st
passes-scan {entries = entries} p e = subst (λ v. Scanned entries v) (same-some (sym p.is ∙ e)) p.scanned_all

terminal-count : (t N : ℕ) → t < 256 → (x : Entry Span) → SymbolInRange t N (symbol (unmarked x)) → (entries : List (Entry Span))
    → terminals_on (x ∷ entries) ≡ one_if_terminal (word x) + terminals_on entries
terminal-count t N few (terminal_on mark a v) r entries = rw (lt-ltb a 256 (omega arith)) (go (eqb a 0))
  where
    go : (b : Bool) → one_unless_end b + terminals_on entries ≡ pick b 0 1 + terminals_on entries
    go true = refl
    go false = refl
terminal-count t N few (nonterminal_on k v) r entries =
    rw (ne_eqb (256 + k) 0 (λ h. omega arith), le-ltb (256 + k) 256 (omega arith)) (sym (zero-add (terminals_on entries)))

record Sums (entries : List (Entry Span)) (st st' : Scan) : Type 0 where
  within_then : st'.within ≡ 0
  symbols_then : st'.symbols ≡ st.symbols + length entries
  terminals_then : st'.terminals ≡ st.terminals + terminals_on entries
  marks_then : st'.marks ≡ st.marks + marks entries

sums : {t N n slot e : ℕ} {entries : List (Entry Span)} → t < 256 → Placed t N n slot entries e → (st : Scan) → st.within ≡ 0
    → Sums entries st (passed_all st entries)
sums few (no_more q) st i = record { within_then = i; symbols_then = omega arith; terminals_then = omega arith; marks_then = omega arith }
sums {t} {N} few (then_stands {x = x} {entries = entries} h p) st i =
    let r = sums few p (passed_over st x) refl in
    let k = terminal-count t N few x h.ranged entries in
    record {
      within_then = r.within_then;
      symbols_then = omega (arith, r.symbols_then);
      terminals_then = omega (arith, r.terminals_then);
      marks_then = omega (arith, r.marks_then);
    }

pub scan-passes : {t N n slot e : ℕ} {entries : List (Entry Span)} → t < 256 → Placed t N n slot entries e → (words : List ℕ)
    → Passes entries (scanned t N n (stack_size entries) slot (rising_words entries ++ words) fresh_scan)
scan-passes {entries = entries} few p words =
    let r = sums few p fresh_scan refl in
    record {
      scan = passed_all fresh_scan entries;
      is = scan-entries few p fresh_scan words refl;
      scanned_all = record {
        fits = rw r.within_then;
        symbols_are = omega (arith, r.symbols_then);
        terminals_are = omega (arith, r.terminals_then);
        marks_are = omega (arith, r.marks_then);
      };
    }

-- ---- a scan that passes has read entries in place

record Read (t N n count slot : ℕ) (words : List ℕ) (st : Scan) : Type 0 where
  entries : List (Entry Span)
  words_are : take (4 * count) words ≡ last_slots st.within st.size ++ rising_words entries
  placed : Placed t N n (slot + st.within) entries (slot + count)

four-more : (count s m l b : ℕ) (words : List ℕ) → take (4 * suc count) (s ∷ m ∷ l ∷ b ∷ words) ≡ s ∷ m ∷ l ∷ b ∷ take (4 * count) words
four-more count s m l b words = let e : 4 * suc count ≡ suc (suc (suc (suc (4 * count)))) = omega arith in rw e

pub placed_at : {t N n s s' e e' : ℕ} {entries : List (Entry Span)} → s ≡ s' → e ≡ e' → Placed t N n s entries e → Placed t N n s' entries e'
placed_at p q r = rw (← p, ← q) r

-- one slot more in front: the first of an entry
read-start : {t N n slot : ℕ} (count s m l b : ℕ) (words : List ℕ) (st st' : Scan) → st.within ≡ 0 → b ≡ tag (l - 1) l → st'.within ≡ l - 1
    → st'.size ≡ l → 0 < l → Opening t N n slot s m l → Read t N n count (slot + 1) words st' → Read t N n (suc count) slot (s ∷ m ∷ l ∷ b ∷ words) st
read-start {t} {N} {n} {slot} count s m l b words st st' i g u v h x r =
    let k : more (unmarked x.entry) ≡ l - 1 = omega (arith, x.size_is) in
    let z : l - 1 + 1 ≡ l = omega arith in
    let there : slot + st.within ≡ slot = omega arith in
    record {
      entries = x.entry ∷ r.entries;
      words_are =
          rw (four-more count s m l b words, r.words_are, u, v, i, block-slots (mark_word x.entry) (unmarked x.entry), x.word_is, x.mark_is, k, z, g);
      placed = rw there (then_stands {e = slot + suc count} x.stands (placed_at (omega (arith, x.size_is)) (omega arith) r.placed));
    }

read_more : {t N n slot : ℕ} (count s m l b : ℕ) (words : List ℕ) {st st' : Scan} → SlotView t N n slot st s m l b st' → Read t N n count (slot + 1) words st'
    → Read t N n (suc count) slot (s ∷ m ∷ l ∷ b ∷ words) st
read_more count s m l b words {st = st} (starts i h q g) r = read-start count s m l b words st _ i g refl refl h (tests-to-stands h q) r
read_more count s m l b words {st = st} (goes_on i p q k g) r =
    let e : st.within ≡ suc (st.within - 1) = omega arith in
    record {
      entries = r.entries;
      words_are = rw (four-more count s m l b words, r.words_are, p, q, k, g) (ap (λ j. last_slots j st.size ++ rising_words r.entries) (sym e));
      placed = placed_at (omega arith) (omega arith) r.placed;
    }

read_all : {t N n : ℕ} (count slot : ℕ) (words : List ℕ) (st : Scan) {end : Scan} → 4 * count ≤ length words → scanned t N n count slot words st ≡ Some end
    → side_fits end ≡ true → Read t N n count slot words st
read_all zero slot words st {end} h e f =
    let i : st.within ≡ 0 = ap (λ (v : Scan). v.within) (same-some e) ∙ eqb-true end.within 0 f in
    record { entries = []; words_are = rw i; placed = no_more {s = slot + st.within} {e = slot + 0} (omega (arith, i)) }
read_all (suc count) slot [] st h e f = absurd (omega arith)
read_all (suc count) slot (s ∷ []) st h e f = absurd (omega arith)
read_all (suc count) slot (s ∷ m ∷ []) st h e f = absurd (omega arith)
read_all (suc count) slot (s ∷ m ∷ l ∷ []) st h e f = absurd (omega arith)
read_all {t} {N} {n} (suc count) slot (s ∷ m ∷ l ∷ b ∷ words) st {end} h e f =
    option_and_then_some (λ v. scanned t N n count (slot + 1) words v) (scan_slot t N n slot st s m l b) end e
    (λ next p q. read_more count s m l b words (slot-view t N n slot st s m l b p) (read_all count (slot + 1) words next (omega arith) q f))

-- the slots of a side, as entries in place
pub record HoldsEntries (t N n from to : ℕ) (words : List ℕ) : Type 0 where
  pub entries : List (Entry Span)
  pub words_are : take (4 * stack_size entries) words ≡ rising_words entries
  pub placed : Placed t N n from entries to

pub scan-reads : {t N n : ℕ} (from to : ℕ) (words : List ℕ) → from ≤ to → 4 * (to - from) ≤ length words
    → {end : Scan} → scanned t N n (to - from) from words fresh_scan ≡ Some end → side_fits end ≡ true → HoldsEntries t N n from to words
scan-reads from to words h l e f =
    let r = read_all (to - from) from words fresh_scan l e f in
    let k : stack_size r.entries ≡ to - from = omega (arith, placed_end r.placed) in
    record { entries = r.entries; words_are = rw k r.words_are; placed = placed_at (omega arith) (omega arith) r.placed }
