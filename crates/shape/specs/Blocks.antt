-- Rule (f) for one symbol: the tests of the words of a block pass exactly for the blocks of symbols that stand on their slots as the
-- rules of a state ask; and what the scan makes of such a block.
-- Document 01, 15 BAD STATE; docs/AREA.md, rule (f).
-- t, N: how many terminals and nonterminals the grammar has; n: how many tokens the row has.
-- Rests on layout's Layout, Kept and area's Shape.
--
-- Main definitions: last_slots (a block's words after its first slot), EntryStands, passed_over.
-- Main statements: block-slots, stands-to-tests, tests-to-stands, scan-block (every such block is passed), slot-view (which slots a
-- scan lets pass); same-some.
use Rattle.std.specs.Prelude.{◌≡◌, Bool, ◌⊎◌, List, [], ◌∷◌, ◌++◌, leb, ltb, replicate, Some, None, unwrap_or, option_and_then}
use Rattle.std.specs.Option.{is_some}
use Rattle.std.proofs.Math.Path.{refl}
use Rattle.std.proofs.Common.{sym, ap, ◌∙◌, subst, inl, inr, zero-add, add-zero}
use Rattle.std.proofs.Math.Bool.{true, false}
use Prim.Native.Nat.{ℕ, zero, suc, ◌+◌, ◌*◌, ◌-◌, ◌≤◌, ◌<◌}
use native.Mathlib.Omega.{arith}
use Rattle.std.proofs.Math.Dec.{eqb}
use Rattle.laws.specs.Tests.{eqb-true, eqb-false, ltb-true, ltb-false, leb-true, eq-eqb, ne_eqb, lt-ltb, le-ltb, le-leb, lt-leb}
use Rattle.laws.specs.Picks.{pick}
use Rattle.laws.specs.Passed.{must-pass, must-fail, both, unless}
use Rattle.language.specs.Symbols.{Symbol, terminal, nonterminal, word_of}
use Rattle.language.specs.Trees.{Span}
use Rattle.machine.specs.Entries.{Unread, terminal_at, Entry, terminal_on, nonterminal_on, symbol, unmarked}
use Rattle.results.specs.RunsEnd.{MarksFine, fine_empty, fine_nonterminal, fine_unmarked, fine_marked}
use Rattle.area.specs.declared.shape.Scan.{Scan}
use Rattle.layout.specs.Layout.{more, size, block, mark_word, span_at, unread_of}
use Rattle.layout.specs.Kept.{Lies, first_end, last_end, within, SymbolInRange}
use Rattle.layout.specs.Lengths.{end-size}
use Rattle.area.specs.Shape.{symbol_fits, place_fits, tag, one_if_terminal, opened, inner, scan_slot, scanned}

-- ---- a block, slot by slot

-- the words of the last k slots of a symbol that has l slots
abbrev pub last_slots : ℕ → ℕ → List ℕ
last_slots zero l = []
last_slots (suc k) l = 0 ∷ 0 ∷ 0 ∷ tag k l ∷ last_slots k l

zeros-slots : (k l : ℕ) → replicate (4 * k) 0 ++ (l ∷ []) ≡ tag k l ∷ last_slots k l
zeros-slots zero l = refl
zeros-slots (suc k) l =
    let e : 4 * suc k ≡ suc (suc (suc (suc (4 * k)))) = omega arith in
    rw (e, zeros-slots k l)

pub block-slots : (mark : ℕ) (x : Unread Span)
    → block mark x ≡ word_of (symbol x) ∷ mark ∷ size x ∷ tag (more x) (size x) ∷ last_slots (more x) (size x)
unfolding block
block-slots mark x = rw (zeros-slots (more x) (size x))

-- ---- a symbol on its slot

-- a symbol with its mark, at this slot: it lies there, it is a symbol of the grammar, and a mark stands on no #
pub record EntryStands (t N n slot : ℕ) (e : Entry Span) : Type 0 where
  pub lies : Lies n slot (unmarked e)
  pub ranged : SymbolInRange t N (symbol (unmarked e))
  pub fine : MarksFine (e ∷ [])

-- what the tests of (f) say of such a symbol's words
pub record Tested (t N n slot s m l : ℕ) : Type 0 where
  pub symbol-fits : symbol_fits t N s m ≡ true
  pub place-fits : place_fits n slot s l ≡ true

abbrev pub word : Entry Span → ℕ
word e = word_of (symbol (unmarked e))

symbol-tested : (t N : ℕ) → t < 256 → (e : Entry Span) → SymbolInRange t N (symbol (unmarked e)) → MarksFine (e ∷ []) → symbol_fits t N (word e) (mark_word e) ≡ true
symbol-tested t N few (terminal_on false a v) r f = rw (le-leb a t r)
symbol-tested t N few (terminal_on true a v) r (fine_marked i f) = rw (i, le-leb a t r)
symbol-tested t N few (nonterminal_on k v) r f =
    rw (lt-leb (256 + k) t (omega arith), le-ltb (256 + k) 256 (omega arith), lt-ltb (256 + k) (256 + N) (omega arith))

word_end : (y : Symbol) → word_of y ≡ 0 → y ≡ terminal 0
word_end (terminal a) e = ap terminal e
word_end (nonterminal k) e = absurd (omega arith)

place-tested : {n slot : ℕ} (x : Unread Span) → Lies n slot x → place_fits n slot (word_of (symbol x)) (size x) ≡ true
place-tested x (first_end q e v) = rw (q, e, end-size x e)
place-tested {n} x (last_end q e v) = rw (q, e, end-size x e, ne_eqb (n + 1) 0 (λ h. omega arith), eq-eqb (n + 1) (n + 1) refl)
place-tested {n} {slot} x (within l h e v) =
    rw (
      ne_eqb slot 0 (λ q. omega arith),
      ne_eqb slot (n + 1) (λ q. omega arith),
      ne_eqb (word_of (symbol x)) 0 (λ q. e (word_end (symbol x) q)),
      le-leb (slot + size x) (n + 1) h,
    )

pub stands-to-tests : {t N n slot : ℕ} → t < 256 → (e : Entry Span) → EntryStands t N n slot e → Tested t N n slot (word e) (mark_word e) (size (unmarked e))
stands-to-tests {t} {N} few e st =
    record { symbol-fits = symbol-tested t N few e st.ranged st.fine; place-fits = place-tested (unmarked e) st.lies }

-- the words of a symbol that pass the tests: which symbol it is, and where it stands
data SymbolView (t N s m : ℕ) : Type 0 where
  is_end : s ≡ 0 → m ≡ 0 → SymbolView t N s m
  is_terminal : (a : ℕ) (mark : Bool) → s ≡ suc a → suc a ≤ t → pick mark 1 0 ≡ m → SymbolView t N s m
  is_nonterminal : (k : ℕ) → s ≡ 256 + k → k < N → m ≡ 0 → SymbolView t N s m

data PlaceView (n slot s l : ℕ) : Type 0 where
  at_end : (slot ≡ 0) ⊎ (slot ≡ n + 1) → s ≡ 0 → l ≡ 1 → PlaceView n slot s l
  inside : 0 < slot → slot + l ≤ n + 1 → (s ≡ 0 → ⊥) → PlaceView n slot s l

end-or-terminal : {t N : ℕ} (s m : ℕ) → s ≤ t → m ≡ 0 → SymbolView t N s m
end-or-terminal zero m h e = is_end refl e
end-or-terminal (suc a) m h e = is_terminal a false refl h (sym e)

some_terminal : {t N : ℕ} (s m : ℕ) → (s ≡ 0 → ⊥) → s ≤ t → m ≡ 1 → SymbolView t N s m
some_terminal zero m i h e = absurd (i refl)
some_terminal (suc a) m i h e = is_terminal a true refl h (sym e)

symbol-view : (t N s m : ℕ) → symbol_fits t N s m ≡ true → SymbolView t N s m
symbol-view t N s m = go (eqb m 0) refl
  where
    unmarked-view : (b : Bool) → leb s t ≡ b → m ≡ 0 → pick b true (pick (ltb s 256) false (ltb s (256 + N))) ≡ true → SymbolView t N s m
    unmarked-view true q e h = end-or-terminal s m (leb-true s t q) e
    unmarked-view false q e h =
        let p = unless (ltb s 256) (ltb s (256 + N)) h in
        let over : 256 ≤ s = ltb-false s 256 p.passes in
        let below : s < 256 + N = ltb-true s (256 + N) p.good in
        is_nonterminal (s - 256) (omega arith) (omega arith) e

    go : (b : Bool) → eqb m 0 ≡ b
        → pick b (pick (leb s t) true (pick (ltb s 256) false (ltb s (256 + N)))) (pick (eqb m 1) (pick (eqb s 0) false (leb s t)) false) ≡ true → SymbolView t N s m
    go true q h = unmarked-view (leb s t) refl (eqb-true m 0 q) h
    go false q h =
        let p = both (eqb m 1) (pick (eqb s 0) false (leb s t)) h in
        let r = unless (eqb s 0) (leb s t) p.good in
        some_terminal s m (eqb-false s 0 r.passes) (leb-true s t r.good) (eqb-true m 1 p.passes)

place_view : (n slot s l : ℕ) → place_fits n slot s l ≡ true → PlaceView n slot s l
place_view n slot s l = go (eqb slot 0) (eqb slot (n + 1)) refl refl
  where
    end : (slot ≡ 0) ⊎ (slot ≡ n + 1) → pick (eqb s 0) (eqb l 1) false ≡ true → PlaceView n slot s l
    end at h = let p = both (eqb s 0) (eqb l 1) h in at_end at (eqb-true s 0 p.passes) (eqb-true l 1 p.good)

    go : (b c : Bool) → eqb slot 0 ≡ b → eqb slot (n + 1) ≡ c
        → pick b (pick (eqb s 0) (eqb l 1) false) (pick c (pick (eqb s 0) (eqb l 1) false) (pick (eqb s 0) false (leb (slot + l) (n + 1)))) ≡ true → PlaceView n slot s l
    go true c q r h = end (inl (eqb-true slot 0 q)) h
    go false true q r h = end (inr (eqb-true slot (n + 1) r)) h
    go false false q r h =
        let p = unless (eqb s 0) (leb (slot + l) (n + 1)) h in
        let some : slot ≡ 0 → ⊥ = eqb-false slot 0 q in
        inside (omega arith) (leb-true (slot + l) (n + 1) p.good) (eqb-false s 0 p.passes)

-- words s, m and l of a slot are those of an entry that stands there
pub record Opening (t N n slot s m l : ℕ) : Type 0 where
  pub entry : Entry Span
  pub word_is : word entry ≡ s
  pub mark_is : mark_word entry ≡ m
  pub size_is : size (unmarked entry) ≡ l
  pub stands : EntryStands t N n slot entry

-- a symbol other than # on the slots from `slot` on, l of them
record Inside (n slot l : ℕ) (y : Symbol) : Type 0 where
  size_is : size (unread_of y (span_at y slot l)) ≡ l
  lies : Lies n slot (unread_of y (span_at y slot l))

inside-lies : (n slot l : ℕ) (y : Symbol) → 0 < slot → 0 < l → slot + l ≤ n + 1 → (y ≡ terminal 0 → ⊥) → Inside n slot l y
inside-lies n slot l (terminal zero) p q h e = absurd (e refl)
inside-lies n slot l (terminal (suc a)) p q h e =
    let k : slot - 1 + l - (slot - 1) - 1 + 1 ≡ l = omega arith in
    record { size_is = k; lies = within p (omega arith) e (ap (λ j. span_at (terminal (suc a)) slot j) (sym k)) }
inside-lies n slot l (nonterminal j) p q h e =
    let k : slot - 1 + l - (slot - 1) - 1 + 1 ≡ l = omega arith in
    record { size_is = k; lies = within p (omega arith) e (ap (λ i. span_at (nonterminal j) slot i) (sym k)) }

mark-fine : (mark : Bool) (a : ℕ) (v : Span) → MarksFine (terminal_on mark (suc a) v ∷ [])
mark-fine true a v = fine_marked (ne_eqb (suc a) 0 (λ h. omega arith)) fine_empty
mark-fine false a v = fine_unmarked fine_empty

mark-number : (mark : Bool) (a : ℕ) (v : Span) → mark_word (terminal_on mark a v) ≡ pick mark 1 0
mark-number true a v = refl
mark-number false a v = refl

end-lies : {n slot : ℕ} → (slot ≡ 0) ⊎ (slot ≡ n + 1) → Lies n slot (terminal_at 0 (span_at (terminal 0) slot 1))
end-lies (inl q) = first_end q refl refl
end-lies (inr q) = last_end q refl refl

opening : {t N n slot s m l : ℕ} → 0 < l → SymbolView t N s m → PlaceView n slot s l → Opening t N n slot s m l
opening {slot = slot} i (is_end e z) (at_end at e' o) =
    record {
      entry = terminal_on false 0 (span_at (terminal 0) slot 1);
      word_is = sym e;
      mark_is = sym z;
      size_is = sym o;
      stands = record { lies = end-lies at; ranged = omega arith; fine = fine_unmarked fine_empty };
    }
opening i (is_end e z) (inside p h f) = absurd (f e)
opening i (is_terminal a mark e h m) (at_end at e' o) = absurd (omega arith)
opening {n = n} {slot = slot} {l = l} i (is_terminal a mark e h m) (inside p q f) =
    let v : Span = span_at (terminal (suc a)) slot l in
    let r = inside-lies n slot l (terminal (suc a)) p i q (λ z. f (e ∙ ap word_of z)) in
    record {
      entry = terminal_on mark (suc a) v;
      word_is = sym e;
      mark_is = mark-number mark (suc a) v ∙ m;
      size_is = r.size_is;
      stands = record { lies = r.lies; ranged = h; fine = mark-fine mark a v };
    }
opening i (is_nonterminal k e h m) (at_end at e' o) = absurd (omega arith)
opening {n = n} {slot = slot} {l = l} i (is_nonterminal k e h m) (inside p q f) =
    let r = inside-lies n slot l (nonterminal k) p i q (λ z. f (e ∙ ap word_of z)) in
    record {
      entry = nonterminal_on k (span_at (nonterminal k) slot l);
      word_is = sym e;
      mark_is = sym m;
      size_is = r.size_is;
      stands = record { lies = r.lies; ranged = h; fine = fine_nonterminal fine_empty };
    }

pub tests-to-stands : {t N n slot s m l : ℕ} → 0 < l → Tested t N n slot s m l → Opening t N n slot s m l
tests-to-stands {t} {N} {n} {slot} {s} {m} {l} i q = opening i (symbol-view t N s m q.symbol-fits) (place_view n slot s l q.place-fits)

-- ---- the scan of a block

-- a scan that has passed an entry
abbrev pub passed_over : Scan → Entry Span → Scan
passed_over st e = record {
  within = 0;
  size = size (unmarked e);
  symbols = st.symbols + 1;
  terminals = st.terminals + one_if_terminal (word e);
  marks = st.marks + mark_word e;
}

abbrev pub scan_at : ℕ → ℕ → ℕ → ℕ → ℕ → Scan
scan_at k l y x m = record { within = k; size = l; symbols = y; terminals = x; marks = m }

module _ (t N n : ℕ) where
  scan-first : (slot : ℕ) (st : Scan) (e : Entry Span) → st.within ≡ 0 → Tested t N n slot (word e) (mark_word e) (size (unmarked e))
      → scan_slot t N n slot st (word e) (mark_word e) (size (unmarked e)) (tag (more (unmarked e)) (size (unmarked e)))
      ≡ Some (scan_at (more (unmarked e)) (size (unmarked e)) (st.symbols + 1) (st.terminals + one_if_terminal (word e)) (st.marks + mark_word e))
  unfolding scan_slot
  scan-first slot st e i q =
      let k : ℕ = more (unmarked e) in
      let z : k + 1 - 1 ≡ k = omega arith in
      let some : eqb (k + 1) 0 ≡ false = ne_eqb (k + 1) 0 (λ h. omega arith) in
      simp (eq-eqb st.within 0 i, some, q.symbol-fits, q.place-fits, z, eq-eqb (tag k (k + 1)) (tag k (k + 1)) refl)

  scan-inner : (slot k l y x m : ℕ) → scan_slot t N n slot (scan_at (suc k) l y x m) 0 0 0 (tag k l) ≡ Some (scan_at k l y x m)
  unfolding scan_slot
  scan-inner slot k l y x m =
      let z : suc k - 1 ≡ k = omega arith in
      simp (ne_eqb (suc k) 0 (λ h. omega arith), z, eq-eqb (tag k l) (tag k l) refl)

  scan-rest : (k count slot l y x m : ℕ) (words : List ℕ)
      → scanned t N n (k + count) slot (last_slots k l ++ words) (scan_at k l y x m) ≡ scanned t N n count (slot + k) words (scan_at 0 l y x m)
  scan-rest zero count slot l y x m words = rw (zero-add count, add-zero slot)
  scan-rest (suc k) count slot l y x m words =
      let a : suc k + count ≡ suc (k + count) = omega arith in
      let b : slot + suc k ≡ slot + 1 + k = omega arith in
      rw (a, b)
      (ap (λ o. option_and_then (λ v. scanned t N n (k + count) (slot + 1) (last_slots k l ++ words) v) o) (scan-inner slot k l y x m)
      ∙ scan-rest k count (slot + 1) l y x m words)

  -- a block is passed
  pub scan-block : t < 256 → (count slot : ℕ) (st : Scan) (e : Entry Span) (words : List ℕ) → st.within ≡ 0 → EntryStands t N n slot e
      → scanned t N n (size (unmarked e) + count) slot (block (mark_word e) (unmarked e) ++ words) st
      ≡ scanned t N n count (slot + size (unmarked e)) words (passed_over st e)
  scan-block few count slot st e words i h =
      let k : ℕ = more (unmarked e) in
      let l : ℕ = size (unmarked e) in
      let a : k + 1 + count ≡ suc (k + count) = omega arith in
      let b : slot + (k + 1) ≡ slot + 1 + k = omega arith in
      rw (block-slots (mark_word e) (unmarked e), a, b)
      (ap (λ o. option_and_then (λ v. scanned t N n (k + count) (slot + 1) (last_slots k l ++ words) v) o) (scan-first slot st e i (stands-to-tests few e h))
      ∙ scan-rest k count (slot + 1) l (st.symbols + 1) (st.terminals + one_if_terminal (word e)) (st.marks + mark_word e) words)

-- ---- what a scan lets pass

pub same-some : {A : Type 0} {x y : A} → Some x ≡ Some y → x ≡ y
same-some {x = x} e = ap (λ o. unwrap_or o x) e

-- a slot that a scan lets pass, and the scan then: the first of a symbol, or one inside a symbol
pub data SlotView (t N n slot : ℕ) (st : Scan) (s m l b : ℕ) : Scan → Type 0 where
  starts : st.within ≡ 0 → 0 < l → Tested t N n slot s m l → b ≡ tag (l - 1) l
      → SlotView t N n slot st s m l b (scan_at (l - 1) l (st.symbols + 1) (st.terminals + one_if_terminal s) (st.marks + m))
  goes_on : 0 < st.within → s ≡ 0 → m ≡ 0 → l ≡ 0 → b ≡ tag (st.within - 1) st.size
      → SlotView t N n slot st s m l b (scan_at (st.within - 1) st.size st.symbols st.terminals st.marks)

module _ (t N n slot : ℕ) (st : Scan) (s m l b : ℕ) {then : Scan} where
  starting : st.within ≡ 0 → opened t N n slot st s m l b ≡ Some then → SlotView t N n slot st s m l b then
  starting i e =
      let p₁ = must-fail is_some None refl (eqb l 0) _ (ap is_some e) in
      let p₂ = must-pass is_some None refl (symbol_fits t N s m) _ p₁.good in
      let p₃ = must-pass is_some None refl (place_fits n slot s l) _ p₂.good in
      let p₄ = must-pass is_some None refl (eqb b (tag (l - 1) l)) _ p₃.good in
      let some : l ≡ 0 → ⊥ = eqb-false l 0 p₁.passes in
      subst (λ v. SlotView t N n slot st s m l b v) (same-some (sym (p₁.is ∙ p₂.is ∙ p₃.is ∙ p₄.is) ∙ e))
      (starts i (omega arith) (record { symbol-fits = p₂.passes; place-fits = p₃.passes }) (eqb-true b (tag (l - 1) l) p₄.passes))

  going_on : (st.within ≡ 0 → ⊥) → inner st s m l b ≡ Some then → SlotView t N n slot st s m l b then
  going_on i e =
      let p₁ = must-pass is_some None refl (eqb s 0) _ (ap is_some e) in
      let p₂ = must-pass is_some None refl (eqb m 0) _ p₁.good in
      let p₃ = must-pass is_some None refl (eqb l 0) _ p₂.good in
      let p₄ = must-pass is_some None refl (eqb b (tag (st.within - 1) st.size)) _ p₃.good in
      subst (λ v. SlotView t N n slot st s m l b v) (same-some (sym (p₁.is ∙ p₂.is ∙ p₃.is ∙ p₄.is) ∙ e))
      (goes_on (omega arith) (eqb-true s 0 p₁.passes) (eqb-true m 0 p₂.passes) (eqb-true l 0 p₃.passes)
      (eqb-true b (tag (st.within - 1) st.size) p₄.passes))

  pub slot-view : scan_slot t N n slot st s m l b ≡ Some then → SlotView t N n slot st s m l b then
  unfolding scan_slot
  slot-view = go (eqb st.within 0) refl
    where
      go : (c : Bool) → eqb st.within 0 ≡ c → pick c (opened t N n slot st s m l b) (inner st s m l b) ≡ Some then → SlotView t N n slot st s m l b then
      go true q e = starting (eqb-true st.within 0 q) e
      go false q e = going_on (eqb-false st.within 0 q) e
