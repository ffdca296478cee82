-- Rules (d) to (h), the other way: a table that the walk lets pass is the table of some chunks that fit, and the slots that it cuts are
-- theirs.
-- Document 01, 15 BAD STATE; docs/AREA.md, rules (d) to (h).
-- t, N: how many terminals and nonterminals the grammar has; n: how many tokens the row has.
-- Rests on Walks.
--
-- Main definitions: ReadChunks. Main statement: walk-reads.
use Rattle.std.specs.Prelude.{◌≡◌, Bool, List, [], ◌∷◌, ◌++◌, map, reverse, ℕ, zero, suc, ◌+◌, ◌*◌, ◌-◌, ◌≤◌, ◌<◌, ltb, leb, length, get_or, take, drop, Some, None}
use Rattle.std.specs.Option.{is_some}
use Rattle.std.proofs.Math.Path.{refl}
use Rattle.std.proofs.Common.{sym, ap, ap₂, ◌∙◌, subst, zero-add, add-zero, add-one, arith, take-append-drop, drop-drop, take-add, drop-cons}
use Rattle.std.proofs.Math.Bool.{true, false}
use Rattle.std.proofs.lemmas.Bool.{false≢true}
use Rattle.std.proofs.lemmas.Option.{option_and_then_some}
use Rattle.std.proofs.lemmas.List.{reverse-reverse}
use Rattle.std.proofs.Math.Option.{Option, none, some}
use Rattle.std.proofs.Math.Numerals.{add-two, add-three, add-four, add_five}
use Rattle.std.proofs.Math.Dec.{eqb}
use Rattle.std.proofs.Math.ListN.{length-drop}
use Rattle.laws.specs.Tests.{eqb-true, ltb-true, ltb-false, leb-true}
use Rattle.laws.specs.Picks.{pick, each_of}
use Rattle.laws.specs.Passed.{must-pass, both}
use Rattle.language.specs.Trees.{Span}
use Rattle.machine.specs.Entries.{Unread, Entry, unmarked}
use Rattle.machine.specs.Moves.{no_relation, no_rule, not_axiom, side_by_side}
use Rattle.machine.specs.Chunks.{Status, running, stuck, Chunk}
use Rattle.area.specs.declared.shape.Scan.{Scan}
use Rattle.area.specs.declared.shape.Walk.{Walk}
use Rattle.layout.specs.Layout.{stack_size, stack_words, marks, unread_size, unread_words, chunk_size, chunk_words, status_word, row, total, rows, slots, slots_at}
use Rattle.layout.specs.Kept.{StuckFine, not_stuck, stuck_fine}
use Rattle.shape.specs.Encoded.{slots_from}
use Rattle.area.specs.Shape.{side, side_fits, status_fits, gone_fits, bounds_fit, stuck_fits, sides_fit, counted, live_line, line_of, walked}
use Rattle.shape.specs.Blocks.{same-some}
use Rattle.shape.specs.Sides.{rising_words, placed_end, placed_at, Passes, passes-scan, HoldsEntries, scan-reads}
use Rattle.shape.specs.Rising.{rising-stack, plain-unread, plain_of}
use Rattle.shape.specs.Walks.{ChunkFits, AllFit, no_more_fit, gone-fits, live_fits, side-passes}

-- ---- one row of the table

-- a row that a walk lets pass, and the walk then: zeros, or a live chunk's
data LineView (t N : ℕ) (area : List ℕ) (w : Walk) (x f h e y : ℕ) : Walk → Type 0 where
  gone_line : x ≡ 0 → gone_fits f h e y ≡ true → LineView t N area w x f h e y w
  live-line : {stack unread : Scan} → status_fits x ≡ true → bounds_fit (get_or area 0 0) w.at f h e ≡ true
      → side t N area f h ≡ Some stack → side t N area h e ≡ Some unread → sides_fit stack unread x h e y ≡ true
      → LineView t N area w x f h e y (counted w stack unread x e)

module _ (t N : ℕ) (area : List ℕ) (w : Walk) (x f h e y : ℕ) {then : Walk} where
  live_view : live_line t N area w x f h e y ≡ Some then → LineView t N area w x f h e y then
  live_view q =
      let p₁ = must-pass is_some None refl (status_fits x) _ (ap is_some q) in
      let p₂ = must-pass is_some None refl (bounds_fit (get_or area 0 0) w.at f h e) _ p₁.good in
      option_and_then_some _ (side t N area f h) then (sym (p₁.is ∙ p₂.is) ∙ q)
      (λ stack below r. option_and_then_some _ (side t N area h e) then r
      (λ unread above u. with_sides stack unread p₁.passes p₂.passes below above u))
    where
      with_sides : (stack unread : Scan) → status_fits x ≡ true → bounds_fit (get_or area 0 0) w.at f h e ≡ true
          → side t N area f h ≡ Some stack → side t N area h e ≡ Some unread
          → pick (sides_fit stack unread x h e y) (Some (counted w stack unread x e)) None ≡ Some then → LineView t N area w x f h e y then
      with_sides stack unread s b below above u =
          let p = must-pass is_some None refl (sides_fit stack unread x h e y) _ (ap is_some u) in
          subst (λ v. LineView t N area w x f h e y v) (same-some (sym p.is ∙ u)) (live-line s b below above p.passes)

  line_view : line_of t N area w x f h e y ≡ Some then → LineView t N area w x f h e y then
  unfolding line_of
  line_view = go (eqb x 0) refl
    where
      go : (b : Bool) → eqb x 0 ≡ b → pick b (pick (gone_fits f h e y) (Some w) None) (live_line t N area w x f h e y) ≡ Some then
          → LineView t N area w x f h e y then
      go true z q =
          let p = must-pass is_some None refl (gone_fits f h e y) _ (ap is_some q) in
          subst (λ v. LineView t N area w x f h e y v) (same-some (sym p.is ∙ q)) (gone_line (eqb-true x 0 z) p.passes)
      go false z q = live_view q

-- ---- a live chunk's row

record SomeStatus (x : ℕ) : Type 0 where
  status : Status
  word_is : status_word status ≡ x

stuck-status : (x k : ℕ) → x ≡ 17 + k → k ≤ 3 → SomeStatus x
stuck-status x zero q h = record { status = stuck no_relation; word_is = sym q }
stuck-status x (suc zero) q h = record { status = stuck no_rule; word_is = sym q }
stuck-status x (suc (suc zero)) q h = record { status = stuck not_axiom; word_is = sym q }
stuck-status x (suc (suc (suc zero))) q h = record { status = stuck side_by_side; word_is = sym q }
stuck-status x (suc (suc (suc (suc k)))) q h = absurd (omega arith)

status-of : (x : ℕ) → status_fits x ≡ true → SomeStatus x
status-of x = go (eqb x 1) (ltb x 17) refl refl
  where
    go : (b c : Bool) → eqb x 1 ≡ b → ltb x 17 ≡ c → pick b true (pick c false (leb x 20)) ≡ true → SomeStatus x
    go true c q r h = record { status = running; word_is = sym (eqb-true x 1 q) }
    go false true q r h = absurd (false≢true h)
    go false false q r h =
        let low : 17 ≤ x = ltb-false x 17 r in
        let high : x ≤ 20 = leb-true x 20 h in
        stuck-status x (x - 17) (omega arith) (omega arith)

stuck-fine-of : (c : Chunk Span) (h e : ℕ) → h + unread_size c.unread ≡ e → stuck_fits (status_word c.status) h e (marks c.stack) ≡ true → StuckFine c
stuck-fine-of c h e q = go c.status refl
  where
    some : ltb h e ≡ true → c.unread ≡ [] → ⊥
    some k z = omega (arith, ltb-true h e k, ap unread_size z)

    -- stuck, and not with 18
    other : pick (ltb h e) true false ≡ true → (c.status ≡ stuck no_rule → ◌≡◌ {A = ℕ} 0 1) → StuckFine c
    other k z = stuck_fine (some (both (ltb h e) true k).passes) (λ r. absurd (omega (arith, z r)))

    go : (s : Status) → c.status ≡ s → stuck_fits (status_word s) h e (marks c.stack) ≡ true → StuckFine c
    go running r k = not_stuck r
    go (stuck no_relation) r k = other k (λ z. cc)
    go (stuck no_rule) r k =
        let p = both (ltb h e) (leb 1 (marks c.stack)) k in
        stuck_fine (some p.passes) (λ z. leb-true 1 (marks c.stack) p.good)
    go (stuck not_axiom) r k = other k (λ z. cc)
    go (stuck side_by_side) r k = other k (λ z. cc)

-- the chunk of a live row at slot `from`
record LiveChunk (t N n : ℕ) (area : List ℕ) (from x f h e y : ℕ) : Type 0 where
  chunk : Chunk Span
  row_is : x ∷ f ∷ h ∷ e ∷ y ∷ [] ≡ row from (some chunk)
  words_are : take (4 * chunk_size (some chunk)) (slots_from area from) ≡ chunk_words (some chunk)
  end_is : e ≡ from + chunk_size (some chunk)
  fits : ChunkFits t N n from chunk

-- the words of k slots, and of l slots after them
two-parts : (area : List ℕ) (s k l : ℕ) → take (4 * (k + l)) (slots_from area s) ≡ take (4 * k) (slots_from area s) ++ take (4 * l) (slots_from area (s + k))
two-parts area s k l =
    let parts : 4 * (k + l) ≡ 4 * k + 4 * l = omega arith in
    let next : slots_at area + 4 * s + 4 * k ≡ slots_at area + 4 * (s + k) = omega arith in
    rw (parts, take-add (4 * k) (4 * l) (slots_from area s), drop-drop (4 * k) (slots_at area + 4 * s) area, next)

-- a side's entries as a stack, and as unread symbols
record AsStack (entries : List (Entry Span)) : Type 0 where
  words_are : stack_words (reverse entries) ≡ rising_words entries
  size_is : stack_size (reverse entries) ≡ stack_size entries
  marks_are : marks (reverse entries) ≡ marks entries

as-stack : (entries : List (Entry Span)) → AsStack entries
as-stack entries =
    let r = rising-stack entries in
    record {
      words_are = sym (rising-stack (reverse entries)).words_are ∙ ap rising_words (reverse-reverse entries);
      size_is = r.size_is;
      marks_are = r.marks_are;
    }

record AsUnread (entries : List (Entry Span)) : Type 0 where
  words_are : unread_words (map unmarked entries) ≡ rising_words entries
  size_is : unread_size (map unmarked entries) ≡ stack_size entries

as-unread : (entries : List (Entry Span)) → marks entries ≡ 0 → AsUnread entries
as-unread entries h =
    let r = plain-unread (map unmarked entries) in
    record { words_are = sym r.words_are ∙ ap rising_words (plain_of entries h); size_is = sym r.size_is ∙ ap stack_size (plain_of entries h) }

module _ (t N n : ℕ) (few : t < 256) (area : List ℕ) (n-is : get_or area 0 0 ≡ n) (long : slots_at area + 4 * (n + 2) ≤ length area) where
  holds-scanned : {from to : ℕ} (s : HoldsEntries t N n from to (slots_from area from)) → Passes s.entries (side t N area from to)
  holds-scanned {from} {to} s =
      let k : ℕ = 4 * stack_size s.entries in
      let words : List ℕ = slots_from area from in
      side-passes t N n few area n-is s.entries (drop k words) s.placed (sym (take-append-drop k words) ∙ ap (λ l. l ++ drop k words) s.words_are)

  live-chunk : (from x h e y : ℕ) → SomeStatus x → from ≤ n + 1 → from ≤ h → h ≤ e
      → (s : HoldsEntries t N n from h (slots_from area from)) (u : HoldsEntries t N n h e (slots_from area h))
      → y ≡ marks s.entries → marks u.entries ≡ 0 → stuck_fits x h e y ≡ true → LiveChunk t N n area from x from h e y
  live-chunk from x h e y st low p q s u m z k =
      let a = as-stack s.entries in
      let b = as-unread u.entries z in
      let stack : List (Entry Span) = reverse s.entries in
      let unread : List (Unread Span) = map unmarked u.entries in
      let c : Chunk Span = record { stack = stack; unread = unread; status = st.status } in
      let h-is : h ≡ from + stack_size stack = omega (arith, placed_end s.placed, a.size_is) in
      let e-is : e ≡ from + (stack_size stack + unread_size unread) = omega (arith, placed_end u.placed, b.size_is) in
      let y-is : y ≡ marks stack = m ∙ sym a.marks_are in
      let stack-words : take (4 * stack_size stack) (slots_from area from) ≡ stack_words stack = rw a.size_is (s.words_are ∙ sym a.words_are) in
      let unread-words : take (4 * unread_size unread) (slots_from area (from + stack_size stack)) ≡ unread_words unread =
      rw (b.size_is, ← h-is) (u.words_are ∙ sym b.words_are) in
      record {
        chunk = c;
        row_is = λ j. sym st.word_is j ∷ from ∷ h-is j ∷ e-is j ∷ y-is j ∷ [];
        words_are = two-parts area from (stack_size stack) (unread_size unread) ∙ ap₂ (λ p l. p ++ l) stack-words unread-words;
        end_is = e-is;
        fits = record {
          begins = low;
          stack_stands = placed_at refl h-is (rw (reverse-reverse s.entries) s.placed);
          unread_stands = placed_at h-is e-is (rw (plain_of u.entries z) u.placed);
          stuck_fine = stuck-fine-of c h e (omega arith) (rw (st.word_is, ← y-is) k);
        };
      }

  side-reads : (from to : ℕ) → from ≤ to → to ≤ n + 2 → {end : Scan} → side t N area from to ≡ Some end → side_fits end ≡ true
      → HoldsEntries t N n from to (slots_from area from)
  unfolding side
  side-reads from to h l e f =
      scan-reads from to (slots_from area from) h (omega (arith, length-drop (slots_at area + 4 * from) area)) (rw n-is at e) f

  -- .. from the tests of its row
  live-read : (from x f h e y : ℕ) {below above : Scan} → status_fits x ≡ true → bounds_fit (get_or area 0 0) from f h e ≡ true
      → side t N area f h ≡ Some below → side t N area h e ≡ Some above → sides_fit below above x h e y ≡ true → LiveChunk t N n area from x f h e y
  live-read from x f h e y {below} {above} i b below-is above-is k =
      let bs = each_of (eqb f from ∷ leb f (get_or area 0 0 + 1) ∷ leb f h ∷ leb h e ∷ leb e (get_or area 0 0 + 2) ∷ []) b in
      let ks = each_of (side_fits below ∷ side_fits above ∷ eqb above.marks 0 ∷ eqb y below.marks ∷ stuck_fits x h e y ∷ []) k in
      let low : f ≤ n + 1 = rw n-is at (leb-true f (get_or area 0 0 + 1) bs.1.0) in
      let p : f ≤ h = leb-true f h bs.1.1.0 in
      let q : h ≤ e = leb-true h e bs.1.1.1.0 in
      let last : e ≤ n + 2 = rw n-is at (leb-true e (get_or area 0 0 + 2) bs.1.1.1.1.0) in
      let s = side-reads f h p (omega arith) below-is ks.0 in
      let u = side-reads h e q last above-is ks.1.0 in
      let y-is = eqb-true y below.marks ks.1.1.1.0 ∙ (passes-scan (holds-scanned s) below-is).marks_are in
      let none-marked = sym (passes-scan (holds-scanned u) above-is).marks_are ∙ eqb-true above.marks 0 ks.1.1.0 in
      subst (λ v. LiveChunk t N n area v x f h e y) (eqb-true f from bs.0)
      (live-chunk f x h e y (status-of x i) low p q s u y-is none-marked ks.1.1.1.1.0)

-- ---- the table

-- the chunks of the `count` rows from word i on, and of the slots from where the walk stands
pub record ReadChunks (t N n : ℕ) (area : List ℕ) (count i : ℕ) (w : Walk) : Type 0 where
  pub chunks : List (Option (Chunk Span))
  pub count_is : length chunks ≡ count
  pub table_is : take (5 * count) (drop i area) ≡ rows w.at chunks
  pub slots_are : take (4 * total chunks) (slots_from area w.at) ≡ slots chunks
  pub all_fit : AllFit t N n w.at chunks

five-more : (count i : ℕ) (area : List ℕ) → i + 5 ≤ length area
    → take (5 * suc count) (drop i area)
    ≡ (get_or area i 0 ∷ get_or area (i + 1) 0 ∷ get_or area (i + 2) 0 ∷ get_or area (i + 3) 0 ∷ get_or area (i + 4) 0 ∷ []) ++ take (5 * count) (drop (i + 5) area)
five-more count i area h =
    let e : 5 * suc count ≡ suc (suc (suc (suc (suc (5 * count))))) = omega arith in
    let d : (j : ℕ) → j < length area → drop j area ≡ get_or area j 0 ∷ drop (suc j) area = λ j. drop-cons area j 0 in
    let d₃ = d (suc (suc i)) (omega arith) in
    let d₄ = d (suc (suc (suc i))) (omega arith) in
    let d₅ = d (suc (suc (suc (suc i)))) (omega arith) in
    rw (e, add-one, add-two, add-three, add-four, add_five, d i (omega arith), d (suc i) (omega arith), d₃, d₄, d₅)

module _ (t N n : ℕ) (few : t < 256) (area : List ℕ) (n-is : get_or area 0 0 ≡ n) (long : slots_at area + 4 * (n + 2) ≤ length area) where
  -- one row more in front: a number that is gone
  read-gone : (count i : ℕ) (w : Walk) (x f h e y : ℕ)
      → take (5 * suc count) (drop i area) ≡ (x ∷ f ∷ h ∷ e ∷ y ∷ []) ++ take (5 * count) (drop (i + 5) area)
      → x ≡ 0 → gone_fits f h e y ≡ true → ReadChunks t N n area count (i + 5) w → ReadChunks t N n area (suc count) i w
  read-gone count i w x f h e y d z g r =
      let gs = each_of (eqb f 0 ∷ eqb h 0 ∷ eqb e 0 ∷ eqb y 0 ∷ []) g in
      record {
        chunks = none ∷ r.chunks;
        count_is = ap suc r.count_is;
        table_is =
            rw (d, z, eqb-true f 0 gs.0, eqb-true h 0 gs.1.0, eqb-true e 0 gs.1.1.0, eqb-true y 0 gs.1.1.1.0, r.table_is, add-zero w.at);
        slots_are = rw (zero-add (total r.chunks)) r.slots_are;
        all_fit = gone-fits r.all_fit;
      }

  -- .. a live chunk
  read_live : (count i : ℕ) (w w₁ : Walk) (x f h e y : ℕ)
      → take (5 * suc count) (drop i area) ≡ (x ∷ f ∷ h ∷ e ∷ y ∷ []) ++ take (5 * count) (drop (i + 5) area)
      → w₁.at ≡ e → LiveChunk t N n area w.at x f h e y → ReadChunks t N n area count (i + 5) w₁ → ReadChunks t N n area (suc count) i w
  read_live count i w w₁ x f h e y d q k r =
      let a : ℕ = chunk_size (some k.chunk) in
      let b : ℕ = total r.chunks in
      let at_is : w₁.at ≡ w.at + a = q ∙ k.end_is in
      let rest : take (4 * b) (slots_from area (w.at + a)) ≡ slots r.chunks = rw at_is at r.slots_are in
      record {
        chunks = some k.chunk ∷ r.chunks;
        count_is = ap suc r.count_is;
        table_is = d ∙ ap₂ (λ p l. p ++ l) k.row_is (r.table_is ∙ ap (λ j. rows j r.chunks) at_is);
        slots_are = two-parts area w.at a b ∙ ap₂ (λ p l. p ++ l) k.words_are rest;
        all_fit = live_fits k.fits (rw at_is at r.all_fit);
      }

  read_more : (count i : ℕ) {x f h e y : ℕ} {w w₁ : Walk} → LineView t N area w x f h e y w₁
      → take (5 * suc count) (drop i area) ≡ (x ∷ f ∷ h ∷ e ∷ y ∷ []) ++ take (5 * count) (drop (i + 5) area)
      → ReadChunks t N n area count (i + 5) w₁ → ReadChunks t N n area (suc count) i w
  read_more count i {x} {f} {h} {e} {y} {w} (gone_line z g) d r = read-gone count i w x f h e y d z g r
  read_more count i {x} {f} {h} {e} {y} {w} (live-line s b p q k) d r =
      read_live count i w _ x f h e y d refl (live-read t N n few area n-is long w.at x f h e y s b p q k) r

  -- a table that the walk lets pass
  pub walk-reads : (count i : ℕ) (w : Walk) {end : Walk} → i + 5 * count ≤ length area → walked t N area count i w ≡ Some end → ReadChunks t N n area count i w
  walk-reads zero i w l h = record { chunks = []; count_is = refl; table_is = refl; slots_are = refl; all_fit = no_more_fit }
  walk-reads (suc count) i w {end} l h =
      let x : ℕ → ℕ = λ k. get_or area (i + k) 0 in
      option_and_then_some (λ v. walked t N area count (i + 5) v) (line_of t N area w (get_or area i 0) (x 1) (x 2) (x 3) (x 4)) end h
      (λ next p q. read_more count i (line_view t N area w (get_or area i 0) (x 1) (x 2) (x 3) (x 4) p) (five-more count i area (omega arith))
      (walk-reads count (i + 5) next (omega arith) q))
