-- What is proved of specs' CheckSymbols. Check 3, SYMBOL: "a body word is no nonterminal (left) or no symbol"; value: "first such word place".
--
-- Main statement: symbols-find.
use Rattle.std.specs.Prelude.{◌≡◌, Bool, true, ◌&&◌, ◌⊎◌, List, ℕ, ◌+◌, ◌<◌, leb, ltb, eqb, length}
use Rattle.std.proofs.Common.{inl, inr}
use Rattle.laws.specs.Least.{Finds, first_finds}
use Rattle.laws.specs.Tests.{and_both, both-and, or_cases, or-first, or-second, leb-true, le-leb, ltb-true, lt-ltb, eqb-true, eq-eqb, any_below-iff}
use Rattle.language.specs.Words.{word, count_t, count_n, count_r, entry, body_end, outside}
use Rattle.language.proofs.Words.{outside-iff}
use Rattle.language.specs.CheckSymbols.{BadSymbol, NoSymbol, bad_symbol, left-wrong, no_symbol, right-wrong, symbol_stage, wrong_in}

module _ (words : List ℕ) where
  abbrev left_wrong : ℕ → ℕ → Bool
  left_wrong p r = eqb p (entry words r) && leb (count_n words) (word words p)

  abbrev right_wrong : ℕ → ℕ → Bool
  right_wrong p r = ltb (entry words r) p && (ltb p (body_end words r) && no_symbol words (word words p))

  to-symbol : (w : ℕ) → no_symbol words w ≡ true → NoSymbol words w
  to-symbol w e =
      let k = and_both (outside 1 (count_t words) w) (outside 256 (255 + count_n words) w) e in
      record { no_terminal = (outside-iff 1 (count_t words) w).0 k.0; no_nonterminal = (outside-iff 256 (255 + count_n words) w).0 k.1 }

  of-symbol : (w : ℕ) → NoSymbol words w → no_symbol words w ≡ true
  of-symbol w n =
      both-and (outside 1 (count_t words) w) (outside 256 (255 + count_n words) w) ((outside-iff 1 (count_t words) w).1 n.no_terminal)
      ((outside-iff 256 (255 + count_n words) w).1 n.no_nonterminal)

  to-bad : (p : ℕ) → p < length words → bad_symbol words p ≡ true → BadSymbol words p
  to-bad p h e = let k = (any_below-iff (wrong_in words p) (count_r words)).0 e in go k.0 k.1 (or_cases (left_wrong p k.0) (right_wrong p k.0) k.2)
    where
      go : (r : ℕ) → r < count_r words → (left_wrong p r ≡ true) ⊎ (right_wrong p r ≡ true) → BadSymbol words p
      go r i (inl q) =
          let k = and_both (eqb p (entry words r)) (leb (count_n words) (word words p)) q in
          left-wrong i h (eqb-true p (entry words r) k.0) (leb-true (count_n words) (word words p) k.1)
      go r i (inr q) =
          let k = and_both (ltb (entry words r) p) (ltb p (body_end words r) && no_symbol words (word words p)) q in
          let m = and_both (ltb p (body_end words r)) (no_symbol words (word words p)) k.1 in
          right-wrong i h (ltb-true (entry words r) p k.0) (ltb-true p (body_end words r) m.0) (to-symbol (word words p) m.1)

  wrong-below : (p r : ℕ) → r < count_r words → wrong_in words p r ≡ true → bad_symbol words p ≡ true
  wrong-below p r h e = (any_below-iff (wrong_in words p) (count_r words)).1 (r, h, e)

  of-bad : (p : ℕ) → BadSymbol words p → (p < length words) × (bad_symbol words p ≡ true)
  of-bad p (left-wrong {r = r} i h e n) = (
    h,
    wrong-below p r i (or-first (left_wrong p r) (right_wrong p r)
        (both-and (eqb p (entry words r)) (leb (count_n words) (word words p)) (eq-eqb p (entry words r) e) (le-leb (count_n words) (word words p) n))),
  )
  of-bad p (right-wrong {r = r} i h l u n) = (
    h,
    wrong-below p r i (or-second (left_wrong p r) (right_wrong p r)
        (both-and (ltb (entry words r) p) (ltb p (body_end words r) && no_symbol words (word words p)) (lt-ltb (entry words r) p l)
        (both-and (ltb p (body_end words r)) (no_symbol words (word words p)) (lt-ltb p (body_end words r) u) (of-symbol (word words p) n)))),
  )

pub symbols-find : (words : List ℕ) → Finds (BadSymbol words) (symbol_stage.fails_at words)
symbols-find words = first_finds (bad_symbol words) (length words) (BadSymbol words) (to-bad words) (of-bad words)
