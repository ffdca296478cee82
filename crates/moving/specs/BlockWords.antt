-- A symbol's block of words where it stands: its words one by one, its clearing, and its laying on zeros.
-- docs/AREA.md: a symbol over k slots is 4k words, symbol, mark, k, zeros, and k again.
-- Rests on MoveWords, on layout's Layout and laws' Parts.
--
-- Main statements: first_word, mark-word, size_word, last_word, start_is; cleared-one (its clearing), laid (its laying).
use Rattle.std.specs.Prelude.{◌≡◌, refl, get_or}
use Rattle.std.proofs.Common.{sym, ◌∙◌, get_or-append-add}
use Rattle.std.proofs.Math.Path.{ap}
use mathlib.Core.List.{List, [], ◌∷◌, ◌++◌, append_assoc}
use Prim.Native.Nat.{ℕ, zero, suc, ◌+◌, ◌*◌, ◌-◌}
use native.Mathlib.Omega.{arith}
use Rattle.std.proofs.Math.ListN.{length, set}
use Rattle.std.proofs.lemmas.List.{length-replicate, replicate-append-replicate, get_or_at}
use Rattle.std.proofs.Math.Seq.{set_at}
use Rattle.laws.specs.Parts.{set-append-add}
use Rattle.language.specs.Symbols.{word_of}
use Rattle.language.specs.Trees.{Span}
use Rattle.machine.specs.Entries.{Unread, symbol}
use Rattle.layout.specs.Layout.{more, size, block, zeros}
use Rattle.moving.specs.MoveWords.{start_of, cleared_one, laid_words}

-- zeros before a zero
pub zeros-snoc : (k : ℕ) (q : List ℕ) → zeros k ++ 0 ∷ q ≡ 0 ∷ (zeros k ++ q)
zeros-snoc zero q = refl
zeros-snoc (suc k) q = ap (λ (l : List ℕ). 0 ∷ l) (zeros-snoc k q)

-- zeros side by side
pub zeros-join : (j k : ℕ) (q : List ℕ) → zeros j ++ (zeros k ++ q) ≡ zeros (j + k) ++ q
zeros-join j k q = sym (append_assoc (zeros j) (zeros k) q) ∙ ap (λ (l : List ℕ). l ++ q) (replicate-append-replicate j k 0)

-- the zeros of a symbol's slots, as its block has them
four : (k : ℕ) (q : List ℕ) → zeros (4 * (k + 1)) ++ q ≡ 0 ∷ 0 ∷ 0 ∷ (zeros (4 * k) ++ 0 ∷ q)
four k q =
    let e : 4 * (k + 1) ≡ suc (suc (suc (suc (4 * k)))) = omega arith in
    rw (e, zeros-snoc (4 * k) q)

-- a block, as its front and its end
apart : (mark : ℕ) (x : Unread Span) (q : List ℕ) → block mark x ++ q ≡ word_of (symbol x) ∷ mark ∷ size x ∷ (zeros (4 * more x) ++ size x ∷ q)
unfolding block
apart mark x q = rw (append_assoc (zeros (4 * more x)) (size x ∷ []) q)

module _ (p : List ℕ) (mark : ℕ) (x : Unread Span) (q : List ℕ) where
  abbrev words : List ℕ
  words = p ++ (block mark x ++ q)

  word_at : (k : ℕ) → get_or words (length p + k) 0 ≡ get_or (word_of (symbol x) ∷ mark ∷ size x ∷ (zeros (4 * more x) ++ size x ∷ q)) k 0
  word_at k = rw (apart mark x q) (get_or-append-add p (word_of (symbol x) ∷ mark ∷ size x ∷ (zeros (4 * more x) ++ size x ∷ q)) k 0)

  pub first_word : get_or words (length p + 0) 0 ≡ word_of (symbol x)
  first_word = word_at 0

  pub mark-word : get_or words (length p + 1) 0 ≡ mark
  mark-word = word_at 1

  pub size_word : get_or words (length p + 2) 0 ≡ size x
  size_word = word_at 2

  module _ (j : ℕ) (h : j ≡ length p + 4 * size x) where
    last-at : j - 1 ≡ length p + suc (suc (suc (4 * more x)))
    last-at = omega arith

    pub last_word : get_or words (j - 1) 0 ≡ size x
    last_word =
        rw (last-at, word_at (suc (suc (suc (4 * more x)))))
        (get_or_at (zeros (4 * more x)) (size x) q 0 (4 * more x) (length-replicate (4 * more x) 0))

    pub start_is : start_of words j ≡ length p
    start_is = rw last_word (omega arith)

    -- its first three words and its last one cleared, all its words are 0
    pub cleared-one : cleared_one words j ≡ p ++ (zeros (4 * size x) ++ q)
    unfolding cleared_one
    cleared-one =
        let s : ℕ = word_of (symbol x) in
        let w : List ℕ = zeros (4 * more x) ++ 0 ∷ q in
        let z : length p + 0 ≡ length p = omega arith in
        let g : set words (j - 1) 0 ≡ p ++ (s ∷ mark ∷ size x ∷ w) =
        rw (
          last-at,
          apart mark x q,
          set-append-add p (s ∷ mark ∷ size x ∷ (zeros (4 * more x) ++ size x ∷ q)) (suc (suc (suc (4 * more x)))) 0,
          set_at (zeros (4 * more x)) (size x) q 0 (4 * more x) (length-replicate (4 * more x) 0),
        ) in
        let i : set (p ++ (s ∷ mark ∷ size x ∷ w)) (length p) 0 ≡ p ++ (0 ∷ mark ∷ size x ∷ w) =
        ap (λ (k : ℕ). set (p ++ (s ∷ mark ∷ size x ∷ w)) k 0) (sym z) ∙ set-append-add p (s ∷ mark ∷ size x ∷ w) 0 0 in
        rw (start_is, g, i, set-append-add p (0 ∷ mark ∷ size x ∷ w) 1 0, set-append-add p (0 ∷ 0 ∷ size x ∷ w) 2 0, four (more x) q)

-- an unmarked symbol laid on zeros is its block
pub laid : (p : List ℕ) (x : Unread Span) (q : List ℕ) (i k : ℕ) → i ≡ length p → k ≡ size x
    → laid_words (p ++ (zeros (4 * size x) ++ q)) i (word_of (symbol x)) k ≡ p ++ (block 0 x ++ q)
unfolding laid_words
laid p x q i k h e =
    let s : ℕ = word_of (symbol x) in
    let w : List ℕ = zeros (4 * more x) ++ 0 ∷ q in
    let a : i ≡ length p + 0 = omega arith in
    let b : i + 2 ≡ length p + 2 = omega arith in
    let c : i + 4 * k - 1 ≡ length p + suc (suc (suc (4 * more x))) = omega arith in
    rw (
      four (more x) q,
      apart 0 x q,
      b,
      c,
      a,
      set-append-add p (0 ∷ 0 ∷ 0 ∷ w) 0 s,
      set-append-add p (s ∷ 0 ∷ 0 ∷ w) 2 k,
      set-append-add p (s ∷ 0 ∷ k ∷ w) (suc (suc (suc (4 * more x)))) k,
      set_at (zeros (4 * more x)) 0 q k (4 * more x) (length-replicate (4 * more x) 0),
      e,
    )
