-- Right sides of checked words, word by word, and how they start: with a terminal, or with a nonterminal and then a terminal.
-- Document 01, "Numbers" ("Terminals are 1 to T, T at most 63"; "Nonterminals are 0 to N-1, N at most 64"; "a terminal as its
-- number, nonterminal k as 256 + k") and 4 FORM: "a right side has two adjacent nonterminals, or no terminal".
-- Rests on Sided, and on words' Rules.
--
-- Main definitions: RightSide, Front, Edged. Main statements: right_side, front, edged, followed.
use Rattle.std.specs.Prelude.{◌≡◌, refl, true, List, [], ◌∷◌, ◌++◌, map, ℕ, suc, ◌-◌, ◌≤◌, ◌<◌, get_or, take, drop}
use Rattle.std.proofs.Common.{ap, ◌∙◌, arith, drop-cons}
use Rattle.std.proofs.lemmas.List.{map-append}
use Rattle.std.proofs.Math.Decide.{dec_lt}
use Rattle.std.proofs.Math.ListN.{length}
use Rattle.std.proofs.Math.Seq.{split_at}
use Rattle.laws.specs.Tests.{up_to-below}
use Rattle.language.specs.Symbols.{terminal, symbol_of}
use Rattle.language.specs.Grammar.{Grammar, in_play, Spells, Has}
use Rattle.language.specs.CheckForm.{form_adjacent, form_bare, no_terminal}
use Rattle.language.proofs.CheckForm.{no-terminal-iff}
use Rattle.words.specs.Rules.{is_terminal, is_nonterminal}
use Rattle.table.specs.Sided.{RulesOf}

-- the words of a right side: each is a terminal 1 to 63 or a nonterminal below 64, no two nonterminals are adjacent, and one is a terminal
pub record RightSide (ws : List ℕ) : Type 0 where
  pub positive : (i : ℕ) → i < length ws → 1 ≤ get_or ws i 0
  pub terminal_low : (i : ℕ) → i < length ws → get_or ws i 0 < 256 → get_or ws i 0 < 64
  pub nonterminal_low : (i : ℕ) → i < length ws → get_or ws i 0 < 320
  pub apart : (i : ℕ) → suc i < length ws → 256 ≤ get_or ws i 0 → get_or ws (suc i) 0 < 256
  pub some_terminal : no_terminal (map symbol_of ws) ≡ true → ⊥

-- the symbol at place i, and two neighbours
has-at : (ws : List ℕ) (i : ℕ) → i < length ws → Has (symbol_of (get_or ws i 0) ∷ []) (map symbol_of ws)
has-at ws i h = record {
  before = map symbol_of (take i ws);
  after = map symbol_of (drop (suc i) ws);
  is = ap (map symbol_of) (split_at ws i 0 h) ∙ map-append symbol_of (take i ws) (get_or ws i 0 ∷ drop (suc i) ws);
}

has-two : (ws : List ℕ) (i : ℕ) → suc i < length ws → Has (symbol_of (get_or ws i 0) ∷ symbol_of (get_or ws (suc i) 0) ∷ []) (map symbol_of ws)
has-two ws i h =
    let cut : ws ≡ take i ws ++ (get_or ws i 0 ∷ get_or ws (suc i) 0 ∷ drop (suc (suc i)) ws) =
    split_at ws i 0 (omega arith) ∙ ap (λ rest. take i ws ++ (get_or ws i 0 ∷ rest)) (drop-cons ws (suc i) 0 h) in
    record {
      before = map symbol_of (take i ws);
      after = map symbol_of (drop (suc (suc i)) ws);
      is = ap (map symbol_of) cut ∙ map-append symbol_of (take i ws) (get_or ws i 0 ∷ get_or ws (suc i) 0 ∷ drop (suc (suc i)) ws);
    }

module _ {g : Grammar} {count : ℕ} {left : ℕ → ℕ} {right : ℕ → List ℕ} (rules : RulesOf g count left right) where
  pub spelled : (r : ℕ) → r < count → Spells g r (map symbol_of (right r))
  spelled r h = record { plays = rules.plays r h; spelling = rules.right_is r h }

  pub right_side : (r : ℕ) → r < count → RightSide (right r)
  unfolding in_play
  right_side r h = record {
    positive = λ i k. some i k (dec_lt (get_or (right r) i 0) 256);
    terminal_low = λ i k l. omega (arith, rules.range.terminal_within (spelled r h) (terminal-at i k l), rules.terminals);
    nonterminal_low = λ i k. low i k (dec_lt (get_or (right r) i 0) 256);
    apart = λ i k l. next i k l (dec_lt (get_or (right r) (suc i) 0) 256);
    some_terminal = λ e. rules.forms r (form_bare below (rw (rules.right_is r h) ((no-terminal-iff (map symbol_of (right r))).0 e)));
  }
    where
      below : r < length g.rules
      below = up_to-below (length g.rules) r (rules.plays r h)

      terminal-at : (i : ℕ) → i < length (right r) → get_or (right r) i 0 < 256 → Has (terminal (get_or (right r) i 0) ∷ []) (map symbol_of (right r))
      terminal-at i k l = rw (is_terminal (get_or (right r) i 0) l) at (has-at (right r) i k)

      some : (i : ℕ) → i < length (right r) → Dec (get_or (right r) i 0 < 256) → 1 ≤ get_or (right r) i 0
      some i k (yes l) = rules.range.terminal_positive (spelled r h) (terminal-at i k l)
      some i k (no l) = omega arith

      low : (i : ℕ) → i < length (right r) → Dec (get_or (right r) i 0 < 256) → get_or (right r) i 0 < 320
      low i k (yes l) = omega arith
      low i k (no l) =
          let s = rw (is_nonterminal (get_or (right r) i 0) (omega arith)) at (has-at (right r) i k) in
          omega (arith, rules.range.nonterminal_below (spelled r h) s, rules.nonterminals)

      next : (i : ℕ) → suc i < length (right r) → 256 ≤ get_or (right r) i 0 → Dec (get_or (right r) (suc i) 0 < 256) → get_or (right r) (suc i) 0 < 256
      next i k l (yes n) = n
      next i k l (no n) =
          let s = rw (is_nonterminal (get_or (right r) i 0) l, is_nonterminal (get_or (right r) (suc i) 0) (omega arith)) at (has-two (right r) i k) in
          absurd (rules.forms r (form_adjacent below (rw (rules.right_is r h) (record { one = get_or (right r) i 0 - 256; other = get_or (right r) (suc i) 0 - 256; stand = s }))))

-- how a right side starts
pub data Front : List ℕ → Type 0 where
  terminal_first : {a : ℕ} {ws : List ℕ} → a < 64 → Front (a ∷ ws)
  nonterminal_first : {w a : ℕ} {ws : List ℕ} → 256 ≤ w → w < 320 → a < 64 → Front (w ∷ a ∷ ws)

pub front : (ws : List ℕ) → RightSide ws → Front ws
front [] s = absurd (s.some_terminal refl)
front (w ∷ []) s = go (dec_lt w 256)
  where
    go : Dec (w < 256) → Front (w ∷ [])
    go (yes h) = terminal_first (s.terminal_low 0 (omega arith) h)
    go (no h) = absurd (s.some_terminal (rw (is_nonterminal w (omega arith))))
front (w ∷ a ∷ ws) s = go (dec_lt w 256)
  where
    go : Dec (w < 256) → Front (w ∷ a ∷ ws)
    go (yes h) = terminal_first (s.terminal_low 0 (omega arith) h)
    go (no h) =
        let n = s.apart 0 (omega arith) (omega arith) in
        nonterminal_first {w = w} (omega arith) (s.nonterminal_low 0 (omega arith)) (s.terminal_low 1 (omega arith) n)

-- the two outermost words of a right side: a terminal's number and a nonterminal's are below 64, and a terminal follows a nonterminal
pub record Edged (near next : ℕ) : Type 0 where
  pub terminal_near : near < 256 → near < 64
  pub nonterminal_near : near < 320
  pub terminal_next : 256 ≤ near → next < 64

pub edged : {ws : List ℕ} → Front ws → Edged (get_or ws 0 0) (get_or ws 1 0)
edged (terminal_first h) = record { terminal_near = λ l. h; nonterminal_near = omega arith; terminal_next = λ l. absurd (omega arith) }
edged (nonterminal_first h l k) = record { terminal_near = λ n. absurd (omega arith); nonterminal_near = l; terminal_next = λ n. k }

-- a word stands behind a nonterminal that is first
pub followed : {ws : List ℕ} → Front ws → 256 ≤ get_or ws 0 0 → 1 < length ws
followed (terminal_first h) l = absurd (omega arith)
followed (nonterminal_first h l k) n = omega arith
