-- What is proved of specs' Moves. The one move of a chunk, by document 01's rules 1 to 6 in that order, for every stack and every next symbol.
--
-- Main statement: moved (every move, by the rule that made it).
use Rattle.std.specs.Prelude.{◌≡◌, refl, Bool, true, false, ◌&&◌, List, [], map, ℕ, eqb}
use Rattle.std.proofs.Math.Option.{Option, none, some}
use Rattle.language.specs.Symbols.{Relation, blank, yields, equal, takes}
use Rattle.machine.specs.Entries.{Unread, terminal_at, nonterminal_at, Entry, symbol, top_terminal, top_is_nonterminal, Handle, handle_of}
use Rattle.machine.specs.Moves.{Moved, Table, by_rule_1, by_rule_1_stuck, by_rule_2, by_rule_3, by_rule_4_equal, by_rule_4_last, by_rule_4_stuck, by_rule_4_yields, by_rule_5, by_rule_5_stuck}
use Rattle.machine.specs.Moves.{by_rule_6, equalled, is_whole, move, read_last, read_nonterminal, read_terminal, reduce_by, related, taken}

module _ {Value : Type 0} (table : Table Value) where
  pub moved : (stack : List (Entry Value)) (b : Unread Value) → Moved table stack b (move table stack b)
  moved stack (nonterminal_at k v) = go (top_is_nonterminal stack) refl
    where
      go : (c : Bool) → top_is_nonterminal stack ≡ c → Moved table stack (nonterminal_at k v) (read_nonterminal table c k v stack)
      go true q = by_rule_1_stuck q
      go false q = by_rule_1 q
  moved stack (terminal_at b v) = go₁ (top_terminal stack) refl
    where
      go₅ : {a : ℕ} (h : Handle Value) (c : Option ℕ) → top_terminal stack ≡ some a → table.relation a b ≡ takes → handle_of stack [] ≡ some h
          → table.matching (map symbol h.symbols) ≡ c → Moved table stack (terminal_at b v) (reduce_by table c h)
      go₅ h none t r q m = by_rule_5_stuck h t r q m
      go₅ h (some k) t r q m = by_rule_5 h t r q m

      go₄ : {a : ℕ} (c : Option (Handle Value)) → top_terminal stack ≡ some a → table.relation a b ≡ takes → handle_of stack [] ≡ c
          → Moved table stack (terminal_at b v) (taken table c b v stack)
      go₄ none t r q = by_rule_6 t r q
      go₄ (some h) t r q = go₅ h (table.matching (map symbol h.symbols)) t r q refl

      go₆ : {a : ℕ} (d : Bool) → top_terminal stack ≡ some a → table.relation a b ≡ equal → (eqb a 0 && eqb b 0) ≡ true → is_whole table stack ≡ d
          → Moved table stack (terminal_at b v) (read_last table d stack)
      go₆ true t r q h = by_rule_4_last t r q h
      go₆ false t r q h = by_rule_4_stuck t r q h

      go₃ : {a : ℕ} (c : Bool) → top_terminal stack ≡ some a → table.relation a b ≡ equal → (eqb a 0 && eqb b 0) ≡ c
          → Moved table stack (terminal_at b v) (equalled table c b v stack)
      go₃ true t r q = go₆ (is_whole table stack) t r q refl
      go₃ false t r q = by_rule_4_equal t r q

      go₂ : (a : ℕ) (c : Relation) → top_terminal stack ≡ some a → table.relation a b ≡ c → Moved table stack (terminal_at b v) (related table c a b v stack)
      go₂ a blank t r = by_rule_3 t r
      go₂ a yields t r = by_rule_4_yields t r
      go₂ a equal t r = go₃ (eqb a 0 && eqb b 0) t r refl
      go₂ a takes t r = go₄ (handle_of stack []) t r refl

      go₁ : (c : Option ℕ) → top_terminal stack ≡ c → Moved table stack (terminal_at b v) (read_terminal table c b v stack)
      go₁ none q = by_rule_2 q
      go₁ (some a) q = go₂ a (table.relation a b) q refl
