-- Check 4 by places of the run: the symbols from a place of the words to an end, and what is still to be found from that place on.
-- Document 01, 4 FORM: "a right side has two adjacent nonterminals, or no terminal".
-- Rests on Forms.
--
-- Main definition: symbols_in. Main statements: bad-here-at, bad-past-at, bad-end-at; form-is-at.
use Rattle.std.specs.Prelude.{◌≡◌, Bool, true, false, ◌&&◌, List, map, ℕ, suc, ◌+◌, ◌≤◌, ◌<◌, leb, length, get_or, take}
use Rattle.std.proofs.Common.{◌∙◌, arith, add-one, length-take-le, get_or-take}
use Rattle.std.proofs.Math.Seq.{slice}
use Rattle.language.specs.Symbols.{Symbol, symbol_of}
use Rattle.language.specs.Words.{count_r, entry, body_end, grammar_of}
use Rattle.language.specs.CheckForm.{bad_form}
use Rattle.words.specs.Forms.{bad_from, bad-here, bad-past, bad-end, bad-all, form-is}

-- the symbols from place p to the end
abbrev pub symbols_in : List ℕ → ℕ → ℕ → List Symbol
symbols_in words p end = map symbol_of (slice p end words)

module _ (words : List ℕ) (end : ℕ) (fits : end ≤ length words) where
  module _ (p : ℕ) (h : p < end) (bare after : Bool) where
    abbrev here : Bool
    here = leb 256 (get_or words p 0)

    there : p < length (take end words)
    there = omega (arith, length-take-le end words fits)

    same : get_or (take end words) p 0 ≡ get_or words p 0
    same = get_or-take end words p 0 h

    -- two adjacent nonterminals are found, and other words are passed
    pub bad-here-at : (after && here) ≡ true → bad_from bare after (symbols_in words p end) ≡ true
    bad-here-at = rw same at (bad-here (take end words) p there bare after)

    pub bad-past-at : (after && here) ≡ false → bad_from bare after (symbols_in words p end) ≡ bad_from (bare && here) here (symbols_in words (p + 1) end)
    bad-past-at = rw same at (bad-past (take end words) p there bare after)

  -- at the end it is whether there was no terminal
  pub bad-end-at : (p : ℕ) → end ≤ p → (bare after : Bool) → bad_from bare after (symbols_in words p end) ≡ bare
  bad-end-at p h = bad-end (take end words) p (omega (arith, length-take-le end words fits))

-- what check 4 asks of rule r is asked of the symbols of its right side
pub form-is-at : (words : List ℕ) (r start : ℕ) → r < count_r words → start ≡ entry words r + 1
    → bad_form (grammar_of words) r ≡ bad_from true false (symbols_in words start (body_end words r))
form-is-at words r start h e = rw (e, add-one (entry words r)) (form-is words r h ∙ bad-all (symbols_in words (suc (entry words r)) (body_end words r)))
