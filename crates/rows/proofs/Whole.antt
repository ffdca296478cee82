-- What is written for what an input says: the numbers at the buffers' fronts are those of its lines.
use Rattle.std.specs.Prelude.{◌≡◌, refl, List, ℕ, ◌^◌, ◌≤◌, ◌<◌, length, take, drop, None, Some, IfSome, Result}
use Rattle.std.proofs.Common.{ap, ◌∙◌}
use Rattle.std.proofs.Math.Seq.{take-append_seam}
use Rattle.std.specs.declared.option.Option.{Option}
use Rattle.text.specs.declared.reading.Counts.{Counts}
use Rattle.text.specs.declared.reading.Held.{Held}
use Rattle.text.specs.declared.reading.Line.{Line}
use Rattle.text.specs.Readings.{most_words, most_tokens, most_cuts, Reading, lines, bad_line, read_text}
use Rattle.text.specs.TextFed.{answer_for, onto, TextHeld}
use Rattle.text.proofs.TextFed.{buffers-hold}
use Rattle.rows.specs.Reads.{ReadsText}
use Rattle.rows.specs.Answers.{said_text, reading_text, input_text}

-- the numbers at a buffer's front
front : (numbers buffer held : List ℕ) → held ≡ onto numbers buffer → take (length numbers) held ≡ numbers
front numbers buffer held e = rw e (take-append_seam numbers (drop (length numbers) buffer))

pub said-is : (W T C text W' T' C' : List ℕ) → most_words ≤ length W → most_tokens ≤ length T → most_cuts ≤ length C → TextHeld W T C text W' T' C'
    → said_text (answer_for (read_text text)) W' T' C' ≡ input_text text
said-is W T C text W' T' C' w t c h = go (read_text text) refl
  where
    go : (r : Reading) → read_text text ≡ r → said_text (answer_for r) W' T' C' ≡ reading_text r
    go (bad_line l) e = refl
    go (lines words tokens cuts) e =
        let b = buffers-hold W T C w t c text words tokens cuts e in
        rw (
          front words W W' (h.words_held ∙ ap (λ (k : Held). k.words) b),
          front tokens T T' (h.tokens_held ∙ ap (λ (k : Held). k.tokens) b),
          front cuts C C' (h.cuts_held ∙ ap (λ (k : Held). k.cuts) b),
        )

-- what holds of the bytes that are written for an answer holds of those for the text
pub whole-written : (known : Option (List ℕ)) (said : Result Counts Line) (W T C W' T' C' : List ℕ) (P : List ℕ → Type 0) → most_words ≤ length W → most_tokens ≤ length T
    → most_cuts ≤ length C → ReadsText W T C known said W' T' C'
    → P (said_text said W' T' C') → IfSome known (λ text. length text < 2 ^ 64 → P (input_text text))
whole-written None said W T C W' T' C' P w t c r p = tt
whole-written (Some text) said W T C W' T' C' P w t c r p =
    λ short.
    let q = r short in
    let e = ap (λ (a : Result Counts Line). said_text a W' T' C') q.0 ∙ said-is W T C text W' T' C' w t c q.1 in
    rw e at p
