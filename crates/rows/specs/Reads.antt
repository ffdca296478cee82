-- What it means to have read an input: its bytes are one text, and the answer and the buffers are what that text gives.
-- Document 01, "Sample rows": "Text after the third line is not read".
-- Rests on text's TextFed.
--
-- Main definition: ReadsText.
use Rattle.std.specs.Prelude.{◌≡◌, List, ℕ, ◌^◌, ◌<◌, length, ⊤, Some, None, Result}
use Rattle.std.specs.declared.option.Option.{Option}
use Rattle.text.specs.declared.reading.Counts.{Counts}
use Rattle.text.specs.declared.reading.Line.{Line}
use Rattle.text.specs.Readings.{read_text}
use Rattle.text.specs.TextFed.{answer_for, TextHeld}

-- `said` is the answer to the bytes that the input had left, where these are known, and the buffers, W T C before, hold what they say.
-- No input that is read has 2 ^ 64 bytes.
abbrev pub ReadsText : List ℕ → List ℕ → List ℕ → Option (List ℕ) → Result Counts Line → List ℕ → List ℕ → List ℕ → Type 0
ReadsText W T C None said W' T' C' = ⊤
ReadsText W T C (Some text) said W' T' C' = length text < 2 ^ 64 → (said ≡ answer_for (read_text text)) × TextHeld W T C text W' T' C'
