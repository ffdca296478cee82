-- Lines put one after the other into bytes that have room for all of them: the bytes from the front to the last line's end.
use Rattle.std.specs.Prelude.{◌≡◌, List, [], ◌∷◌, ◌++◌, ℕ, zero, suc, ◌+◌, ◌-◌, ◌*◌, ◌/◌, ◌^◌, ◌≤◌, ◌<◌, length, get_or, take, drop}
use Rattle.std.specs.Simd.{first_chunks}
use Rattle.std.proofs.Common.{sym, ap, ◌∙◌, arith, append_assoc, length-append, add-one, add-zero, get_or-take, get_or-drop}
use Rattle.std.proofs.lemmas.List.{append-nil, length-take-le}
use Rattle.std.proofs.Math.Seq.{take-append_seam}
use Rattle.laws.specs.Ascii.{line_feed, space}
use Rattle.laws.specs.Decimals.{decimal, decimal-length, ten-digits}
use Rattle.laws.specs.Tests.{le-leb}
use Rattle.lines.specs.AnswerLines.{parse_line, entry_line, refused_line, text_line, written, end_after, end-fits}
use Rattle.rows.specs.Answers.{entry_lines}

-- the line of one entry
abbrev pub entry_of : List ℕ → ℕ → List ℕ
entry_of run i = entry_line (get_or run (3 * i) 0) (get_or run (3 * i + 1) 0) (get_or run (3 * i + 2) 0)

-- the words of the entry at i, where the run stands as entries
entry-word : (k i j : ℕ) (run : List ℕ) → i < k → j < 3 → get_or (get_or (first_chunks 3 k run) i []) j 0 ≡ get_or run (3 * i + j) 0
entry-word zero i j run h l = absurd (omega arith)
entry-word (suc k) zero j run h l = get_or-take 3 run j 0 l ∙ ap (λ (at : ℕ). get_or run at 0) (omega arith)
entry-word (suc k) (suc i) j run h l =
    entry-word k i j (drop 3 run) (omega arith) l ∙ get_or-drop 3 run (3 * i + j) 0 ∙ ap (λ (at : ℕ). get_or run at 0) (omega arith)

pub entry-is : (run : List ℕ) (entries : List (List ℕ)) (count i rule first after : ℕ) → entries ≡ first_chunks 3 (length run / 3) run → 3 * count ≤ length run → i < count
    → rule ≡ get_or (get_or (take count entries) i []) 0 0
    → first ≡ get_or (get_or (take count entries) i []) 1 0
    → after ≡ get_or (get_or (take count entries) i []) 2 0
    → entry_line rule first after ≡ entry_of run i
entry-is run entries count i rule first after is room h r f a =
    rw (
      r ∙ word 0 (omega arith) ∙ ap (λ (at : ℕ). get_or run at 0) (add-zero (3 * i)),
      f ∙ word 1 (omega arith),
      a ∙ word 2 (omega arith),
    )
  where
    word : (j : ℕ) → j < 3 → get_or (get_or (take count entries) i []) j 0 ≡ get_or run (3 * i + j) 0
    word j l =
        ap (λ (entry : List ℕ). get_or entry j 0)
        (get_or-take count entries i [] h ∙ ap (λ (es : List (List ℕ)). get_or es i []) is)
        ∙ entry-word (length run / 3) i j run (omega arith) l

-- a line that has room
module _ (out : List ℕ) (at : ℕ) (bytes : List ℕ) (room : at + length bytes ≤ length out) where
  pub line-ends : end_after out at bytes ≡ at + length bytes
  line-ends = sym (end-fits out at bytes room)

  front-long : length (take at out ++ bytes) ≡ at + length bytes
  front-long = length-append (take at out) bytes ∙ ap (λ (n : ℕ). n + length bytes) (length-take-le at out (omega (arith, room)))

  front : (rest : List ℕ) → take (at + length bytes) ((take at out ++ bytes) ++ rest) ≡ take at out ++ bytes
  front rest = rw (← front-long) (take-append_seam (take at out ++ bytes) rest)

  pub line-put : take (end_after out at bytes) (written out at bytes) ≡ take at out ++ bytes
  unfolding written
  line-put =
      rw (line-ends, le-leb (at + length bytes) (length out) room, ← append_assoc (take at out) bytes (drop (at + length bytes) out))
      (front (drop (at + length bytes) out))

-- a line of the whole answer, at the front
pub line-alone : (out bytes : List ℕ) (end : ℕ) (out' : List ℕ) → length bytes ≤ length out → end ≡ end_after out 0 bytes → out' ≡ written out 0 bytes
    → take end out' ≡ bytes
line-alone out bytes end out' h e w = rw (e, w) (line-put out 0 bytes (omega arith))

pub text-short : (line : ℕ) → line < 2 ^ 32 → length (text_line line) ≤ 16
unfolding text_line
text-short line h = omega (arith, length-append (decimal line) (line_feed ∷ []), ten-digits line (omega arith))

pub refused-short : (number value : ℕ) → number < 2 ^ 32 → value < 2 ^ 32 → length (refused_line number value) ≤ 48
unfolding refused_line
refused-short number value h k =
    omega (
      arith,
      length-append (decimal number) (space ∷ (decimal value ++ (line_feed ∷ []))),
      length-append (decimal value) (line_feed ∷ []),
      ten-digits number (omega arith),
      ten-digits value (omega arith),
    )

pub parse-short : (tokens chunks moves : ℕ) → tokens < 2 ^ 32 → chunks < 2 ^ 32 → moves < 2 ^ 32 → length (parse_line tokens chunks moves) ≤ 48
unfolding parse_line
parse-short tokens chunks moves h k l =
    omega (
      arith,
      length-append (decimal tokens) (space ∷ (decimal chunks ++ (space ∷ (decimal moves ++ (line_feed ∷ []))))),
      length-append (decimal chunks) (space ∷ (decimal moves ++ (line_feed ∷ []))),
      length-append (decimal moves) (line_feed ∷ []),
      ten-digits tokens (omega arith),
      ten-digits chunks (omega arith),
      ten-digits moves (omega arith),
    )

entry-short : (rule first after : ℕ) → rule < 2 ^ 16 → first < 2 ^ 16 → after < 2 ^ 16 → length (entry_line rule first after) ≤ 18
unfolding entry_line
entry-short rule first after h k l =
    omega (
      arith,
      length-append (decimal rule) (space ∷ (decimal first ++ (space ∷ (decimal after ++ (line_feed ∷ []))))),
      length-append (decimal first) (space ∷ (decimal after ++ (line_feed ∷ []))),
      length-append (decimal after) (line_feed ∷ []),
      decimal-length 4 rule (omega arith),
      decimal-length 4 first (omega arith),
      decimal-length 4 after (omega arith),
    )

pub entries-short : (run : List ℕ) → ((k : ℕ) → get_or run k 0 < 2 ^ 16) → (count : ℕ) → length (entry_lines run count) ≤ 18 * count
unfolding entry_lines
entries-short run fits zero = omega arith
entries-short run fits (suc count) =
    omega (
      arith,
      length-append (entry_lines run count) (entry_of run count),
      entries-short run fits count,
      entry-short (get_or run (3 * count) 0) (get_or run (3 * count + 1) 0) (get_or run (3 * count + 2) 0) (fits (3 * count)) (fits (3 * count + 1)) (fits (3 * count + 2)),
    )

-- the first entries take no more room than all of them
lines-more : (run : List ℕ) (i more : ℕ) → length (entry_lines run i) ≤ length (entry_lines run (i + more))
unfolding entry_lines
lines-more run i zero = rw (add-zero i) (omega arith)
lines-more run i (suc more) =
    let e : i + suc more ≡ suc (i + more) = omega arith in
    rw e (omega (arith, lines-more run i more, length-append (entry_lines run (i + more)) (entry_of run (i + more))))

-- where all the entries have room, the first i have been put: the place after them, and the bytes up to it
module _ (before : List ℕ) (at : ℕ) (run : List ℕ) (count : ℕ) where
  abbrev pub LinesPut : ℕ → ℕ → List ℕ → Type 0
  LinesPut i end out =
      at + length (entry_lines run count) ≤ length before → (end ≡ at + length (entry_lines run i)) × (take end out ≡ take at before ++ entry_lines run i)

  pub none-put : LinesPut 0 at before
  unfolding entry_lines
  none-put h = (sym (add-zero at), sym (append-nil (take at before)))

  pub one-put : (i end end' : ℕ) (out out' : List ℕ) → i < count → length out ≡ length before → LinesPut i end out → end' ≡ end_after out end (entry_of run i)
      → out' ≡ written out end (entry_of run i) → LinesPut (i + 1) end' out'
  unfolding entry_lines
  one-put i end end' out out' l same p e w h =
      let q = p h in
      let one = length-append (entry_lines run i) (entry_of run i) in
      let c : suc i + (count - suc i) ≡ count = omega arith in
      let more : length (entry_lines run (suc i)) ≤ length (entry_lines run count) = rw c at (lines-more run (suc i) (count - suc i)) in
      let room : end + length (entry_of run i) ≤ length out = omega (arith, q.0, one, more, h, same) in
      rw (add-one i) (
        e ∙ line-ends out end (entry_of run i) room ∙ omega (arith, q.0, one),
        rw (e, w) (line-put out end (entry_of run i) room)
            ∙ ap (λ (front : List ℕ). front ++ entry_of run i) q.1
            ∙ append_assoc (take at before) (entry_lines run i) (entry_of run i),
      )

-- a first line, and the entries after it
pub report-put : (before run : List ℕ) (count : ℕ) (line : List ℕ) (first end : ℕ) (out out' : List ℕ) → length (line ++ entry_lines run count) ≤ length before
    → first ≡ end_after before 0 line → out ≡ written before 0 line → length out ≡ length before
    → (first + length (entry_lines run count) ≤ length out → (end ≡ first + length (entry_lines run count)) × (take end out' ≡ take first out ++ entry_lines run count))
    → take end out' ≡ line ++ entry_lines run count
report-put before run count line first end out out' room e w same put =
    let long = length-append line (entry_lines run count) in
    let fits : length line ≤ length before = omega (arith, long, room) in
    let ends = line-ends before 0 line (omega (arith, fits)) in
    (put (omega (arith, e, ends, same, long, room))).1
    ∙ ap (λ (front : List ℕ). front ++ entry_lines run count) (line-alone before line first out fits e w)
