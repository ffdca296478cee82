-- A turn puts the next number and what stands after it.
use Rattle.std.proofs.Common.{List, [], ◌∷◌, ◌++◌, ℕ, ◌+◌, ◌-◌, ◌<◌, ◌≤◌, ◌≡◌, length, get_or, set, take, drop, sym, ap, ◌∙◌, add-one, arith, append_assoc, length-append, length-set, length-drop, length-take-le, drop-cons, take_at}
use Rattle.std.proofs.lemmas.List.{take_more_set}
use Rattle.laws.specs.Decimals.{decimal}
use Rattle.lines.specs.AnswerLines.{separator, spaced, spaced-length}
use Rattle.lines.proofs.writing.Line.write.Goals as goal

next : (numbers : List ℕ) (i : ℕ) → i < length numbers
    → spaced (drop i numbers) ≡ decimal (get_or numbers i 0) ++ (separator (drop (i + 1) numbers) ∷ spaced (drop (i + 1) numbers))
next numbers i h = rw (drop-cons numbers i 0 h, add-one i)

put : (before digits after rest : List ℕ) (byte at : ℕ) → length before + length digits ≡ at → at < length (before ++ (digits ++ after))
    → take (at + 1) (set (before ++ (digits ++ after)) at byte) ++ rest ≡ before ++ (digits ++ (byte ∷ rest))
put before digits after rest byte at e h =
    let t : take at (before ++ (digits ++ after)) ≡ before ++ digits =
    ap (λ (l : List ℕ). take at l) (sym (append_assoc before digits after)) ∙ take_at (before ++ digits) after at (length-append before digits ∙ e)
    in
    ap (λ (l : List ℕ). l ++ rest) (take_more_set (before ++ (digits ++ after)) at byte h ∙ ap (λ (l : List ℕ). l ++ (byte ∷ [])) t)
    ∙ append_assoc (before ++ digits) (byte ∷ []) rest
    ∙ append_assoc before digits (byte ∷ rest)

pub loop-i-preserved : goal.loop-i-preserved
loop-i-preserved c =
    let l = c.loop-i in
    let numbers = c.self.inside.numbers.now in
    let before = take l.end l.out in
    let digits = c.put_digits.new.out in
    let at = l.end + c.digits.result in
    let after = drop (at - l.end) (drop l.end l.out) in
    let next-length = spaced-length numbers l.i c.loop-i-test.true in
    let before-length = length-take-le l.end l.out (omega (arith, l.invariant.same_length, l.invariant.ends)) in
    let digits-length : length digits ≡ c.digits.result = ap length c.put_digits.ensures ∙ sym c.digits.ensures.is in
    let same : length (before ++ (digits ++ after)) ≡ length c.args.self.now =
    omega (
      arith,
      length-append before (digits ++ after),
      length-append digits after,
      length-drop (at - l.end) (drop l.end l.out),
      length-drop l.end l.out,
      before-length,
      digits-length,
      next-length,
      c.digits.ensures.is,
      l.invariant.same_length,
      l.invariant.ends,
    )
    in
    record {
      same_length = length-set (before ++ (digits ++ after)) at c.separator.result ∙ same;
      ends = omega (arith, next-length, c.digits.ensures.is, l.invariant.ends);
      put =
          put before digits after (spaced (drop (l.i + 1) numbers)) c.separator.result at (omega (arith, before-length, digits-length))
          (omega (arith, same, next-length, c.digits.ensures.is, l.invariant.ends))
          ∙ ap (λ (bytes : List ℕ). before ++ bytes) (rw (c.put_digits.ensures, c.separator.ensures) (sym (next numbers l.i c.loop-i-test.true)))
          ∙ l.invariant.put;
    }
