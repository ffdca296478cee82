-- The last digit, and before it the digits of the tenth of the number, where it has more than one digit.
use Rattle.std.proofs.Common.{List, [], ◌∷◌, ◌++◌, ℕ, ◌+◌, ◌-◌, ◌%◌, ◌<◌, ◌≡◌, refl, length, set, drop, sym, ap, ◌∙◌, arith, length-take-le, drop_of_length-le}
use Rattle.std.proofs.lemmas.List.{take-set, drop-set}
use Rattle.laws.specs.Decimals.{digit_byte, decimal-small, decimal-large, decimal-some, length-small, length-large}
use Rattle.lines.proofs.writing.+put_digits.Goals as goal

last-set : (bytes : List ℕ) (byte : ℕ) → 0 < length bytes → drop (length bytes - 1) (set bytes (length bytes - 1) byte) ≡ byte ∷ []
last-set bytes byte h = drop-set bytes (length bytes - 1) byte (omega arith) ∙ ap (λ (l : List ℕ). byte ∷ l) (drop_of_length-le bytes (omega arith))

only-set : (bytes : List ℕ) (byte : ℕ) → length bytes ≡ 1 → set bytes (length bytes - 1) byte ≡ byte ∷ []
only-set [] byte e = absurd (omega arith)
only-set (x ∷ []) byte e = refl
only-set (x ∷ y ∷ bytes) byte e = absurd (omega arith)

pub overflow_sub-last : goal.overflow_sub-last
overflow_sub-last t c = omega (arith, decimal-some c.args.value)

pub bounds-out-last : goal.bounds-out-last
bounds-out-last t c = omega (arith, decimal-some c.args.value)

pub put_digits-requires : goal.put_digits-requires
put_digits-requires t c =
    let out = c.args.out.now in
    let last = length out - 1 in (
      omega arith,
      omega (
        arith,
        ap length (take-set out last (digit_byte (c.args.value % 10))),
        length-take-le last out (omega arith),
        length-large c.args.value c.if-value-ge10.true,
      ),
    )

pub returns-then-value-ge10 : goal.returns-then-value-ge10
returns-then-value-ge10 t c =
    rw (c.put_digits.ensures, last-set c.args.out.now (digit_byte (c.args.value % 10)) (omega (arith, decimal-some c.args.value)))
    (sym (decimal-large c.args.value c.if-value-ge10.true))

pub returns-else-value-ge10 : goal.returns-else-value-ge10
returns-else-value-ge10 t c =
    let e : c.args.value % 10 ≡ c.args.value = omega arith in
    only-set c.args.out.now (digit_byte (c.args.value % 10)) (c.requires ∙ length-small c.args.value c.if-value-ge10.false)
    ∙ rw (e, decimal-small c.args.value c.if-value-ge10.false)
