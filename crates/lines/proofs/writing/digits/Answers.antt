-- A number of at least so many tens has a digit for each, and one more.
use Rattle.std.proofs.Common.{ℕ, zero, suc, ◌+◌, ◌*◌, ◌/◌, ◌^◌, ◌<◌, ◌≤◌, ◌≡◌, length, sym, pow-suc, arith}
use Rattle.laws.specs.Decimals.{decimal, length-small, length-large}
use Rattle.lines.proofs.writing.digits.Goals as goal

counted : (k v : ℕ) → 10 ^ k ≤ v → v < 10 * 10 ^ k → length (decimal v) ≡ k + 1
counted zero v h s = length-small v (omega arith)
counted (suc k) v h s =
    omega (
      arith,
      length-large v (omega (arith, pow-suc 10 k)),
      counted k (v / 10) (omega (arith, pow-suc 10 k)) (omega (arith, pow-suc 10 k)),
    )

pub returns-then-value-lt10-clause-is : goal.returns-then-value-lt10-clause-is
returns-then-value-lt10-clause-is c = sym (length-small c.args.value c.if-value-lt10.true)

pub returns-then-value-lt100-clause-is : goal.returns-then-value-lt100-clause-is
returns-then-value-lt100-clause-is c =
    let v = c.args.value in
    omega (arith, length-large v (omega arith), length-small (v / 10) (omega arith))

pub returns-clause-is : goal.returns-clause-is
returns-clause-is c = sym (counted c.ilog10.result c.args.value c.ilog10.ensures.power_le c.ilog10.ensures.next_power_gt)
