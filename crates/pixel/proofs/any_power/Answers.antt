-- `pixel::any_power` meets its contract: below an exponent field a power of two is one digit.
use Prim.Native.Nat.{ℕ, ◌*◌, ◌^◌, ◌%◌, ◌<◌, ◌≤◌}
use native.Mathlib.Omega.{arith}
use lib.Pow.{pow-lt}
use borrow.Author.Rules.{rules}
use Rattle.pixel.proofs.Laws.Patterns.{digit_is, number}
use Rattle.pixel.proofs.any_power.Goals as goal

pub float_from_bits-result : goal.float_from_bits-result
float_from_bits-result c = number _ (small c.args.j (search rules))
  where
    small : (j : ℕ) → j < 23 → 1 * 2 ^ j % 4294967296 ≤ 2139095040
    small j h = omega (arith, pow-lt {j = 23} h)

pub returns-then-j-lt23 : goal.returns-then-j-lt23
returns-then-j-lt23 c = digit_is c.args.j (search rules)
