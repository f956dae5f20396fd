-- `pixel::round_down` meets its contract: the bits of the sum end with the whole part or with one more, and the test tells which.
use mathlib.Core.Path.{◌≡◌}
use Prim.Native.Nat.{ℕ, suc, ◌-◌, ◌/◌, ◌%◌, ◌^◌, ◌≤◌}
use native.Mathlib.Omega.{arith}
use lib.Ieee.{binary32, to_bits}
use denote.Floats.{passes}
use Rattle.pixel.specs.Units.{mag}
use Rattle.pixel.proofs.Laws.Rounding.{sum_of, sum_number, one_more, no_more}
use Rattle.pixel.proofs.round_down.Goals as goal

-- one more than the whole part q, and q
module _ (n q : ℕ) (is : n ≡ suc q) where
  some : 1 ≤ n
  some = omega arith

  less : n - 1 ≡ q
  less = omega arith

over : (c : goal.Then-y-sum) → to_bits binary32 (sum_of c.args.y) % 512 ≡ suc (mag c.args.y / 2 ^ 149)
over c = one_more c.args.y (passes _ c.well_formed.0.1) c.requires.fact_1 c.requires.fact_2 c.if-y-sum.true

even : (c : goal.Else-y-sum) → to_bits binary32 (sum_of c.args.y) % 512 ≡ mag c.args.y / 2 ^ 149
even c = no_more c.args.y (passes _ c.well_formed.0.1) c.requires.fact_1 c.requires.fact_2 c.if-y-sum.false

pub float_to_bits-near : goal.float_to_bits-near
float_to_bits-near c = sum_number c.args.y (passes _ c.well_formed.0.1) c.requires.fact_1 c.requires.fact_2

pub overflow_sub-result : goal.overflow_sub-result
overflow_sub-result c = some _ _ (over c)

pub returns-then-y-sum : goal.returns-then-y-sum
returns-then-y-sum c = less _ _ (over c)

pub returns-else-y-sum : goal.returns-else-y-sum
returns-else-y-sum c = even c
