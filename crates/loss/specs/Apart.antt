-- How far the crate's sample is from the lower edge of the step, at the exponent bytes where they differ.
use Rattle.std.specs.Prelude.{◌≡◌, ℕ, ◌*◌, ◌^◌, ◌≤◌}

-- a is b times 2^32, times 2^64 or times 2^96: "a whole power of 2^32"
pub record Times (a b : ℕ) : Type 0 where
  pub power : ℕ
  pub some : 1 ≤ power
  pub most : power ≤ 3
  pub is : a ≡ b * 2 ^ (32 * power)
