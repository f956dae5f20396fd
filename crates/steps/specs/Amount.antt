-- A number, or "none" where it passes 2^64 - 1.
use Rattle.std.specs.Prelude.{ℕ, ◌^◌, ltb, Option, Some, None}
use Rattle.steps.specs.Loop.{pick}

unfoldable pub amount_of : ℕ → Option ℕ
amount_of n = pick (ltb n (2 ^ 64)) (Some n) None
