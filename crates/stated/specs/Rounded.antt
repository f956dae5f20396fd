-- RULES 3.12: a number is rounded once, to the nearest f32, a tie to the even one. Over whole numbers of 2^-149, after multiplying out.
use Rattle.std.specs.Prelude.{ℕ, ◌+◌, ◌-◌, ◌*◌, ◌/◌, ◌%◌, ◌^◌, Bool, ◌&&◌, eqb, ltb}
use Rattle.std.specs.Float.Ieee.{size}
use Rattle.steps.specs.Loop.{pick}

-- a / b rounded to the nearest whole number, a tie to the even one
unfoldable pub nearest_whole : ℕ → ℕ → ℕ
nearest_whole a b =
    let whole = a / b in
    let twice = a % b * 2 in
    pick (ltb twice b) whole (pick (eqb twice b) (whole + whole % 2) (whole + 1))

-- how many binary digits a number of 2^-149 has beyond the 24 that an f32 holds
abbrev pub dropped : ℕ → ℕ
dropped n = size n - 24

-- a / b times 2^-149 rounded to the nearest f32: with k digits dropped that is a multiple of 2^k
unfoldable pub nearest_units : ℕ → ℕ → ℕ
nearest_units a b = let k = dropped (a / b) in nearest_whole a (b * 2 ^ k) * 2 ^ k

-- the product of m and n times 2^-149, rounded once
unfoldable pub product : ℕ → ℕ → ℕ
product m n = nearest_units (m * n) (2 ^ 149)

-- neither zero nor infinite: an f32 is below 2^128, which is 2^277 times 2^-149
unfoldable pub usable : ℕ → Bool
usable n = ltb 0 n && ltb n (2 ^ 277)
