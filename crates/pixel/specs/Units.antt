-- A finite f32 counts as its whole number of 2^-149.
use Rattle.std.specs.Prelude.{ℕ, ◌*◌, ◌/◌, ◌^◌, Bool, true, false, eqb, Float}
use Rattle.std.specs.Float.{nan, inf, fin, binary32}
use Rattle.std.specs.Float.Ieee.{up, down, round}
use Rattle.std.specs.Float.Ieee.Exact.{HasValue}
use Rattle.steps.specs.Loop.{pick}

-- the f32 of n times 2^-149; where there is none, the nearest one
unfoldable pub of_units : ℕ → Float
of_units n = round binary32 false n (2 ^ 149)

-- x is n times 2^-149 exactly: finite, and without a minus sign
abbrev pub Exactly : Float → ℕ → Type 0
Exactly x n = HasValue x false n (2 ^ 149)

-- How many times 2^-149 a sample is. A negative one and no number count as 0, plus infinity as 2^277, which is above every finite f32.
unfoldable pub mag : Float → ℕ
mag nan = 0
mag (inf s) = pick s 0 (2 ^ 277)
mag (fin s m e) = pick s 0 (m * up e * 2 ^ 149 / down e)

-- finite and not negative; minus zero is not negative
abbrev pub plain : Float → Bool
plain nan = false
plain (inf s) = false
plain (fin s m e) = pick s (eqb m 0) true
