-- The limits of a written pixel: 1e-32 '(here and in the tickets the f32 nearest to it)', 2^127, and 2^126 below it.
use mathlib.Core.Path.{◌≡◌, refl, sym, ap, ◌∙◌}
use mathlib.Core.Bool.{false}
use Prim.Native.Nat.{ℕ, ◌^◌}
use lib.IntN.{negsuc}
use lib.Dec.{T, ltb}
use lib.Ieee.{Float, round, binary32, fin, of_bits, lt, fits}
use lib.Ieee.Bits.{of_bits-fits}
use Rattle.pixel.specs.Units.{of_units, mag}
use Rattle.pixel.specs.Rgbe.{dark}
use Rattle.pixel.specs.Inner.{bright, near}
use Rattle.pixel.proofs.Laws.Order.{lt_mag}

-- ---- `dark` is the f32 nearest to 1e-32: each side is computed to its own literal
decimal : round binary32 false 1 (10 ^ 32) ≡ fin false 0xcfb11f (negsuc 129)
unfolding round
decimal = refl

units : of_units dark ≡ fin false 0xcfb11f (negsuc 129)
unfolding round of_units
units = refl

pub dark_is : round binary32 false 1 (10 ^ 32) ≡ of_units dark
dark_is = decimal ∙ sym units

-- ---- the literals of the source, and what a test against them says
dark_mag : mag (of_bits binary32 0x0a4f_b11f) ≡ dark
unfolding of_bits mag
dark_mag = refl

dark_bright : T (bright (of_bits binary32 0x0a4f_b11f))
unfolding of_bits
dark_bright = tt

limit_mag : mag (of_bits binary32 0x7f00_0000) ≡ 2 ^ 276
unfolding of_bits mag
limit_mag = refl

near_mag : mag (of_bits binary32 0x7e80_0000) ≡ 2 ^ 275
unfolding of_bits mag
near_mag = refl

near_bright : T (bright (of_bits binary32 0x7e80_0000))
unfolding of_bits
near_bright = tt

pub above_near : (x : Float) → T (fits binary32 x) → lt (of_bits binary32 0x7e80_0000) x ≡ near x
unfolding near
above_near x f = lt_mag (of_bits binary32 0x7e80_0000) x (of_bits-fits binary32 0x7e80_0000) f near_bright ∙ ap (λ (n : ℕ). ltb n (mag x)) near_mag

pub above_dark : (v : Float) → T (fits binary32 v) → lt (of_bits binary32 0x0a4f_b11f) v ≡ ltb dark (mag v)
above_dark v f = lt_mag (of_bits binary32 0x0a4f_b11f) v (of_bits-fits binary32 0x0a4f_b11f) f dark_bright ∙ ap (λ (n : ℕ). ltb n (mag v)) dark_mag

pub below_limit : (v : Float) → T (fits binary32 v) → T (bright v) → lt v (of_bits binary32 0x7f00_0000) ≡ ltb (mag v) (2 ^ 276)
below_limit v f b = lt_mag v (of_bits binary32 0x7f00_0000) f (of_bits-fits binary32 0x7f00_0000) b ∙ ap (ltb (mag v)) limit_mag
