-- A value below 256 plus 2^23 is rounded to 2^23 + c, where the whole number c is the value's whole part or one more.
-- The value is g times 2^-149; 2^23 is 2^172 times 2^-149.
use mathlib.Core.Path.{◌≡◌, sym, ap, ◌∙◌, subst}
use Prim.Native.Nat.{ℕ, suc, ◌+◌, ◌-◌, ◌*◌, ◌/◌, ◌%◌, ◌^◌, ◌≤◌, ◌<◌, compare}
use native.Mathlib.Nat.{mul_assoc, mul-div_cancel, add-mul-div_right, lt_of_lt_of_le, div-lt_iff_lt-mul}
use native.Mathlib.Omega.{arith}
use lib.Dec.{lit≤}
use lib.Pow.{pow_pos, shl_lt}
use lib.Ieee.{binary32, size}
use lib.Ieee.Fits.{nearest-le}
use lib.Ieee.Nearest.{closest, closest_same, nearest-ge}
use lib.Ieee.Scale.{round_val, grid}
use Rattle.pixel.specs.Units.{of_units, Exactly}
use Rattle.pixel.proofs.Laws.Digits.{size_is}

-- the sum has 173 binary digits, of which an f32 keeps 24
sum_size : (g : ℕ) → g < 2 ^ 157 → size (g + 2 ^ 172) ≡ 173
sum_size g h = size_is (g + 2 ^ 172) 173 (more (2 ^ 172) g) (both g (2 ^ 172) (lt_of_lt_of_le h (lit≤ {m = 2 ^ 157} {n = 2 ^ 172} tt)))
  where
    more : (a b : ℕ) → a ≤ b + a
    more a b = omega arith

    both : (a b : ℕ) → a < b → a + b < 2 * b
    both a b h = omega arith

kept_digits : (g : ℕ) → g / 2 ^ 149 < 256 → size ((g + 2 ^ 172) * 2 ^ 149 / 2 ^ 149) - 24 ≡ 149
kept_digits g h = ap (λ (z : ℕ). size z - 24) (mul-div_cancel (g + 2 ^ 172) (pow_pos 149)) ∙ ap (λ (z : ℕ). z - 24) (sum_size g ((div-lt_iff_lt-mul (pow_pos 149)).0 h))

-- the whole number nearest to the sum
abbrev whole : ℕ → ℕ
whole g = closest (g + 2 ^ 172) (2 ^ 149)

part : (g : ℕ) → (g + 2 ^ 172) / 2 ^ 149 ≡ g / 2 ^ 149 + 8388608
part g = add-mul-div_right g 8388608 (pow_pos 149)

whole_least : (g : ℕ) → g / 2 ^ 149 + 8388608 ≤ whole g
whole_least g = subst (λ (z : ℕ). z ≤ whole g) (part g) (nearest-ge ((g + 2 ^ 172) / 2 ^ 149) (compare ((g + 2 ^ 172) % 2 ^ 149 * 2) (2 ^ 149)))

whole_most : (g : ℕ) → whole g ≤ suc (g / 2 ^ 149 + 8388608)
whole_most g = subst (λ (z : ℕ). whole g ≤ suc z) (part g) (nearest-le ((g + 2 ^ 172) / 2 ^ 149) (compare ((g + 2 ^ 172) % 2 ^ 149 * 2) (2 ^ 149)))

-- the sum is rounded to it
grid_is : (g : ℕ) → g / 2 ^ 149 < 256 → grid binary32 (g + 2 ^ 172) (2 ^ 149) ≡ whole g * 2 ^ 149
grid_is g h =
    ap (λ (d : ℕ). closest ((g + 2 ^ 172) * 2 ^ 149) (2 ^ 149 * 2 ^ d) * 2 ^ d) (kept_digits g h)
    ∙ ap (λ (z : ℕ). z * 2 ^ 149) (closest_same ((g + 2 ^ 172) * 2 ^ 149) (2 ^ 149 * 2 ^ 149) (g + 2 ^ 172) (2 ^ 149) (pow_pos 298) (pow_pos 149) (mul_assoc (g + 2 ^ 172) (2 ^ 149) (2 ^ 149)))

rounded : (g : ℕ) → g / 2 ^ 149 < 256 → Exactly (of_units (g + 2 ^ 172)) (whole g * 2 ^ 149)
unfolding of_units
rounded g h =
    subst (Exactly (of_units (g + 2 ^ 172))) (grid_is g h)
    (round_val binary32 (g + 2 ^ 172) (2 ^ 149)
    (subst (λ (z : ℕ). z < 2 ^ 277) (sym (grid_is g h)) (lt_of_lt_of_le (shl_lt 24 149 (short (g / 2 ^ 149) (whole g) h (whole_most g))) (lit≤ {m = 2 ^ 173} {n = 2 ^ 277} tt))))
  where
    short : (q w : ℕ) → q < 256 → w ≤ suc (q + 8388608) → w < 2 ^ 24
    short q w h l = omega arith

pub record Next (g c : ℕ) : Type 0 where
  pub least : g / 2 ^ 149 ≤ c
  pub most : c ≤ suc (g / 2 ^ 149)
  pub sum : Exactly (of_units (g + 2 ^ 172)) ((8388608 + c) * 2 ^ 149)

pub next : (g : ℕ) → g / 2 ^ 149 < 256 → (c : ℕ) × Next g c
next g h =
    let q = g / 2 ^ 149 in
    let w = whole g in
    (w - 8388608, record { least = reached q w (whole_least g); most = passed q w (whole_most g); sum = subst (λ (z : ℕ). Exactly (of_units (g + 2 ^ 172)) (z * 2 ^ 149)) (restored q w (whole_least g)) (rounded g h) })
  where
    reached : (q w : ℕ) → q + 8388608 ≤ w → q ≤ w - 8388608
    reached q w l = omega arith

    passed : (q w : ℕ) → w ≤ suc (q + 8388608) → w - 8388608 ≤ suc q
    passed q w l = omega arith

    restored : (q w : ℕ) → q + 8388608 ≤ w → w ≡ 8388608 + (w - 8388608)
    restored q w l = omega arith
