-- A sample times 2^(8-e): the f32 product is exact, or it and the exact one are below 1. So its whole part is the sample's byte.
-- N is e + 149, the largest's count of binary digits; the sample is m * 2^i, and 2^(8-e) is 2^(306-N), times 2^-149.
use mathlib.Core.Path.{◌≡◌, refl, sym, ap, ◌∙◌, subst}
use mathlib.Core.Bool.{true, false}
use mathlib.Core.Logic.{⊎_elim}
use Prim.Native.Nat.{ℕ, suc, ◌+◌, ◌-◌, ◌*◌, ◌/◌, ◌%◌, ◌^◌, ◌≤◌, ◌<◌, compare}
use native.Mathlib.Nat.{mul_comm, mul-one, lt_irrefl, lt_of_lt_of_le, lt_of_mul-lt-mul_right, mul-lt-mul_of_pos_right, div-lt_iff_lt-mul, div-eq_of_lt}
use native.Mathlib.Omega.{arith}
use lib.Dec.{T, lit≤}
use lib.Pow.{pow_pos, pow_mono, shl_lt}
use lib.Ieee.{Float, nan, inf, fin, binary32, fits, size, round, mul}
use lib.Ieee.Digits.{size-le}
use lib.Ieee.Fits.{nearest-le}
use lib.Ieee.Nearest.{div_same, closest}
use lib.Ieee.Scale.{round_same, round_val, grid}
use Rattle.steps.proofs.Laws.Order.{lt_or_ge}
use Rattle.pixel.specs.Units.{of_units, Exactly, mag}
use Rattle.pixel.specs.Inner.{bright}
use Rattle.pixel.specs.Rgbe.{byte_of}
use Rattle.pixel.proofs.Laws.Numbers.{mul_pow_pow}
use Rattle.pixel.proofs.Laws.Units.{units_exact, exact_bright, mag_is, mul_values}
use Rattle.pixel.proofs.Laws.Samples.{shape, own_value, own_mag}

-- a number without a minus sign, whose whole part is q
abbrev pub Whole : Float → ℕ → Type 0
Whole y q = T (bright y) × (mag y / 2 ^ 149 ≡ q)

whole : (y : Float) (g q : ℕ) → Exactly y g → g / 2 ^ 149 ≡ q → Whole y q
whole y g q h e = (exact_bright y g h, ap (λ (z : ℕ). z / 2 ^ 149) (mag_is y g h) ∙ e)

-- ---- what is too small for the format rounds to less than 1
few : (w v q : ℕ) → w ≡ v → v < 2 ^ 24 → q ≤ suc w → q * 1 < 2 ^ 25
few w v q e h k = omega arith

tiny : (a c : ℕ) → a * 2 ^ 149 / c < 2 ^ 24 → grid binary32 a c < 2 ^ 149
tiny a c h =
    let n = a * 2 ^ 149 in
    let none : size (n / c) - 24 ≡ 0 = omega (arith, size-le (n / c) 24 h) in
    subst (λ (d : ℕ). closest n (c * 2 ^ d) * 2 ^ d < 2 ^ 149) (sym none)
    (lt_of_lt_of_le (few (n / (c * 1)) (n / c) (closest n (c * 1)) (ap (λ (z : ℕ). n / z) (mul-one c)) h (nearest-le (n / (c * 1)) (compare (n % (c * 1) * 2) (c * 1)))) (lit≤ {m = 2 ^ 25} {n = 2 ^ 149} tt))

module _ (m i N : ℕ) (M : m < 2 ^ 24) (N≤ : N ≤ 276) where
  -- the product, over 2^298
  product : ℕ
  product = m * 2 ^ i * 2 ^ (306 - N)

  whole_product : product * 2 ^ 149 ≡ m * 2 ^ (i + 455 - N)
  unfolding product
  whole_product = ap (λ (z : ℕ). z * 2 ^ 149) (mul_pow_pow m i (306 - N) (i + (306 - N)) refl) ∙ mul_pow_pow m (i + (306 - N)) 149 (i + 455 - N) (omega arith)

  -- it is a multiple of 2^-149, and exact
  below : N ≤ i + 157 → m * 2 ^ i < 2 ^ N → m * 2 ^ (i + 157 - N) < 2 ^ 157
  below h under =
      lt_of_mul-lt-mul_right (2 ^ N)
      (subst (λ (z : ℕ). z < 2 ^ 157 * 2 ^ N) (mul_pow_pow m i 157 (i + 157) refl ∙ sym (mul_pow_pow m (i + 157 - N) N (i + 157) (omega arith)))
      (subst (λ (z : ℕ). m * 2 ^ i * 2 ^ 157 < z) (mul_comm (2 ^ N) (2 ^ 157)) (mul-lt-mul_of_pos_right {k = 2 ^ 157} under (pow_pos 157))))

  rounded : N ≤ i + 157 → round binary32 false product (2 ^ 298) ≡ of_units (m * 2 ^ (i + 157 - N))
  unfolding of_units
  rounded h =
      round_same binary32 false product (2 ^ 298) (m * 2 ^ (i + 157 - N)) (2 ^ 149) (pow_pos 298) (pow_pos 149)
      (whole_product ∙ sym (mul_pow_pow m (i + 157 - N) 298 (i + 455 - N) (omega arith)))

  same_part : N ≤ i + 157 → m * 2 ^ (i + 157 - N) / 2 ^ 149 ≡ byte_of N (m * 2 ^ i)
  same_part h =
      div_same (m * 2 ^ (i + 157 - N)) (2 ^ 149) (m * 2 ^ i * 256) (2 ^ N) (pow_pos 149) (pow_pos N)
      (mul_pow_pow m (i + 157 - N) N (i + 157) (omega arith) ∙ sym (ap (λ (z : ℕ). z * 2 ^ 149) (mul_pow_pow m i 8 (i + 8) refl) ∙ mul_pow_pow m (i + 8) 149 (i + 157) (omega arith)))

  large : N ≤ i + 157 → m * 2 ^ i < 2 ^ N → Whole (round binary32 false product (2 ^ 298)) (byte_of N (m * 2 ^ i))
  large h under =
      subst (λ (y : Float). Whole y (byte_of N (m * 2 ^ i))) (sym (rounded h))
      (whole _ (m * 2 ^ (i + 157 - N)) (byte_of N (m * 2 ^ i)) (units_exact m (i + 157 - N) M (lt_of_lt_of_le (below h under) (lit≤ {m = 2 ^ 157} {n = 2 ^ 277} tt))) (same_part h))

  -- it is less than 2^24 times 2^-149, and the byte is 0
  few_units : i + 157 < N → product * 2 ^ 149 / 2 ^ 298 < 2 ^ 24
  few_units h =
      (div-lt_iff_lt-mul (pow_pos 298)).1
      (subst (λ (z : ℕ). z < 2 ^ 24 * 2 ^ 298) (sym whole_product) (lt_of_lt_of_le (shl_lt 24 (i + 455 - N) M) (pow_mono {i = 24 + (i + 455 - N)} {j = 322} (omega arith))))

  no_part : i + 157 < N → byte_of N (m * 2 ^ i) ≡ 0
  no_part h = div-eq_of_lt (subst (λ (z : ℕ). z < 2 ^ N) (sym (mul_pow_pow m i 8 (i + 8) refl)) (lt_of_lt_of_le (shl_lt 24 (i + 8) M) (pow_mono {i = 24 + (i + 8)} {j = N} (omega arith))))

  small : i + 157 < N → Whole (round binary32 false product (2 ^ 298)) (byte_of N (m * 2 ^ i))
  small h =
      let g = grid binary32 product (2 ^ 298) in
      let l : g < 2 ^ 149 = tiny product (2 ^ 298) (few_units h) in
      whole _ g (byte_of N (m * 2 ^ i)) (round_val binary32 product (2 ^ 298) (lt_of_lt_of_le l (lit≤ {m = 2 ^ 149} {n = 2 ^ 277} tt))) (div-eq_of_lt l ∙ sym (no_part h))

-- any sample that is not negative and has no more binary digits than the largest
pub scaled_whole : (x s : Float) (N : ℕ) → T (fits binary32 x) → T (bright x) → N ≤ 276 → mag x < 2 ^ N → Exactly s (2 ^ (306 - N)) → Whole (mul binary32 x s) (byte_of N (mag x))
unfolding mag product
scaled_whole nan s N p b h u v = absurd b
scaled_whole (inf true) s N p b h u v = absurd b
scaled_whole (inf false) s N p b h u v = absurd (lt_irrefl (2 ^ 277) (lt_of_lt_of_le u (pow_mono {i = N} {j = 277} (omega arith))))
scaled_whole (fin true m e) s N p b h u v = absurd b
scaled_whole (fin false m e) s N p b h u v =
    let k = shape false m e p in
    let i = k.0 in
    let is : mag (fin false m e) ≡ m * 2 ^ i = own_mag m e k in
    let under : m * 2 ^ i < 2 ^ N = subst (λ (z : ℕ). z < 2 ^ N) is u in
    subst (λ (z : ℕ). Whole (mul binary32 (fin false m e) s) (byte_of N z)) (sym is)
    (subst (λ (z : Float). Whole z (byte_of N (m * 2 ^ i))) (sym (mul_values (fin false m e) s (m * 2 ^ i) (2 ^ 149) (2 ^ (306 - N)) (2 ^ 149) (pow_pos 149) (pow_pos 149) (own_value m e k) v))
    (⊎_elim (λ l. small m i N k.1 h l) (λ l. large m i N k.1 h l under) (lt_or_ge (i + 157) N)))
