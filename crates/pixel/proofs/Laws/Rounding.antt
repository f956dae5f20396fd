-- A value below 256, rounded down: plus 2^23 it is rounded to 2^23 + c, whose bits end with c; its whole part is c, or c - 1 where c is above the value.
use mathlib.Core.Path.{◌≡◌, sym, ap, ◌∙◌, subst}
use mathlib.Core.Bool.{true, false, not}
use Prim.Native.Nat.{ℕ, suc, ◌+◌, ◌-◌, ◌*◌, ◌/◌, ◌%◌, ◌^◌, ◌≤◌, ◌<◌}
use native.Mathlib.Nat.{add-mul, mul-div_cancel, lt_of_lt_of_le, le_trans, le_antisymm, mul-le-mul_right, div-lt_iff_lt-mul, le-div_iff_mul-le}
use native.Mathlib.Omega.{arith}
use lib.Dec.{T, ltb, lit<, lit≤}
use lib.Pow.{pow_pos, shl_lt}
use lib.Ieee.{Float, binary32, fits, size, of_bits, to_bits, add, sub, lt, is_nan}
use lib.Ieee.Fits.{sub-fits}
use borrow.Author.Tests.{ltb-true, ltb-false}
use Rattle.pixel.specs.Units.{of_units, Exactly, mag}
use Rattle.pixel.specs.Inner.{bright}
use Rattle.pixel.proofs.Laws.Units.{units_exact, power_exact, mag_is, exact_bright}
use Rattle.pixel.proofs.Laws.Patterns.{bits_of, bits_are, field_is}
use Rattle.pixel.proofs.Laws.Samples.{bright_exact, bright_number}
use Rattle.pixel.proofs.Laws.Order.{lt_mag}
use Rattle.pixel.proofs.Laws.Digits.{size_is}
use Rattle.pixel.proofs.Laws.Sums.{add_units, sub_units}
use Rattle.pixel.proofs.Laws.Nearby.{Next, next}

-- ---- numbers from 2^172 to below 2^173
at_least : (c : ℕ) → 2 ^ 172 ≤ (8388608 + c) * 2 ^ 149
at_least c = mul-le-mul_right {m = 8388608} {n = 8388608 + c} (2 ^ 149) (omega arith)

off : (c : ℕ) → (8388608 + c) * 2 ^ 149 - 2 ^ 172 ≡ c * 2 ^ 149
off c = ap (λ (z : ℕ). z - 2 ^ 172) (add-mul 8388608 c (2 ^ 149)) ∙ rest (2 ^ 172) (c * 2 ^ 149)
  where
    rest : (a b : ℕ) → a + b - a ≡ b
    rest a b = omega arith

long : (c : ℕ) → c ≤ 256 → size ((8388608 + c) * 2 ^ 149) ≡ 173
long c h = size_is ((8388608 + c) * 2 ^ 149) 173 (at_least c) (shl_lt 24 149 (omega arith))

-- the bits end with c
ends : (c : ℕ) → c ≤ 256 → bits_of ((8388608 + c) * 2 ^ 149) % 512 ≡ c
ends c h =
    ap (λ (k : ℕ). (0 + (k - 24) * 8388608 + (8388608 + c) * 2 ^ 149 / 2 ^ (k - 24)) % 512) (long c h)
    ∙ ap (λ (z : ℕ). (0 + 149 * 8388608 + z) % 512) (mul-div_cancel (8388608 + c) (pow_pos 149))
    ∙ last c h
  where
    last : (c : ℕ) → c ≤ 256 → (0 + 149 * 8388608 + (8388608 + c)) % 512 ≡ c
    last c h = omega arith

-- ---- the code's sum and difference, with the literal 2^23
abbrev pub sum_of : Float → Float
sum_of y = add binary32 y (of_bits binary32 0x4b00_0000)

abbrev pub back_of : Float → Float
back_of y = sub binary32 (sum_of y) (of_bits binary32 0x4b00_0000)

literal : Exactly (of_bits binary32 0x4b00_0000) (2 ^ 172)
literal = subst (λ (x : Float). Exactly x (2 ^ 172)) (sym (field_is 150 (lit< tt) (lit< tt))) (power_exact 172 (lit< tt))

module _ (y : Float) (f : T (fits binary32 y)) (b : T (bright y)) (h : mag y / 2 ^ 149 < 256) where
  n : (c : ℕ) × Next (mag y) c
  n = next (mag y) h

  value : Exactly y (mag y)
  value = bright_exact y f b (lt_of_lt_of_le ((div-lt_iff_lt-mul (pow_pos 149)).0 h) (lit≤ {m = 2 ^ 157} {n = 2 ^ 277} tt))

  few : n.0 ≤ 256
  few = le_trans n.1.most h

  sum_value : Exactly (sum_of y) ((8388608 + n.0) * 2 ^ 149)
  sum_value = subst (λ (x : Float). Exactly x ((8388608 + n.0) * 2 ^ 149)) (sym (add_units y (of_bits binary32 0x4b00_0000) (mag y) (2 ^ 172) value literal)) n.1.sum

  pub sum_number : T (not (is_nan (sum_of y)))
  sum_number = bright_number (sum_of y) (exact_bright (sum_of y) _ sum_value)

  bits : to_bits binary32 (sum_of y) % 512 ≡ n.0
  bits = ap (λ (z : ℕ). z % 512) (bits_are (sum_of y) _ sum_value) ∙ ends n.0 few

  back_value : Exactly (back_of y) (n.0 * 2 ^ 149)
  back_value =
      let c = n.0 in
      subst (λ (x : Float). Exactly x (c * 2 ^ 149)) (sym (sub_units (sum_of y) (of_bits binary32 0x4b00_0000) ((8388608 + c) * 2 ^ 149) (2 ^ 172) (at_least c) sum_value literal ∙ ap of_units (off c)))
      (units_exact c 149 (short c few) (lt_of_lt_of_le (shl_lt 24 149 (short c few)) (lit≤ {m = 2 ^ 173} {n = 2 ^ 277} tt)))
    where
      short : (c : ℕ) → c ≤ 256 → c < 2 ^ 24
      short c h = omega arith

  test : lt y (back_of y) ≡ ltb (mag y) (n.0 * 2 ^ 149)
  test = lt_mag y (back_of y) f (sub-fits binary32 (sum_of y) (of_bits binary32 0x4b00_0000)) b ∙ ap (ltb (mag y)) (mag_is (back_of y) _ back_value)

  -- above the value: one too many
  pub one_more : lt y (back_of y) ≡ true → to_bits binary32 (sum_of y) % 512 ≡ suc (mag y / 2 ^ 149)
  one_more t = bits ∙ le_antisymm n.1.most ((div-lt_iff_lt-mul (pow_pos 149)).1 (ltb-true (mag y) (n.0 * 2 ^ 149) (sym test ∙ t)))

  -- not above it
  pub no_more : lt y (back_of y) ≡ false → to_bits binary32 (sum_of y) % 512 ≡ mag y / 2 ^ 149
  no_more t = bits ∙ le_antisymm ((le-div_iff_mul-le (pow_pos 149)).1 (ltb-false (mag y) (n.0 * 2 ^ 149) (sym test ∙ t))) n.1.least
