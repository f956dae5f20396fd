-- 'e has 2^(e-1) <= v < 2^e': e + 149 is the count of binary digits of v, and the exponent field of its bits is that count less 23.
use mathlib.Core.Path.{◌≡◌, ap, ◌∙◌, subst}
use mathlib.Core.Logic.{⊎_elim}
use Prim.Native.Nat.{ℕ, ◌+◌, ◌-◌, ◌*◌, ◌/◌, ◌^◌, ◌≤◌, ◌<◌}
use native.Mathlib.Nat.{le-div_iff_mul-le, lt_irrefl, lt_of_lt_of_le, le_trans, le_of_lt}
use native.Mathlib.Omega.{arith}
use lib.Dec.{T, lit≤}
use lib.Pow.{pow_pos, pow-add, pow_mono}
use lib.Ieee.{Float, binary32, fits, to_bits, size}
use lib.Ieee.Digits.{size-lt, size_reaches, size-le}
use lib.Ieee.Fits.{kept-lt}
use Rattle.steps.proofs.Laws.Order.{lt_or_ge}
use Rattle.pixel.specs.Units.{mag}
use Rattle.pixel.specs.Inner.{bright}
use Rattle.pixel.specs.Rgbe.{dark}
use Rattle.pixel.proofs.Laws.Samples.{bright_exact}
use Rattle.pixel.proofs.Laws.Patterns.{bits_of, bits_are}

-- more than j binary digits
pub size_gt : (n j : ℕ) → 2 ^ j ≤ n → j < size n
size_gt n j h = ⊎_elim (λ l. l) (λ l. absurd (lt_irrefl n (lt_of_lt_of_le (size-lt n) (le_trans (pow_mono l) h)))) (lt_or_ge j (size n))

-- the count of binary digits is the one N with 2^(N-1) <= v < 2^N
pub size_is : (v N : ℕ) → 2 ^ (N - 1) ≤ v → v < 2 ^ N → size v ≡ N
size_is v N l h = meet (size v) N (size_gt v (N - 1) l) (size-le v N h)
  where
    meet : (a N : ℕ) → N - 1 < a → a ≤ N → a ≡ N
    meet a N h k = omega arith

-- a largest sample that is written has 43 binary digits at least
pub size_low : (n : ℕ) → dark < n → 43 ≤ size n
size_low n h = size_gt n 42 (le_trans (lit≤ {m = 2 ^ 42} {n = dark} tt) (le_of_lt h))

-- ---- the exponent field of the bits
field_of : (k w : ℕ) → 8388608 ≤ w → w < 16777216 → (0 + k * 8388608 + w) / 8388608 ≡ k + 1
field_of k w h l = omega arith

restore : (b z : ℕ) → 43 ≤ z → b ≡ z - 24 + 1 → b + 23 ≡ z
restore b z h e = omega arith

field_digits : (n : ℕ) → 43 ≤ size n → bits_of n / 8388608 + 23 ≡ size n
field_digits n h =
    let k = size n - 24 in
    let least : 2 ^ 23 * 2 ^ k ≤ n = subst (λ (z : ℕ). z ≤ n) (pow-add 2 23 k) (size_reaches n (23 + k) (omega arith)) in
    restore (bits_of n / 8388608) (size n) h (field_of k (n / 2 ^ k) ((le-div_iff_mul-le (pow_pos k)).1 least) (kept-lt 24 n))

pub digits_from_bits : (v : Float) → T (fits binary32 v) → T (bright v) → dark < mag v → mag v < 2 ^ 276 → to_bits binary32 v / 8388608 + 23 ≡ size (mag v)
digits_from_bits v p b d u =
    ap (λ (k : ℕ). k / 8388608 + 23) (bits_are v (mag v) (bright_exact v p b (lt_of_lt_of_le u (lit≤ {m = 2 ^ 276} {n = 2 ^ 277} tt))))
    ∙ field_digits (mag v) (size_low (mag v) d)
