-- Bit patterns: that of a whole number of 2^-149, and those of the powers of two: an exponent field alone, or one digit below it.
use mathlib.Core.Path.{◌≡◌, sym, ap, ◌∙◌, subst}
use mathlib.Core.Bool.{Bool, false, cond, not}
use Prim.Native.Nat.{ℕ, zero, suc, ◌+◌, ◌-◌, ◌*◌, ◌/◌, ◌%◌, ◌^◌, ◌≤◌, ◌<◌}
use native.Mathlib.Nat.{mul-one, mul-div_cancel, mod-eq_of_lt, lt_irrefl}
use native.Mathlib.Omega.{arith}
use lib.Dec.{T}
use lib.Pow.{pow-add, pow-lt}
use lib.Ieee.{Float, nan, inf, fin, binary32, up, down, of_bits, of_fields, odd, fits, size, to_bits, nan_bits}
use lib.Ieee.Exact.{odd_sign}
use lib.Ieee.Fits.{down_pos}
use lib.Ieee.Bits.{of_bits-to_bits, of_bits-fits, nan_bits_above}
use borrow.Author.Tests.{lt-leb, ne_eqb, le-ltb}
use Rattle.pixel.specs.Units.{of_units, Exactly}
use Rattle.pixel.proofs.Laws.Units.{power_exact, units_fits}

-- the bit pattern of n times 2^-149
abbrev pub bits_of : ℕ → ℕ
bits_of n = 0 + (size n - 24) * 8388608 + n / 2 ^ (size n - 24)

pub bits_are : (x : Float) (n : ℕ) → Exactly x n → to_bits binary32 x ≡ bits_of n
unfolding to_bits
bits_are nan n h = absurd h
bits_are (inf s) n h = absurd h
bits_are (fin s m e) n h =
    let v = m * up e * 2 ^ 149 / down e in
    ap (λ (z : Bool). cond z 2147483648 0 + (size v - 24) * 8388608 + v / 2 ^ (size v - 24)) h.0
    ∙ ap bits_of (ap (λ (z : ℕ). z / down e) h.1 ∙ mul-div_cancel n (down_pos e))

-- one value, one float
pub value_unique : (x y : Float) (n : ℕ) → T (fits binary32 x) → T (fits binary32 y) → Exactly x n → Exactly y n → x ≡ y
value_unique x y n p q h k = sym (of_bits-to_bits binary32 x p) ∙ ap (of_bits binary32) (bits_are x n h ∙ sym (bits_are y n k)) ∙ of_bits-to_bits binary32 y q

-- ---- an exponent field alone
field_value : (x : ℕ) → 0 < x → x < 255 → Exactly (of_fields binary32 false x 0) (2 ^ (x + 22))
unfolding of_fields
field_value zero h k = absurd (lt_irrefl 0 h)
field_value (suc x) h k =
    subst (λ (b : Bool). Exactly (cond b (inf false) (odd 24 false 8388608 x 149)) (2 ^ (suc x + 22))) (sym (ne_eqb (suc x) 255 (λ e. omega (arith, e, k))))
    (subst (λ (n : ℕ). Exactly (odd 24 false 8388608 x 149) n) (sym (pow-add 2 23 x) ∙ ap (λ (z : ℕ). 2 ^ z) (omega arith)) (odd_sign 24 false 8388608 x 149))

-- a pattern b with the sign clear, by its two fields
fields : (b x t : ℕ) → b < 2147483648 → b / 8388608 ≡ x → b % 8388608 ≡ t → of_bits binary32 b ≡ of_fields binary32 false x t
unfolding of_bits
fields b x t h p q =
    ap (λ (s : Bool). of_fields binary32 s (b % 2147483648 / 8388608) (b % 8388608)) (lt-leb 2147483648 b h)
    ∙ ap (λ (z : ℕ). of_fields binary32 false (z / 8388608) (b % 8388608)) (mod-eq_of_lt h)
    ∙ ap (λ (z : ℕ). of_fields binary32 false z (b % 8388608)) p
    ∙ ap (λ (z : ℕ). of_fields binary32 false x z) q

pub field_is : (x : ℕ) → 0 < x → x < 255 → of_bits binary32 (x * 8388608) ≡ of_units (2 ^ (x + 22))
field_is x h k =
    let p = fields (x * 8388608) x 0 (omega arith) (omega arith) (omega arith) in
    value_unique (of_bits binary32 (x * 8388608)) (of_units (2 ^ (x + 22))) (2 ^ (x + 22)) (of_bits-fits binary32 (x * 8388608)) (units_fits (2 ^ (x + 22)))
    (subst (λ (z : Float). Exactly z (2 ^ (x + 22))) (sym p) (field_value x h k)) (power_exact (x + 22) (omega arith))

-- ---- below an exponent field: the pattern is the whole number itself
digits_value : (n : ℕ) → Exactly (of_fields binary32 false 0 n) n
unfolding of_fields
digits_value n = rw mul-one at (odd_sign 24 false n 0 149)

pub digit_is : (j : ℕ) → j < 23 → of_bits binary32 (1 * 2 ^ j % 4294967296) ≡ of_units (2 ^ j)
digit_is j h =
    let t : 2 ^ j < 8388608 = pow-lt {j = 23} h in
    let is : 1 * 2 ^ j % 4294967296 ≡ 2 ^ j = omega (arith, t) in
    let p = fields (2 ^ j) 0 (2 ^ j) (omega arith) (omega arith) (omega arith) in
    ap (of_bits binary32) is
    ∙ value_unique (of_bits binary32 (2 ^ j)) (of_units (2 ^ j)) (2 ^ j) (of_bits-fits binary32 (2 ^ j)) (units_fits (2 ^ j))
    (subst (λ (z : Float). Exactly z (2 ^ j)) (sym p) (digits_value (2 ^ j))) (power_exact j (omega arith))

-- a pattern up to that of plus infinity is a number's
pub number : (b : ℕ) → b ≤ 2139095040 → T (not (nan_bits binary32 b))
number b h = subst (λ (t : Bool). T (not t)) (sym (nan_bits_above binary32 b ∙ le-ltb 2139095040 (b % 2147483648) (omega arith))) tt
