-- The f32 nearest to a / b times 2^k, by whole numbers: a is doubled until the quotient has 24 binary digits.
use mathlib.Core.Path.{◌≡◌, refl, sym, ap, ◌∙◌, subst}
use mathlib.Core.Bool.{true}
use mathlib.Core.Logic.{◌⊎◌, inl, inr}
use Prim.Native.Nat.{ℕ, suc, ◌+◌, ◌-◌, ◌*◌, ◌/◌, ◌^◌, ◌≤◌, ◌<◌}
use native.Mathlib.Nat.{mul_assoc, mul_comm, mul-pos, mul-div_cancel, mul-le-mul_right, mul-lt-mul_of_pos_right, le_trans, le_of_eq, lt_irrefl, lt_of_lt_of_le, lt_of_le_of_lt, eq-or-lt_of_le, le-div_iff_mul-le, div-lt_iff_lt-mul}
use native.Mathlib.Omega.{arith}
use lib.Dec.{lit<, lit≤}
use lib.Pow.{pow_pos, pow_mono, shl_lt}
use lib.Ieee.{binary32, size, of_bits}
use lib.Ieee.Bits.{of_bits-to_bits}
use Rattle.steps.proofs.Laws.Order.{lt_or_ge}
use Rattle.pixel.specs.Units.{of_units, Exactly}
use Rattle.pixel.proofs.Laws.Numbers.{pow_pow}
use Rattle.pixel.proofs.Laws.Units.{units_fits, exact_bright, mag_is}
use Rattle.pixel.proofs.Laws.Digits.{size_is}
use Rattle.pixel.proofs.Laws.Patterns.{bits_of, bits_are}
use Rattle.stated.specs.Rounded.{nearest_whole, dropped, nearest_units, usable}
use Rattle.stated.specs.Inner.{Usable}
use Rattle.stated.proofs.Laws.Rounded.{whole_same, whole_most, whole_least, short_exact, usable_from}

-- ---- the bit pattern of q times 2^j units, where q has 24 binary digits or is 2^24

long : (q j : ℕ) → 2 ^ 23 ≤ q → q < 2 ^ 24 → size (q * 2 ^ j) ≡ 24 + j
long q j l h =
    size_is (q * 2 ^ j) (24 + j)
    (subst (λ (z : ℕ). z ≤ q * 2 ^ j) (pow_pow 23 j (24 + j - 1) (omega arith)) (mul-le-mul_right (2 ^ j) l))
    (shl_lt 24 j h)

ends : (q j n : ℕ) → n ≡ 24 + j → q * 2 ^ j / 2 ^ (n - 24) ≡ q
ends q j n e = ap (λ (z : ℕ). q * 2 ^ j / 2 ^ z) (less n j e) ∙ mul-div_cancel q (pow_pos j)
  where
    less : (n j : ℕ) → n ≡ 24 + j → n - 24 ≡ j
    less n j e = omega arith

bits_short : (q j : ℕ) → 2 ^ 23 ≤ q → q < 2 ^ 24 → bits_of (q * 2 ^ j) ≡ j * 8388608 + q
bits_short q j l h =
    let n = size (q * 2 ^ j) in
    let e : n ≡ 24 + j = long q j l h in
    ap (λ (z : ℕ). 0 + (n - 24) * 8388608 + z) (ends q j n e) ∙ put n q j e
  where
    put : (n q j : ℕ) → n ≡ 24 + j → 0 + (n - 24) * 8388608 + q ≡ j * 8388608 + q
    put n q j e = omega arith

bits_kept : (q j : ℕ) → 2 ^ 23 ≤ q → q ≤ 2 ^ 24 → bits_of (q * 2 ^ j) ≡ j * 8388608 + q
bits_kept q j l h = go (eq-or-lt_of_le h)
  where
    carry : (q j : ℕ) → q ≡ 2 ^ 24 → (j + 1) * 8388608 + 2 ^ 23 ≡ j * 8388608 + q
    carry q j e = omega arith

    go : (q ≡ 2 ^ 24) ⊎ (q < 2 ^ 24) → bits_of (q * 2 ^ j) ≡ j * 8388608 + q
    go (inr k) = bits_short q j l k
    go (inl e) =
        let same : q * 2 ^ j ≡ 2 ^ 23 * 2 ^ (j + 1) = ap (λ (z : ℕ). z * 2 ^ j) e ∙ pow_pow 24 j (24 + j) refl ∙ sym (pow_pow 23 (j + 1) (24 + j) (omega arith)) in
        ap bits_of same ∙ bits_short (2 ^ 23) (j + 1) (lit≤ tt) (lit< tt) ∙ carry q j e

module _ (q j : ℕ) (J : j ≤ 183) (least : 2 ^ 23 ≤ q) (most : q ≤ 2 ^ 24) where
  under : q * 2 ^ j < 2 ^ 277
  under = lt_of_lt_of_le (shl_lt 25 j (lt_of_lt_of_le (more q most) (lit≤ {m = suc (2 ^ 24)} {n = 2 ^ 25} tt))) (pow_mono {i = 25 + j} {j = 277} (omega arith))
    where
      more : (q : ℕ) → q ≤ 2 ^ 24 → q < suc (2 ^ 24)
      more q h = omega arith

  exact : Exactly (of_units (q * 2 ^ j)) (q * 2 ^ j)
  exact = short_exact q j most under

  pub pattern_is : of_bits binary32 (j * 8388608 + q) ≡ of_units (q * 2 ^ j)
  pattern_is =
      ap (of_bits binary32) (sym (bits_are (of_units (q * 2 ^ j)) (q * 2 ^ j) exact ∙ bits_kept q j least most))
      ∙ of_bits-to_bits binary32 (of_units (q * 2 ^ j)) (units_fits (q * 2 ^ j))

  pub kept_usable : usable (q * 2 ^ j) ≡ true
  kept_usable = usable_from (q * 2 ^ j) (mul-pos (lt_of_lt_of_le (pow_pos 23) least) (pow_pos j)) under

  pub units_usable : Usable (of_units (q * 2 ^ j))
  units_usable = (exact_bright (of_units (q * 2 ^ j)) (q * 2 ^ j) exact, ap usable (mag_is (of_units (q * 2 ^ j)) (q * 2 ^ j) exact) ∙ kept_usable)

-- ---- the loop: `top` is a doubled, and j digits will be dropped

abbrev pub Doubled : ℕ → ℕ → ℕ → ℕ → ℕ → Type 0
Doubled a b k top j = (top * 2 ^ j ≡ a * 2 ^ (k + 149)) × (top < b * 2 ^ 24) × (2 ^ (k + 149 - j) ≤ top) × (j ≤ k + 149)

pub doubled_start : (a b k : ℕ) → 0 < a → a < b * 2 ^ 24 → Doubled a b k a (k + 149)
doubled_start a b k A h = (refl, h, subst (λ (z : ℕ). 2 ^ z ≤ a) (none (k + 149)) A, le_self (k + 149))
  where
    none : (n : ℕ) → 0 ≡ n - n
    none n = omega arith

    le_self : (n : ℕ) → n ≤ n
    le_self n = omega arith

-- top stays below 2^57
low : (top least b : ℕ) → top < least → least ≡ b * 8388608 → b ≤ 2 ^ 34 → top < 2 ^ 57
low top least b h e B = omega arith

module _ (a b k least top j : ℕ) (d : Doubled a b k top j) (h : top < least) (e : least ≡ b * 8388608) (B : b ≤ 2 ^ 34) where
  few : k + 149 - j < 57
  few = go (lt_or_ge (k + 149 - j) 57)
    where
      go : (k + 149 - j < 57) ⊎ (57 ≤ k + 149 - j) → k + 149 - j < 57
      go (inl l) = l
      go (inr l) = absurd (lt_irrefl top (lt_of_lt_of_le (low top least b h e B) (le_trans (pow_mono l) d.2)))

  pub doubled_left : 1 ≤ j
  doubled_left = left (k + 149) j few (lit k)
    where
      lit : (k : ℕ) → 149 ≤ k + 149
      lit k = omega arith

      left : (n j : ℕ) → n - j < 57 → 149 ≤ n → 1 ≤ j
      left n j f l = omega arith

  pub doubled_falls : j - 1 < j
  doubled_falls = falls j doubled_left
    where
      falls : (j : ℕ) → 1 ≤ j → j - 1 < j
      falls j l = omega arith

  pub doubled_fits : top * 2 < 2 ^ 64
  doubled_fits = twice top (low top least b h e B)
    where
      twice : (t : ℕ) → t < 2 ^ 57 → t * 2 < 2 ^ 64
      twice t l = omega arith

  pub doubled_more : Doubled a b k (top * 2) (j - 1)
  doubled_more = (
    mul_assoc top 2 (2 ^ (j - 1)) ∙ ap (λ (z : ℕ). top * z) (pow_pow 1 (j - 1) j (back j doubled_left)) ∙ d.0,
    below top least b h e,
    subst (λ (z : ℕ). z ≤ top * 2) (pow_pow (k + 149 - j) 1 (k + 149 - (j - 1)) (again (k + 149) j doubled_left d.3)) (mul-le-mul_right 2 d.2),
    fewer (k + 149) j d.3,
  )
    where
      back : (j : ℕ) → 1 ≤ j → 1 + (j - 1) ≡ j
      back j l = omega arith

      below : (t l b : ℕ) → t < l → l ≡ b * 8388608 → t * 2 < b * 2 ^ 24
      below t l b h e = omega arith

      again : (n j : ℕ) → 1 ≤ j → j ≤ n → n - j + 1 ≡ n - (j - 1)
      again n j l m = omega arith

      fewer : (n j : ℕ) → j ≤ n → j - 1 ≤ n
      fewer n j l = omega arith

-- ---- behind the loop: the quotient has 24 digits, and j are dropped

module _ (a b k least top j : ℕ) (d : Doubled a b k top j) (K : k ≤ 34) (h : least ≤ top) (e : least ≡ b * 8388608) (A : 0 < a) (s : a < b * 2 ^ 24) where
  J : j ≤ 183
  J = most (k + 149) j k d.3 refl K
    where
      most : (n j k : ℕ) → j ≤ n → n ≡ k + 149 → k ≤ 34 → j ≤ 183
      most n j k l e K = omega arith

  pub field_fits : j * 8388608 < 2 ^ 32
  field_fits = small j J
    where
      small : (j : ℕ) → j ≤ 183 → j * 8388608 < 2 ^ 32
      small j h = omega arith

  pub divisor : 0 < b
  divisor = some a b s
    where
      some : (a b : ℕ) → a < b * 2 ^ 24 → 0 < b
      some a b s = omega arith

  pub quotient_least : 2 ^ 23 ≤ top / b
  quotient_least = (le-div_iff_mul-le divisor).1 (reach top least b h e)
    where
      reach : (t l b : ℕ) → l ≤ t → l ≡ b * 8388608 → 2 ^ 23 * b ≤ t
      reach t l b h e = omega arith

  quotient_most : top / b < 2 ^ 24
  quotient_most = (div-lt_iff_lt-mul divisor).1 (turn top b d.1)
    where
      turn : (t b : ℕ) → t < b * 2 ^ 24 → t < 2 ^ 24 * b
      turn t b h = omega arith

  digits : size (top * 2 ^ j / b) ≡ 24 + j
  digits =
      size_is (top * 2 ^ j / b) (24 + j)
      ((le-div_iff_mul-le divisor).1 (le_trans (le_of_eq (ap (λ (z : ℕ). z * b) (sym (pow_pow 23 j (24 + j - 1) (omega arith))) ∙ right (2 ^ 23) (2 ^ j) b)) (mul-le-mul_right (2 ^ j) ((le-div_iff_mul-le divisor).0 quotient_least))))
      ((div-lt_iff_lt-mul divisor).1 (lt_of_lt_of_le (mul-lt-mul_of_pos_right ((div-lt_iff_lt-mul divisor).0 quotient_most) (pow_pos j)) (le_of_eq (sym (right (2 ^ 24) (2 ^ j) b) ∙ ap (λ (z : ℕ). z * b) (pow_pow 24 j (24 + j) refl)))))
    where
      right : (x y z : ℕ) → x * y * z ≡ x * z * y
      right x y z = mul_assoc x y z ∙ ap (λ (w : ℕ). x * w) (mul_comm y z) ∙ sym (mul_assoc x z y)

  q : ℕ
  q = nearest_whole top b

  units_are : nearest_units (a * 2 ^ (k + 149)) b ≡ q * 2 ^ j
  unfolding nearest_units q
  units_are =
      ap (λ (n : ℕ). nearest_whole n (b * 2 ^ dropped (n / b)) * 2 ^ dropped (n / b)) (sym d.0)
      ∙ ap (λ (z : ℕ). nearest_whole (top * 2 ^ j) (b * 2 ^ z) * 2 ^ z) (ap (λ (z : ℕ). z - 24) digits ∙ off j)
      ∙ ap (λ (z : ℕ). z * 2 ^ j) (whole_same (top * 2 ^ j) (b * 2 ^ j) top b (mul-pos divisor (pow_pos j)) divisor (mul_assoc top (2 ^ j) b ∙ ap (λ (z : ℕ). top * z) (mul_comm (2 ^ j) b)))
    where
      off : (j : ℕ) → 24 + j - 24 ≡ j
      off j = omega arith

  q_least : 2 ^ 23 ≤ q
  unfolding q
  q_least = le_trans quotient_least (whole_least top b)

  q_most : q ≤ 2 ^ 24
  unfolding q
  q_most = le_trans (whole_most top b) quotient_most

  module _ (w : ℕ) (ew : w ≡ nearest_whole top b) where
    at_q : w ≡ q
    unfolding q
    at_q = ew

    pub nearest_number : j * 8388608 + w ≤ 2139095040
    nearest_number = small j w J (subst (λ (z : ℕ). z ≤ 2 ^ 24) (sym at_q) q_most)
      where
        small : (j w : ℕ) → j ≤ 183 → w ≤ 2 ^ 24 → j * 8388608 + w ≤ 2139095040
        small j w h k = omega arith

    pub nearest_fits : j * 8388608 + w < 2 ^ 32
    nearest_fits = lt_of_le_of_lt nearest_number (lit< tt)

    pub nearest_is : of_bits binary32 (j * 8388608 + w) ≡ of_units (nearest_units (a * 2 ^ (k + 149)) b)
    nearest_is = ap (λ (z : ℕ). of_bits binary32 (j * 8388608 + z)) at_q ∙ pattern_is q j J q_least q_most ∙ ap of_units (sym units_are)

    pub nearest_usable : Usable (of_bits binary32 (j * 8388608 + w))
    nearest_usable = subst Usable (sym (ap (λ (z : ℕ). of_bits binary32 (j * 8388608 + z)) at_q ∙ pattern_is q j J q_least q_most)) (units_usable q j J q_least q_most)

    pub nearest_told : usable (nearest_units (a * 2 ^ (k + 149)) b) ≡ true
    nearest_told = ap usable units_are ∙ kept_usable q j J q_least q_most
