-- What an f32 sample is as a whole number of 2^-149: its shape and its value.
use mathlib.Core.Path.{◌≡◌, refl, sym, ap, ◌∙◌, subst}
use mathlib.Core.Bool.{Bool, true, false, not, ◌&&◌, false≢true}
use mathlib.Core.Logic.{⊎_elim}
use Prim.Native.Nat.{ℕ, zero, suc, ◌+◌, ◌-◌, ◌*◌, ◌/◌, ◌%◌, ◌^◌, ◌≤◌, ◌<◌}
use native.Mathlib.Nat.{mul-div_cancel, mul_assoc, mul-one, zero-mul, lt_irrefl, lt_of_lt_of_le, mul-lt-mul_of_pos_right}
use native.Mathlib.Omega.{arith}
use lib.IntN.{ℤ, pos, negsuc}
use lib.Dec.{T, ltb, leb, eqb, lit<, leb→le, ltb→lt}
use lib.Pow.{pow_pos, pow-add, pow_mono, pow-lt, shl_lt}
use lib.Ieee.{Float, nan, inf, fin, binary32, up, down, fits, is_nan, eq}
use lib.Ieee.Fits.{down_pos, and_l, and_r}
use Rattle.steps.proofs.Laws.Order.{lt_or_ge}
use Rattle.pixel.specs.Units.{Exactly, mag}
use Rattle.pixel.specs.Inner.{bright}

-- ---- what `fits` says of a value that is not zero
parts : (s : Bool) (m : ℕ) (e : ℤ) → T (fits binary32 (fin s (suc m) e)) → (suc m < 2 ^ 24) × (down e ≤ 2 ^ 149) × (suc m * up e < 2 ^ 128 * down e)
unfolding fits
parts s m e t =
    let A = eqb (suc m % 2) 1 in
    let B = ltb (suc m) (2 ^ 24) in
    let C = leb (down e) (2 ^ 149) in
    let D = ltb (suc m * up e) (2 ^ 128 * down e) in
    let abc = and_l (A && B && C) D t in
    (ltb→lt (suc m) (2 ^ 24) (and_r A B (and_l (A && B) C abc)), leb→le (down e) (2 ^ 149) (and_r (A && B) C abc), ltb→lt (suc m * up e) (2 ^ 128 * down e) (and_r (A && B && C) D t))

-- a finite f32 is m * 2^i times 2^-149
abbrev pub Shape : ℕ → ℤ → Type 0
Shape m e = (i : ℕ) × (m < 2 ^ 24) × (m * up e * 2 ^ 149 ≡ m * 2 ^ i * down e) × (m * 2 ^ i < 2 ^ 277)

small_exponent : (k : ℕ) → 2 ^ suc k ≤ 2 ^ 149 → suc k ≤ 149
small_exponent k h = ⊎_elim (λ l. absurd (lt_irrefl (2 ^ 149) (lt_of_lt_of_le (pow-lt l) h))) (λ l. l) (lt_or_ge 149 (suc k))

split : (k : ℕ) → suc k ≤ 149 → 149 ≡ 149 - suc k + suc k
split k h = omega arith

top : (k : ℕ) → 24 + (149 - suc k) ≤ 277
top k = omega arith

pub shape : (s : Bool) (m : ℕ) (e : ℤ) → T (fits binary32 (fin s m e)) → Shape m e
shape s zero e t = (0, lit< tt, simp zero-mul, pow_pos 277)
shape s (suc m) (pos k) t =
    let p = parts s m (pos k) t in (
      k + 149,
      p.0,
      simp (mul-one, pow-add, mul_assoc),
      subst (λ (n : ℕ). n < 2 ^ 277) (mul_assoc (suc m) (2 ^ k) (2 ^ 149) ∙ ap (λ (z : ℕ). suc m * z) (sym (pow-add 2 k 149))) (mul-lt-mul_of_pos_right {k = 2 ^ 149} p.2 (pow_pos 149)),
    )
shape s (suc m) (negsuc k) t =
    let p = parts s m (negsuc k) t in
    let h = small_exponent k p.1 in (
      149 - suc k,
      p.0,
      ap (λ (z : ℕ). z * 2 ^ 149) (mul-one (suc m)) ∙ ap (λ (z : ℕ). suc m * z) (ap (λ (z : ℕ). 2 ^ z) (split k h) ∙ pow-add 2 (149 - suc k) (suc k)) ∙ sym (mul_assoc (suc m) (2 ^ (149 - suc k)) (2 ^ suc k)),
      lt_of_lt_of_le (shl_lt 24 (149 - suc k) p.0) (pow_mono (top k)),
    )

pub own_value : (m : ℕ) (e : ℤ) → (h : Shape m e) → Exactly (fin false m e) (m * 2 ^ h.0)
own_value m e h = (refl, h.2)

pub own_mag : (m : ℕ) (e : ℤ) → (h : Shape m e) → m * up e * 2 ^ 149 / down e ≡ m * 2 ^ h.0
own_mag m e h = ap (λ (z : ℕ). z / down e) h.2 ∙ mul-div_cancel (m * 2 ^ h.0) (down_pos e)

-- a bright sample below 2^277 is finite, and its whole number is its value
pub bright_exact : (x : Float) → T (fits binary32 x) → T (bright x) → mag x < 2 ^ 277 → Exactly x (mag x)
unfolding mag
bright_exact nan p b h = absurd b
bright_exact (inf true) p b h = absurd b
bright_exact (inf false) p b h = absurd (lt_irrefl (2 ^ 277) h)
bright_exact (fin true m e) p b h = absurd b
bright_exact (fin false m e) p b h = let k = shape false m e p in subst (Exactly (fin false m e)) (sym (own_mag m e k)) (own_value m e k)

pub bright_number : (x : Float) → T (bright x) → T (not (is_nan x))
unfolding is_nan
bright_number nan b = absurd b
bright_number (inf s) b = tt
bright_number (fin s m e) b = tt

-- what equals itself is a number, and so has a bit pattern
pub self_number : (x : Float) → eq x x ≡ true → T (not (is_nan x))
unfolding eq is_nan
self_number nan e = absurd (false≢true e)
self_number (inf s) e = tt
self_number (fin s m d) e = tt
