-- The bytes of a pixel by cases of its largest sample, and one byte as a quotient.
use mathlib.Core.Path.{◌≡◌, sym, ap, ◌∙◌, subst}
use mathlib.Core.Bool.{Bool, false, not}
use mathlib.Core.Logic.{⊎_elim, ◌⊎◌, inl, inr}
use Prim.Native.Nat.{ℕ, ◌-◌, ◌*◌, ◌/◌, ◌^◌, ◌≤◌, ◌<◌, max}
use native.Mathlib.Nat.{le-max_left, le-max_right, le_trans, le_of_lt, lt_of_le_of_lt, max-eq_left, max-eq_right, mul_assoc, mul_comm, mul-lt-mul_of_pos_right, div-lt_iff_lt-mul}
use native.Mathlib.Omega.{arith}
use lib.Dec.{ltb, leb, lit<}
use lib.Pow.{pow_pos}
use lib.Ieee.{Float, size}
use lib.Ieee.Nearest.{div_same}
use borrow.Author.Tests.{le-leb, lt-leb, lt-ltb, le-ltb, leb-false, ltb-false}
use Rattle.steps.proofs.Laws.Order.{lt_or_ge}
use Rattle.steps.specs.Loop.{pick}
use Rattle.pixel.specs.declared.Pixel.{Pixel}
use Rattle.pixel.specs.Units.{mag}
use Rattle.pixel.specs.Rgbe.{peak, dark, byte_of, coded, black, too_bright, bytes_of}
use Rattle.pixel.specs.Inner.{near}
use Rattle.pixel.proofs.Laws.Numbers.{pow_pow}

-- ---- no sample is above the largest, and the largest is one of the three
pub r_peak : (p : Pixel) → mag p.r ≤ peak p
unfolding peak
r_peak p = le_trans (le-max_left (mag p.r) (mag p.g)) (le-max_left (max (mag p.r) (mag p.g)) (mag p.b))

pub g_peak : (p : Pixel) → mag p.g ≤ peak p
unfolding peak
g_peak p = le_trans (le-max_right (mag p.r) (mag p.g)) (le-max_left (max (mag p.r) (mag p.g)) (mag p.b))

pub b_peak : (p : Pixel) → mag p.b ≤ peak p
unfolding peak
b_peak p = le-max_right (max (mag p.r) (mag p.g)) (mag p.b)

max_is : (a b : ℕ) → (max a b ≡ a) ⊎ (max a b ≡ b)
max_is a b = ⊎_elim (λ h. inr (max-eq_right (le_of_lt h))) (λ h. inl (max-eq_left h)) (lt_or_ge a b)

pub peak_is : (p : Pixel) → (peak p ≡ mag p.r) ⊎ ((peak p ≡ mag p.g) ⊎ (peak p ≡ mag p.b))
unfolding peak
peak_is p =
    let m = max (mag p.r) (mag p.g) in
    ⊎_elim
    (λ h. ⊎_elim (λ k. inl (h ∙ k)) (λ k. inr (inl (h ∙ k))) (max_is (mag p.r) (mag p.g)))
    (λ h. inr (inr h))
    (max_is m (mag p.b))

-- ---- the cases
leb_ltb : (a b : ℕ) → leb a b ≡ not (ltb b a)
leb_ltb a b = ⊎_elim (λ h. lt-leb a b h ∙ ap not (sym (lt-ltb b a h))) (λ h. le-leb a b h ∙ ap not (sym (le-ltb b a h))) (lt_or_ge b a)

pub coded_bytes : (p : Pixel) → dark < peak p → bytes_of p ≡ coded (size (peak p)) p
unfolding bytes_of
coded_bytes p l = ap (λ (t : Bool). pick t black (coded (size (peak p)) p)) (lt-leb (peak p) dark l)

pub black_bytes : (p : Pixel) → peak p ≤ dark → bytes_of p ≡ black
unfolding bytes_of
black_bytes p h = ap (λ (t : Bool). pick t black (coded (size (peak p)) p)) (le-leb (peak p) dark h)

-- check 12, and what it says where it passes
pub bright_by_test : (p : Pixel) → too_bright p ≡ not (ltb (peak p) (2 ^ 276))
unfolding too_bright
bright_by_test p = leb_ltb (2 ^ 276) (peak p)

pub peak_below : (p : Pixel) → too_bright p ≡ false → peak p < 2 ^ 276
unfolding too_bright
peak_below p e = leb-false (2 ^ 276) (peak p) e

-- a pixel that has no sample near 2^127 is not too bright
pub dim_pixel : (p : Pixel) → near p.r ≡ false → near p.g ≡ false → near p.b ≡ false → too_bright p ≡ false
unfolding near too_bright
dim_pixel p r g b =
    let small : (x : Float) → ltb (2 ^ 275) (mag x) ≡ false → mag x < 2 ^ 276 = λ x e. lt_of_le_of_lt (ltb-false (2 ^ 275) (mag x) e) (lit< tt) in
    lt-leb (2 ^ 276) (peak p) (⊎_elim (λ e. subst (λ (n : ℕ). n < 2 ^ 276) (sym e) (small p.r r)) (λ o. ⊎_elim (λ e. subst (λ (n : ℕ). n < 2 ^ 276) (sym e) (small p.g g)) (λ e. subst (λ (n : ℕ). n < 2 ^ 276) (sym e) (small p.b b)) o) (peak_is p))

-- ---- a byte is the quotient by the step
pub by_step : (n N : ℕ) → 8 ≤ N → byte_of N n ≡ n / 2 ^ (N - 8)
by_step n N h = div_same (n * 256) (2 ^ N) n (2 ^ (N - 8)) (pow_pos N) (pow_pos (N - 8)) (mul_assoc n 256 (2 ^ (N - 8)) ∙ ap (λ (z : ℕ). n * z) (pow_pow 8 (N - 8) N (omega arith)))

pub byte_lt : (n N : ℕ) → n < 2 ^ N → byte_of N n < 256
byte_lt n N h = (div-lt_iff_lt-mul (pow_pos N)).1 (subst (λ (z : ℕ). n * 256 < z) (mul_comm (2 ^ N) 256) (mul-lt-mul_of_pos_right {k = 256} h (lit< tt)))
