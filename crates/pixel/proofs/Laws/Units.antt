-- The laws of `specs/Units.antt`: a float and its whole number of 2^-149.
use mathlib.Core.Path.{◌≡◌, refl, sym, ap, ◌∙◌, subst}
use mathlib.Core.Bool.{Bool, true, false, not}
use Prim.Native.Nat.{ℕ, ◌*◌, ◌/◌, ◌^◌, ◌≤◌, ◌<◌}
use native.Mathlib.Nat.{mul-pos, mul-mul-mul_comm, mul-div_cancel, one-mul}
use lib.IntN.{pos}
use lib.Dec.{T, eqb, lit<}
use lib.Pow.{pow_pos, pow-lt}
use lib.Ieee.{Float, nan, inf, fin, binary32, up, down, round, mul, of_int, unlike, fits}
use lib.Ieee.Exact.{HasValue, round_exact}
use lib.Ieee.Fits.{down_pos, round-fits}
use lib.Ieee.Back.{round_whole}
use lib.Ieee.Scale.{round_same}
use Rattle.steps.specs.Loop.{pick}
use Rattle.pixel.specs.Units.{of_units, Exactly, mag, plain}
use Rattle.pixel.specs.Inner.{bright}

-- ---- what has few enough digits is exact
pub units_exact : (q j : ℕ) → q < 2 ^ 24 → q * 2 ^ j < 2 ^ 277 → Exactly (of_units (q * 2 ^ j)) (q * 2 ^ j)
unfolding of_units
units_exact q j h k = round_exact binary32 false (q * 2 ^ j) (2 ^ 149) q j (pow_pos 149) h k refl

pub power_exact : (j : ℕ) → j < 277 → Exactly (of_units (2 ^ j)) (2 ^ j)
power_exact j h = rw one-mul at (units_exact 1 j (lit< tt) (rw one-mul (pow-lt h)))

pub zero_exact : Exactly (of_units 0) 0
zero_exact = units_exact 0 0 (pow_pos 24) (pow_pos 277)

pub units_fits : (n : ℕ) → T (fits binary32 (of_units n))
unfolding of_units
units_fits n = round-fits binary32 false n (2 ^ 149)

pub exact_bright : (x : Float) (n : ℕ) → Exactly x n → T (bright x)
exact_bright nan n h = absurd h
exact_bright (inf s) n h = absurd h
exact_bright (fin s m e) n h = subst (λ (t : Bool). T (not t)) (sym h.0) tt

pub exact_plain : (x : Float) (n : ℕ) → Exactly x n → T (plain x)
exact_plain nan n h = absurd h
exact_plain (inf s) n h = absurd h
exact_plain (fin s m e) n h = subst (λ (t : Bool). T (pick t (eqb m 0) true)) (sym h.0) tt

-- the whole number of a float that is exactly n is n
pub mag_is : (x : Float) (n : ℕ) → Exactly x n → mag x ≡ n
unfolding mag
mag_is nan n h = absurd h
mag_is (inf s) n h = absurd h
mag_is (fin s m e) n h =
    ap (λ (z : Bool). pick z 0 (m * up e * 2 ^ 149 / down e)) h.0
    ∙ ap (λ (z : ℕ). z / down e) h.1
    ∙ mul-div_cancel n (down_pos e)

-- ---- a product of two values that are not negative is rounded once
pub mul_values : (x y : Float) (a c b d : ℕ) → 0 < c → 0 < d → HasValue x false a c → HasValue y false b d → mul binary32 x y ≡ round binary32 false (a * b) (c * d)
unfolding mul
mul_values nan y a c b d C D h k = absurd h
mul_values (inf s) y a c b d C D h k = absurd h
mul_values (fin s m e) nan a c b d C D h k = absurd k
mul_values (fin s m e) (inf t) a c b d C D h k = absurd k
mul_values (fin s m e) (fin t n g) a c b d C D h k =
    ap (λ (z : Bool). round binary32 (unlike z t) (m * up e * (n * up g)) (down e * down g)) h.0
    ∙ ap (λ (z : Bool). round binary32 (unlike false z) (m * up e * (n * up g)) (down e * down g)) k.0
    ∙ round_same binary32 false (m * up e * (n * up g)) (down e * down g) (a * b) (c * d) (mul-pos (down_pos e) (down_pos g)) (mul-pos C D)
    (mul-mul-mul_comm (m * up e) (n * up g) c d ∙ ap (λ (z : ℕ). z * (n * up g * d)) h.1 ∙ ap (λ (z : ℕ). a * down e * z) k.1 ∙ mul-mul-mul_comm a (down e) b (down g))

-- a mantissa times a whole number of 2^-149
pub scaled : (m n : ℕ) (y : Float) → m ≤ 2 ^ 24 → Exactly y n → mul binary32 (of_int binary32 (pos m)) y ≡ of_units (m * n)
unfolding of_units of_int
scaled m n y h k = mul_values (of_int binary32 (pos m)) y m 1 n (2 ^ 149) (lit< tt) (pow_pos 149) (round_whole binary32 false m h) k
