-- The darkest f32 that is not written black is 0a4fb120; the f32 nearest to 1e-32, next below it, is black.
use mathlib.Core.Path.{◌≡◌, refl, sym, ap, ◌∙◌, subst}
use mathlib.Core.Bool.{true, false}
use lib.IntN.{negsuc}
use mathlib.Core.Logic.{⊎_elim}
use Prim.Native.Nat.{ℕ, ◌+◌, ◌-◌, ◌*◌, ◌^◌, ◌≤◌, ◌<◌}
use native.Mathlib.Nat.{lt_irrefl, lt_trans, lt_of_lt_of_le, le_trans, not-suc-le-zero}
use native.Mathlib.Omega.{arith}
use lib.Dec.{T, lit≤}
use lib.Pow.{pow_mono, shl_lt}
use lib.Ieee.{Float, nan, inf, fin, binary32, round, of_bits, fits, size}
use Rattle.steps.proofs.Laws.Order.{lt_or_ge}
use Rattle.pixel.specs.declared.Pixel.{Pixel}
use Rattle.pixel.specs.declared.Rgbe.{Rgbe}
use Rattle.pixel.specs.Units.{mag}
use Rattle.pixel.specs.Rgbe.{peak, dark, black, bytes_of}
use Rattle.loss.specs.Dark.{last_black, first_light, grey}
use Rattle.pixel.proofs.Laws.Numbers.{mul_pow_pow}
use Rattle.pixel.proofs.Laws.Samples.{shape, own_mag}
use Rattle.pixel.proofs.Laws.Digits.{size_low}
use Rattle.pixel.proofs.Laws.Bytes.{peak_is, coded_bytes, black_bytes}

-- ---- The two f32s

-- each side is computed to its own literal
nearest : round binary32 false 1 (10 ^ 32) ≡ fin false 0xcfb11f (negsuc 129)
unfolding round
nearest = refl

pattern : last_black ≡ fin false 0xcfb11f (negsuc 129)
unfolding of_bits
pattern = refl

pub last_nearest : last_black ≡ round binary32 false 1 (10 ^ 32)
last_nearest = pattern ∙ sym nearest

last_mag : mag last_black ≡ dark
unfolding of_bits mag
last_mag = refl

first_mag : mag first_light ≡ 0xcfb120 * 524288
unfolding of_bits mag
first_mag = refl

-- ---- No f32 lies between them

-- what has at most 24 binary digits and is above the one, is at least the other
beyond : (m i : ℕ) → m < 2 ^ 24 → dark < m * 2 ^ i → 0xcfb120 * 524288 ≤ m * 2 ^ i
beyond m i h l =
    ⊎_elim
    (λ s. absurd (lt_irrefl dark (lt_trans l (lt_of_lt_of_le (shl_lt 24 i h) (le_trans (pow_mono {i = 24 + i} {j = 42} (omega arith)) (lit≤ {m = 2 ^ 42} {n = dark} tt))))))
    (λ s. let is = mul_pow_pow m (i - 19) 19 i (omega arith) in subst (λ (z : ℕ). 0xcfb120 * 524288 ≤ z) is (next (m * 2 ^ (i - 19)) (subst (λ (z : ℕ). dark < z) (sym is) l)))
    (lt_or_ge i 19)
  where
    next : (z : ℕ) → 0xcfb11f * 524288 < z * 524288 → 0xcfb120 * 524288 ≤ z * 524288
    next z k = omega arith

above_dark : (x : Float) → T (fits binary32 x) → dark < mag x → 0xcfb120 * 524288 ≤ mag x
unfolding mag
above_dark nan f l = absurd (not-suc-le-zero l)
above_dark (inf true) f l = absurd (not-suc-le-zero l)
above_dark (inf false) f l = lit≤ tt
above_dark (fin true m e) f l = absurd (not-suc-le-zero l)
above_dark (fin false m e) f l =
    let k = shape false m e f in
    subst (λ (n : ℕ). 0xcfb120 * 524288 ≤ n) (sym (own_mag m e k)) (beyond m k.0 k.1 (subst (λ (n : ℕ). dark < n) (own_mag m e k) l))

pub none_between : (x : Float) → T (fits binary32 x) → mag last_black < mag x → mag first_light ≤ mag x
none_between x f l = subst (λ (n : ℕ). n ≤ mag x) (sym first_mag) (above_dark x f (subst (λ (n : ℕ). n < mag x) last_mag l))

-- ---- What is written of them

pub last_is_black : bytes_of (grey last_black) ≡ black
unfolding of_bits mag peak bytes_of
last_is_black = refl

pub first_is_light : bytes_of (grey first_light) ≡ record { r = 207; g = 207; b = 207; e = 22 }
unfolding of_bits size mag peak bytes_of
first_is_light = refl

-- a pixel that is not too bright is black just where its largest sample is not above the one
pub black_up_to : (p : Pixel) → peak p ≤ mag last_black → bytes_of p ≡ black
black_up_to p h = black_bytes p (subst (λ (n : ℕ). peak p ≤ n) last_mag h)

not_nothing : (n : ℕ) → 43 ≤ n → n - 21 ≡ 0 → ⊥
not_nothing n h e = omega arith

pub light_above : (p : Pixel) → mag last_black < peak p → bytes_of p ≡ black → ⊥
light_above p l e =
    let above : dark < peak p = subst (λ (n : ℕ). n < peak p) last_mag l in
    not_nothing (size (peak p)) (size_low (peak p) above) (ap (λ (q : Rgbe). q.e) (sym (coded_bytes p above) ∙ e))

-- so no pixel of f32s that is not black is darker than the other
pub darkest_light : (p : Pixel) → T (fits binary32 p.r) → T (fits binary32 p.g) → T (fits binary32 p.b) → (bytes_of p ≡ black → ⊥) → mag first_light ≤ peak p
darkest_light p r g b light =
    let above : mag last_black < peak p = ⊎_elim (λ l. l) (λ l. absurd (light (black_up_to p l))) (lt_or_ge (mag last_black) (peak p)) in
    ⊎_elim (λ e. by p.r r e above) (λ o. ⊎_elim (λ e. by p.g g e above) (λ e. by p.b b e above) o) (peak_is p)
  where
    by : (x : Float) → T (fits binary32 x) → peak p ≡ mag x → mag last_black < peak p → mag first_light ≤ peak p
    by x f e l = subst (λ (n : ℕ). mag first_light ≤ n) (sym e) (none_between x f (subst (λ (n : ℕ). mag last_black < n) e l))
