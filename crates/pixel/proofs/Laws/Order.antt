-- The order of samples is that of their whole numbers of 2^-149.
use mathlib.Core.Path.{◌≡◌, refl, sym, ap, ◌∙◌, subst}
use mathlib.Core.Bool.{Bool, true, false}
use Prim.Native.Nat.{ℕ, ◌*◌, ◌^◌, ◌≤◌, zero-le, ◌<◌}
use native.Mathlib.Nat.{mul-pos, le_of_lt, lt_of_mul-lt-mul_right, mul-lt-mul_of_pos_right}
use lib.IntN.{ℤ}
use lib.Dec.{T, ltb}
use lib.Pow.{pow_pos}
use lib.Ieee.{Float, nan, inf, fin, binary32, up, down, lt, fits}
use lib.Ieee.Fits.{down_pos}
use borrow.Author.Tests.{lt-ltb, le-ltb, ltb-true, ltb-false}
use Rattle.pixel.specs.Units.{mag}
use Rattle.pixel.specs.Inner.{bright}
use Rattle.pixel.proofs.Laws.Numbers.{same_test, over_left, over_right}
use Rattle.pixel.proofs.Laws.Samples.{shape, own_mag}

mag_bound : (s : Bool) (m : ℕ) (e : ℤ) → T (fits binary32 (fin s m e)) → mag (fin s m e) < 2 ^ 277
unfolding mag
mag_bound true m e t = pow_pos 277
mag_bound false m e t = let h = shape false m e t in subst (λ (n : ℕ). n < 2 ^ 277) (sym (own_mag m e h)) h.3

-- x / d < y / e, which are a / l and b / l, is a < b
cross : (x d y e l a b : ℕ) → 0 < d → 0 < e → 0 < l → x * l ≡ a * d → y * l ≡ b * e → ltb (x * e) (y * d) ≡ ltb a b
cross x d y e l a b D E L h k = same_test (x * e) (y * d) a b there back
  where
    there : x * e < y * d → a < b
    there r = lt_of_mul-lt-mul_right (d * e) (subst (λ (z : ℕ). z < b * (d * e)) (over_left x d y e l a b h k) (subst (λ (z : ℕ). x * e * l < z) (over_right x d y e l a b h k) (mul-lt-mul_of_pos_right r L)))

    back : a < b → x * e < y * d
    back r = lt_of_mul-lt-mul_right l (subst (λ (z : ℕ). z < y * d * l) (sym (over_left x d y e l a b h k)) (subst (λ (z : ℕ). a * (d * e) < z) (sym (over_right x d y e l a b h k)) (mul-lt-mul_of_pos_right r (mul-pos D E))))

-- a comparison of f32s is one of whole numbers
pub lt_mag : (y x : Float) → T (fits binary32 y) → T (fits binary32 x) → T (bright y) → lt y x ≡ ltb (mag y) (mag x)
unfolding lt mag
lt_mag nan x p q b = absurd b
lt_mag (inf true) x p q b = absurd b
lt_mag (inf false) nan p q b = refl
lt_mag (inf false) (inf true) p q b = refl
lt_mag (inf false) (inf false) p q b = refl
lt_mag (inf false) (fin t n d) p q b = sym (le-ltb (2 ^ 277) (mag (fin t n d)) (le_of_lt (mag_bound t n d q)))
lt_mag (fin true m e) x p q b = absurd b
lt_mag (fin false m e) nan p q b = sym (le-ltb (mag (fin false m e)) 0 zero-le)
lt_mag (fin false m e) (inf true) p q b = sym (le-ltb (mag (fin false m e)) 0 zero-le)
lt_mag (fin false m e) (inf false) p q b = sym (lt-ltb (mag (fin false m e)) (2 ^ 277) (mag_bound false m e p))
lt_mag (fin false m e) (fin true n d) p q b = sym (le-ltb (mag (fin false m e)) 0 zero-le)
lt_mag (fin false m e) (fin false n d) p q b =
    let h = shape false m e p in
    let k = shape false n d q in
    cross (m * up e) (down e) (n * up d) (down d) (2 ^ 149) (m * 2 ^ h.0) (n * 2 ^ k.0) (down_pos e) (down_pos d) (pow_pos 149) h.2 k.2
    ∙ ap (λ (z : ℕ). ltb z (n * 2 ^ k.0)) (sym (own_mag m e h))
    ∙ ap (λ (z : ℕ). ltb (mag (fin false m e)) z) (sym (own_mag n d k))

-- what is above a bright value is bright
pub above_bright : (y x : Float) → T (bright y) → lt y x ≡ true → T (bright x)
unfolding lt
above_bright nan x b h = absurd b
above_bright (inf true) x b h = absurd b
above_bright (inf false) nan b h = absurd (subst T (sym h) tt)
above_bright (inf false) (inf s) b h = absurd (subst T (sym h) tt)
above_bright (inf false) (fin s m e) b h = absurd (subst T (sym h) tt)
above_bright (fin true m e) x b h = absurd b
above_bright (fin false m e) nan b h = absurd (subst T (sym h) tt)
above_bright (fin false m e) (inf s) b h = subst T (sym h) tt
above_bright (fin false m e) (fin true n d) b h = absurd (subst T (sym h) tt)
above_bright (fin false m e) (fin false n d) b h = tt

module _ (y x : Float) (p : T (fits binary32 y)) (q : T (fits binary32 x)) (b : T (bright y)) where
  pub above : lt y x ≡ true → mag y < mag x
  above h = ltb-true (mag y) (mag x) (sym (lt_mag y x p q b) ∙ h)

  pub not_above : lt y x ≡ false → mag x ≤ mag y
  not_above h = ltb-false (mag y) (mag x) (sym (lt_mag y x p q b) ∙ h)
