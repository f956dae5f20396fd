-- The product of two exposures: one multiplication of f32, which rounds once.
use mathlib.Core.Path.{◌≡◌, refl, sym, ap, ◌∙◌, subst}
use mathlib.Core.Bool.{Bool, true, false, ◌&&◌}
use Prim.Native.Nat.{ℕ, ◌*◌, ◌^◌, ◌<◌}
use native.Mathlib.Nat.{mul_assoc, mul-pos, lt_irrefl}
use lib.Dec.{T, ltb}
use lib.Pow.{pow_pos}
use lib.Ieee.{Float, nan, inf, fin, binary32, mul, round, of_bits, lt, fits}
use lib.Ieee.Bits.{of_bits-fits}
use Rattle.std.specs.Prelude.{Option, Some, None}
use Rattle.steps.specs.Loop.{pick}
use Rattle.pixel.specs.Units.{of_units, Exactly, mag}
use Rattle.pixel.specs.Inner.{bright}
use Rattle.pixel.proofs.Laws.Units.{mul_values, units_exact, units_fits}
use Rattle.pixel.proofs.Laws.Samples.{shape, own_mag, bright_exact}
use Rattle.pixel.proofs.Laws.Patterns.{value_unique}
use Rattle.pixel.proofs.Laws.Order.{lt_mag}
use Rattle.stated.specs.declared.Exposure.{Exposure}
use Rattle.stated.specs.declared.Exposure.TheVariants.{Stated, NotStated}
use Rattle.stated.specs.Rounded.{nearest_units, product, usable}
use Rattle.stated.specs.Said.{together}
use Rattle.stated.specs.Inner.{usable_factor, Usable, SoundSoFar}
use Rattle.stated.proofs.Laws.Rounded.{nearest_same, round_bright, round_usable, round_units, usable_most}

-- ---- the tests against zero and plus infinity

zero_mag : mag (of_bits binary32 0) ≡ 0
unfolding of_bits mag
zero_mag = refl

zero_bright : T (bright (of_bits binary32 0))
unfolding of_bits
zero_bright = tt

infinite_mag : mag (of_bits binary32 2139095040) ≡ 2 ^ 277
unfolding of_bits mag
infinite_mag = refl

module _ (x : Float) (f : T (fits binary32 x)) where
  above_zero : lt (of_bits binary32 0) x ≡ ltb 0 (mag x)
  above_zero = lt_mag (of_bits binary32 0) x (of_bits-fits binary32 0) f zero_bright ∙ ap (λ (n : ℕ). ltb n (mag x)) zero_mag

  pub not_above_zero : lt (of_bits binary32 0) x ≡ false → false ≡ usable (mag x)
  unfolding usable
  not_above_zero e = ap (λ (t : Bool). t && ltb (mag x) (2 ^ 277)) (sym e ∙ above_zero)

  pub below_infinite : T (bright x) → lt (of_bits binary32 0) x ≡ true → lt x (of_bits binary32 2139095040) ≡ usable (mag x)
  unfolding usable
  below_infinite b e =
      lt_mag x (of_bits binary32 2139095040) f (of_bits-fits binary32 2139095040) b
      ∙ ap (ltb (mag x)) infinite_mag
      ∙ ap (λ (t : Bool). t && ltb (mag x) (2 ^ 277)) (sym e ∙ above_zero)

  pub usable_exact : Usable x → Exactly x (mag x)
  usable_exact u = bright_exact x f u.0 (usable_most (mag x) u.1)

-- a usable number stands for itself
own_exact : (x : Float) → T (fits binary32 x) → T (bright x) → mag x < 2 ^ 277 → Exactly (of_units (mag x)) (mag x)
unfolding mag
own_exact nan f b h = absurd b
own_exact (inf true) f b h = absurd b
own_exact (inf false) f b h = absurd (lt_irrefl (2 ^ 277) h)
own_exact (fin true m e) f b h = absurd b
own_exact (fin false m e) f b h = let k = shape false m e f in subst (λ (z : ℕ). Exactly (of_units z) z) (sym (own_mag m e k)) (units_exact m k.0 k.1 k.3)

pub usable_itself : (x : Float) → T (fits binary32 x) → Usable x → x ≡ of_units (mag x)
usable_itself x f u = value_unique x (of_units (mag x)) (mag x) f (units_fits (mag x)) (usable_exact x f u) (own_exact x f u.0 (usable_most (mag x) u.1))

-- ---- one multiplication

module _ (x y : Float) (f : T (fits binary32 x)) (g : T (fits binary32 y)) (u : Usable x) (v : Usable y) where
  once : mul binary32 x y ≡ round binary32 false (mag x * mag y) (2 ^ 149 * 2 ^ 149)
  once = mul_values x y (mag x) (2 ^ 149) (mag y) (2 ^ 149) (pow_pos 149) (pow_pos 149) (usable_exact x f u) (usable_exact y g v)

  both : 0 < 2 ^ 149 * 2 ^ 149
  both = mul-pos (pow_pos 149) (pow_pos 149)

  same : nearest_units (mag x * mag y * 2 ^ 149) (2 ^ 149 * 2 ^ 149) ≡ product (mag x) (mag y)
  unfolding product
  same = nearest_same (mag x * mag y * 2 ^ 149) (2 ^ 149 * 2 ^ 149) (mag x * mag y) (2 ^ 149) both (pow_pos 149) (mul_assoc (mag x * mag y) (2 ^ 149) (2 ^ 149))

  pub times_bright : T (bright (mul binary32 x y))
  times_bright = subst (λ (z : Float). T (bright z)) (sym once) (round_bright (mag x * mag y) (2 ^ 149 * 2 ^ 149) both)

  tested : usable (mag (mul binary32 x y)) ≡ usable (product (mag x) (mag y))
  tested = ap (λ (z : Float). usable (mag z)) once ∙ round_usable (mag x * mag y) (2 ^ 149 * 2 ^ 149) both ∙ ap usable same

  pub times_is : usable (mag (mul binary32 x y)) ≡ true → Some (mul binary32 x y) ≡ usable_factor (product (mag x) (mag y))
  unfolding usable_factor
  times_is e =
      let good : usable (product (mag x) (mag y)) ≡ true = sym tested ∙ e in
      ap Some (once ∙ round_units (mag x * mag y) (2 ^ 149 * 2 ^ 149) both (ap usable same ∙ good) ∙ ap of_units same)
      ∙ ap (λ (t : Bool). pick t (Some (of_units (product (mag x) (mag y)))) None) (sym good)

  pub times_not : usable (mag (mul binary32 x y)) ≡ false → None ≡ usable_factor (product (mag x) (mag y))
  unfolding usable_factor
  times_not e = ap (λ (t : Bool). pick t (Some (of_units (product (mag x) (mag y)))) None) (sym e ∙ tested)

-- ---- with what was stated before

pub together_first : (x : Float) (before : Exposure) → T (fits binary32 x) → Usable x → before ≡ NotStated → Some x ≡ usable_factor (together before (mag x))
unfolding usable_factor
together_first x before f u e =
    ap Some (usable_itself x f u)
    ∙ ap (λ (t : Bool). pick t (Some (of_units (mag x))) None) (sym u.1)
    ∙ ap (λ (w : Exposure). usable_factor (together w (mag x))) (sym e)

pub together_more : (x y : Float) (before : Exposure) (r : Option Float) → before ≡ Stated y → r ≡ usable_factor (product (mag y) (mag x)) → r ≡ usable_factor (together before (mag x))
together_more x y before r e h = h ∙ ap (λ (w : Exposure). usable_factor (together w (mag x))) (sym e)

pub stated_usable : (y : Float) (before : Exposure) → before ≡ Stated y → SoundSoFar before → Usable y
stated_usable y before e h = subst SoundSoFar e h
