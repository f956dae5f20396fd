-- Where the crate's sample is not the lower edge of the step, the brightness is wrong by a whole power of 2^32.
use mathlib.Core.Path.{◌≡◌, sym, ap, ◌∙◌}
use Prim.Native.Nat.{ℕ, ◌+◌, ◌-◌, ◌*◌, ◌/◌, ◌^◌, ◌≤◌, ◌<◌}
use native.Mathlib.Omega.{arith}
use Rattle.steps.specs.declared.Reading.TheVariants.{Crate, Document}
use Rattle.pixel.specs.Rgbe.{shift_of, scale_of, units_of, crate_units}
use Rattle.loss.specs.Document.{half, edge}
use Rattle.loss.specs.Apart.{Times}
use Rattle.pixel.proofs.Laws.Numbers.{mul_pow_pow}
use Rattle.pixel.proofs.Laws.Scales.{crate_high, crate_low, scale_at}
use Rattle.loss.proofs.Laws.Scales.{doubled, two_halves}

-- two scales that are so many powers apart
apart : (m a b i j k : ℕ) → a ≡ 2 ^ j → b ≡ 2 ^ i → i + k ≡ j → m * a ≡ m * b * 2 ^ k
apart m a b i j k x y h = ap (λ (z : ℕ). m * z) x ∙ sym (mul_pow_pow m i k j h) ∙ ap (λ (z : ℕ). m * z * 2 ^ k) (sym y)

-- at the exponent bytes 1 to 96 light is shown brighter than it is
pub shown_brighter : (m e : ℕ) → 1 ≤ e → e ≤ 96 → Times (crate_units m e) (edge m e)
unfolding units_of
shown_brighter m e l h = record {
  power = (128 - e) / 32;
  some = omega arith;
  most = omega arith;
  is =
      apart m (scale_of Crate e) (2 * half e) (1 + shift_of Document e) (shift_of Crate e) (32 * ((128 - e) / 32)) (scale_at Crate e l) (two_halves e l) (omega (arith, crate_low e (omega arith)))
      ∙ ap (λ (z : ℕ). z * 2 ^ (32 * ((128 - e) / 32))) (doubled m (half e));
}

-- at 160 to 255 it is shown darker
pub shown_darker : (m e : ℕ) → 160 ≤ e → e ≤ 255 → Times (edge m e) (crate_units m e)
unfolding units_of
shown_darker m e l h =
    let some : 0 < e = omega arith in
    record {
      power = (e - 128) / 32;
      some = omega arith;
      most = omega arith;
      is =
          sym (doubled m (half e))
          ∙ apart m (2 * half e) (scale_of Crate e) (shift_of Crate e) (1 + shift_of Document e) (32 * ((e - 128) / 32)) (two_halves e some) (scale_at Crate e some) (omega (arith, crate_high e (omega arith)));
    }
