-- A step is at most 1/128 of the pixel's largest sample, wherever the pixel is not written black; so in the whole range of demand 3.
use Prim.Native.Nat.{ℕ, ◌-◌, ◌*◌, ◌^◌, ◌≤◌, ◌<◌}
use mathlib.Core.Logic.{⊎_elim}
use mathlib.Core.Path.{◌≡◌, sym, subst}
use native.Mathlib.Nat.{lt_irrefl, lt_of_lt_of_le}
use native.Mathlib.Omega.{arith}
use lib.Dec.{lit<}
use lib.Ieee.{size}
use lib.Pow.{pow_pos}
use Rattle.loss.specs.Kept.{Between, Lies, step}
use Rattle.pixel.specs.declared.Pixel.{Pixel}
use Rattle.pixel.specs.Rgbe.{peak, dark}
use Rattle.pixel.proofs.Laws.Numbers.{pow_pow}
use Rattle.pixel.proofs.Laws.Digits.{size_is, size_low}

-- from 2^-142 on, which is 2^7 times 2^-149; below it no step is a whole number of 2^-149
pub step_share_from : (p : Pixel) (n : ℕ) → 8 ≤ n → Lies p n → 128 * step n ≤ peak p
step_share_from p n h lies = subst (λ (z : ℕ). z ≤ peak p) (sym (pow_pow 7 (n - 8) (n - 1) (omega arith))) lies.from

-- a pixel that is not written black
pub step_share : (p : Pixel) (n : ℕ) → dark < peak p → Lies p n → 128 * step n ≤ peak p
step_share p n l lies = step_share_from p n (enough (size (peak p)) n (size_is (peak p) n lies.from lies.below) (size_low (peak p) l)) lies
  where
    enough : (s n : ℕ) → s ≡ n → 43 ≤ s → 8 ≤ n
    enough s n e h = omega arith

-- a pixel in range
pub step_in_range : (p : Pixel) (n : ℕ) → Between (peak p) → Lies p n → 128 * step n ≤ peak p
step_in_range p n range lies =
    ⊎_elim
    (λ e. absurd (lt_irrefl 0 (subst (λ (z : ℕ). 0 < z) e (lt_of_lt_of_le (pow_pos (n - 1)) lies.from))))
    (λ h. step_share p n (lt_of_lt_of_le (lit< {m = dark} {n = 2 ^ 117} tt) h.0) lies)
    range
