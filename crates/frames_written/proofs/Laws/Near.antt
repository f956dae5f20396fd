-- The pixels that the search for refusal 12 passes over: no sample of their row is above 2^126.
use Prim.Native.Nat.{ℕ, zero, suc, ◌+◌, ◌*◌}
use mathlib.Core.Bool.{Bool, true, false, ◌||◌}
use mathlib.Core.List.{List}
use mathlib.Core.Path.{◌≡◌, refl, sym, ap, ◌∙◌}
use native.Mathlib.Omega.{arith}
use native.Mathlib.Numerals.{add-one}
use lib.ListN.{get_or}
use lib.Ieee.{Float, nan}
use Rattle.pixel.specs.Inner.{near}
use Rattle.pixel.proofs.Laws.Bytes.{dim_pixel}
use Rattle.frames_written.specs.Samples.{pixel_at, first_bright}
use Rattle.frames_written.specs.Inner.{any_near}
use Rattle.frames_written.proofs.Laws.Samples.{bright_most, by_test, differ}

module _ (samples : List Float) where
  neither : (t u : Bool) → (t || u) ≡ false → (t ≡ false) × (u ≡ false)
  neither true u h = absurd (differ samples refl h)
  neither false u h = (refl, h)

  -- where no sample is above 2^126, every pixel can be written
  pub dim_row : (n i : ℕ) → any_near samples i (3 * n) ≡ false → first_bright samples i n ≡ n
  unfolding any_near
  dim_row zero i h = omega (arith, bright_most samples i 0)
  dim_row (suc n) i h =
      let three : 3 * suc n ≡ suc (suc (suc (3 * n))) = omega arith in
      let first : any_near samples i (suc (suc (suc (3 * n)))) ≡ false = ap (any_near samples i) (sym three) ∙ h in
      let r = neither (near (get_or samples i nan)) (any_near samples (i + 1) (suc (suc (3 * n)))) first in
      let g = neither (near (get_or samples (i + 1) nan)) (any_near samples (i + 1 + 1) (suc (3 * n))) r.1 in
      let b = neither (near (get_or samples (i + 1 + 1) nan)) (any_near samples (i + 1 + 1 + 1) (3 * n)) g.1 in
      let third : i + 2 ≡ i + 1 + 1 = omega arith in
      let next : i + 3 ≡ i + 1 + 1 + 1 = omega arith in
      let rest = dim_row n (i + 3) (ap (λ (j : ℕ). any_near samples j (3 * n)) next ∙ b.1) in
      let dim = dim_pixel (pixel_at samples i) r.0 g.0 (ap (λ (j : ℕ). near (get_or samples j nan)) third ∙ b.0) in
      omega (arith, by_test samples i n false dim, rest)

  -- ---- a loop over samples

  or_or : (t u v : Bool) → ((t || u) || v) ≡ (t || (u || v))
  or_or true u v = refl
  or_or false u v = refl

  or_false : (t : Bool) → (t || false) ≡ t
  or_false true = refl
  or_false false = refl

  near_snoc : (i k : ℕ) → any_near samples i (suc k) ≡ (any_near samples i k || near (get_or samples (i + k) nan))
  unfolding any_near
  near_snoc i zero =
      let here : i ≡ i + 0 = omega arith in
      or_false (near (get_or samples i nan)) ∙ ap (λ (j : ℕ). near (get_or samples j nan)) here
  near_snoc i (suc k) =
      let next : i + 1 + k ≡ i + suc k = omega arith in
      ap (λ (t : Bool). near (get_or samples i nan) || t) (near_snoc (i + 1) k ∙ ap (λ (j : ℕ). any_near samples (i + 1) k || near (get_or samples j nan)) next)
      ∙ sym (or_or (near (get_or samples i nan)) (any_near samples (i + 1) k) (near (get_or samples (i + suc k) nan)))

  pub near_start : (i : ℕ) → false ≡ any_near samples i 0
  unfolding any_near
  near_start i = refl

  pub near_next : (i k : ℕ) (t u : Bool) → t ≡ any_near samples i k → u ≡ near (get_or samples (i + k) nan) → (t || u) ≡ any_near samples i (k + 1)
  near_next i k t u et eu = rw (et, eu, add-one k) (sym (near_snoc i k))
