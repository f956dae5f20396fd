-- RULES 8.4 at one pixel, over whole numbers of 2^-149. The whole number `mag` of a sample that is finite and not negative is its value (`plain_exact`).
use Rattle.std.specs.Prelude.{◌≡◌, ◌⊎◌, ℕ, ◌+◌, ◌-◌, ◌^◌, ◌≤◌, ◌<◌, T, Float}
use Rattle.steps.specs.declared.Reading.{Reading}
use Rattle.steps.specs.declared.Reading.TheVariants.{Crate, Document}
use Rattle.pixel.specs.declared.Pixel.{Pixel}
use Rattle.pixel.specs.Units.{mag, plain, of_units}
use Rattle.pixel.specs.Rgbe.{peak, dark}

-- all samples are finite, and none is negative
pub record Numbers (p : Pixel) : Type 0 where
  pub r : T (plain p.r)
  pub g : T (plain p.g)
  pub b : T (plain p.b)

-- 0, or from 2^-32 to below 2^31: 2^117 and 2^180 times 2^-149
abbrev pub Between : ℕ → Type 0
Between v = (v ≡ 0) ⊎ ((2 ^ 117 ≤ v) × (v < 2 ^ 180))

-- 0, or above 1e-32 to below 2^127: what can be written, and is not written black
abbrev pub Light : ℕ → Type 0
Light v = (v ≡ 0) ⊎ ((dark < v) × (v < 2 ^ 276))

-- where the largest has to lie for a reading to give it back
abbrev pub range_of : Reading → ℕ → Type 0
range_of Crate = Between
range_of Document = Light

-- both, of one pixel
pub record InRange (range : ℕ → Type 0) (p : Pixel) : Type 0 where
  pub numbers : Numbers p
  pub largest : range (peak p)

-- the pixel's largest lies from 2^(e-1) to below 2^e: n is e + 149
pub record Lies (p : Pixel) (n : ℕ) : Type 0 where
  pub from : 2 ^ (n - 1) ≤ peak p
  pub below : peak p < 2 ^ n

-- a step is 2^(e-8), and half a step 2^(e-9)
abbrev pub step : ℕ → ℕ
step n = 2 ^ (n - 8)

abbrev pub half_step : ℕ → ℕ
half_step n = 2 ^ (n - 9)

-- x comes back as y by the crate reading: at most its value and less than one step below it
abbrev pub Below : ℕ → ℕ → ℕ → Type 0
Below n x y = (y ≤ x) × (x < y + step n)

-- and by the document reading: at most half a step from it, on either side
abbrev pub Beside : ℕ → ℕ → ℕ → Type 0
Beside n x y = (y ≤ x + half_step n) × (x ≤ y + half_step n)

-- how near a reading gives a sample back
abbrev pub near_of : Reading → ℕ → ℕ → ℕ → Type 0
near_of Crate = Below
near_of Document = Beside

-- the sample x comes back as y: a number again, and so near
pub record Kept (near : ℕ → ℕ → Type 0) (x y : Float) : Type 0 where
  pub number : T (plain y)
  pub value : near (mag x) (mag y)

-- each sample of p comes back so in q
pub record KeptAll (near : ℕ → ℕ → Type 0) (p q : Pixel) : Type 0 where
  pub r : Kept near p.r q.r
  pub g : Kept near p.g q.g
  pub b : Kept near p.b q.b

-- what a black pixel comes back as
abbrev pub zeros : Pixel
zeros = record { r = of_units 0; g = of_units 0; b = of_units 0 }
