-- RULES 8.5 at one pixel: what comes back of a written pixel is written again as the same four bytes.
use Rattle.std.specs.Prelude.{false, ◌≡◌, ◌⊎◌, ℕ, ◌^◌, ◌≤◌, ◌<◌, T, pos, Float}
use Rattle.std.specs.Float.{fin, binary32}
use Rattle.std.specs.Float.Ieee.{of_bits}
use Rattle.steps.specs.declared.Reading.{Reading}
use Rattle.steps.specs.declared.Reading.TheVariants.{Crate, Document}
use Rattle.pixel.specs.declared.Pixel.{Pixel}
use Rattle.pixel.specs.declared.Rgbe.{Rgbe}
use Rattle.pixel.specs.Units.{mag, plain, of_units}
use Rattle.pixel.specs.Rgbe.{units_of, pixel_of, dark, black, bytes_of}
use Rattle.loss.specs.Dark.{first_light}

-- ---- Where a pixel's largest has to lie

-- "at most 1e-32 or absent, or from" low "to below" high; where it is negative or absent it counts as 0
abbrev pub DarkOr : ℕ → ℕ → ℕ → Type 0
DarkOr low high v = (v ≤ dark) ⊎ ((low ≤ v) × (v < high))

-- by the crate reading from 2^-32 to below 2^31, by the document reading from 2^-106 to below 2^127: 2^117 and 2^180, 2^43 and 2^276 times 2^-149
abbrev pub twice_range : Reading → ℕ → Type 0
twice_range Crate = DarkOr (2 ^ 117) (2 ^ 180)
twice_range Document = DarkOr (2 ^ 43) (2 ^ 276)

-- ---- What comes back

-- the pixel that the bytes of a written one show
abbrev pub comes_back : Reading → Pixel → Pixel
comes_back reading p = pixel_of (units_of reading) (bytes_of p)

-- what the byte 0 shows beside the exponent byte e: 0 by the crate reading, half a step by the document reading; by both 0 where e is 0
abbrev pub from_none : Reading → ℕ → Float
from_none reading e = of_units (units_of reading 0 e)

-- a sample x, negative or no number too, comes back as a number y that is finite and not negative; where x counts as 0, as those two do, y is what the byte 0 shows
pub record Shows (none x y : Float) : Type 0 where
  pub number : T (plain y)
  pub nothing : mag x ≡ 0 → y ≡ none

-- a pixel whose bytes, read and written again, are the same
pub record Twice (reading : Reading) (p : Pixel) : Type 0 where
  pub bytes : bytes_of (comes_back reading p) ≡ bytes_of p
  pub r : Shows (from_none reading (bytes_of p).e) p.r (comes_back reading p).r
  pub g : Shows (from_none reading (bytes_of p).e) p.g (comes_back reading p).g
  pub b : Shows (from_none reading (bytes_of p).e) p.b (comes_back reading p).b

-- ---- Between 1e-32 and 2^-106 a pixel may fall to black

-- 0a4fb120,0,0: red alone, of the f32 next above 1e-32
abbrev pub faint : Pixel
faint = record { r = first_light; g = fin false 0 (pos 0); b = fin false 0 (pos 0) }

-- its bytes
abbrev pub faint_bytes : Rgbe
faint_bytes = record { r = 207; g = 0; b = 0; e = 22 }

-- what comes back of it by the document reading: 0a4f8000, and half a step, 2^-115, for green and blue
abbrev pub faint_back : Pixel
faint_back = record { r = of_bits binary32 0x0a4f_8000; g = of_bits binary32 0x0600_0000; b = of_bits binary32 0x0600_0000 }

-- it is written so, comes back so, and is then black
pub record Falls : Type 0 where
  pub written : bytes_of faint ≡ faint_bytes
  pub back : comes_back Document faint ≡ faint_back
  pub again : bytes_of faint_back ≡ black
