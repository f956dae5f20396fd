-- Four bytes to three samples, and three samples to four bytes, over whole numbers of 2^-149.
use Rattle.std.specs.Prelude.{Bool, Option, Some, None, List, ℕ, ◌+◌, ◌-◌, ◌*◌, ◌/◌, ◌%◌, ◌^◌, max, ltb, leb, eqb, get_or}
use Rattle.std.specs.Float.Ieee.{size}
use Rattle.steps.specs.Loop.{pick}
use Rattle.steps.specs.declared.Reading.{Reading}
use Rattle.steps.specs.declared.Reading.TheVariants.{Crate, Document}
use Rattle.pixel.specs.declared.Pixel.{Pixel}
use Rattle.pixel.specs.declared.Rgbe.{Rgbe}
use Rattle.pixel.specs.Units.{of_units, mag}

-- ---- RULES 4.13: a sample of mantissa m and exponent byte E is 0 where E is 0; else, with d = E - 128 and k = |d| mod 32, m·2^(k-8) where d is above 0, and m·2^(-k-8) where it is not

-- 2^(k-8), or 2^(-k-8), is 2^crate_shift times 2^-149: 149 - 8 is 141. |d| is E - 128 if d > 0, and 128 - E otherwise.
unfoldable pub crate_shift : ℕ → ℕ
crate_shift e = pick (ltb 128 e) (141 + (e - 128) % 32) (141 - (128 - e) % 32)

-- ---- RULES 4.14: the document's value is (2m + 1)·2^(E-137), the middle of the step, and 0 where E is 0

-- 2^(E-137), half a step, is 2^doc_shift times 2^-149
abbrev pub doc_shift : ℕ → ℕ
doc_shift e = e + 12

-- ---- Both, by the reading: a sample is a whole number of steps, or of half steps

-- how many, for a mantissa m: m, or 2m + 1
abbrev pub count_of : Reading → ℕ → ℕ
count_of Crate m = m
count_of Document m = 2 * m + 1

-- one is worth 2^shift times 2^-149, where E is not 0
abbrev pub shift_of : Reading → ℕ → ℕ
shift_of Crate = crate_shift
shift_of Document = doc_shift

-- what one is worth at the exponent byte e: 0 if e is 0
unfoldable pub scale_of : Reading → ℕ → ℕ
scale_of reading e = pick (eqb e 0) 0 (2 ^ shift_of reading e)

-- the sample
unfoldable pub units_of : Reading → ℕ → ℕ → ℕ
units_of reading m e = count_of reading m * scale_of reading e

-- the crate's sample
abbrev pub crate_units : ℕ → ℕ → ℕ
crate_units = units_of Crate

-- the document's value
abbrev pub doc_units : ℕ → ℕ → ℕ
doc_units = units_of Document

-- the four bytes from byte i on
abbrev pub rgbe_at : List ℕ → ℕ → Rgbe
rgbe_at bytes i = record { r = get_or bytes i 0; g = get_or bytes (i + 1) 0; b = get_or bytes (i + 2) 0; e = get_or bytes (i + 3) 0 }

-- the pixel of four bytes, by a rule for one sample
abbrev pub pixel_of : (ℕ → ℕ → ℕ) → Rgbe → Pixel
pixel_of units q = record { r = of_units (units q.r q.e); g = of_units (units q.g q.e); b = of_units (units q.b q.e) }

-- ---- RULES 5.1: v is the largest sample that is a number

-- v; 0 where no sample is a number above 0, since `mag` counts the others as 0
unfoldable pub peak : Pixel → ℕ
peak p = max (max (mag p.r) (mag p.g)) (mag p.b)

-- ---- Where there is none, or v is not above 1e-32 (the f32 nearest to it), the bytes are 0,0,0,0

-- the f32 nearest to 1e-32
abbrev pub dark : ℕ
dark = 0xcfb11f * 2 ^ 19

-- 0,0,0,0
abbrev pub black : Rgbe
black = record { r = 0; g = 0; b = 0; e = 0 }

-- ---- Else e is the number with 2^(e-1) <= v < 2^e; each byte is its sample times 2^(8-e), rounded down, and 0 for a negative sample or no number; the last byte is 128 + e

-- A sample of n times 2^-149, times 2^(8-e), rounded down. In units of 2^-149 v has e + 149 binary digits, so 2^(8-e) times 2^-149 is 2^8 / 2^digits.
abbrev pub byte_of : ℕ → ℕ → ℕ
byte_of digits n = n * 256 / 2 ^ digits

-- the four bytes at that count of digits; e + 128 is digits - 21, since 149 - 128 is 21
abbrev pub coded : ℕ → Pixel → Rgbe
coded digits p = record { r = byte_of digits (mag p.r); g = byte_of digits (mag p.g); b = byte_of digits (mag p.b); e = digits - 21 }

-- ---- Where v is 2^127 or more, plus infinity included, there are none: refusal 12

-- 2^127 is 2^276 times 2^-149
unfoldable pub too_bright : Pixel → Bool
too_bright p = leb (2 ^ 276) (peak p)

-- The bytes of a pixel. Of one that is too bright the last would be over 255: the paper has none for it.
unfoldable pub bytes_of : Pixel → Rgbe
bytes_of p = pick (leb (peak p) dark) black (coded (size (peak p)) p)

-- the bytes, and none where the pixel is too bright
unfoldable pub packed_of : Pixel → Option Rgbe
packed_of p = pick (too_bright p) None (Some (bytes_of p))
