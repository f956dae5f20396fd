-- No bound of the claims is loose: pixels at the edge of each, computed. The last byte 22 is that of `first_is_light` in `Dark`.
use mathlib.Core.Path.{◌≡◌, refl, sym, ◌∙◌}
use mathlib.Core.Bool.{false}
use Prim.Native.Nat.{ℕ, ◌+◌, ◌-◌, ◌^◌}
use lib.IntN.{pos, negsuc}
use lib.Dec.{lit≤}
use lib.Ieee.{Float, fin, round, size, of_bits}
use Rattle.steps.specs.declared.Reading.TheVariants.{Document}
use Rattle.pixel.specs.declared.Pixel.{Pixel}
use Rattle.pixel.specs.declared.Rgbe.{Rgbe}
use Rattle.pixel.specs.Units.{of_units, mag}
use Rattle.pixel.specs.Rgbe.{crate_shift, scale_of, units_of, crate_units, doc_units, pixel_of, peak, bytes_of}
use Rattle.loss.specs.Dark.{last_black, grey}
use Rattle.loss.specs.Kept.{zeros}
use Rattle.loss.specs.Twice.{comes_back, faint, faint_back, Falls}
use Rattle.loss.proofs.Laws.Kept.{black_back}

abbrev zero : Float
zero = fin false 0 (pos 0)

-- a red pixel, and its four bytes
abbrev red : Float → Pixel
red x = record { r = x; g = zero; b = zero }

abbrev bytes : ℕ → ℕ → Rgbe
bytes m e = record { r = m; g = 0; b = 0; e = e }

-- what comes back of a written pixel
abbrev back : Pixel → Pixel
back p = pixel_of crate_units (bytes_of p)

-- the largest f32 below 2^127 has the last byte 255
pub most_last : bytes_of (red (fin false (2 ^ 24 - 1) (pos 103))) ≡ bytes 255 255
unfolding size mag peak bytes_of
most_last = refl

-- 1 is written with no byte above 128
pub least_byte : bytes_of (red (fin false 1 (pos 0))) ≡ bytes 128 129
unfolding size mag peak bytes_of
least_byte = refl

-- the f32 next below 2^-32 comes back as 255/256
pub next_dark : back (red (fin false (2 ^ 24 - 1) (negsuc 55))) ≡ red (fin false 255 (negsuc 7))
unfolding round size of_units mag crate_shift scale_of units_of peak bytes_of
next_dark = refl

-- 2^-33 and 2^31 come back as 1/2
pub too_dark : back (red (fin false 1 (negsuc 32))) ≡ red (fin false 1 (negsuc 0))
unfolding round size of_units mag crate_shift scale_of units_of peak bytes_of
too_dark = refl

pub too_bright : back (red (fin false 1 (pos 31))) ≡ red (fin false 1 (negsuc 0))
unfolding round size of_units mag crate_shift scale_of units_of peak bytes_of
too_bright = refl

-- beside 1, where a step is 2^-7, the f32 next below 2^-7 comes back as 0
pub most_lost : back (record { r = fin false 1 (pos 0); g = fin false (2 ^ 24 - 1) (negsuc 30); b = zero }) ≡ red (fin false 1 (pos 0))
unfolding round size of_units mag crate_shift scale_of units_of peak bytes_of
most_lost = refl

-- by the document reading 1 comes back half a step above, and zeros beside it too; the f32 next below 1 + 2^-7 comes back as the same
abbrev middle : Pixel
middle = record { r = fin false 257 (negsuc 7); g = fin false 1 (negsuc 7); b = fin false 1 (negsuc 7) }

pub most_above : pixel_of doc_units (bytes_of (red (fin false 1 (pos 0)))) ≡ middle
unfolding round size of_units mag scale_of units_of peak bytes_of
most_above = refl

pub most_below : pixel_of doc_units (bytes_of (red (fin false (2 ^ 23 + 2 ^ 16 - 1) (negsuc 22)))) ≡ middle
unfolding round size of_units mag scale_of units_of peak bytes_of
most_below = refl

-- by the document reading the f32 nearest to 1e-32 comes back as 0
pub last_black_back : pixel_of doc_units (bytes_of (grey last_black)) ≡ zeros
unfolding of_bits mag peak
last_black_back = black_back Document (grey last_black) (lit≤ tt)

-- ---- saved twice

-- by the crate reading the f32 next below 2^-32, and 2^31, are written again with another last byte
pub next_dark_again : (bytes_of (red (fin false (2 ^ 24 - 1) (negsuc 55))) ≡ bytes 255 96) × (bytes_of (back (red (fin false (2 ^ 24 - 1) (negsuc 55)))) ≡ bytes 255 128)
unfolding round size of_units mag crate_shift scale_of units_of peak bytes_of
next_dark_again = (refl, refl)

pub too_bright_again : (bytes_of (red (fin false 1 (pos 31))) ≡ bytes 128 160) × (bytes_of (back (red (fin false 1 (pos 31)))) ≡ bytes 128 128)
unfolding round size of_units mag crate_shift scale_of units_of peak bytes_of
too_bright_again = (refl, refl)

-- by the document reading the f32 next above 1e-32 falls to black
abbrev faintest : Pixel
faintest = record { r = fin false 415 (negsuc 114); g = fin false 1 (negsuc 114); b = fin false 1 (negsuc 114) }

faint_shows : comes_back Document faint ≡ faintest
unfolding round of_bits size of_units mag scale_of units_of peak bytes_of
faint_shows = refl

faint_patterns : faint_back ≡ faintest
unfolding of_bits
faint_patterns = refl

pub falls_to_black : Falls
unfolding round of_bits size of_units mag peak bytes_of
falls_to_black = record { written = refl; back = faint_shows ∙ sym faint_patterns; again = refl }
