-- One pixel as a program lends it: three samples, four bytes.
use Rattle.std.specs.Prelude.{ℕ, List, [], ◌∷◌, Float, Option, Some, None}
use Rattle.pixel.specs.declared.Pixel.{Pixel}
use Rattle.pixel.specs.declared.Rgbe.{Rgbe}

abbrev pub pixel : Float → Float → Float → Pixel
pixel r g b = record { r = r; g = g; b = b }

abbrev pub rgbe : ℕ → ℕ → ℕ → ℕ → Rgbe
rgbe r g b e = record { r = r; g = g; b = b; e = e }

-- a pixel's three samples
abbrev pub samples_of : Pixel → List Float
samples_of p = p.r ∷ p.g ∷ p.b ∷ []

-- 0 and the pixel's four bytes; or 12, and the bytes as they were lent
abbrev pub packed_into : List ℕ → Option Rgbe → ℕ × List ℕ
packed_into lent (Some q) = (0, q.r ∷ q.g ∷ q.b ∷ q.e ∷ [])
packed_into lent None = (12, lent)
