-- The samples of a row, by a rule for one pixel.
use Rattle.std.specs.Prelude.{ℕ, zero, suc, ◌+◌, ◌*◌, List, [], ◌∷◌, Float}
use Rattle.steps.specs.Place.{spread}
use Rattle.pixel.specs.declared.Pixel.{Pixel}
use Rattle.pixel.specs.declared.Rgbe.{Rgbe}
use Rattle.pixel.specs.Rgbe.{rgbe_at}

-- what four bytes stand for
abbrev pub SampleRule : Type 0
SampleRule = Rgbe → Pixel

-- a pixel's three samples, and then others
abbrev pub three : Pixel → List Float → List Float
three p rest = p.r ∷ p.g ∷ p.b ∷ rest

-- the samples of n pixels of the row store, from column i on, each pixel to its place in the frame: place p is sample 3p of the output
unfoldable pub placed : SampleRule → (ℕ → ℕ) → List ℕ → ℕ → ℕ → List Float → List Float
placed rule place store i zero out = out
placed rule place store i (suc n) out = placed rule place store (i + 1) n (spread 1 out (3 * place i) (three (rule (rgbe_at store (4 * i))) []))
