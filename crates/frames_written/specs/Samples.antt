-- A frame of samples: its pixels as four bytes each, and the first that cannot be written.
use Rattle.std.specs.Prelude.{ℕ, zero, suc, ◌+◌, ◌*◌, ◌<◌, true, false, Option, Some, None, List, [], ◌∷◌, ◌≡◌, get_or, Float}
use Rattle.std.specs.Float.{nan}
use Rattle.pixel.specs.declared.Pixel.{Pixel}
use Rattle.pixel.specs.declared.Rgbe.{Rgbe}
use Rattle.pixel.specs.Rgbe.{bytes_of, too_bright}

-- the pixel of the three samples from sample i on
abbrev pub pixel_at : List Float → ℕ → Pixel
pixel_at samples i = record { r = get_or samples i nan; g = get_or samples (i + 1) nan; b = get_or samples (i + 2) nan }

-- a pixel's four bytes, and then others
abbrev pub four : Rgbe → List ℕ → List ℕ
four q rest = q.r ∷ q.g ∷ q.b ∷ q.e ∷ rest

-- the bytes of n pixels, the first from sample i on
unfoldable pub packed : List Float → ℕ → ℕ → List ℕ
packed samples i zero = []
packed samples i (suc n) = four (bytes_of (pixel_at samples i)) (packed samples (i + 3) n)

-- how many of n pixels, the first from sample i on, come before the first that cannot be written; n where every one can
unfoldable pub first_bright : List Float → ℕ → ℕ → ℕ
first_bright samples i zero = zero
first_bright samples i (suc n) = elim (too_bright (pixel_at samples i)) [ true ↦ zero | false ↦ suc (first_bright samples (i + 3) n) ]

-- of n pixels, the first from sample i on, `found` is the first that cannot be written; none where every one can
abbrev pub FirstOf : List Float → ℕ → ℕ → Option ℕ → Type 0
FirstOf samples i n None = first_bright samples i n ≡ n
FirstOf samples i n (Some k) = (k < n) × (first_bright samples i n ≡ k)

-- of n pixels, k is the first that cannot be written
pub record FirstBright (samples : List Float) (n k : ℕ) : Type 0 where
  pub within : k < n
  pub bright : too_bright (pixel_at samples (3 * k)) ≡ true
  pub first : (j : ℕ) → j < k → too_bright (pixel_at samples (3 * j)) ≡ false
