-- Demand 3, first half: "No written frame is longer than .., and at each of those some frame reaches it."
use Rattle.std.specs.Prelude.{ℕ, zero, suc, ◌+◌, ◌*◌, ◌/◌, false, List, [], ◌∷◌, length, pos, negsuc, Float}
use Rattle.std.specs.Float.{fin}
use Rattle.header.specs.Written.{written}

-- "H + 4wh bytes at widths 1 to 7 and over 32,767"
abbrev pub flat_worst : ℕ → ℕ → ℕ
flat_worst w h = length (written w h) + 4 * (w * h)

-- "H + h(4 + 4(w + w/128 rounded up)) at widths 8 to 32,767"
abbrev pub coded_worst : ℕ → ℕ → ℕ
coded_worst w h = length (written w h) + h * (4 + 4 * (w + (w + 127) / 128))

-- 1, and 2.5
abbrev pub one : Float
one = fin false 1 (pos 0)

abbrev pub two_and_a_half : Float
two_and_a_half = fin false 5 (negsuc 0)

-- n pixels, x three times and y three times in turn
unfoldable pub in_turn : Float → Float → ℕ → List Float
in_turn x y zero = []
in_turn x y (suc n) = x ∷ x ∷ x ∷ in_turn y x n

-- a frame of pixels 1,1,1 and 2.5,2.5,2.5 in turn
abbrev pub checkered : ℕ → ℕ → List Float
checkered w h = in_turn one two_and_a_half (w * h)
