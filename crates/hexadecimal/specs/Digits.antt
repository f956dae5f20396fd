-- Numbers in hexadecimal, with lowercase digits.
use Rattle.std.specs.Prelude.{ℕ, ◌+◌, ◌-◌, ◌*◌, ◌&&◌, List, [], ◌∷◌, leb, Option, Some, None}
use Rattle.steps.specs.Loop.{pick}

-- the worth of a digit, 0 to 9 and a to f
unfoldable pub worth : ℕ → Option ℕ
worth b = pick (leb 48 b && leb b 57) (Some (b - 48)) (pick (leb 97 b && leb b 102) (Some (b - 87)) None)

-- the number that digits stand for, where those before them stand for n; none where a byte is no digit
unfoldable pub numeral_from : ℕ → List ℕ → Option ℕ
numeral_from n [] = Some n
numeral_from n (b ∷ bs) = elim (worth b) [ Some w ↦ numeral_from (n * 16 + w) bs | None ↦ None ]
