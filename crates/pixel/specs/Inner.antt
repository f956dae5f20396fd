-- What only the contracts of inner functions cite.
use Rattle.std.specs.Prelude.{◌≡◌, Bool, false, not, ℕ, ◌+◌, ◌*◌, ◌^◌, ◌<◌, ltb, Float}
use Rattle.std.specs.Float.{nan, inf, fin}
use Rattle.pixel.specs.declared.Rgbe.{Rgbe}
use Rattle.pixel.specs.Units.{mag}

-- a number without a minus sign
abbrev pub bright : Float → Bool
bright nan = false
bright (inf s) = not s
bright (fin s m e) = not s

-- a sample is above 2^126, which is 2^275 times 2^-149
unfoldable pub near : Float → Bool
near x = ltb (2 ^ 275) (mag x)

-- four bytes as one word, the first lowest
abbrev pub AsWord : Rgbe → ℕ → Type 0
AsWord q w = (q.r < 256) × (q.g < 256) × (q.b < 256) × (q.e < 256) × (w ≡ q.r + q.g * 256 + q.b * 65536 + q.e * 16777216)
