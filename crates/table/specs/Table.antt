-- A field of a table that is a number.
use Rattle.std.specs.Prelude.{ℕ, List, ◌∷◌}
use Rattle.header.specs.Written.{digits}

-- a tab, and the decimal digits
abbrev pub field_of : ℕ → List ℕ
field_of n = 9 ∷ digits n
