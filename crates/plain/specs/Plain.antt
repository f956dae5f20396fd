-- A name as a terminal may be given it: as long as it is, with a question mark for each byte on which a terminal acts.
use Rattle.std.specs.Prelude.{ℕ, zero, suc, ◌+◌, Bool, ◌&&◌, ◌||◌, List, [], ◌∷◌, ltb, eqb, get_or}
use Rattle.steps.specs.Loop.{pick}

-- control characters: 0 to 31, 127, and 128 to 159 as they are written in UTF-8, behind the byte 194
unfoldable pub acts : ℕ → ℕ → Bool
acts before x = ltb x 32 || (eqb x 127 || (eqb before 194 && ltb x 160))

-- a byte as it is shown, by the byte before it
unfoldable pub shown : ℕ → ℕ → ℕ
shown before x = pick (acts before x) 63 x

-- n bytes of a name from a place on, as they are shown
unfoldable pub plain_from : List ℕ → ℕ → ℕ → ℕ → List ℕ
plain_from name before i zero = []
plain_from name before i (suc n) = shown before (get_or name i 0) ∷ plain_from name (get_or name i 0) (i + 1) n
