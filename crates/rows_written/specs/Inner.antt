-- What only the contracts of inner functions cite.
use Rattle.std.specs.Prelude.{ℕ, ◌+◌, ◌≡◌, List, length}
use Rattle.steps.specs.Place.{spread}

-- the bytes l stand in `after` from place to on, and next is the place after them; the rest is as it was in `before`
abbrev pub Stored : List ℕ → ℕ → List ℕ → ℕ → List ℕ → Type 0
Stored before to l next after = (next ≡ to + length l) × (after ≡ spread 1 before to l)
