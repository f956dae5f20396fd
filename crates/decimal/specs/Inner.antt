-- What only the contracts of inner functions cite: the digits of a number, the lowest first.
use Rattle.std.specs.Prelude.{ℕ, zero, suc, ◌+◌, ◌*◌, ◌/◌, ◌%◌, List, [], ◌∷◌}

-- the last k digits of n, the lowest first
unfoldable pub digits_of : ℕ → ℕ → List ℕ
digits_of zero n = []
digits_of (suc k) n = (n % 10) ∷ digits_of k (n / 10)

-- digits times b, and c more, in as many digits
unfoldable pub carried : ℕ → ℕ → List ℕ → List ℕ
carried b c [] = []
carried b c (d ∷ ds) = ((d * b + c) % 10) ∷ carried b ((d * b + c) / 10) ds
