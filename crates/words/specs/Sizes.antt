-- RULES 3.6: a size is one decimal digit or more, with a plus in front or without; leading zeros are allowed.
use Rattle.std.specs.Prelude.{ℕ, ◌+◌, ◌-◌, ◌*◌, ◌^◌, Bool, true, false, ◌&&◌, List, [], ◌∷◌, Option, Some, None, eqb, leb, ltb}
use Rattle.steps.specs.Loop.{pick}

-- a field without its leading plus, if it has one
unfoldable pub unsigned : List ℕ → List ℕ
unsigned [] = []
unsigned (x ∷ xs) = pick (eqb x 43) xs (x ∷ xs)

unfoldable pub is_digit : ℕ → Bool
is_digit x = leb 48 x && leb x 57

-- every byte is a digit
unfoldable pub all_digits : List ℕ → Bool
all_digits [] = true
all_digits (x ∷ xs) = is_digit x && all_digits xs

-- the number that digits stand for, where those before them stand for n
unfoldable pub value_from : ℕ → List ℕ → ℕ
value_from n [] = n
value_from n (x ∷ xs) = value_from (n * 10 + (x - 48)) xs

-- digits that stand for a number below 2^64
unfoldable pub is_number : ℕ → List ℕ → Bool
is_number n xs = all_digits xs && ltb (value_from n xs) (2 ^ 64)

abbrev pub is_some : List ℕ → Bool
is_some [] = false
is_some (x ∷ xs) = true

-- one digit or more, of a number below 2^64
unfoldable pub is_size : List ℕ → Bool
is_size field = is_some (unsigned field) && is_number 0 (unsigned field)

unfoldable pub size_of : List ℕ → ℕ
size_of field = value_from 0 (unsigned field)

-- the number that digits stand for, after those that stand for n, if it is below 2^64
unfoldable pub number_from : ℕ → List ℕ → Option ℕ
number_from n xs = pick (is_number n xs) (Some (value_from n xs)) None
