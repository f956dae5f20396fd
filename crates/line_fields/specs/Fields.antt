-- Fields: parts of a line, separated by one space, and those that are numbers.
use Rattle.std.specs.Prelude.{ℕ, ◌+◌, Bool, true, false, not, List, [], ◌∷◌, length, drop, eqb, leb, Option, Some, None}
use Rattle.steps.specs.Loop.{pick}
use Rattle.words.specs.Sizes.{number_from}
use Rattle.line_fields.specs.declared.text.Step.{Step}
use Rattle.line_fields.specs.declared.text.Pair.{Pair}

-- the bytes up to the first space, or to the end
unfoldable pub field : List ℕ → List ℕ
field [] = []
field (b ∷ bs) = pick (eqb b 32) [] (b ∷ field bs)

-- the place where the field from `at` on ends
abbrev pub field_end : List ℕ → ℕ → ℕ
field_end line at = at + length (field (drop at line))

-- no leading zero, and one digit or more
abbrev pub is_plain : List ℕ → Bool
is_plain [] = false
is_plain (b ∷ []) = true
is_plain (b ∷ c ∷ bs) = not (eqb b 48)

-- a field as a number below 2^64, in decimal
unfoldable pub number_of : List ℕ → Option ℕ
number_of field = pick (is_plain field) (number_from 0 field) None

-- a number, with the place after its field and the field's space
abbrev pub step_of : Option ℕ → ℕ → Option Step
step_of (Some n) next = Some (record { n = n; next = next })
step_of None next = None

-- the number in the field from `at` on; past the line's end there is no field
unfoldable pub number_at : List ℕ → ℕ → Option Step
number_at line at = pick (leb at (length line)) (step_of (number_of (field (drop at line))) (field_end line at + 1)) None

-- two numbers, if there is a second
abbrev pub second_of : ℕ → Option Step → Option Pair
second_of a (Some s) = Some (record { a = a; b = s.n; next = s.next })
second_of a None = None

-- two numbers, if there is a first
abbrev pub first_of : List ℕ → Option Step → Option Pair
first_of line (Some s) = second_of s.n (number_at line s.next)
first_of line None = None

-- the numbers in the two fields from `at` on
abbrev pub pair_at : List ℕ → ℕ → Option Pair
pair_at line at = first_of line (number_at line at)
