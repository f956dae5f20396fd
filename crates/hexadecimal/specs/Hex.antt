-- Byte strings and lists of samples in hexadecimal; the empty one is `-`.
use Rattle.std.specs.Prelude.{ℕ, zero, suc, ◌/◌, ◌%◌, Bool, false, not, ◌||◌, List, [], ◌∷◌, length, take, drop, eqb, ltb, Option, Some, None}
use Rattle.steps.specs.Loop.{pick}
use Rattle.steps.specs.Place.{spread}
use Rattle.hexadecimal.specs.Digits.{numeral_from}

-- `-`
abbrev pub is_dash : List ℕ → Bool
is_dash [] = false
is_dash (b ∷ []) = eqb b 45
is_dash (b ∷ c ∷ bs) = false

-- how many values a field writes, with so many digits to a value
unfoldable pub count_of : ℕ → List ℕ → Option ℕ
count_of digits field =
    pick (is_dash field) (Some 0)
    (pick (eqb (length field) 0 || not (eqb (length field % digits) 0)) None (Some (length field / digits)))

-- a value that digits stand for, and those after it; none where the digits are none
abbrev pub first_then : {A : Type 0} → (ℕ → A) → Option ℕ → List A → List A
first_then value (Some b) rest = value b ∷ rest
first_then value None rest = []

-- n values, so many digits to a value, up to the first whose digits are none; `value` says what a number stands for
unfoldable pub values_of : {A : Type 0} → (ℕ → A) → ℕ → ℕ → List ℕ → List A
values_of value digits zero field = []
values_of value digits (suc n) field = first_then value (numeral_from 0 (take digits field)) (values_of value digits n (drop digits field))

-- n values are asked for, and these are they up to the first that is none: if n fit, they are stored, and n is the answer where none is missing
unfoldable pub stored : {A : Type 0} → ℕ → List A → List A → Option ℕ × List A
stored n values lent =
    pick (ltb (length lent) n) (None, lent)
    (pick (eqb (length values) n) (Some n) None, spread 1 lent 0 values)

-- a field is read to the start of a lent list: the answer, and the list afterwards
abbrev pub read_by : {A : Type 0} → (ℕ → A) → ℕ → List ℕ → List A → Option ℕ → Option ℕ × List A
read_by value digits field lent (Some n) = stored n (values_of value digits n field) lent
read_by value digits field lent None = (None, lent)

-- as many values as the field counts, so many digits to each
abbrev pub values_read : {A : Type 0} → (ℕ → A) → ℕ → List ℕ → List A → Option ℕ × List A
values_read value digits field lent = read_by value digits field lent (count_of digits field)
