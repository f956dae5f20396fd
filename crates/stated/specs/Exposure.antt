-- RULES 3.11 and 3.12: the number of an EXPOSURE line, in whole numbers of 2^-149.
use Rattle.std.specs.Prelude.{ℕ, ◌+◌, ◌-◌, ◌*◌, ◌^◌, Bool, true, false, ◌&&◌, ◌||◌, List, [], ◌∷◌, ◌++◌, eqb, leb, Option, Some, None, length, take, drop}
use Rattle.steps.specs.Loop.{pick}
use Rattle.words.specs.Sizes.{all_digits, value_from}
use Rattle.stated.specs.Rounded.{nearest_units}
use Rattle.stated.specs.declared.number.Power.{Power}
use Rattle.stated.specs.declared.number.Power.TheVariants.{Raised, Lowered}

-- how many bytes stand ahead of the first that is x or y: all where there is none
unfoldable pub ahead : ℕ → ℕ → List ℕ → ℕ
ahead x y [] = 0
ahead x y (b ∷ bs) = pick (eqb b x || eqb b y) 0 (1 + ahead x y bs)

-- decimal digits, at least one and at most so many
unfoldable pub is_few : ℕ → List ℕ → Bool
is_few most xs = leb 1 (length xs) && leb (length xs) most && all_digits xs

-- ---- An optional power of ten: e or E, a sign or none, one or two digits

unfoldable pub power_by : Bool → List ℕ → Option Power
power_by minus xs = pick (is_few 2 xs) (Some (pick minus (Lowered (value_from 0 xs)) (Raised (value_from 0 xs)))) None

-- from the e on; without a power it is 0
unfoldable pub power_of : List ℕ → Option Power
power_of [] = Some (Raised 0)
power_of (e ∷ []) = None
power_of (e ∷ sign ∷ xs) = pick (eqb sign 45) (power_by true xs) (pick (eqb sign 43) (power_by false xs) (power_by false (sign ∷ xs)))

-- ---- That power less the digits after the point lies from -10 to 10; the number is rounded once

-- a number that can be read, as so many times 2^-149
pub data Units : Type 0 where
  units : ℕ → Units
  unread : Units

-- n times ten to the power p - after, or to the power -(p + after); of two differences the one that is below zero counts as 0, and 7 is the most for `after`
unfoldable pub scaled_units : ℕ → Option Power → ℕ → Units
scaled_units n (Some (Raised p)) after = pick (leb (p - after) 10) (units (nearest_units (n * 10 ^ (p - after) * 2 ^ 149) (10 ^ (after - p)))) unread
scaled_units n (Some (Lowered p)) after = pick (leb (p + after) 10) (units (nearest_units (n * 2 ^ 149) (10 ^ (p + after)))) unread
scaled_units n None after = unread

-- ---- 1 to 7 digits with an optional point anywhere

-- the digits before the point and those after it
unfoldable pub digit_units : List ℕ → List ℕ → Option Power → Units
digit_units whole after power = pick (is_few 7 (whole ++ after)) (scaled_units (value_from 0 (whole ++ after)) power (length after)) unread

-- digits with a point, byte 46, or without
unfoldable pub point_units : List ℕ → Option Power → Units
point_units digits power = let point = ahead 46 46 digits in digit_units (take point digits) (drop (point + 1) digits) power

-- what stands behind EXPOSURE=: e is byte 101, E 69
unfoldable pub exposure_of : List ℕ → Units
exposure_of rest = let e = ahead 101 69 rest in point_units (take e rest) (power_of (drop e rest))
