-- What only the contracts of inner functions cite.
use Rattle.std.specs.Prelude.{ℕ, true, List, ◌≡◌, T, Float, Option, Some, None, Result, Ok, Err}
use Rattle.steps.specs.Loop.{pick}
use Rattle.steps.specs.declared.refusal.Reason.{Reason}
use Rattle.pixel.specs.Units.{of_units, mag}
use Rattle.pixel.specs.Inner.{bright}
use Rattle.words.specs.Sizes.{value_from}
use Rattle.stated.specs.declared.Exposure.{Exposure}
use Rattle.stated.specs.declared.Exposure.TheVariants.{Stated, NotStated}
use Rattle.stated.specs.Rounded.{usable}
use Rattle.stated.specs.Exposure.{Units, units, unread, is_few}
use Rattle.stated.specs.declared.Said.{Said}

-- what at most so many digits say as a number
unfoldable pub few_number : ℕ → List ℕ → Option ℕ
few_number most xs = pick (is_few most xs) (Some (value_from 0 xs)) None

-- a number of 2^-149 as an exposure
unfoldable pub usable_factor : ℕ → Option Float
usable_factor n = pick (usable n) (Some (of_units n)) None

-- what a line says as an exposure
abbrev pub factor_of : Units → Option Float
factor_of (units n) = usable_factor n
factor_of unread = None

-- a number above zero and finite
abbrev pub Usable : Float → Type 0
Usable x = T (bright x) × (usable (mag x) ≡ true)

abbrev pub UsableFactor : Option Float → Type 0
UsableFactor (Some x) = Usable x
UsableFactor None = Unit {0}

-- what was stated so far is such a number
abbrev pub SoundSoFar : Exposure → Type 0
SoundSoFar (Stated x) = Usable x
SoundSoFar NotStated = Unit {0}

abbrev pub Sound : Said → Type 0
Sound said = SoundSoFar said.exposure

abbrev pub SoundAnswer : Result Said Reason → Type 0
SoundAnswer (Ok said) = Sound said
SoundAnswer (Err reason) = Unit {0}
