-- The answer of any call as eight numbers: the number of the refusal or 0, its place or 0, and six values, each 0 where there is none.
use Rattle.std.specs.Prelude.{ℕ, Bool, true, false, List, [], ◌∷◌, Float, Option, Some, None}
use Rattle.std.specs.Float.{binary32}
use Rattle.std.specs.Float.Ieee.{eq, to_bits}
use Rattle.steps.specs.Loop.{pick}
use Rattle.steps.specs.Answer.{Answer, done, refused, refuse}
use Rattle.words.specs.declared.axes.Orientation.{Orientation}
use Rattle.stated.specs.declared.Exposure.{Exposure}
use Rattle.stated.specs.declared.Exposure.TheVariants.{Stated, NotStated}
use Rattle.stated.specs.declared.Colour.{Colour}
use Rattle.stated.specs.declared.Colour.TheVariants.{Rgbe, Xyze}
use Rattle.header.specs.declared.Head.{Head}

-- what a call that does not refuse returns, as six numbers
pub record Values : Type 0 where
  pub width : ℕ
  pub height : ℕ
  pub taken : ℕ
  pub colour : ℕ
  pub exposure : ℕ
  pub orientation : ℕ

-- the colour kind
abbrev pub colour_of : Option Colour → ℕ
colour_of None = 0
colour_of (Some Rgbe) = 1
colour_of (Some Xyze) = 2

-- the bit pattern of a number, and 0 for what is none
unfoldable pub pattern_of : Float → ℕ
pattern_of x = pick (eq x x) (to_bits binary32 x) 0

-- the exposure: its bit pattern, which is not 0, since no header states 0
abbrev pub exposure_of : Exposure → ℕ
exposure_of (Stated x) = pattern_of x
exposure_of NotStated = 0

-- by whether X is named first, whether Y runs upward, and whether X runs leftward
abbrev pub axes_number : Bool → Bool → Bool → ℕ
axes_number false false false = 1  -- -Y +X
axes_number false false true = 2  -- -Y -X
axes_number false true true = 3  -- +Y -X
axes_number false true false = 4  -- +Y +X
axes_number true false false = 5  -- +X -Y
axes_number true false true = 6  -- -X -Y
axes_number true true true = 7  -- -X +Y
axes_number true true false = 8  -- +X +Y

-- the orientation: its number is that of the Orientation tag of TIFF and EXIF
unfoldable pub orientation_of : Orientation → ℕ
orientation_of o = axes_number o.columns o.upward o.leftward

-- of a header or a file read: width, height, the count of bytes taken, colour, exposure and orientation
abbrev pub head_values : Head → Values
head_values head = record {
  width = head.width;
  height = head.height;
  taken = head.taken;
  colour = colour_of head.colour;
  exposure = exposure_of head.exposure;
  orientation = orientation_of head.orientation;
}

-- of a call that returns one number: it is a count, and stands where the count of bytes taken does
abbrev pub single : ℕ → Values
single n = record { width = 0; height = 0; taken = n; colour = 0; exposure = 0; orientation = 0 }

-- the eight numbers: of an answer, the values after two 0s
abbrev pub listed : Values → List ℕ
listed v = 0 ∷ 0 ∷ v.width ∷ v.height ∷ v.taken ∷ v.colour ∷ v.exposure ∷ v.orientation ∷ []

-- the eight numbers: of a refusal, its number and place before six 0s
abbrev pub stopped : ℕ → ℕ → List ℕ
stopped number place = number ∷ place ∷ 0 ∷ 0 ∷ 0 ∷ 0 ∷ 0 ∷ 0 ∷ []

-- the eight numbers of the paper's answer
abbrev pub numbers : {A : Type 0} → (A → Values) → Answer A → List ℕ
numbers values (done a) = listed (values a)
numbers values (refused number place) = stopped number place

-- a number, or "none", which counts as the refusal 255: the table of refusals (RULES 2.2) has no such number
abbrev pub counted : Option ℕ → Answer ℕ
counted (Some n) = done n
counted None = refuse 255

-- the eight numbers, and the lent lists as they are
abbrev pub with_one : {A B : Type 0} → (A → Values) → Answer A × B → List ℕ × B
with_one values left = (numbers values left.0, left.1)

abbrev pub with_two : {A B C : Type 0} → (A → Values) → Answer A × B × C → List ℕ × B × C
with_two values left = (numbers values left.0, left.1, left.2)
