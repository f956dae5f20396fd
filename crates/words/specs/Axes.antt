-- RULES 3.5: the axes that the first and the third field name, and how the stored rows then lie. "The first axis named is the one that changes slowest,
-- from scanline to scanline; the second runs along a scanline. A minus on Y starts at the top; a plus on X starts at the left."
use Rattle.std.specs.Prelude.{ℕ, Bool, true, false, List, [], ◌∷◌, Option, Some, None}
use Rattle.steps.specs.Loop.{pick}
use Rattle.words.specs.Lines.{same}
use Rattle.words.specs.declared.axes.Orientation.{Orientation}
use Rattle.words.specs.declared.axes.Axis.{Axis}
use Rattle.words.specs.declared.axes.Axis.TheVariants.{Y, X}

abbrev pub minus_y : List ℕ
minus_y = 45 ∷ 89 ∷ []

abbrev pub plus_y : List ℕ
plus_y = 43 ∷ 89 ∷ []

abbrev pub plus_x : List ℕ
plus_x = 43 ∷ 88 ∷ []

abbrev pub minus_x : List ℕ
minus_x = 45 ∷ 88 ∷ []

-- a plus on Y starts at the bottom and runs upward, a minus on X starts at the right and runs leftward
unfoldable pub axis_of : List ℕ → Option Axis
axis_of field =
    pick (same field minus_y) (Some (Y false))
    (pick (same field plus_y) (Some (Y true))
    (pick (same field plus_x) (Some (X false))
    (pick (same field minus_x) (Some (X true)) None)))

abbrev pub orientation : Bool → Bool → Bool → Orientation
orientation columns upward leftward = record { columns = columns; upward = upward; leftward = leftward }

-- -Y +X, the usual one: rows from the top, pixels from the left
abbrev pub upright : Orientation
upright = orientation false false false

-- where Y is named first, stored rows are rows of the picture
abbrev pub with_x : Bool → Axis → Option Orientation
with_x upward (X leftward) = Some (orientation false upward leftward)
with_x upward (Y u) = None

-- where X is named first, they are its columns
abbrev pub with_y : Bool → Axis → Option Orientation
with_y leftward (Y upward) = Some (orientation true upward leftward)
with_y leftward (X l) = None

-- one of each letter: "there are eight"
abbrev pub pair_of : Option Axis → Option Axis → Option Orientation
pair_of (Some (Y upward)) (Some other) = with_x upward other
pair_of (Some (X leftward)) (Some other) = with_y leftward other
pair_of (Some axis) None = None
pair_of None other = None

-- the axes that the first and the third field name
unfoldable pub axes_of : List ℕ → List ℕ → Option Orientation
axes_of first third = pair_of (axis_of first) (axis_of third)
