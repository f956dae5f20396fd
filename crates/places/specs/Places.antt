-- Where the pixels of a file lie in its picture, which is counted from its top row and its left pixel on (RULES 3.14).
use Rattle.std.specs.Prelude.{ℕ, ◌+◌, ◌-◌, ◌*◌, Bool, true, false}
use Rattle.steps.specs.Loop.{pick}
use Rattle.words.specs.declared.axes.Orientation.{Orientation}

-- the pixel in column x of row y, in a picture of that width
abbrev pub cell : ℕ → ℕ → ℕ → ℕ
cell width x y = y * width + x

-- step n along an axis of a length: from its start on, or from its end back
abbrev pub axis_at : Bool → ℕ → ℕ → ℕ
axis_at false length n = n
axis_at true length n = length - 1 - n

-- the column of step n along X: a plus starts at the left, a minus at the right
abbrev pub column_at : Orientation → ℕ → ℕ → ℕ
column_at o width n = axis_at o.leftward width n

-- the row of step n along Y: a minus starts at the top, a plus at the bottom
abbrev pub row_at : Orientation → ℕ → ℕ → ℕ
row_at o height n = axis_at o.upward height n

-- "the first axis named runs from row to row", the second along a row: a stored row has as many pixels as the second axis is long
abbrev pub long_of : Orientation → ℕ → ℕ → ℕ
long_of o width height = pick o.columns height width

-- and there are as many stored rows as the first is long: "+X w -Y h is w rows of h pixels"
abbrev pub count_of : Orientation → ℕ → ℕ → ℕ
count_of o width height = pick o.columns width height

-- where pixel i of stored row k lies
abbrev pub place_of : Orientation → ℕ → ℕ → ℕ → ℕ → ℕ
place_of o width height k i =
    pick o.columns (cell width (column_at o width k) (row_at o height i)) (cell width (column_at o width i) (row_at o height k))

-- the rows as a file stores them
pub record Stored : Type 0 where
  -- how many pixels a stored row has
  pub long : ℕ
  -- how many stored rows there are
  pub count : ℕ
  -- the place in the picture of pixel i of stored row k
  pub place : ℕ → ℕ → ℕ

abbrev pub stored_by : Orientation → ℕ → ℕ → Stored
stored_by o width height = record { long = long_of o width height; count = count_of o width height; place = place_of o width height }
