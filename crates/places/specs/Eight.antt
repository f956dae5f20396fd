-- All eight orientations: each is a rearrangement of pixels, and where the first and the last stored pixel go.
use Rattle.std.specs.Prelude.{ℕ, ◌-◌, ◌*◌, ◌<◌, List, ◌≡◌, Some}
use Rattle.words.specs.Axes.{minus_y, plus_y, plus_x, minus_x, axes_of}
use Rattle.words.specs.declared.axes.Orientation.{Orientation}
use Rattle.places.specs.Places.{cell, long_of, count_of, place_of, Stored}

-- ---- A rearrangement of n pixels

pub record Rearranged (stored : Stored) (n : ℕ) : Type 0 where
  -- there are n stored pixels, and each has a place
  pub many : stored.count * stored.long ≡ n
  pub inside : (k i : ℕ) → k < stored.count → i < stored.long → stored.place k i < n
  -- none is doubled
  pub apart : (k i l j : ℕ) → k < stored.count → i < stored.long → l < stored.count → j < stored.long → stored.place k i ≡ stored.place l j → (k ≡ l) × (i ≡ j)
  -- none is lost
  pub every : (p : ℕ) → p < n → (k : ℕ) × (i : ℕ) × (k < stored.count) × (i < stored.long) × (stored.place k i ≡ p)

-- ---- The corners of a picture, of its width and height

abbrev pub top_left : ℕ → ℕ → ℕ
top_left width height = cell width 0 0

abbrev pub top_right : ℕ → ℕ → ℕ
top_right width height = cell width (width - 1) 0

abbrev pub bottom_left : ℕ → ℕ → ℕ
bottom_left width height = cell width 0 (height - 1)

abbrev pub bottom_right : ℕ → ℕ → ℕ
bottom_right width height = cell width (width - 1) (height - 1)

-- these two fields name an orientation, whose first stored pixel goes to the one corner and its last to the other
pub record Runs (first third : List ℕ) (from to : ℕ → ℕ → ℕ) : Type 0 where
  pub orientation : Orientation
  pub named : axes_of first third ≡ Some orientation
  pub starts : (width height : ℕ) → place_of orientation width height 0 0 ≡ from width height
  pub ends : (width height : ℕ) → place_of orientation width height (count_of orientation width height - 1) (long_of orientation width height - 1) ≡ to width height

-- the eight: "A minus on Y starts at the top; a plus on X starts at the left."
pub record Eight : Type 0 where
  pub minus_y_plus_x : Runs minus_y plus_x top_left bottom_right
  pub minus_y_minus_x : Runs minus_y minus_x top_right bottom_left
  pub plus_y_plus_x : Runs plus_y plus_x bottom_left top_right
  pub plus_y_minus_x : Runs plus_y minus_x bottom_right top_left
  pub plus_x_minus_y : Runs plus_x minus_y top_left bottom_right
  pub minus_x_minus_y : Runs minus_x minus_y top_right bottom_left
  pub plus_x_plus_y : Runs plus_x plus_y bottom_left top_right
  pub minus_x_plus_y : Runs minus_x plus_y bottom_right top_left
