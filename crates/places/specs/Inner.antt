-- What only the contracts of inner functions cite: a stored row is a first place and a stride.
use Rattle.std.specs.Prelude.{ℕ, ◌+◌, ◌-◌, ◌*◌, Bool, true, false}
use Rattle.steps.specs.Loop.{pick}
use Rattle.words.specs.declared.axes.Orientation.{Orientation}
use Rattle.places.specs.declared.Line.{Line}
use Rattle.places.specs.Places.{place_of}

abbrev pub ahead : Bool → ℕ → ℕ → ℕ → ℕ
ahead false first stride i = first + i * stride
ahead true first stride i = first - i * stride

-- the place of pixel i of a line
abbrev pub line_at : Line → ℕ → ℕ
line_at l i = ahead l.back l.first l.stride i

-- the line of the stored row k
unfoldable pub line_of : Orientation → ℕ → ℕ → ℕ → Line
line_of o width height k =
    record {
      first = place_of o width height k 0;
      stride = pick o.columns width 1;
      back = pick o.columns o.upward o.leftward;
    }
