-- The laws that proofs use of `specs/Places.antt` and of lines.
use Prim.Native.Nat.{ℕ, ◌+◌, ◌-◌, ◌*◌, ◌<◌, ◌≤◌}
use mathlib.Core.Bool.{Bool, true, false}
use mathlib.Core.Path.{◌≡◌, ap, ◌∙◌}
use native.Mathlib.Nat.{mul-one, add-mul}
use native.Mathlib.Omega.{arith}
use Rattle.steps.specs.Loop.{pick}
use Rattle.words.specs.Axes.{orientation}
use Rattle.words.specs.declared.axes.Orientation.{Orientation}
use Rattle.places.specs.Places.{axis_at, long_of, place_of}
use Rattle.places.specs.Inner.{line_at, line_of}

-- a stored row's length, or the count of stored rows: the height or the width, and within the limits
pub either_small : (columns : Bool) (n a b : ℕ) → n ≡ pick columns a b → a ≤ 65535 → b ≤ 65535 → n ≤ 65535
either_small true n a b e h k = omega arith
either_small false n a b e h k = omega arith

-- ---- A line

module _ (o : Orientation) (width height k x y first : ℕ) (e : first ≡ y * width + x) where
  pub line_columns : o.columns ≡ true → x ≡ axis_at o.leftward width k → y ≡ axis_at o.upward height 0
      → record { first = first; stride = width; back = o.upward } ≡ line_of o width height k
  unfolding line_of
  line_columns c ex ey = rw (e, ex, ey) (simp c)

  pub line_rows : o.columns ≡ false → x ≡ axis_at o.leftward width 0 → y ≡ axis_at o.upward height k
      → record { first = first; stride = 1; back = o.leftward } ≡ line_of o width height k
  unfolding line_of
  line_rows c ex ey = rw (e, ex, ey) (simp c)

-- pixel i of the line lies where pixel i of the stored row does
line_by : (columns upward leftward : Bool) (width height k i : ℕ) → i < long_of (orientation columns upward leftward) width height
    → line_at (line_of (orientation columns upward leftward) width height k) i ≡ place_of (orientation columns upward leftward) width height k i
unfolding line_of
line_by false upward false width height k i h = omega (arith, mul-one i)
line_by false upward true width height k i h = omega (arith, mul-one i)
line_by true false leftward width height k i h = omega arith
line_by true true leftward width height k i h =
    let rows : height - 1 - 0 ≡ height - 1 - i + i = omega arith in
    let split : (height - 1 - 0) * width ≡ (height - 1 - i) * width + i * width = ap (λ (n : ℕ). n * width) rows ∙ add-mul (height - 1 - i) i width in
    omega (arith, split)

pub line_place : (o : Orientation) (width height k i : ℕ) → i < long_of o width height → line_at (line_of o width height k) i ≡ place_of o width height k i
line_place o = line_by o.columns o.upward o.leftward
