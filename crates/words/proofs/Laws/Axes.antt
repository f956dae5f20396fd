-- The laws that proofs use of `specs/Axes.antt`: an axis is named by two bytes.
use Prim.Native.Nat.{ℕ, ◌<◌, ◌≤◌}
use mathlib.Core.Bool.{Bool, true, false, ◌&&◌}
use mathlib.Core.List.{List, [], ◌∷◌}
use mathlib.Core.Path.{◌≡◌, refl, sym}
use native.Mathlib.Omega.{arith}
use lib.ListN.{length, get_or}
use lib.Dec.{eqb}
use Rattle.std.specs.Prelude.{Option, Some, None}
use Rattle.steps.specs.Loop.{pick}
use Rattle.words.specs.Lines.{same}
use Rattle.words.specs.Axes.{minus_y, plus_y, plus_x, minus_x, axis_of}
use Rattle.words.proofs.Laws.Lines.{same_length}
use Rattle.words.specs.declared.axes.Axis.{Axis}
use Rattle.words.specs.declared.axes.Axis.TheVariants.{Y, X}

-- the axis of a sign and a letter
abbrev pub by_bytes : ℕ → ℕ → Option Axis
by_bytes sign letter =
    pick (eqb sign 45 && (eqb letter 89 && true)) (Some (Y false))
    (pick (eqb sign 43 && (eqb letter 89 && true)) (Some (Y true))
    (pick (eqb sign 43 && (eqb letter 88 && true)) (Some (X false))
    (pick (eqb sign 45 && (eqb letter 88 && true)) (Some (X true)) None)))

pub axis_two : (field : List ℕ) → 2 ≤ length field → length field < 3 → axis_of field ≡ by_bytes (get_or field 0 0) (get_or field 1 0)
unfolding axis_of same
axis_two [] h l = absurd (omega arith)
axis_two (x ∷ []) h l = absurd (omega arith)
axis_two (x ∷ y ∷ []) h l = refl
axis_two (x ∷ y ∷ z ∷ zs) h l = absurd (omega arith)

pub axis_short : (field : List ℕ) → length field < 2 → axis_of field ≡ None
unfolding axis_of same
axis_short [] h = refl
axis_short (x ∷ []) h = none (eqb x 45) (eqb x 43)
  where
    none : (m p : Bool) → ◌≡◌ {A = Option Axis} (pick (m && false) (Some (Y false)) (pick (p && false) (Some (Y true)) (pick (p && false) (Some (X false)) (pick (m && false) (Some (X true)) None)))) None
    none true true = refl
    none true false = refl
    none false true = refl
    none false false = refl
axis_short (x ∷ y ∷ ys) h = absurd (omega arith)

pub axis_long : (field : List ℕ) → 3 ≤ length field → axis_of field ≡ None
unfolding axis_of
axis_long field h =
    simp (
      sym (same_length field minus_y (λ e. omega arith)),
      sym (same_length field plus_y (λ e. omega arith)),
      sym (same_length field plus_x (λ e. omega arith)),
      sym (same_length field minus_x (λ e. omega arith)),
    )
