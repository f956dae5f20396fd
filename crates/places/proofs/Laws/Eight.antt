-- All eight orientations, over three bits: each is a rearrangement of pixels, and where the first and the last stored pixel go.
use Prim.Native.Nat.{ℕ, suc, ◌+◌, ◌-◌, ◌*◌, ◌/◌, ◌%◌, ◌<◌, ◌≤◌}
use mathlib.Core.Bool.{Bool, true, false}
use mathlib.Core.Logic.{⊎_elim}
use mathlib.Core.Path.{◌≡◌, refl, sym, ap, ◌∙◌}
use native.Mathlib.Nat.{mul_comm, suc-mul, mul-le-mul_right, mod-lt, div-add-mod', div-lt_iff_lt-mul}
use native.Mathlib.Omega.{arith}
use Rattle.steps.proofs.Laws.Order.{lt_or_ge}
use Rattle.words.specs.Lines.{same}
use Rattle.words.specs.Axes.{orientation, axis_of, axes_of}
use Rattle.words.specs.declared.axes.Orientation.{Orientation}
use Rattle.places.specs.Places.{cell, axis_at, stored_by}
use Rattle.places.specs.Eight.{Rearranged, Eight}

-- ---- One axis: turned twice it is as it was

axis_inside : (back : Bool) (length n : ℕ) → n < length → axis_at back length n < length
axis_inside false length n h = h
axis_inside true length n h = omega arith

axis_twice : (back : Bool) (length n : ℕ) → n < length → axis_at back length (axis_at back length n) ≡ n
axis_twice false length n h = refl
axis_twice true length n h = omega arith

axis_apart : (back : Bool) (length m n : ℕ) → m < length → n < length → axis_at back length m ≡ axis_at back length n → m ≡ n
axis_apart back length m n h k e = sym (axis_twice back length m h) ∙ ap (λ (i : ℕ). axis_at back length i) e ∙ axis_twice back length n k

-- ---- Two axes: a pixel for each column and row, and for each pixel a column and a row

cell_inside : (width height x y : ℕ) → x < width → y < height → cell width x y < height * width
cell_inside width height x y h k =
    let rows : y * width + width ≤ height * width = rw suc-mul at (mul-le-mul_right {m = suc y} width k) in
    omega arith

cell_below : (width x y u v : ℕ) → x < width → y < v → cell width x y ≡ cell width u v → ⊥
cell_below width x y u v h k e = let rows : y * width + width ≤ v * width = rw suc-mul at (mul-le-mul_right {m = suc y} width k) in omega arith

cell_apart : (width x y u v : ℕ) → x < width → u < width → cell width x y ≡ cell width u v → (x ≡ u) × (y ≡ v)
cell_apart width x y u v h k e =
    ⊎_elim (λ l. absurd (cell_below width x y u v h l e))
    (λ l. ⊎_elim (λ m. absurd (cell_below width u v x y k m (sym e)))
    (λ m. let same : y ≡ v = omega arith in
    let rows : y * width ≡ v * width = ap (λ (n : ℕ). n * width) same in
    (omega arith, same)) (lt_or_ge v y))
    (lt_or_ge y v)

-- the column and the row of a pixel
some_width : (width height p : ℕ) → p < height * width → 0 < width
some_width width height p h = ⊎_elim (λ l. l) (λ l. absurd (none l)) (lt_or_ge 0 width)
  where
    none : width ≤ 0 → ⊥
    none l = let zero : width ≡ 0 = omega arith in let all : height * width ≡ height * 0 = ap (λ (n : ℕ). height * n) zero in omega (arith, all)

column_inside : (width height p : ℕ) → p < height * width → p % width < width
column_inside width height p h = mod-lt p (some_width width height p h)

row_inside : (width height p : ℕ) → p < height * width → p / width < height
row_inside width height p h = (div-lt_iff_lt-mul (some_width width height p h)).1 h

-- the pixel that two steps lead to, each turned back
cell_back : (upward leftward : Bool) (width height p : ℕ) → p < height * width
    → cell width (axis_at leftward width (axis_at leftward width (p % width))) (axis_at upward height (axis_at upward height (p / width))) ≡ p
cell_back upward leftward width height p h =
    rw (axis_twice leftward width _ (column_inside width height p h), axis_twice upward height _ (row_inside width height p h)) (div-add-mod' p width)

-- ---- Three bits

by_bits : (columns upward leftward : Bool) (width height : ℕ) → Rearranged (stored_by (orientation columns upward leftward) width height) (height * width)
by_bits false upward leftward width height =
    record {
      many = refl;
      inside = λ k i hk hi. cell_inside width height _ _ (axis_inside leftward width i hi) (axis_inside upward height k hk);
      apart = λ k i l j hk hi hl hj e.
          let both = cell_apart width _ _ _ _ (axis_inside leftward width i hi) (axis_inside leftward width j hj) e in
          (axis_apart upward height k l hk hl both.1, axis_apart leftward width i j hi hj both.0);
      every = λ p h. (
        axis_at upward height (p / width),
        axis_at leftward width (p % width),
        axis_inside upward height _ (row_inside width height p h),
        axis_inside leftward width _ (column_inside width height p h),
        cell_back upward leftward width height p h,
      );
    }
by_bits true upward leftward width height =
    record {
      many = mul_comm width height;
      inside = λ k i hk hi. cell_inside width height _ _ (axis_inside leftward width k hk) (axis_inside upward height i hi);
      apart = λ k i l j hk hi hl hj e.
          let both = cell_apart width _ _ _ _ (axis_inside leftward width k hk) (axis_inside leftward width l hl) e in
          (axis_apart leftward width k l hk hl both.0, axis_apart upward height i j hi hj both.1);
      every = λ p h. (
        axis_at leftward width (p % width),
        axis_at upward height (p / width),
        axis_inside leftward width _ (column_inside width height p h),
        axis_inside upward height _ (row_inside width height p h),
        cell_back upward leftward width height p h,
      );
    }

-- each of the eight is a rearrangement of the picture's pixels: none is lost, and none is doubled
pub rearranged : (o : Orientation) (width height : ℕ) → Rearranged (stored_by o width height) (height * width)
rearranged o = by_bits o.columns o.upward o.leftward

-- ---- Corners

to_end : (n : ℕ) → n - 1 - (n - 1) ≡ 0
to_end n = omega arith

from_end : (n : ℕ) → n - 1 - 0 ≡ n - 1
from_end n = omega arith

pub all_eight : Eight
unfolding axes_of axis_of same
all_eight =
    record {
      minus_y_plus_x = record { orientation = orientation false false false; named = refl; starts = λ w h. refl; ends = λ w h. refl };
      minus_y_minus_x = record { orientation = orientation false false true; named = refl; starts = λ w h. rw (from_end w); ends = λ w h. rw (to_end w) };
      plus_y_plus_x = record { orientation = orientation false true false; named = refl; starts = λ w h. rw (from_end h); ends = λ w h. rw (to_end h) };
      plus_y_minus_x = record { orientation = orientation false true true; named = refl; starts = λ w h. rw (from_end h, from_end w); ends = λ w h. rw (to_end h, to_end w) };
      plus_x_minus_y = record { orientation = orientation true false false; named = refl; starts = λ w h. refl; ends = λ w h. refl };
      minus_x_minus_y = record { orientation = orientation true false true; named = refl; starts = λ w h. rw (from_end w); ends = λ w h. rw (to_end w) };
      plus_x_plus_y = record { orientation = orientation true true false; named = refl; starts = λ w h. rw (from_end h); ends = λ w h. rw (to_end h) };
      minus_x_plus_y = record { orientation = orientation true true true; named = refl; starts = λ w h. rw (from_end h, from_end w); ends = λ w h. rw (to_end h, to_end w) };
    }
