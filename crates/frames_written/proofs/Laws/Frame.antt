-- The laws that proofs use of `specs/Frame.antt`: the worst length, and a frame as its header and its rows. Within the limits nothing wraps.
use Rattle.std.specs.Int.{div_ceil}
use Prim.Native.Nat.{ℕ, zero, suc, ◌+◌, ◌*◌, ◌^◌, ◌<◌, ◌≤◌}
use mathlib.Core.Bool.{Bool, true, false}
use mathlib.Core.List.{List}
use mathlib.Core.Path.{◌≡◌, sym, ap, ◌∙◌}
use native.Mathlib.Nat.{mul-le-mul}
use native.Mathlib.Omega.{arith}
use borrow.Author.Tests.{le-leb}
use lib.ListN.{length, length-append}
use lib.Dec.{leb}
use Rattle.steps.specs.Loop.{pick}
use Rattle.steps.specs.Place.{spread}
use Rattle.steps.proofs.Laws.Place.{length_spread, spread_then}
use Rattle.header.specs.Written.{written}
use Rattle.header.proofs.Laws.Written.{written_length, digits_few}
use Rattle.rows_written.specs.Row.{written_row, worst_row, worst_channel}
use Rattle.steps.specs.Width.{is_coded}
use Rattle.rows_written.proofs.Laws.Worst.{row_worst}
use Rattle.frames_written.specs.Frame.{written_rows, rows_by, frame_of, frame_by, worst_of}

-- ---- The worst length

worst_row_most : (w : ℕ) → w ≤ 65535 → worst_row w ≤ 264192
unfolding worst_row
worst_row_most w l = go (is_coded w)
  where
    go : (t : Bool) → pick t (4 + 4 * worst_channel w) (4 * w) ≤ 264192
    go true = omega arith
    go false = omega arith

-- a row's worst length, by its kind
module _ (w : ℕ) (t : Bool) (e : t ≡ is_coded w) where
  pub worst_coded : (d : ℕ) → d ≡ div_ceil w 128 → t ≡ true → 4 + 4 * (w + d) ≡ worst_row w
  unfolding worst_row
  worst_coded d h k = simp (sym e ∙ k) (omega arith)

  pub worst_flat : t ≡ false → 4 * w ≡ worst_row w
  unfolding worst_row
  worst_flat k = simp (sym e ∙ k)

rows_worst : (px : List ℕ) (at w h : ℕ) → length (written_rows px at w h) ≤ h * worst_row w
unfolding written_rows
rows_worst px at w zero = omega arith
rows_worst px at w (suc h) = omega (arith, length-append (written_row px at w) (written_rows px (at + 4 * w) w h), row_worst px at w, rows_worst px (at + 4 * w) w h)

pub frame_size : (px : List ℕ) (w h : ℕ) → length (frame_of px w h) ≡ length (written w h) + length (written_rows px 0 w h)
unfolding frame_of
frame_size px w h = length-append (written w h) (written_rows px 0 w h)

-- no frame is longer
pub frame_worst : (px : List ℕ) (w h : ℕ) → length (frame_of px w h) ≤ worst_of w h
unfolding worst_of
frame_worst px w h = omega (arith, frame_size px w h, rows_worst px 0 w h)

-- ---- Within the limits nothing wraps

module _ (w h : ℕ) (hw : w ≤ 65535) (hh : h ≤ 65535) where
  pub area_fits : w * h ≤ 65535 * 65535
  area_fits = mul-le-mul hw hh

  -- the samples or bytes of a frame, `each` to a pixel
  pub count_of_fits : (each : ℕ) → each ≤ 4 → each * (w * h) < 2 ^ 64
  count_of_fits each l = omega (arith, mul-le-mul l area_fits)

  worst_rows_fit : h * worst_row w ≤ 2 ^ 35
  worst_rows_fit = omega (arith, mul-le-mul hh (worst_row_most w hw))

  header_fits : length (written w h) ≤ 101
  header_fits = omega (arith, written_length w h, digits_few w (omega arith), digits_few h (omega arith))

  module _ (r : ℕ) (er : r ≡ worst_row w) where
    pub worst_product : h * r < 2 ^ 64
    worst_product = omega (arith, worst_rows_fit, ap (λ (k : ℕ). h * k) er)

    module _ (n : ℕ) (en : n ≡ length (written w h)) where
      pub worst_sum : n + h * r < 2 ^ 64
      worst_sum = omega (arith, worst_rows_fit, header_fits, ap (λ (k : ℕ). h * k) er)

      pub worst_is : n + h * r ≡ worst_of w h
      unfolding worst_of
      worst_is = omega (arith, ap (λ (k : ℕ). h * k) er)

-- ---- A frame is its header and its rows

by_rows_worst : (line : ℕ → List ℕ) (w h : ℕ) → length (rows_by line w h) ≤ h * worst_row w
unfolding rows_by
by_rows_worst line w zero = omega arith
by_rows_worst line w (suc h) = omega (arith, length-append (rows_by line w h) (written_row (line h) 0 w), row_worst (line h) 0 w, by_rows_worst line w h)

module _ (line : ℕ → List ℕ) (w h : ℕ) where
  by_size : length (frame_by line w h) ≡ length (written w h) + length (rows_by line w h)
  unfolding frame_by
  by_size = length-append (written w h) (rows_by line w h)

  by_worst : length (frame_by line w h) ≤ worst_of w h
  unfolding worst_of
  by_worst = omega (arith, by_size, by_rows_worst line w h)

  pub by_rows_fit : w ≤ 65535 → h ≤ 65535 → length (rows_by line w h) ≤ 2 ^ 35
  by_rows_fit hw hh = omega (arith, by_rows_worst line w h, worst_rows_fit w h hw hh)

  pub frame_header : (room : ℕ) → length (frame_by line w h) ≤ room → length (written w h) ≤ room
  frame_header room l = omega (arith, by_size)

  -- where the worst length fits, the frame fits
  pub fits_worst : (n room : ℕ) → n ≡ worst_of w h → n ≤ room → leb n room ≡ leb (length (frame_by line w h)) room
  fits_worst n room e l = le-leb n room l ∙ sym (le-leb (length (frame_by line w h)) room (omega (arith, by_worst)))

  module _ (n : ℕ) (en : n ≡ length (written w h)) where
    pub frame_is : (r : ℕ) → r ≡ length (rows_by line w h) → n + r ≡ length (frame_by line w h)
    frame_is r er = omega (arith, by_size)

    pub frame_sum : (r : ℕ) → r ≡ length (rows_by line w h) → w ≤ 65535 → h ≤ 65535 → n + r < 2 ^ 64
    frame_sum r er hw hh = omega (arith, header_fits w h hw hh, by_rows_fit hw hh)

    pub frame_placed : (r : ℕ) → r ≡ n + length (rows_by line w h) → r ≡ length (frame_by line w h)
    frame_placed r er = omega (arith, by_size)

    module _ (out out' : List ℕ) (es : out' ≡ spread 1 out 0 (written w h)) where
      pub frame_rows : length (frame_by line w h) ≤ length out → n + length (rows_by line w h) ≤ length out'
      frame_rows l = omega (arith, by_size, ap length es, length_spread 1 out 0 (written w h))

      pub frame_stored : (out'' : List ℕ) → out'' ≡ spread 1 out' n (rows_by line w h) → out'' ≡ spread 1 out 0 (frame_by line w h)
      unfolding frame_by
      frame_stored out'' et =
          let at : n ≡ 0 + length (written w h) = omega arith in
          et ∙ sym (spread_then out out' 0 n (written w h) (rows_by line w h) es at)
