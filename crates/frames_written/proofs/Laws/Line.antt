-- One row of samples, packed into a line or straight into the output.
use Prim.Native.Nat.{ℕ, ◌+◌, ◌*◌, ◌≤◌}
use mathlib.Core.Bool.{Bool, true, false}
use mathlib.Core.List.{List, [], append-nil}
use mathlib.Core.Path.{◌≡◌, sym, ap, ◌∙◌}
use native.Mathlib.Omega.{arith}
use lib.ListN.{length, drop}
use lib.Ieee.{Float}
use Rattle.steps.specs.Place.{spread, bytes_from}
use Rattle.rows_written.specs.Row.{written_row}
use Rattle.steps.specs.Width.{is_coded}
use Rattle.rows_written.proofs.Laws.Row.{row_flat, flat_size}
use Rattle.steps.proofs.Laws.Width.{coded_widths}
use Rattle.steps.proofs.Laws.Place.{bytes_there, spread_front}
use Rattle.frames_written.specs.Samples.{packed}
use Rattle.frames_written.proofs.Laws.Samples.{length_packed}
use Rattle.frames_written.proofs.Laws.Rows.{row_front}

-- a coded row fits the line
pub coded_room : (w : ℕ) (t : Bool) → t ≡ is_coded w → t ≡ true → 4 * w ≤ 131072
coded_room w t e k = omega (arith, coded_widths w (sym e ∙ k))

module _ (samples : List Float) (from w : ℕ) where
  line_row : (line line' : List ℕ) → 4 * w ≤ length line → line' ≡ spread 1 line 0 (packed samples from w) → written_row line' 0 w ≡ written_row (packed samples from w) 0 w
  line_row line line' room e =
      let p : List ℕ = packed samples from w in
      rw (e ∙ spread_front line p (omega (arith, length_packed samples from w))) (row_front p (drop (length p) line) w (length_packed samples from w))

  flat_row : is_coded w ≡ false → written_row (packed samples from w) 0 w ≡ packed samples from w
  flat_row e =
      let p : List ℕ = packed samples from w in
      row_flat p 0 w e ∙ ap (bytes_from p 0) (sym (length_packed samples from w)) ∙ bytes_there p 0 p [] (sym (append-nil p))

  module _ (t : Bool) (e : t ≡ is_coded w) where
    pub flat_length : t ≡ false → 4 * w ≡ length (written_row (packed samples from w) 0 w)
    flat_length k = sym (flat_size (packed samples from w) 0 w (sym e ∙ k))

    pub flat_fits : t ≡ false → (to : ℕ) (out : List ℕ) → to + length (written_row (packed samples from w) 0 w) ≤ length out → to + 4 * w ≤ length out
    flat_fits k to out h = omega (arith, flat_length k)

    pub flat_placed : t ≡ false → (to : ℕ) → to + 4 * w ≡ to + length (written_row (packed samples from w) 0 w)
    flat_placed k to = omega (arith, flat_length k)

    pub flat_stored : t ≡ false → (out out' : List ℕ) (to : ℕ) → out' ≡ spread 1 out to (packed samples from w) → out' ≡ spread 1 out to (written_row (packed samples from w) 0 w)
    flat_stored k out out' to s = s ∙ ap (spread 1 out to) (sym (flat_row (sym e ∙ k)))

  module _ (line line' : List ℕ) (room : 4 * w ≤ length line) (e : line' ≡ spread 1 line 0 (packed samples from w)) where
    pub line_length : (r : ℕ) → r ≡ length (written_row line' 0 w) → r ≡ length (written_row (packed samples from w) 0 w)
    line_length r k = k ∙ ap length (line_row line line' room e)

    pub line_fits : (to n : ℕ) → to + length (written_row (packed samples from w) 0 w) ≤ n → to + length (written_row line' 0 w) ≤ n
    line_fits to n h = omega (arith, ap length (line_row line line' room e))

    pub line_placed : (to r : ℕ) → r ≡ to + length (written_row line' 0 w) → r ≡ to + length (written_row (packed samples from w) 0 w)
    line_placed to r k = omega (arith, ap length (line_row line line' room e))

    pub line_stored : (out out' : List ℕ) (to : ℕ) → out' ≡ spread 1 out to (written_row line' 0 w) → out' ≡ spread 1 out to (written_row (packed samples from w) 0 w)
    line_stored out out' to s = s ∙ ap (spread 1 out to) (line_row line line' room e)
