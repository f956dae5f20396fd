-- The file of a frame, of four-byte pixels or of samples, and how long it can be.
use Rattle.std.specs.Prelude.{ℕ, zero, suc, ◌+◌, ◌*◌, List, [], ◌++◌, length, Float}
use Rattle.header.specs.Written.{written}
use Rattle.rows_written.specs.Row.{written_row, worst_row}
use Rattle.frames_written.specs.Samples.{packed}

-- h rows of w pixels, one after another, the first pixel at byte at of px
unfoldable pub written_rows : List ℕ → ℕ → ℕ → ℕ → List ℕ
written_rows px at w zero = []
written_rows px at w (suc h) = written_row px at w ++ written_rows px (at + 4 * w) w h

-- the header, and then the rows; height 0 is the header alone
unfoldable pub frame_of : List ℕ → ℕ → ℕ → List ℕ
frame_of px w h = written w h ++ written_rows px 0 w h

-- h rows of w pixels, each from the bytes of its own
unfoldable pub rows_by : (ℕ → List ℕ) → ℕ → ℕ → List ℕ
rows_by line w zero = []
rows_by line w (suc k) = rows_by line w k ++ written_row (line k) 0 w

-- the header, and then these rows
unfoldable pub frame_by : (ℕ → List ℕ) → ℕ → ℕ → List ℕ
frame_by line w h = written w h ++ rows_by line w h

-- the file of a frame of samples is that of its pixels' bytes
abbrev pub file_of : List Float → ℕ → ℕ → List ℕ
file_of samples w h = frame_of (packed samples 0 (w * h)) w h

-- the header and h of the longest rows
unfoldable pub worst_of : ℕ → ℕ → ℕ
worst_of w h = length (written w h) + h * worst_row w
