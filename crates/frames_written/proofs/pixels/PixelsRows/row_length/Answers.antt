-- `frames_written::pixels::Pixels::row_length` meets its contract: a row by its place is the row of its own bytes.
use mathlib.Core.Path.{sym, ap, ◌∙◌}
use lib.ListN.{length}
use Rattle.frames_written.proofs.Laws.Rows.{line_same}
use Rattle.frames_written.proofs.pixels.PixelsRows.row_length.Goals as goal

pub returns-clause-value : goal.returns-clause-value
returns-clause-value c = c.row_length.ensures ∙ sym (ap length (line_same _ _ _))
