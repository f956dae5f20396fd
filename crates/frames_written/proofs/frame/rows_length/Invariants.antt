-- `frames_written::frame::rows_length` meets its contract. The invariant: the rows before row k are counted.
use mathlib.Core.Path.{◌≡◌}
use lib.ListN.{length}
use Rattle.frames_written.specs.Frame.{rows_by}
use Rattle.frames_written.specs.Inner.{Kept}
use Rattle.frames_written.proofs.frame.rows_length.Given as goal

abbrev pub invariant-loop-k : goal.invariant-loop-k
invariant-loop-k g l = (l.n ≡ length (rows_by (g.R.Rows.line l.initial.rows l.width) l.width l.k)) × Kept g.R.Rows.CanWrite g.R.Rows.line g.R.Rows.lent l.initial.rows l.rows
