-- `frames_written::frame::write_rows` meets its contract. The invariant: the rows before row k are stored.
use mathlib.Core.Path.{◌≡◌}
use Prim.Native.Nat.{◌+◌}
use lib.ListN.{length}
use Rattle.steps.specs.Place.{spread}
use Rattle.frames_written.specs.Frame.{rows_by}
use Rattle.frames_written.specs.Inner.{Kept}
use Rattle.frames_written.proofs.frame.write_rows.Given as goal

abbrev pub invariant-loop-k : goal.invariant-loop-k
invariant-loop-k g l =
    (l.o ≡ l.to + length (rows_by (g.R.Rows.line l.initial.rows l.width) l.width l.k))
    × (l.out ≡ spread 1 l.initial.out l.to (rows_by (g.R.Rows.line l.initial.rows l.width) l.width l.k))
    × Kept g.R.Rows.CanWrite g.R.Rows.line g.R.Rows.lent l.initial.rows l.rows
