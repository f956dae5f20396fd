-- `frames_written::samples::first_bright` meets its contract. The invariants: the rows before this one can be written, and of this one the pixels before this column.
use mathlib.Core.Path.{◌≡◌}
use Prim.Native.Nat.{◌*◌}
use Rattle.std.specs.Prelude.{None}
use Rattle.frames_written.specs.Samples.{first_bright}
use Rattle.frames_written.proofs.samples.first_bright.Given as goal

abbrev pub invariant-rows : goal.invariant-rows
invariant-rows l = (first_bright l.samples 0 (l.width * l.row) ≡ l.width * l.row) × (l.found ≡ None)

abbrev pub invariant-loop-column : goal.invariant-loop-column
invariant-loop-column l = (first_bright l.samples (3 * l.at) l.column ≡ l.column) × (l.found ≡ None)
