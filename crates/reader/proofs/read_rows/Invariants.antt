-- `reader::read_rows` meets its contract. The invariant: running the definition from here gives what it gives from the start.
use Prim.Native.Nat.{◌-◌}
use Rattle.steps.proofs.Laws.Loop.{Runs}
use Rattle.rows_read.specs.Row.{row_of}
use Rattle.reader.specs.Frame.{stored_of, rows, row_turn, no_rows, rows_of}
use Rattle.reader.specs.Read.{pixel_by}
use Rattle.reader.proofs.read_rows.Given as goal

abbrev pub invariant-loop-k : goal.invariant-loop-k
invariant-loop-k l =
    Runs (row_turn (row_of l.reading) (pixel_by l.reading) l.bytes (stored_of l.head)) no_rows ((stored_of l.head).count - l.k) (rows l.p l.k l.store l.out) (rows_of (row_of l.reading) (pixel_by l.reading) l.bytes (stored_of l.head) l.initial.p l.initial.out l.initial.store)
