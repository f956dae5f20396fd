-- `frames_written::pixels::Pixels::write_row` meets its contract: a row by its place is the row of its own bytes.
use mathlib.Core.Path.{sym, ap, ◌∙◌}
use Prim.Native.Nat.{◌*◌}
use native.Mathlib.Omega.{arith}
use lib.ListN.{length}
use Rattle.steps.specs.Place.{spread}
use Rattle.frames_written.proofs.Laws.Rows.{line_same, pixels_row}
use Rattle.frames_written.proofs.pixels.PixelsRows.write_row.Goals as goal

pub write_row-requires : goal.write_row-requires
write_row-requires c =
    let a = c.args in
    let same = line_same a.self.now.bytes.now (4 * (a.width * a.k)) a.width in
    (pixels_row _ _ _ c.requires.row, omega (arith, ap length same, c.requires.room))

pub returns-clause-next : goal.returns-clause-next
returns-clause-next c =
    let a = c.args in
    let same = line_same a.self.now.bytes.now (4 * (a.width * a.k)) a.width in
    omega (arith, c.write_row.ensures.0, ap length same)

pub returns-clause-stored : goal.returns-clause-stored
returns-clause-stored c = c.write_row.ensures.1 ∙ sym (ap (spread 1 _ _) (line_same _ _ _))
