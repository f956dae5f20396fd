-- `frames_written::samples::Samples::write_row` meets its contract: a row depends on its own bytes alone, so that of the line is that of the pixels.
use Prim.Native.Nat.{◌*◌, ◌≤◌}
use native.Mathlib.Omega.{arith}
use lib.ListN.{length}
use Rattle.frames_written.proofs.Laws.Rows.{samples_row, samples_none}
use Rattle.frames_written.proofs.Laws.Line.{coded_room, flat_fits, flat_placed, flat_stored, line_fits, line_placed, line_stored}
use Rattle.frames_written.proofs.samples.SamplesRows.write_row.Goals as goal

pub pack_row-requires : goal.pack_row-requires
pack_row-requires c =
    let room = coded_room c.args.width _ c.is_coded.ensures c.if-is_coded.true in
    (samples_row _ _ _ c.requires.row, omega arith, samples_none _ _ _ c.requires.row)

pub write_row-requires : goal.write_row-requires
write_row-requires c =
    let args = c.args in
    let room : 4 * args.width ≤ length args.self.now.line = omega (arith, coded_room args.width _ c.is_coded.ensures c.if-is_coded.true) in
    (omega arith, line_fits _ _ _ _ _ room c.pack_row.ensures _ _ c.requires.room)

pub returns-then-is_coded-clause-next : goal.returns-then-is_coded-clause-next
returns-then-is_coded-clause-next c =
    let args = c.args in
    let room : 4 * args.width ≤ length args.self.now.line = omega (arith, coded_room args.width _ c.is_coded.ensures c.if-is_coded.true) in
    line_placed _ _ _ _ _ room c.pack_row.ensures _ _ c.write_row.ensures.0

pub returns-then-is_coded-clause-stored : goal.returns-then-is_coded-clause-stored
returns-then-is_coded-clause-stored c =
    let args = c.args in
    let room : 4 * args.width ≤ length args.self.now.line = omega (arith, coded_room args.width _ c.is_coded.ensures c.if-is_coded.true) in
    line_stored _ _ _ _ _ room c.pack_row.ensures _ _ _ c.write_row.ensures.1

pub pack_row-requires-else-is_coded : goal.pack_row-requires-else-is_coded
pack_row-requires-else-is_coded c =
    (samples_row _ _ _ c.requires.row, flat_fits _ _ _ _ c.is_coded.ensures c.if-is_coded.false _ _ c.requires.room, samples_none _ _ _ c.requires.row)

pub returns-else-is_coded-clause-next : goal.returns-else-is_coded-clause-next
returns-else-is_coded-clause-next c = flat_placed _ _ _ _ c.is_coded.ensures c.if-is_coded.false _

pub returns-else-is_coded-clause-stored : goal.returns-else-is_coded-clause-stored
returns-else-is_coded-clause-stored c = flat_stored _ _ _ _ c.is_coded.ensures c.if-is_coded.false _ _ _ c.pack_row-else-is_coded.ensures
