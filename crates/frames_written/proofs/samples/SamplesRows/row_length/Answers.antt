-- `frames_written::samples::Samples::row_length` meets its contract: a row depends on its own bytes alone, so that of the line is that of the pixels.
use Prim.Native.Nat.{◌*◌, ◌≤◌}
use native.Mathlib.Omega.{arith}
use lib.ListN.{length}
use Rattle.frames_written.proofs.Laws.Rows.{samples_row, samples_none}
use Rattle.frames_written.proofs.Laws.Line.{coded_room, line_length, flat_length}
use Rattle.frames_written.proofs.samples.SamplesRows.row_length.Goals as goal

pub pack_row-requires : goal.pack_row-requires
pack_row-requires c =
    let room = coded_room c.args.width _ c.is_coded.ensures c.if-is_coded.true in
    (samples_row _ _ _ c.requires, omega arith, samples_none _ _ _ c.requires)

pub row_length-requires : goal.row_length-requires
row_length-requires c =
    let room = coded_room c.args.width _ c.is_coded.ensures c.if-is_coded.true in
    omega arith

pub returns-then-is_coded-clause-value : goal.returns-then-is_coded-clause-value
returns-then-is_coded-clause-value c =
    let args = c.args in
    let room : 4 * args.width ≤ length args.self.now.line = omega (arith, coded_room args.width _ c.is_coded.ensures c.if-is_coded.true) in
    line_length _ _ _ _ _ room c.pack_row.ensures _ c.row_length.ensures

pub returns-else-is_coded-clause-value : goal.returns-else-is_coded-clause-value
returns-else-is_coded-clause-value c = flat_length _ _ _ _ c.is_coded.ensures c.if-is_coded.false
