-- `rows_written::write_coded` meets its contract: the mark, then each channel where the one before it ends.
use native.Mathlib.Omega.{arith}
use Rattle.rows_written.proofs.Laws.Row.{coded_size}
use Rattle.rows_written.proofs.Laws.Store.{row_store}
use Rattle.rows_written.proofs.write_coded.Goals as goal

pub write_mark-requires : goal.write_mark-requires
write_mark-requires c =
    let a = c.args in
    omega (arith, coded_size a.px.now a.at a.w)

pub write_channel-a-requires : goal.write_channel-a-requires
write_channel-a-requires c =
    let a = c.args in
    omega (arith, coded_size a.px.now a.at a.w, c.write_mark.auto)

pub write_channel-b-requires : goal.write_channel-b-requires
write_channel-b-requires c =
    let a = c.args in
    omega (arith, coded_size a.px.now a.at a.w, c.write_channel-a.auto, c.write_mark.auto)

pub write_channel-c-requires : goal.write_channel-c-requires
write_channel-c-requires c =
    let a = c.args in
    omega (arith, coded_size a.px.now a.at a.w, c.write_channel-b.auto, c.write_channel-a.auto, c.write_mark.auto)

pub write_channel-requires : goal.write_channel-requires
write_channel-requires c =
    let a = c.args in
    omega (arith, coded_size a.px.now a.at a.w, c.write_channel-c.auto, c.write_channel-b.auto, c.write_channel-a.auto, c.write_mark.auto)

pub returns : goal.returns
returns c =
    let a = c.args in (
      omega (arith, coded_size a.px.now a.at a.w, c.write_channel-a.ensures.0, c.write_channel-b.ensures.0, c.write_channel-c.ensures.0, c.write_channel.ensures.0),
      row_store a.px.now a.out.now _ _ _ _ _ a.at a.w a.to _ _ _
          c.write_mark.ensures c.write_channel-a.ensures c.write_channel-b.ensures c.write_channel-c.ensures c.write_channel.ensures.1,
    )
