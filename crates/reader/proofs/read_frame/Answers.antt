-- `reader::read_frame` meets its contract: each `return` is one of the checks 6 to 8, or the rows.
use mathlib.Core.Path.{ap}
use Rattle.steps.specs.Answer.{refusal_of}
use Rattle.places.specs.Places.{long_of}
use Rattle.reader.proofs.Laws.Frame.{of_layout, cleared_by}
use Rattle.reader.proofs.Laws.Read.{frame_short_out, frame_no_width, frame_short_store, frame_rows}
use Rattle.reader.proofs.read_frame.Goals as goal

pub returns-then-out-head : goal.returns-then-out-head
returns-then-out-head c = frame_short_out _ _ _ _ _ _ _ c.if-out-head.true (ap refusal_of c.into.ensures)

pub returns-then-head-eq0 : goal.returns-then-head-eq0
returns-then-head-eq0 c = frame_no_width _ _ _ _ _ _ c.if-out-head.false _ c.if-head-eq0.true (ap refusal_of c.into-then-head-eq0.ensures)

pub returns-then-store-long : goal.returns-then-store-long
returns-then-store-long c =
    let long = of_layout long_of _ _ _ _ _ c.layout_of.ensures c.long-long.ensures in
    frame_short_store _ _ _ _ _ _ c.if-out-head.false c.if-head-eq0.false _ long _ c.if-store-long.true (ap refusal_of c.into-then-store-long.ensures)

pub returns : goal.returns
returns c =
    let long = of_layout long_of _ _ _ _ _ c.layout_of.ensures c.long-long.ensures in
    frame_rows _ _ _ _ _ _ c.if-out-head.false c.if-head-eq0.false _ long _ _ c.if-store-long.false (cleared_by _ _ _ (c.fill.ensures.after (λ y e. e)) c.if-store-long.false) c.read_rows.ensures
