-- `reader::read_rows` meets its contract. The invariant: running the definition from here gives what it gives from the start.
use native.Mathlib.Omega.{arith}
use Rattle.places.specs.Places.{long_of, count_of}
use Rattle.places.specs.Inner.{line_of}
use Rattle.places.proofs.Laws.Places.{either_small}
use Rattle.reader.proofs.Laws.Frame.{of_layout, rows_start, line_room}
use Rattle.reader.proofs.Laws.Read.{frame_done, frame_fault, frame_again}
use Rattle.reader.proofs.read_rows.Goals as goal

pub loop-k-init : goal.loop-k-init
loop-k-init c = search rows_start

pub step-requires : goal.step-requires
step-requires c =
    let long = of_layout long_of _ _ _ _ _ c.layout_of-layout.ensures c.long-long.ensures in
    let count = of_layout count_of _ _ _ _ _ c.layout_of-layout.ensures c.count-count.ensures in
    let line = of_layout (λ o width height. line_of o width height c.loop-k.k) _ _ _ _ _ c.layout_of-layout.ensures c.line-line.ensures.0 in (
      omega (arith, c.requires.0, long, c.loop-k.auto.store),
      search (either_small, long, c.requires.2, c.requires.3),
      (c.line-line.ensures.1, c.line-line.ensures.2, λ i l. line_room _ _ _ _ _ _ _ _ _ line count c.loop-k-test.true c.requires.2 c.requires.3 c.requires.1 c.loop-k.auto.out long i l),
    )

pub returns-in-Err : goal.returns-in-Err
returns-in-Err c =
    let long = of_layout long_of _ _ _ _ _ c.layout_of-layout.ensures c.long-long.ensures in
    let count = of_layout count_of _ _ _ _ _ c.layout_of-layout.ensures c.count-count.ensures in
    let line = of_layout (λ o width height. line_of o width height c.loop-k.k) _ _ _ _ _ c.layout_of-layout.ensures c.line-line.ensures.0 in
    frame_fault _ _ _ _ _ _ _ _ _ _ _ c.loop-k.invariant _ count _ line c.loop-k-test.true _ _ _ _ long c.step.ensures c.args.head c.in-Err.reason c.in-Err.is

pub loop-k-preserved : goal.loop-k-preserved
loop-k-preserved c =
    let long = of_layout long_of _ _ _ _ _ c.layout_of-layout.ensures c.long-long.ensures in
    let count = of_layout count_of _ _ _ _ _ c.layout_of-layout.ensures c.count-count.ensures in
    let line = of_layout (λ o width height. line_of o width height c.loop-k.k) _ _ _ _ _ c.layout_of-layout.ensures c.line-line.ensures.0 in
    frame_again _ _ _ _ _ _ _ _ _ _ _ c.loop-k.invariant _ count _ line c.loop-k-test.true _ _ _ _ long c.step.ensures c.in-Ok.next c.in-Ok.is

pub returns : goal.returns
returns c =
    let count = of_layout count_of _ _ _ _ _ c.layout_of-layout.ensures c.count-count.ensures in
    search (frame_done, count)
