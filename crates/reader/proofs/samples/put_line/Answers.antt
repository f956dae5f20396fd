-- `reader::samples::put_line` meets its contract.
use native.Mathlib.Omega.{arith}
use Rattle.reader.proofs.Laws.Samples.{first_ahead, placed_start, next_ahead, line_next}
use Rattle.reader.proofs.samples.put_line.Goals as goal

pub loop-i-init : goal.loop-i-init
loop-i-init c = (search first_ahead, search placed_start)

pub put_pixel-requires : goal.put_pixel-requires
put_pixel-requires c = omega (arith, (c.requires.1.2 _ c.loop-i-test.true).1, c.loop-i.invariant.0)

pub onward-o-requires : goal.onward-o-requires
onward-o-requires c = (omega (arith, (c.requires.1.2 _ c.loop-i-test.true).0, c.loop-i.invariant.0), omega (arith, c.requires.1.1))

pub loop-i-preserved : goal.loop-i-preserved
loop-i-preserved c = (search (next_ahead, c.loop-i.invariant.0, c.onward-o.ensures), search line_next)
