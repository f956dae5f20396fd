-- `channels_written::equal_fours` meets its contract. The invariant: the first n bytes are equal.
use native.Mathlib.Omega.{arith}
use Rattle.channels_written.proofs.Laws.Front.{equal_first, equal_four}
use Rattle.channels_written.proofs.equal_fours.Goals as goal

pub loop-n-init : goal.loop-n-init
loop-n-init c =
    (omega arith, omega arith, equal_first c.args.px.now c.args.at c.requires.2)

pub loop-n-preserved : goal.loop-n-preserved
loop-n-preserved c =
    let a = c.args in
    (omega arith, omega arith, equal_four a.px.now a.at c.loop-n.n c.loop-n.invariant.2 (c.are_all.ensures c.if-are_all.true))
