-- `stated::rounded::nearest` meets its contract. The invariant: `top` over b, with so many digits to be dropped, is the same number.
use Rattle.stated.proofs.Laws.Nearest.{Doubled}
use Rattle.stated.proofs.rounded.nearest.Given as goal

abbrev pub invariant-loop-top : goal.invariant-loop-top
invariant-loop-top l = Doubled l.a l.b l.k l.top l.dropped

abbrev pub decreases-loop-top : goal.decreases-loop-top
decreases-loop-top l = l.dropped
