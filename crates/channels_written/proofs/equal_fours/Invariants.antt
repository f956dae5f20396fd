-- `channels_written::equal_fours` meets its contract. The invariant: the first n bytes are equal.
use Prim.Native.Nat.{◌-◌, ◌≤◌}
use Rattle.channels_written.specs.Inner.{Equal}
use Rattle.channels_written.proofs.equal_fours.Given as goal

abbrev pub invariant-loop-n : goal.invariant-loop-n
invariant-loop-n l = (4 ≤ l.n) × (l.n ≤ l.cap) × Equal l.px l.at l.n

abbrev pub decreases-loop-n : goal.decreases-loop-n
decreases-loop-n l = l.cap - l.n
