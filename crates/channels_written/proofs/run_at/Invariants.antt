-- `channels_written::run_at` meets its contract. The invariant: the first n bytes are equal.
use Prim.Native.Nat.{◌≤◌}
use Rattle.channels_written.specs.Inner.{Equal}
use Rattle.channels_written.proofs.run_at.Given as goal

abbrev pub invariant-loop-n : goal.invariant-loop-n
invariant-loop-n l = (4 ≤ l.n) × Equal l.px l.at l.n
