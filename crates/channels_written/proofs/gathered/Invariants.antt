-- `channels_written::gathered` meets its contract. The invariant: what is before h gathers, and h is a border of the channel.
use Prim.Native.Nat.{◌-◌, ◌≤◌}
use Rattle.channels_written.proofs.Laws.Gather.{Looks}
use Rattle.channels_written.proofs.gathered.Given as goal

abbrev pub invariant-loop-h : goal.invariant-loop-h
invariant-loop-h l = (l.h ≤ l.left) × Looks l.px l.at l.left l.h

abbrev pub decreases-loop-h : goal.decreases-loop-h
decreases-loop-h l = l.left - l.h
