-- `sky::fault::start_of` is safe and ends. The invariant: the start lies between the first line and the end of the bytes.
use Rattle.std.proofs.Common.{◌-◌, ◌≤◌, length}
use Rattle.sky.proofs.fault.start_of.Given as goal

abbrev pub invariant-loop-low : goal.invariant-loop-low
invariant-loop-low l = (l.first ≤ l.low) × (l.low ≤ l.high) × (l.high ≤ length l.bytes)

abbrev pub decreases-loop-low : goal.decreases-loop-low
decreases-loop-low l = l.high - l.low
