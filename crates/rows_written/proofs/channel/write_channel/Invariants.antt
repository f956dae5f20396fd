-- `rows_written::channel::write_channel` meets its contract. The invariant: what is left to store, stored, gives what was to be stored.
use mathlib.Core.Path.{◌≡◌}
use Prim.Native.Nat.{◌+◌, ◌*◌}
use lib.ListN.{length}
use Rattle.steps.specs.Place.{spread}
use Rattle.channels_written.specs.Channel.{code, channel}
use Rattle.rows_written.proofs.channel.write_channel.Given as goal

abbrev pub invariant-loop-left : goal.invariant-loop-left
invariant-loop-left l = (l.at + 4 * l.left ≡ l.from + 4 * l.w)
    × (l.o + length (code (channel l.px l.at l.left)) ≡ l.to + length (code (channel l.px l.from l.w)))
    × (length l.out ≡ length l.initial.out)
    × (spread 1 l.out l.o (code (channel l.px l.at l.left)) ≡ spread 1 l.initial.out l.to (code (channel l.px l.from l.w)))

abbrev pub decreases-loop-left : goal.decreases-loop-left
decreases-loop-left l = l.left
