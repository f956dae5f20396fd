-- `rows_written::channel::write_literals` meets its contract. The invariant: what is left to store, stored, gives what was to be stored.
use mathlib.Core.Path.{◌≡◌}
use Prim.Native.Nat.{◌+◌, ◌*◌}
use lib.ListN.{length}
use Rattle.steps.specs.Place.{spread}
use Rattle.channels_written.specs.Channel.{literals, channel}
use Rattle.rows_written.proofs.channel.write_literals.Given as goal

abbrev pub invariant-loop-left : goal.invariant-loop-left
invariant-loop-left l = (l.a + 4 * l.left ≡ l.at + 4 * l.n)
    × (l.o + length (literals 0 (channel l.px l.a l.left)) ≡ l.to + length (literals 0 (channel l.px l.at l.n)))
    × (length l.out ≡ length l.initial.out)
    × (spread 1 l.out l.o (literals 0 (channel l.px l.a l.left)) ≡ spread 1 l.initial.out l.to (literals 0 (channel l.px l.at l.n)))

abbrev pub decreases-loop-left : goal.decreases-loop-left
decreases-loop-left l = l.left
