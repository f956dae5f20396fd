-- `rows_written::channel::channel_length` meets its contract. The invariant: what was counted and the length of what is left make the whole.
use mathlib.Core.Path.{◌≡◌}
use Prim.Native.Nat.{◌+◌, ◌*◌, ◌≤◌}
use lib.ListN.{length}
use Rattle.channels_written.specs.Channel.{code, channel}
use Rattle.rows_written.specs.Row.{worst_channel}
use Rattle.rows_written.proofs.channel.channel_length.Given as goal

abbrev pub invariant-loop-left : goal.invariant-loop-left
invariant-loop-left l = (l.at + 4 * l.left ≡ l.from + 4 * l.w)
    × (l.n + length (code (channel l.px l.at l.left)) ≡ length (code (channel l.px l.from l.w)))
    × (length (code (channel l.px l.from l.w)) ≤ worst_channel l.w)

abbrev pub decreases-loop-left : goal.decreases-loop-left
decreases-loop-left l = l.left
