-- `rows_written::channel::copy_bytes` meets its contract. The invariant: the first k bytes are stored.
use mathlib.Core.Path.{◌≡◌}
use Rattle.steps.specs.Place.{spread}
use Rattle.channels_written.specs.Channel.{channel}
use Rattle.rows_written.proofs.channel.copy_bytes.Given as goal

abbrev pub invariant-loop-k : goal.invariant-loop-k
invariant-loop-k l = l.out ≡ spread 1 l.initial.out l.to (channel l.px l.at l.k)
