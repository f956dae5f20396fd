-- `channels_read::fourth::put_known` meets its contract. The invariant: the first k bytes are stored.
use mathlib.Core.Path.{◌≡◌}
use Rattle.steps.specs.Place.{spread, bytes_from}
use Rattle.channels_read.proofs.fourth.put_known.Given as goal

abbrev pub invariant-loop-k : goal.invariant-loop-k
invariant-loop-k l = l.store ≡ spread 4 l.initial.store l.from (bytes_from l.src l.p l.k)
