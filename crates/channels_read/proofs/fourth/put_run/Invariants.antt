-- `channels_read::fourth::put_run` meets its contract. The invariant: the first k bytes are stored.
use mathlib.Core.Path.{◌≡◌}
use lib.ListN.{replicate}
use Rattle.steps.specs.Place.{spread}
use Rattle.channels_read.proofs.fourth.put_run.Given as goal

abbrev pub invariant-loop-k : goal.invariant-loop-k
invariant-loop-k l = l.store ≡ spread 4 l.initial.store l.from (replicate l.k l.v)
