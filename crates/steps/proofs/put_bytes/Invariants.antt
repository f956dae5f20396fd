-- `steps::put_bytes` meets its contract. The invariant: the first k bytes are stored. Assumes nothing.
use mathlib.Core.Path.{◌≡◌}
use Rattle.steps.specs.Place.{spread, bytes_from}
use Rattle.steps.proofs.put_bytes.Given as goal

abbrev pub invariant-loop-k : goal.invariant-loop-k
invariant-loop-k l = l.store ≡ spread 1 l.initial.store l.from (bytes_from l.src l.p l.k)
