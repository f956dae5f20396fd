-- `frames_written::samples::pack_row` meets its contract. The invariant: the first k pixels are stored.
use mathlib.Core.Path.{◌≡◌}
use Rattle.steps.specs.Place.{spread}
use Rattle.frames_written.specs.Samples.{packed}
use Rattle.frames_written.proofs.samples.pack_row.Given as goal

abbrev pub invariant-loop-k : goal.invariant-loop-k
invariant-loop-k l = l.out ≡ spread 1 l.initial.out l.to (packed l.samples l.from l.k)
