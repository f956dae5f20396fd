-- `frames_written::samples::any_near` meets its contract. The invariant: it is found among the first k.
use mathlib.Core.Path.{◌≡◌}
use Rattle.frames_written.specs.Inner.{any_near}
use Rattle.frames_written.proofs.samples.any_near.Given as goal

abbrev pub invariant-loop-k : goal.invariant-loop-k
invariant-loop-k l = l.found ≡ any_near l.samples l.from l.k
