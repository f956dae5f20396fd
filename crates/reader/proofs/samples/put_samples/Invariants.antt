-- `reader::samples::put_samples` meets its contract. The invariant: the samples of the first i pixels are stored.
use mathlib.Core.Path.{◌≡◌}
use Rattle.steps.specs.Place.{spread}
use Rattle.reader.specs.Inner.{samples_from}
use Rattle.reader.specs.Read.{pixel_by}
use Rattle.reader.proofs.samples.put_samples.Given as goal

abbrev pub invariant-loop-i : goal.invariant-loop-i
invariant-loop-i l = l.out ≡ spread 1 l.initial.out l.from (samples_from (pixel_by l.reading) l.store 0 l.i)
