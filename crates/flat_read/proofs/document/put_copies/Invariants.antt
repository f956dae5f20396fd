-- `flat_read::document::put_copies` meets its contract. The invariant: the first k copies are stored.
use mathlib.Core.Path.{◌≡◌}
use Rattle.steps.specs.Place.{spread}
use Rattle.flat_read.specs.Flat.{copies}
use Rattle.flat_read.proofs.Laws.Document.{four}
use Rattle.flat_read.proofs.document.put_copies.Given as goal

abbrev pub invariant-loop-k : goal.invariant-loop-k
invariant-loop-k l = l.store ≡ spread 1 l.initial.store l.place (copies l.k (four l.r l.g l.b l.e))
