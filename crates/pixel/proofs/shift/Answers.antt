-- `pixel::shift` meets its contract, by the reading.
use Rattle.pixel.proofs.Laws.Scales.{crate_shift_is, doc_shift_is}
use Rattle.pixel.proofs.shift.Goals as goal

pub returns-in-Crate : goal.returns-in-Crate
returns-in-Crate c = search crate_shift_is

pub returns-in-Document : goal.returns-in-Document
returns-in-Document c = rw c.from.ensures (doc_shift_is _ _ c.in-Document.is)
