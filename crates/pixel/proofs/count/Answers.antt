-- `pixel::count` meets its contract, by the reading.
use Rattle.pixel.proofs.Laws.Scales.{doc_count_is}
use Rattle.pixel.proofs.count.Goals as goal

pub returns-in-Document : goal.returns-in-Document
returns-in-Document c = rw c.from-in-Document.ensures (search doc_count_is)
