-- `flat_read::document::put_copies` meets its contract.
use Rattle.flat_read.proofs.Laws.Document.{copies_all}
use Rattle.flat_read.proofs.document.put_copies.Goals as goal

pub returns : goal.returns
returns c = search copies_all
