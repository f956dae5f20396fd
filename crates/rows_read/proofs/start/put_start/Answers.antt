-- `rows_read::start::put_start` meets its contract: the start by the reading that is asked for.
use Rattle.rows_read.proofs.Laws.Row.{start_crate, start_document}
use Rattle.rows_read.proofs.start.put_start.Goals as goal

pub returns-in-Crate : goal.returns-in-Crate
returns-in-Crate c = search start_crate

pub returns-in-Document : goal.returns-in-Document
returns-in-Document c = search start_document
