-- `rows_read::is_right` meets its contract: the mark by the reading that is asked for.
use Rattle.rows_read.proofs.Laws.Row.{mark_crate, mark_document}
use Rattle.rows_read.proofs.is_right.Goals as goal

pub returns-in-Crate : goal.returns-in-Crate
returns-in-Crate c = search mark_crate

pub returns-in-Document : goal.returns-in-Document
returns-in-Document c = search mark_document
