-- `rows_read::kind::is_flat_width` meets its contract.
use Rattle.rows_read.proofs.Laws.Row.{width_by}
use Rattle.rows_read.proofs.kind.is_flat_width.Goals as goal

pub returns : goal.returns
returns c = search width_by
