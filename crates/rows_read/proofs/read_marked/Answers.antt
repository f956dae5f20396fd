-- `rows_read::read_marked` meets its contract: each `return` is a case of `rest_by`.
use Rattle.rows_read.proofs.Laws.Row.{marked_right, marked_wrong}
use Rattle.rows_read.proofs.read_marked.Goals as goal

pub returns-then-is_right : goal.returns-then-is_right
returns-then-is_right c = search marked_right

pub returns : goal.returns
returns c = search marked_wrong
