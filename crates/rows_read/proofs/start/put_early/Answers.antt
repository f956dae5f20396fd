-- `rows_read::start::put_early` meets its contract: each `return` is a case of `early`.
use Rattle.rows_read.proofs.Laws.Row.{early_none, early_other, early_two}
use Rattle.rows_read.proofs.start.put_early.Goals as goal

pub returns-then-src-at : goal.returns-then-src-at
returns-then-src-at c = search early_none

pub returns-then-src-at-ne2 : goal.returns-then-src-at-ne2
returns-then-src-at-ne2 c = search early_other

pub returns : goal.returns
returns c = search early_two
