-- `window::read_row` meets its contract.
use Rattle.window.proofs.Laws.Row.{part_is, part_within}
use Rattle.window.proofs.read_row.Goals as goal

pub returns-clause-row_promise : goal.returns-clause-row_promise
returns-clause-row_promise c = search part_is

pub returns-clause-row_within : goal.returns-clause-row_within
returns-clause-row_within c = search part_within
