-- `frames_written::frame::worst_row` meets its contract, by the kind of row.
use Rattle.frames_written.proofs.Laws.Frame.{worst_coded, worst_flat}
use Rattle.frames_written.proofs.frame.worst_row.Goals as goal

pub returns-then-is_coded : goal.returns-then-is_coded
returns-then-is_coded c = search worst_coded

pub returns-else-is_coded : goal.returns-else-is_coded
returns-else-is_coded c = search worst_flat
