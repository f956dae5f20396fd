-- `frames_written::frame::worst_length` meets its contract: within the limits nothing wraps.
use Rattle.frames_written.proofs.Laws.Frame.{worst_product, worst_sum, worst_is}
use Rattle.frames_written.proofs.frame.worst_length.Goals as goal

pub overflow_mul-result : goal.overflow_mul-result
overflow_mul-result c = record { fits = search worst_product }

pub overflow_add-result : goal.overflow_add-result
overflow_add-result c = record { fits = search worst_sum }

pub returns : goal.returns
returns c = search worst_is
