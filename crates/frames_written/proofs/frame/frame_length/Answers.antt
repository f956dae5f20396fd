-- `frames_written::frame::frame_length` meets its contract: the header and the rows.
use Rattle.frames_written.proofs.Laws.Frame.{frame_is, frame_sum}
use Rattle.frames_written.proofs.frame.frame_length.Goals as goal

pub overflow_add-result : goal.overflow_add-result
overflow_add-result g c =
    record { fits = frame_sum _ _ _ _ c.length.ensures _ c.rows_length.ensures.value c.requires.limits.0 c.requires.limits.1 }

pub returns-clause-value : goal.returns-clause-value
returns-clause-value g c = frame_is _ _ _ _ c.length.ensures _ c.rows_length.ensures.value
