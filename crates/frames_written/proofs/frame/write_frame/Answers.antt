-- `frames_written::frame::write_frame` meets its contract: the header, and then the rows.
use Rattle.frames_written.proofs.Laws.Frame.{frame_header, frame_rows, frame_placed, frame_stored}
use Rattle.frames_written.proofs.frame.write_frame.Goals as goal

pub write-at-requires : goal.write-at-requires
write-at-requires g c = frame_header _ _ _ _ c.requires.room

pub write_rows-requires-clause-room : goal.write_rows-requires-clause-room
write_rows-requires-clause-room g c = frame_rows _ _ _ _ c.write-at.ensures.0 _ _ c.write-at.ensures.1 c.requires.room

pub returns-clause-value : goal.returns-clause-value
returns-clause-value g c = frame_placed _ _ _ _ c.write-at.ensures.0 _ c.write_rows.ensures.next

pub returns-clause-stored : goal.returns-clause-stored
returns-clause-stored g c = frame_stored _ _ _ _ c.write-at.ensures.0 _ _ c.write-at.ensures.1 _ c.write_rows.ensures.stored
