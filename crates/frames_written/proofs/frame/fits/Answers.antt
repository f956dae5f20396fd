-- `frames_written::frame::fits` meets its contract: no frame is longer than the worst.
use Rattle.frames_written.proofs.Laws.Frame.{fits_worst}
use Rattle.frames_written.proofs.frame.fits.Goals as goal

pub returns-then-worst_length-room-clause-value : goal.returns-then-worst_length-room-clause-value
returns-then-worst_length-room-clause-value g c = fits_worst (g.R.Rows.line c.args.rows.now c.args.width) _ _ _ _ c.worst_length.ensures c.if-worst_length-room.true
