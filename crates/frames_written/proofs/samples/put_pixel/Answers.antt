-- `frames_written::samples::put_pixel` meets its contract: four stores, one after another.
use Rattle.frames_written.proofs.Laws.Samples.{put_four}
use Rattle.frames_written.proofs.samples.put_pixel.Goals as goal

pub returns : goal.returns
returns c = put_four _ _ _ _ _ _
