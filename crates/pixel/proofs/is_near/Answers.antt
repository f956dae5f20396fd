-- `pixel::is_near` meets its contract: the comparison of the code is one of whole numbers.
use denote.Floats.{passes}
use Rattle.pixel.proofs.Laws.Limits.{above_near}
use Rattle.pixel.proofs.is_near.Goals as goal

pub returns : goal.returns
returns c = above_near c.args.x (passes _ c.well_formed.0.1)
