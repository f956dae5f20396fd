-- `flat_read::part::pixel` meets its contract, by any rule.
use Rattle.flat_read.proofs.Laws.Pixels.{pixel_ones, pixel_ordinary}
use Rattle.flat_read.proofs.part.pixel.Goals as goal

pub returns-then-is_repeat-clause-store_after : goal.returns-then-is_repeat-clause-store_after
returns-then-is_repeat-clause-store_after g c = search pixel_ones

pub returns-clause-store_after : goal.returns-clause-store_after
returns-clause-store_after g c = search pixel_ordinary
