-- `stated::product::is_usable` meets its contract: both tests are those of the whole number.
use mathlib.Core.Path.{◌∙◌}
use lib.Dec.{lit≤}
use denote.Floats.{passes}
use Rattle.pixel.proofs.Laws.Patterns.{number}
use Rattle.stated.proofs.Laws.Product.{not_above_zero, below_infinite}
use Rattle.stated.proofs.product.is_usable.Goals as goal

pub float_from_bits-result : goal.float_from_bits-result
float_from_bits-result c = number 2139095040 (lit≤ tt)

pub returns-then-x : goal.returns-then-x
returns-then-x c = below_infinite c.args.x (passes _ c.well_formed.0.1) c.requires c.if-x.true

pub returns-else-x : goal.returns-else-x
returns-else-x c = c.if-x.false ∙ not_above_zero c.args.x (passes _ c.well_formed.0.1) c.if-x.false
