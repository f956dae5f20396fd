-- `pixel::crate_shift` meets its contract: the exponent byte is above 128 or not.
use mathlib.Core.Path.{sym}
use native.Mathlib.Omega.{arith}
use Rattle.pixel.proofs.Laws.Scales.{crate_high, crate_low}
use Rattle.pixel.proofs.crate_shift.Goals as goal

pub returns-then-e-gt128 : goal.returns-then-e-gt128
returns-then-e-gt128 c = rw c.from.ensures (sym (crate_high c.args.e (omega arith)))

pub returns-else-e-gt128 : goal.returns-else-e-gt128
returns-else-e-gt128 c = rw c.from-else-e-gt128.ensures (sym (crate_low c.args.e (omega arith)))
