-- `decimal::leading::times` meets its contract.
use native.Mathlib.Omega.{arith}
use Rattle.decimal.proofs.Laws.Leading.{carry_next, carry_end}
use Rattle.decimal.proofs.leading.times.Goals as goal

pub loop-digit-preserved : goal.loop-digit-preserved
loop-digit-preserved c = (grind arith, search carry_next)

pub returns : goal.returns
returns c = search carry_end
