-- `decimal::leading::leading` meets its contract.
use mathlib.Core.Path.{refl}
use Rattle.decimal.proofs.Laws.Leading.{power_none}
use Rattle.decimal.proofs.leading.leading.Goals as goal

pub loop-init : goal.loop-init
loop-init c = power_none _ _ _ _ refl c.times.ensures
