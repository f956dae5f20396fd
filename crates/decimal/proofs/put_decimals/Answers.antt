-- `decimal::put_decimals` meets its contract.
use native.Mathlib.Omega.{arith}
use Rattle.decimal.proofs.Laws.Decimal.{decimal_next, decimal_end}
use Rattle.decimal.proofs.put_decimals.Goals as goal

pub loop-decimal-preserved : goal.loop-decimal-preserved
loop-decimal-preserved c = (omega arith, search decimal_next)

pub returns : goal.returns
returns c = search decimal_end
