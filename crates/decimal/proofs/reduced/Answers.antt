-- `decimal::reduced` meets its contract.
use native.Mathlib.Omega.{arith}
use Rattle.decimal.proofs.Laws.Decimal.{reduced_twos}
use Rattle.decimal.proofs.reduced.Goals as goal

pub returns : goal.returns
returns c = reduced_twos _ _ _ (omega arith) (omega arith) c.min-twos.ensures
