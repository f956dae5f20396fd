-- `stated::number::factor_in` meets its contract: the digits before the e, and the power from it on.
use Rattle.stated.proofs.Laws.Exposure.{exposure_bare, exposure_powered}
use Rattle.stated.proofs.Laws.Said.{factor_told}
use Rattle.stated.proofs.number.factor_in.Goals as goal

pub returns-in_err-power_of-clause-value : goal.returns-in_err-power_of-clause-value
returns-in_err-power_of-clause-value c = rw c.from_residual.ensures (exposure_bare _ _ c.ahead-e.ensures.value _ c.power_of.ensures c.in_err-power_of.was)

pub returns-clause-value : goal.returns-clause-value
returns-clause-value c = exposure_powered _ _ c.ahead-e.ensures.value _ c.power_of.ensures _ _ c.in_ok-power_of.was c.pointed.ensures

pub returns-clause-usable_factor : goal.returns-clause-usable_factor
returns-clause-usable_factor c = factor_told _ _ (exposure_powered _ _ c.ahead-e.ensures.value _ c.power_of.ensures _ _ c.in_ok-power_of.was c.pointed.ensures)
