-- `stated::with_exposure` meets its contract: the line has a number, and the product is one.
use Rattle.std.proofs.Common.{refl}
use Rattle.std.proofs.lemmas.Result.{err_from_is_err_and}
use Rattle.stated.proofs.Laws.Said.{the_reason, exposure_unread, exposure_over, exposure_stated}
use Rattle.stated.proofs.with_exposure.Goals as goal

pub returns-in_err-x-clause-result_value : goal.returns-in_err-x-clause-result_value
returns-in_err-x-clause-result_value c =
    let p = err_from_is_err_and c.from_residual.result c.from_residual.ensures.1 in
    let d = c.in_err-x.ensures in
    rw (p.1, p.2, the_reason _ _ _ d.ok_part d.value) (exposure_unread _ _ _ c.factor_in.ensures.value d.ok_part)

pub returns-in_err-product-clause-result_value : goal.returns-in_err-product-clause-result_value
returns-in_err-product-clause-result_value c =
    let p = err_from_is_err_and c.from_residual-in_err-product.result c.from_residual-in_err-product.ensures.1 in
    let d = c.in_err-product.ensures in
    rw (p.1, p.2, the_reason _ _ _ d.ok_part d.value) (exposure_over _ _ _ c.factor_in.ensures.value _ c.in_ok-x.ensures.ok_part _ refl _ c.together.ensures.value d.ok_part)

pub returns-clause-result_value : goal.returns-clause-result_value
returns-clause-result_value c = exposure_stated _ _ _ c.factor_in.ensures.value _ c.in_ok-x.ensures.ok_part _ refl _ c.together.ensures.value _ c.in_ok-product.ensures.ok_part
