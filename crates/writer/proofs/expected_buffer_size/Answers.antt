-- `writer::expected_buffer_size` meets its contract: where a product passes 2^64 - 1, so does the sum.
use mathlib.Core.Path.{◌∙◌}
use Rattle.writer.proofs.Laws.Write.{expected_none, expected_over, expected_number}
use Rattle.writer.proofs.expected_buffer_size.Goals as goal

pub returns-in_err-checked_mul : goal.returns-in_err-checked_mul
returns-in_err-checked_mul c = c.from_residual.ensures ∙ expected_none _ _ c.in_err-checked_mul.ensures

pub returns-in_err-checked_mul-2 : goal.returns-in_err-checked_mul-2
returns-in_err-checked_mul-2 c =
    let d = c.in_ok-checked_mul.ensures in
    c.from_residual-in_err-checked_mul-2.ensures ∙ expected_over _ _ _ d.1 c.in_err-checked_mul-2.ensures

pub returns : goal.returns
returns c =
    let d = c.in_ok-checked_mul.ensures in
    let e = c.in_ok-checked_mul-2.ensures in
    expected_number _ _ _ d.1 _ _ e.1 c.checked_add.ensures
