-- `reader::output_buffer_size` meets its contract: where the area passes 2^64 - 1, so does three times the area.
use mathlib.Core.Path.{◌∙◌}
use Rattle.reader.proofs.Laws.Read.{samples_none, samples_number}
use Rattle.reader.proofs.output_buffer_size.Goals as goal

pub returns-in_err-checked_mul : goal.returns-in_err-checked_mul
returns-in_err-checked_mul c = c.from_residual.ensures ∙ samples_none _ _ c.in_err-checked_mul.ensures

pub returns : goal.returns
returns c = samples_number _ _ _ _ (let e = c.in_ok-checked_mul.ensures in e.1) c.checked_mul-2.ensures
