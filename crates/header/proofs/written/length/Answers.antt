-- `header::written::length` meets its contract: 61 bytes plus the digits of both.
use native.Mathlib.Omega.{arith}
use Rattle.header.proofs.Laws.Written.{digits_few, written_length}
use Rattle.header.proofs.written.length.Goals as goal

pub overflow_add-result : goal.overflow_add-result
overflow_add-result c = record { fits = omega (arith, digits_few c.args.height (omega arith)) }

pub overflow_add-result-2 : goal.overflow_add-result-2
overflow_add-result-2 c = record { fits = omega (arith, digits_few c.args.height (omega arith), digits_few c.args.width (omega arith)) }

pub returns : goal.returns
returns c = omega (arith, written_length c.args.width c.args.height)
