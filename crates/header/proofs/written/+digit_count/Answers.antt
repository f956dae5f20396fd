-- `header::written::digit_count` meets its contract: one digit more than n / 10 has.
use Prim.Native.Nat.{◌/◌}
use native.Mathlib.Omega.{arith}
use Rattle.header.proofs.Laws.Written.{digits_few, count_one, count_more}
use Rattle.header.proofs.written.+digit_count.Goals as goal

pub returns-then-n-lt10 : goal.returns-then-n-lt10
returns-then-n-lt10 t c = search count_one

pub overflow_add-result : goal.overflow_add-result
overflow_add-result t c = record { fits = omega (arith, digits_few (c.args.n / 10) (omega arith)) }

pub returns : goal.returns
returns t c = search count_more
