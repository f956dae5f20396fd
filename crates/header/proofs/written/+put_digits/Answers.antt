-- `header::written::put_digits` meets its contract: the digits of n / 10, and the last.
use mathlib.Core.Path.{refl}
use Prim.Native.Nat.{◌/◌}
use native.Mathlib.Omega.{arith}
use lib.ListN.{length}
use Rattle.header.specs.Written.{digits}
use Rattle.header.proofs.Laws.Written.{count_one, count_more, store_one, place_more, store_more}
use Rattle.header.proofs.written.+put_digits.Goals as goal

pub bounds-out-at : goal.bounds-out-at
bounds-out-at t c = omega (arith, count_one c.args.n c.if-n-lt10.true)

pub returns-then-n-lt10 : goal.returns-then-n-lt10
returns-then-n-lt10 t c = (omega (arith, count_one c.args.n c.if-n-lt10.true), search store_one)

pub put_digits-p-requires : goal.put_digits-p-requires
put_digits-p-requires t c = (omega arith, omega (arith, count_more c.args.n (length (digits (c.args.n / 10))) c.if-n-lt10.false refl))

pub bounds-out-p : goal.bounds-out-p
bounds-out-p t c = omega (arith, place_more _ c.args.n _ c.if-n-lt10.false c.put_digits-p.ensures.0)

pub overflow_add-result-2 : goal.overflow_add-result-2
overflow_add-result-2 t c = record { fits = omega (arith, place_more _ c.args.n _ c.if-n-lt10.false c.put_digits-p.ensures.0) }

pub returns : goal.returns
returns t c = (search place_more, search store_more)
