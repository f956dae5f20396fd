-- `header::written::write` meets its contract: five stores, one after another.
use native.Mathlib.Omega.{arith}
use lib.ListN.{length-set}
use lib.Dec.{lit≤}
use Rattle.header.proofs.Laws.Written.{written_length, written_stored}
use Rattle.header.proofs.written.write.Goals as goal

pub put_bytes-requires : goal.put_bytes-requires
put_bytes-requires c = (lit≤ tt, omega (arith, written_length c.args.width c.args.height))

pub put_digits-p-requires : goal.put_digits-p-requires
put_digits-p-requires c = omega (arith, written_length c.args.width c.args.height)

pub put_bytes-requires-2 : goal.put_bytes-requires-2
put_bytes-requires-2 c = (lit≤ tt, omega (arith, written_length c.args.width c.args.height))

pub overflow_add-p : goal.overflow_add-p
overflow_add-p c = record { fits = omega (arith, written_length c.args.width c.args.height) }

pub put_digits-q-requires : goal.put_digits-q-requires
put_digits-q-requires c = omega (arith, written_length c.args.width c.args.height)

pub bounds-out-q : goal.bounds-out-q
bounds-out-q c = omega (arith, written_length c.args.width c.args.height)

pub overflow_add-result : goal.overflow_add-result
overflow_add-result c = record { fits = omega (arith, written_length c.args.width c.args.height) }

pub shape_of-out : goal.shape_of-out
shape_of-out c = simp length-set (omega arith)

pub returns : goal.returns
returns c = (omega (arith, written_length c.args.width c.args.height), search written_stored)
