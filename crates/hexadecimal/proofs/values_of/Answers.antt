-- `hexadecimal::values_of` meets its contract. The invariant: what is left to read, stored, gives what was to be stored.
use borrow.Author.Rules.{rules}
use native.Mathlib.Omega.{arith}
use Rattle.hexadecimal.proofs.Laws.Hex.{count_room, turn_room, value_small, read_short, read_counted, reads_first, reads_more, reads_none, reads_all}
use Rattle.hexadecimal.proofs.values_of.Goals as goal

pub returns-then-values-n-clause-value : goal.returns-then-values-n-clause-value
returns-then-values-n-clause-value g c = rw (← c.DIGITS-size.ensures) (read_short _ _ _ _ _ c.count.ensures _ c.in_ok-n.was c.if-values-n.true)

pub loop-k-init : goal.loop-k-init
loop-k-init g c = (search (rules, count_room), reads_first _ _ _ _ _)

pub overflow_mul-digits : goal.overflow_mul-digits
overflow_mul-digits g c = record { fits = omega (arith, turn_room c.DIGITS-size.result c.in_ok-n.n c.loop-k.k) }

pub returns-in_err-numeral-clause-value : goal.returns-in_err-numeral-clause-value
returns-in_err-numeral-clause-value g c = rw (← c.DIGITS-size.ensures) (search (rules, reads_none, read_counted))

pub of-requires : goal.of-requires
of-requires g c = rw (← c.DIGITS-size.ensures) (value_small _ _ _ _ c.numeral.ensures _ c.in_ok-numeral.was)

pub loop-k-preserved : goal.loop-k-preserved
loop-k-preserved g c =
    (search rules, reads_more g.T.Written.value c.DIGITS-size.result _ _ _ _ _ c.loop-k-test.true c.loop-k.invariant.1 _ c.numeral.ensures _ _ c.in_ok-numeral.was c.of.ensures)

pub returns-clause-value : goal.returns-clause-value
returns-clause-value g c = rw (← c.DIGITS-size.ensures) (search (rules, reads_all, read_counted))
