-- `decimal::leading::first` meets its contract. The invariant: what was taken is the number of the digits from here on.
use Rattle.decimal.proofs.Laws.Leading.{From}
use Rattle.decimal.proofs.leading.first.Given as goal

abbrev pub invariant-loop-more : goal.invariant-loop-more
invariant-loop-more l = From l.digits l.lead l.more
