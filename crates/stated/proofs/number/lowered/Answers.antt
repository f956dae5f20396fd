-- `stated::number::lowered` meets its contract: ten to a small power is no small divisor, and no large one.
use borrow.Author.Rules.{rules}
use Rattle.stated.proofs.Laws.Exposure.{over_ten, lowered_under}
use Rattle.stated.proofs.number.lowered.Goals as goal

pub scaled-requires : goal.scaled-requires
scaled-requires c = (search over_ten, search lowered_under, search rules)
