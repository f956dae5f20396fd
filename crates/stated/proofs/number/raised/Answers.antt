-- `stated::number::raised` meets its contract: ten to a small power is no small divisor, and no large one.
use borrow.Author.Rules.{rules}
use Rattle.stated.proofs.Laws.Exposure.{over_ten, raised_under}
use Rattle.stated.proofs.number.raised.Goals as goal

pub scaled-requires : goal.scaled-requires
scaled-requires c = (search over_ten, search raised_under, search rules)
