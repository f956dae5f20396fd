-- `stated::number::pointed` meets its contract: the digits before the point, and those behind it.
use Rattle.stated.proofs.Laws.Exposure.{point_read}
use Rattle.stated.proofs.number.pointed.Goals as goal

pub returns : goal.returns
returns c = search point_read
