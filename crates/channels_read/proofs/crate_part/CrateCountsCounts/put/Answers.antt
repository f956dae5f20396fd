-- The crate reading's count meets the rule's contract.
use Rattle.channels_read.proofs.Laws.Counts.{crate_put}
use Rattle.channels_read.proofs.crate_part.CrateCountsCounts.put.Goals as goal

pub returns : goal.returns
returns c = search crate_put
