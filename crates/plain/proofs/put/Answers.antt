-- `plain::put` meets its contract.
use Rattle.plain.proofs.Laws.Plain.{plain_next, plain_end}
use Rattle.plain.proofs.put.Goals as goal

pub loop-i-preserved : goal.loop-i-preserved
loop-i-preserved c = search plain_next

pub returns : goal.returns
returns c = search plain_end
