-- `reader::samples::put_samples` meets its contract.
use Rattle.reader.proofs.Laws.Samples.{samples_start, samples_next}
use Rattle.reader.proofs.samples.put_samples.Goals as goal

pub loop-i-init : goal.loop-i-init
loop-i-init c = search samples_start

pub loop-i-preserved : goal.loop-i-preserved
loop-i-preserved c = search samples_next
