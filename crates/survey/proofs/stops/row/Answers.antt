-- `survey::stops::row` meets its contract.
use Rattle.survey.proofs.Laws.Stops.{stops_next, stops_end}
use Rattle.survey.proofs.stops.row.Goals as goal

pub loop-i-preserved : goal.loop-i-preserved
loop-i-preserved c = search stops_next

pub returns : goal.returns
returns c = search stops_end
