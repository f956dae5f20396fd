-- `survey::Totals::row` meets its contract.
use Rattle.std.proofs.Common.{arith}
use Rattle.survey.proofs.Laws.Survey.{survey_next, survey_end}
use Rattle.survey.proofs.Totals.row.Goals as goal

pub loop-k-preserved : goal.loop-k-preserved
loop-k-preserved c = record {
  within = omega arith;
  black = omega arith;
  masked = omega arith;
  left = search survey_next;
}

pub returns-clause-value : goal.returns-clause-value
returns-clause-value c = search survey_end
