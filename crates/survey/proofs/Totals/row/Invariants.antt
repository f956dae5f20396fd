-- `survey::Totals::row` meets its contract. The invariant: what is left, added, gives what is wanted, and the counts have room.
use Rattle.std.proofs.Common.{◌≡◌, ◌+◌, ◌-◌, ◌*◌, ◌≤◌}
use Rattle.survey.specs.Survey.{survey_of}
use Rattle.survey.proofs.Totals.row.Given as goal

abbrev pub invariant-loop-k : goal.invariant-loop-k
invariant-loop-k l = record {
  within : l.k ≤ l.n;
  black : l.totals.black ≤ l.initial.totals.black + l.k;
  masked : l.totals.masked ≤ l.initial.totals.masked + l.k;
  left : survey_of l.reading l.store (4 * l.k) (l.n - l.k) l.totals ≡ survey_of l.reading l.store 0 l.n l.initial.totals;
}

abbrev pub decreases-loop-k : goal.decreases-loop-k
decreases-loop-k l = l.n - l.k
