-- `survey::run_end` meets its contract. The invariant: those so far are the same.
use Rattle.std.proofs.Common.{◌-◌, ◌*◌}
use Rattle.survey.specs.Survey.{Alike}
use Rattle.survey.proofs.run_end.Given as goal

abbrev pub invariant-loop-j : goal.invariant-loop-j
invariant-loop-j l = Alike l.store (4 * l.k) (l.j - l.k)
