-- `survey::stops::row` meets its contract. The invariant: what is left, counted, gives what is wanted.
use Rattle.std.proofs.Common.{◌≡◌, ◌-◌, ◌*◌, ◌/◌, length}
use Rattle.survey.specs.Stops.{stops_of}
use Rattle.survey.proofs.stops.row.Given as goal

abbrev pub invariant-loop-i : goal.invariant-loop-i
invariant-loop-i l = stops_of l.store (4 * l.i) (length l.store / 4 - l.i) l.counts ≡ stops_of l.store 0 (length l.store / 4) l.initial.counts
