-- `flat_read::part::read` meets its contract, by any rule. The invariant: the definition gives from here what it gives from the start.
use Prim.Native.Nat.{◌-◌}
use lib.ListN.{length}
use Rattle.steps.proofs.Laws.Loop.{Runs}
use Rattle.flat_read.specs.Flat.{flat, flat_turn, flat_out, flat_of}
use Rattle.flat_read.specs.Inner.{Fits}
use Rattle.flat_read.proofs.part.read.Given as goal

abbrev pub invariant-loop-ahead : goal.invariant-loop-ahead
invariant-loop-ahead g l =
    Fits (length l.store) l.p l.ahead × Runs (flat_turn g.P.Pixels.rule l.src) flat_out (length l.src - l.p) (flat l.p l.ahead.place l.ahead.wanted l.ahead.repeats l.store) (flat_of g.P.Pixels.rule l.src l.at l.initial.store l.start l.wanted)

abbrev pub decreases-loop-ahead : goal.decreases-loop-ahead
decreases-loop-ahead g l = length l.src - l.p
