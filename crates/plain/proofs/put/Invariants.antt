-- `plain::put` meets its contract. The invariant: storing what is left gives what is wanted.
use mathlib.Core.Path.{◌≡◌}
use Prim.Native.Nat.{◌-◌}
use lib.ListN.{length}
use Rattle.steps.specs.Place.{spread}
use Rattle.plain.specs.Plain.{plain_from}
use Rattle.plain.proofs.put.Given as goal

abbrev pub invariant-loop-i : goal.invariant-loop-i
invariant-loop-i l = spread 1 l.out l.i (plain_from l.name l.before l.i (length l.name - l.i)) ≡ spread 1 l.initial.out 0 (plain_from l.name 0 0 (length l.name))
