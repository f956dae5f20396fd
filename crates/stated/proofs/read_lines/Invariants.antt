-- `stated::read_lines` meets its contract. The invariant: from here the definition says the same.
use Prim.Native.Nat.{◌-◌, ◌≤◌}
use lib.ListN.{length}
use Rattle.steps.proofs.Laws.Loop.{Runs}
use Rattle.stated.specs.Said.{said_turn, no_turns, said_of}
use Rattle.stated.specs.Inner.{Sound}
use Rattle.stated.proofs.Laws.Said.{place}
use Rattle.stated.proofs.read_lines.Given as goal

abbrev pub invariant-loop-p : goal.invariant-loop-p
invariant-loop-p l = (l.p ≤ length l.bytes) × Sound l.said × Runs (said_turn l.bytes) no_turns (length l.bytes - l.p) (place l.p l.said) (said_of l.bytes l.at)

abbrev pub decreases-loop-p : goal.decreases-loop-p
decreases-loop-p l = length l.bytes - l.p
