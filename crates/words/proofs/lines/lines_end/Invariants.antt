-- `words::lines::lines_end` meets its contract. The invariant: from here the definition finds the same place.
use Prim.Native.Nat.{◌-◌, ◌≤◌}
use lib.ListN.{length}
use Rattle.steps.proofs.Laws.Loop.{Runs}
use Rattle.words.specs.Lines.{line_turn, no_lines, lines_end}
use Rattle.words.proofs.lines.lines_end.Given as goal

abbrev pub invariant-loop-p : goal.invariant-loop-p
invariant-loop-p l = (l.p ≤ length l.bytes) × Runs (line_turn l.bytes) no_lines (length l.bytes - l.p) l.p (lines_end l.bytes l.at)

abbrev pub decreases-loop-p : goal.decreases-loop-p
decreases-loop-p l = length l.bytes - l.p
