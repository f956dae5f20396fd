-- `words::fields::trim_start` meets its contract. The invariant: what is left is trimmed to the same.
use mathlib.Core.Path.{◌≡◌}
use lib.ListN.{length}
use Rattle.words.specs.Fields.{trim_start}
use Rattle.words.proofs.fields.trim_start.Given as goal

abbrev pub invariant-loop-left : goal.invariant-loop-left
invariant-loop-left l = trim_start l.left ≡ trim_start l.part

abbrev pub decreases-loop-left : goal.decreases-loop-left
decreases-loop-left l = length l.left
