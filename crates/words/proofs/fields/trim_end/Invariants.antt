-- `words::fields::trim_end` meets its contract. The invariant: what is left is trimmed to the same.
use mathlib.Core.Path.{◌≡◌}
use lib.ListN.{length}
use Rattle.words.specs.Fields.{trim_end}
use Rattle.words.proofs.fields.trim_end.Given as goal

abbrev pub invariant-loop-left : goal.invariant-loop-left
invariant-loop-left l = trim_end l.left ≡ trim_end l.part

abbrev pub decreases-loop-left : goal.decreases-loop-left
decreases-loop-left l = length l.left
