-- `words::sizes::number_from` meets its contract. The invariant: what is left of the digits, after n, gives the same number.
use mathlib.Core.Path.{◌≡◌}
use Prim.Native.Nat.{◌^◌, ◌<◌}
use lib.ListN.{drop}
use Rattle.words.specs.Sizes.{number_from}
use Rattle.words.proofs.sizes.number_from.Given as goal

abbrev pub invariant-loop-x : goal.invariant-loop-x
invariant-loop-x l = (l.n < 2 ^ 64) × (number_from l.n (drop l.x-index l.digits) ≡ number_from l.before l.digits)
