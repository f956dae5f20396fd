-- `hexadecimal::numeral` meets its contract. The invariant: what is left of the digits, after n, gives the same number.
use mathlib.Core.Path.{◌≡◌}
use Prim.Native.Nat.{◌^◌, ◌<◌}
use lib.ListN.{drop}
use Rattle.hexadecimal.specs.Digits.{numeral_from}
use Rattle.hexadecimal.proofs.numeral.Given as goal

abbrev pub invariant-loop-b : goal.invariant-loop-b
invariant-loop-b l = (l.n < 16 ^ l.b-index) × (numeral_from l.n (drop l.b-index l.digits) ≡ numeral_from 0 l.digits)
