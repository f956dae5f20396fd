-- `decimal::put_decimals` meets its contract. The invariant: what is stored, and the decimals that are left, are what is wanted.
use mathlib.Core.List.{◌++◌}
use mathlib.Core.Path.{◌≡◌}
use Prim.Native.Nat.{◌-◌, ◌<◌}
use lib.ListN.{length, take}
use Rattle.decimal.specs.Decimal.{decimals_of}
use Rattle.decimal.proofs.put_decimals.Given as goal

abbrev pub invariant-loop-decimal : goal.invariant-loop-decimal
invariant-loop-decimal l = (l.rest < l.unit) × (take l.decimal-index l.out ++ decimals_of l.rest l.unit (length l.initial.out - l.decimal-index) ≡ decimals_of l.fn.rest l.unit (length l.initial.out))
