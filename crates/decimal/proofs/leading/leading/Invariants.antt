-- `decimal::leading::leading` meets its contract. The invariant: the digits are those of m times the power so far.
use mathlib.Core.Path.{◌≡◌}
use Prim.Native.Nat.{◌*◌, ◌^◌}
use Rattle.decimal.specs.Inner.{digits_of}
use Rattle.decimal.proofs.leading.leading.Given as goal

abbrev pub invariant-loop : goal.invariant-loop
invariant-loop l = l.digits ≡ digits_of 112 (l.m * l.b ^ l.counter)
