-- `decimal::leading::times` meets its contract. The invariant: what is stored, and what is left times b, are what is wanted.
use mathlib.Core.List.{◌++◌}
use mathlib.Core.Path.{◌≡◌}
use Prim.Native.Nat.{◌<◌}
use lib.ListN.{take, drop}
use Rattle.decimal.specs.Inner.{carried}
use Rattle.decimal.proofs.leading.times.Given as goal

abbrev pub invariant-loop-digit : goal.invariant-loop-digit
invariant-loop-digit l = (l.carry < 16777216) × (take l.digit-index l.digits ++ carried l.b l.carry (drop l.digit-index l.digits) ≡ carried l.b l.c l.initial.digits)
