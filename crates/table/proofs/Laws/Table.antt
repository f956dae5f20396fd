-- The laws of `specs/Table.antt`.
use Prim.Native.Nat.{ℕ, ◌+◌, ◌^◌, ◌<◌, ◌≤◌}
use mathlib.Core.List.{List}
use mathlib.Core.Path.{◌≡◌}
use native.Mathlib.Omega.{arith}
use lib.ListN.{length, set, length-set}
use Rattle.steps.specs.Place.{spread}
use Rattle.header.specs.Written.{digits}
use Rattle.header.proofs.Laws.Written.{digits_few}
use Rattle.table.specs.Table.{field_of}

-- twenty digits are enough
pub field_room : (s : List ℕ) (at x n : ℕ) → n < 2 ^ 64 → at + 21 ≤ length s → at + 1 + length (digits n) ≤ length (set s at x)
field_room s at x n k h = rw (length-set s at x) (omega (arith, digits_few n k))

pub field_stored : (s s' : List ℕ) (at n : ℕ) → s' ≡ spread 1 (set s at 9) (at + 1) (digits n) → s' ≡ spread 1 s at (field_of n)
unfolding spread
field_stored s s' at n e = e
