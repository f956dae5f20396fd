-- `hexadecimal::values_of` meets its contract. The invariant: what is left to read, stored, gives what was to be stored.
use Prim.Native.Nat.{◌*◌, ◌≤◌}
use lib.ListN.{length}
use Rattle.hexadecimal.proofs.Laws.Hex.{Reads}
use Rattle.hexadecimal.proofs.values_of.Given as goal

abbrev pub invariant-loop-k : goal.invariant-loop-k
invariant-loop-k g l = (l.size * l.n ≤ length l.field) × Reads g.T.Written.value l.size l.field l.n l.initial.values l.k l.values
