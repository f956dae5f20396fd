-- `line_fields::lent::fill` meets its contract. The invariant: each place passed holds the value of its number mod 251.
use Prim.Native.Nat.{ℕ, ◌%◌, ◌<◌}
use lib.ListN.{get_or}
use Rattle.line_fields.proofs.lent.fill.Given as goal

abbrev pub invariant-loop-i : goal.invariant-loop-i
invariant-loop-i g l = (k : ℕ) (d : g.row.T.Denot) → k < l.i → g.T.From.from_gives (k % 251) (get_or l.values k d)
