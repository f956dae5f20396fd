-- `sky::rows::read_rows` is safe: the counts have room.
use Rattle.std.proofs.Common.{◌*◌, ◌≤◌}
use Rattle.sky.proofs.rows.read_rows.Given as goal

abbrev pub invariant-loop-k : goal.invariant-loop-k
invariant-loop-k g l = (l.found.totals.black ≤ l.k * 65535) × (l.found.totals.masked ≤ l.k * 65535) × (l.found.length ≤ l.k * 262144)
