-- `rows_written::channel::run_length` meets its contract.
use mathlib.Core.Path.{sym, ap}
use native.Mathlib.Omega.{arith}
use lib.ListN.{length}
use Rattle.channels_written.proofs.Laws.Part.{run_none, run_some}
use Rattle.rows_written.proofs.channel.run_length.Goals as goal

pub returns-then-n-eq0 : goal.returns-then-n-eq0
returns-then-n-eq0 c = (omega arith, λ v. sym (ap length (run_none v c.args.n c.if-n-eq0.true)))

pub returns-else-n-eq0 : goal.returns-else-n-eq0
returns-else-n-eq0 c = (omega arith, λ v. sym (ap length (run_some v c.args.n (omega arith))))
