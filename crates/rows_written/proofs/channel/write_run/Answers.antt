-- `rows_written::channel::write_run` meets its contract.
use mathlib.Core.Path.{sym, ap}
use native.Mathlib.Omega.{arith}
use lib.ListN.{length, get_or, length-set}
use Rattle.steps.specs.Place.{spread}
use Rattle.channels_written.proofs.Laws.Part.{run_none, run_some}
use Rattle.rows_written.proofs.Laws.Store.{run_store}
use Rattle.rows_written.proofs.channel.write_run.Goals as goal

pub returns-then-n-eq0 : goal.returns-then-n-eq0
unfolding spread
returns-then-n-eq0 c =
    let a = c.args in
    let e = run_none (get_or a.px.now a.at 0) a.n c.if-n-eq0.true in
    (omega (arith, ap length e), sym (ap (spread 1 a.out.now a.to) e))

pub bounds-out-to : goal.bounds-out-to
bounds-out-to c =
    let a = c.args in
    omega (arith, ap length (run_some (get_or a.px.now a.at 0) a.n (omega arith)))

pub bounds-out-to-2 : goal.bounds-out-to-2
bounds-out-to-2 c =
    let a = c.args in
    simp length-set (omega (arith, ap length (run_some (get_or a.px.now a.at 0) a.n (omega arith))))

pub returns : goal.returns
returns c =
    let a = c.args in
    let e = run_some (get_or a.px.now a.at 0) a.n (omega arith) in
    (omega (arith, ap length e), run_store a.out.now a.to (get_or a.px.now a.at 0) a.n (omega arith))
