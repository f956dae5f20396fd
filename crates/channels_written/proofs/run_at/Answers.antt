-- `channels_written::run_at` meets its contract: the run ends before another byte, or it is as long as it may be.
use mathlib.Core.Path.{◌≡◌, subst}
use native.Mathlib.Omega.{arith}
use Rattle.channels_written.specs.Inner.{Equal}
use Rattle.channels_written.proofs.Laws.Front.{run_other, run_stop}
use Rattle.channels_written.proofs.run_at.Goals as goal

pub returns-then-px-at : goal.returns-then-px-at
returns-then-px-at c =
    let a = c.args in
    let l = c.loop-n in
    record {
      long = omega arith;
      small = omega arith;
      within = omega arith;
      front = run_other a.px.now a.at a.left (omega arith) l.n (omega arith) (omega arith) l.invariant.1 (omega arith) c.if-px-at.true;
    }

pub returns : goal.returns
returns c =
    let a = c.args in
    let cap = c.min-cap.result in
    let same : c.loop-n.n ≡ cap = omega arith in
    record {
      long = omega arith;
      small = omega arith;
      within = omega arith;
      front = run_stop a.px.now a.at a.left (omega arith) cap (omega arith) (omega arith) (subst (Equal a.px.now a.at) same c.loop-n.invariant.1) (omega arith);
    }
