-- `channels_written::gathered` meets its contract. The invariant: what is before h gathers, and h is a border of the channel.
use mathlib.Core.Path.{refl}
use mathlib.Core.Logic.{inl, inr}
use native.Mathlib.Omega.{arith}
use Rattle.channels_written.proofs.Laws.Gather.{looks_first, looks_next, looks_end}
use Rattle.channels_written.proofs.gathered.Goals as goal

pub loop-h-init : goal.loop-h-init
loop-h-init c = (omega arith, looks_first _ _ _)

pub returns-then-d-eq0 : goal.returns-then-d-eq0
returns-then-d-eq0 c =
    (c.loop-h.invariant.1.gathers, inr (omega arith, c.skip-d.ensures.equal c.if-d-eq0.true))

pub loop-h-preserved : goal.loop-h-preserved
loop-h-preserved c =
    (omega (arith, c.skip-d.ensures.small), looks_next _ _ _ _ _ c.loop-h.invariant.1 c.skip-d.ensures c.if-d-eq0.false (omega arith))

pub returns : goal.returns
returns c =
    (looks_end _ _ _ _ c.loop-h.invariant.1 (omega arith), inl refl)
