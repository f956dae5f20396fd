-- `rows_written::channel::channel_length` meets its contract. The invariant: what was counted and the length of what is left make the whole.
use mathlib.Core.Path.{refl, ap}
use Prim.Native.Nat.{◌+◌, ◌*◌}
use native.Mathlib.Omega.{arith}
use lib.ListN.{length, get_or}
use Rattle.channels_written.specs.Channel.{code}
use Rattle.rows_written.proofs.Laws.Worst.{channel_worst}
use Rattle.rows_written.proofs.Laws.Store.{part_size, literals_size, none_left, code_nil}
use Rattle.rows_written.proofs.channel.channel_length.Goals as goal

pub loop-left-init : goal.loop-left-init
loop-left-init c = (refl, omega arith, channel_worst _ _ _)

pub loop-left-preserved : goal.loop-left-preserved
loop-left-preserved c =
    let t = c.loop-left in
    let px = c.args.px.now in
    let p = c.part_at-literals.result in
    let size = part_size px t.at t.left p.literals p.short p.long c.part_at-literals.ensures.parted in
    let lits = literals_size px t.at p.literals in
    let short = c.run_length.ensures.1 (get_or px (t.at + 4 * p.literals) 0) in
    let long = c.run_length-in-loop-left.ensures.1 (get_or px (t.at + 4 * (p.literals + p.short)) 0) in
    (omega arith, omega arith, t.invariant.2)

pub returns : goal.returns
returns c =
    let t = c.loop-left in
    omega (arith, ap length (none_left code c.args.px.now t.at t.left code_nil c.loop-left-test.false))
