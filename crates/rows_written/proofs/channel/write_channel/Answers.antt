-- `rows_written::channel::write_channel` meets its contract. The invariant: what is left to store, stored, gives what was to be stored.
use mathlib.Core.Path.{refl, sym, ap, ◌∙◌}
use native.Mathlib.Omega.{arith}
use lib.ListN.{length}
use Rattle.channels_written.specs.Channel.{code}
use Rattle.rows_written.proofs.Laws.Store.{part_size, part_store, none_left, code_nil, stored_end}
use Rattle.rows_written.proofs.channel.write_channel.Goals as goal

pub loop-left-init : goal.loop-left-init
loop-left-init c = (refl, refl, refl, refl)

pub write_literals-o-requires : goal.write_literals-o-requires
write_literals-o-requires c =
    let p = c.part_at-literals.result in
    let size = part_size c.args.px.now c.loop-left.at c.loop-left.left p.literals p.short p.long c.part_at-literals.ensures.parted in
    omega arith

pub write_run-o-requires : goal.write_run-o-requires
write_run-o-requires c =
    let p = c.part_at-literals.result in
    let size = part_size c.args.px.now c.loop-left.at c.loop-left.left p.literals p.short p.long c.part_at-literals.ensures.parted in
    omega (arith, c.write_literals-o.auto)

pub write_run-o-requires-in-loop-left : goal.write_run-o-requires-in-loop-left
write_run-o-requires-in-loop-left c =
    let p = c.part_at-literals.result in
    let size = part_size c.args.px.now c.loop-left.at c.loop-left.left p.literals p.short p.long c.part_at-literals.ensures.parted in
    omega (arith, c.write_literals-o.auto, c.write_run-o.auto)

pub loop-left-preserved : goal.loop-left-preserved
loop-left-preserved c =
    let p = c.part_at-literals.result in
    let px = c.args.px.now in
    let size = part_size px c.loop-left.at c.loop-left.left p.literals p.short p.long c.part_at-literals.ensures.parted in
    let store = part_store px c.loop-left.at c.loop-left.left p.literals p.short p.long c.part_at-literals.ensures.parted in (
      omega arith,
      omega (arith, c.write_literals-o.ensures.0, c.write_run-o.ensures.0, c.write_run-o-in-loop-left.ensures.0),
      omega (arith, c.write_literals-o.auto, c.write_run-o.auto, c.write_run-o-in-loop-left.auto),
      sym (store c.loop-left.out _ _ _ c.loop-left.o _ _ _ c.write_literals-o.ensures c.write_run-o.ensures c.write_run-o-in-loop-left.ensures) ∙ c.loop-left.invariant.3,
    )

pub returns : goal.returns
returns c =
    let t = c.loop-left in
    let px = c.args.px.now in
    let e = none_left code px t.at t.left code_nil c.loop-left-test.false in
    (omega (arith, ap length e), stored_end code px t.at t.left t.out _ t.o code_nil c.loop-left-test.false t.invariant.3)
