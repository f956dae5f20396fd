-- `rows_written::channel::write_literals` meets its contract. The invariant: what is left to store, stored, gives what was to be stored.
use mathlib.Core.Path.{refl, sym, ap, ◌∙◌}
use Prim.Native.Nat.{◌+◌, ◌-◌, ◌*◌}
use native.Mathlib.Omega.{arith}
use lib.ListN.{length, set, length-set}
use Rattle.steps.proofs.Laws.Place.{length_spread}
use Rattle.channels_written.specs.Channel.{literals, channel}
use Rattle.rows_written.proofs.Laws.Store.{literals_size, literals_store, none_left, stored_end}
use Rattle.rows_written.proofs.channel.write_literals.Goals as goal

pub loop-left-init : goal.loop-left-init
loop-left-init c = (refl, refl, refl, refl)

pub bounds-out-o : goal.bounds-out-o
bounds-out-o c =
    let t = c.loop-left in
    omega (arith, literals_size c.args.px.now t.a t.left)

pub copy_bytes-requires : goal.copy_bytes-requires
copy_bytes-requires c =
    let t = c.loop-left in
    simp length-set (omega (arith, literals_size c.args.px.now t.a t.left))

pub loop-left-preserved : goal.loop-left-preserved
loop-left-preserved c =
    let t = c.loop-left in
    let px = c.args.px.now in
    let n = c.min-c.result in
    let e = c.copy_bytes.ensures in (
      omega arith,
      omega (arith, literals_size px t.a t.left, literals_size px (t.a + 4 * n) (t.left - n)),
      ap length e ∙ length_spread 1 (set t.out t.o n) (t.o + 1) (channel px t.a n) ∙ length-set t.out t.o n ∙ t.invariant.2,
      sym (literals_store px t.out _ t.a t.left n t.o (omega arith) (omega arith) e) ∙ t.invariant.3,
    )

pub returns : goal.returns
returns c =
    let t = c.loop-left in
    let px = c.args.px.now in
    let e = none_left (literals 0) px t.a t.left refl c.loop-left-test.false in
    (omega (arith, ap length e), stored_end (literals 0) px t.a t.left t.out _ t.o refl c.loop-left-test.false t.invariant.3)
