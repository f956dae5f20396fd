-- `pixel::brighter` meets its contract: the order of samples is that of their whole numbers.
use mathlib.Core.Path.{sym}
use native.Mathlib.Nat.{max-eq_left, max-eq_right, le_of_lt}
use denote.Floats.{passes}
use Rattle.pixel.proofs.Laws.Order.{above, not_above, above_bright}
use Rattle.pixel.proofs.brighter.Goals as goal

pub returns-then-v-x : goal.returns-then-v-x
returns-then-v-x c =
    let v = c.args.v in
    let x = c.args.x in
    (above_bright v x c.requires c.if-v-x.true, sym (max-eq_right (le_of_lt (above v x (passes _ c.well_formed.0.1) (passes _ c.well_formed.1.0.1) c.requires c.if-v-x.true))))

pub returns-else-v-x : goal.returns-else-v-x
returns-else-v-x c =
    (c.requires, sym (max-eq_left (not_above c.args.v c.args.x (passes _ c.well_formed.0.1) (passes _ c.well_formed.1.0.1) c.requires c.if-v-x.false)))
