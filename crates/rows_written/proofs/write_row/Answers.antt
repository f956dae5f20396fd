-- `rows_written::write_row` meets its contract: the row is of the kind that the test says.
use mathlib.Core.Path.{sym, ap, ◌∙◌}
use native.Mathlib.Omega.{arith}
use lib.ListN.{length}
use Rattle.steps.specs.Place.{spread}
use Rattle.rows_written.proofs.Laws.Row.{row_coded, row_flat, flat_size}
use Rattle.steps.proofs.Laws.Width.{coded_widths}
use Rattle.rows_written.proofs.write_row.Goals as goal

pub write_coded-requires : goal.write_coded-requires
write_coded-requires c =
    let a = c.args in
    let t = sym c.is_coded.ensures ∙ c.if-is_coded.true in
    omega (arith, coded_widths a.w t, ap length (row_coded a.px.now a.at a.w t))

pub returns-then-is_coded : goal.returns-then-is_coded
returns-then-is_coded c =
    let a = c.args in
    let e = row_coded a.px.now a.at a.w (sym c.is_coded.ensures ∙ c.if-is_coded.true) in
    (omega (arith, ap length e, c.write_coded.ensures.0), c.write_coded.ensures.1 ∙ sym (ap (spread 1 a.out.now a.to) e))

pub put_bytes-requires : goal.put_bytes-requires
put_bytes-requires c =
    let a = c.args in
    omega (arith, flat_size a.px.now a.at a.w (sym c.is_coded.ensures ∙ c.if-is_coded.false))

pub returns-else-is_coded : goal.returns-else-is_coded
returns-else-is_coded c =
    let a = c.args in
    let t = sym c.is_coded.ensures ∙ c.if-is_coded.false in
    (omega (arith, flat_size a.px.now a.at a.w t), c.put_bytes.ensures ∙ sym (ap (spread 1 a.out.now a.to) (row_flat a.px.now a.at a.w t)))
