-- `rows_written::row_length` meets its contract: the row is of the kind that the test says.
use mathlib.Core.Path.{sym, ap, ◌∙◌}
use native.Mathlib.Omega.{arith}
use lib.ListN.{length}
use Rattle.rows_written.proofs.Laws.Row.{row_coded, flat_size}
use Rattle.steps.proofs.Laws.Width.{coded_widths}
use Rattle.rows_written.proofs.row_length.Goals as goal

pub coded_length-requires : goal.coded_length-requires
coded_length-requires c =
    omega (arith, coded_widths c.args.w (sym c.is_coded.ensures ∙ c.if-is_coded.true))

pub returns-then-is_coded : goal.returns-then-is_coded
returns-then-is_coded c =
    let a = c.args in
    c.coded_length.ensures ∙ sym (ap length (row_coded a.px.now a.at a.w (sym c.is_coded.ensures ∙ c.if-is_coded.true)))

pub returns-else-is_coded : goal.returns-else-is_coded
returns-else-is_coded c =
    let a = c.args in
    sym (flat_size a.px.now a.at a.w (sym c.is_coded.ensures ∙ c.if-is_coded.false))
