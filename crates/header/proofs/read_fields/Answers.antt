-- `header::read_fields` meets its contract: the axes that are named, and then the sizes.
use Rattle.std.proofs.Common.{sym, ◌∙◌}
use Rattle.std.proofs.lemmas.Result.{err_from_is_err_and}
use Rattle.stated.proofs.Laws.Said.{the_reason}
use Rattle.header.proofs.Laws.Head.{fields_none, fields_other, fields_fault, fields_read}
use Rattle.header.proofs.read_fields.Goals as goal

pub returns-in_err-o : goal.returns-in_err-o
returns-in_err-o c =
    let p = err_from_is_err_and c.from_residual.result c.from_residual.ensures.1 in
    let d = c.in_err-o.ensures in
    rw (p.1, p.2, the_reason _ _ _ d.ok_part d.value) (fields_none _ _ _ _ _ _ c.past-a.ensures.value c.past-b.ensures.value c.past-c.ensures.value c.past-taken.ensures.value _ _ _ _ c.trim.ensures c.trim-second.ensures c.trim-2.ensures c.trim-fourth.ensures _ _ _ _ _ c.axes_of-named.ensures d.ok_part)

pub returns-then-not-takes : goal.returns-then-not-takes
returns-then-not-takes c = fields_other _ _ _ _ _ _ c.past-a.ensures.value c.past-b.ensures.value c.past-c.ensures.value c.past-taken.ensures.value _ _ _ _ c.trim.ensures c.trim-second.ensures c.trim-2.ensures c.trim-fourth.ensures _ _ _ _ _ c.axes_of-named.ensures _ c.in_ok-o.ensures.ok_part (sym c.takes.ensures ∙ c.if-not-takes.true)

pub returns-in_err-width : goal.returns-in_err-width
returns-in_err-width c =
    let p = err_from_is_err_and c.from_residual-in_err-width.result c.from_residual-in_err-width.ensures.1 in
    rw (p.1, p.2)
    (sym (fields_fault _ _ _ _ _ _ c.past-a.ensures.value c.past-b.ensures.value c.past-c.ensures.value c.past-taken.ensures.value _ _ _ _ c.trim.ensures c.trim-second.ensures c.trim-2.ensures c.trim-fourth.ensures _ _ _ _ _ c.axes_of-named.ensures _ c.in_ok-o.ensures.ok_part (sym c.takes.ensures ∙ c.if-not-takes.false) _ _ c.by_axis.ensures.height c.by_axis.ensures.width _ _ (sym c.in_err-width.ensures)))

pub returns : goal.returns
returns c =
    rw c.lies.ensures
    (sym (fields_read _ _ _ _ _ _ c.past-a.ensures.value c.past-b.ensures.value c.past-c.ensures.value c.past-taken.ensures.value _ _ _ _ c.trim.ensures c.trim-second.ensures c.trim-2.ensures c.trim-fourth.ensures _ _ _ _ _ c.axes_of-named.ensures _ c.in_ok-o.ensures.ok_part (sym c.takes.ensures ∙ c.if-not-takes.false) _ _ c.by_axis.ensures.height c.by_axis.ensures.width _ _ (sym c.in_ok-width.ensures)))
