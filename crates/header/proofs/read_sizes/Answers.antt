-- `header::read_sizes` meets its contract: each `return` is one of the checks 3 to 5.
use Rattle.std.proofs.Common.{sym, ◌∙◌}
use Rattle.std.proofs.lemmas.Result.{err_from_is_err_and}
use Rattle.stated.proofs.Laws.Said.{the_reason}
use Rattle.header.proofs.Laws.Head.{sizes_no_height, sizes_no_width, sizes_high, sizes_wide, sizes_read}
use Rattle.header.proofs.read_sizes.Goals as goal

pub returns-in_err-height : goal.returns-in_err-height
returns-in_err-height c =
    let p = err_from_is_err_and c.from_residual.result c.from_residual.ensures.1 in
    let d = c.in_err-height.ensures in
    rw (p.1, p.2, the_reason _ _ _ d.ok_part d.value) (sizes_no_height _ _ _ _ (sym c.size_of.ensures ∙ d.ok_part))

pub returns-in_err-width : goal.returns-in_err-width
returns-in_err-width c =
    let p = err_from_is_err_and c.from_residual-in_err-width.result c.from_residual-in_err-width.ensures.1 in
    let d = c.in_err-width.ensures in
    rw (p.1, p.2, the_reason _ _ _ d.ok_part d.value) (sizes_no_width _ _ _ _ _ (sym c.size_of.ensures ∙ c.in_ok-height.ensures.ok_part) (sym c.size_of-2.ensures ∙ d.ok_part))

pub returns-then-min-height : goal.returns-then-min-height
returns-then-min-height c = sizes_high _ _ _ _ _ (sym c.size_of.ensures ∙ c.in_ok-height.ensures.ok_part) _ (sym c.size_of-2.ensures ∙ c.in_ok-width.ensures.ok_part) _ c.min.ensures c.if-min-height.true

pub returns-then-min-width : goal.returns-then-min-width
returns-then-min-width c =
    sizes_wide _ _ _ _ _ (sym c.size_of.ensures ∙ c.in_ok-height.ensures.ok_part) _ (sym c.size_of-2.ensures ∙ c.in_ok-width.ensures.ok_part) _ c.min.ensures c.if-min-height.false _ c.min-2.ensures c.if-min-width.true

pub returns : goal.returns
returns c =
    sizes_read _ _ _ _ _ (sym c.size_of.ensures ∙ c.in_ok-height.ensures.ok_part) _ (sym c.size_of-2.ensures ∙ c.in_ok-width.ensures.ok_part) _ c.min.ensures c.if-min-height.false _ c.min-2.ensures c.if-min-width.false
