-- `header::read` meets its contract: the first line is judged, then the lines, and then the fields after them.
use Rattle.std.proofs.Common.{sym, ◌∙◌}
use Rattle.std.proofs.lemmas.Result.{err_from_is_err_and}
use Rattle.header.proofs.Laws.Head.{header_wrong, header_fault, header_right}
use Rattle.header.proofs.read.Goals as goal

pub returns-then-not-is_first : goal.returns-then-not-is_first
returns-then-not-is_first c = rw c.from.ensures (header_wrong _ _ _ _ _ c.past-at.ensures.value _ c.is_first.ensures c.if-not-is_first.true)

pub returns-in_err-said : goal.returns-in_err-said
returns-in_err-said c =
    let p = err_from_is_err_and c.from_residual.result c.from_residual.ensures.1 in
    rw (p.1, p.2) (header_fault _ _ _ _ _ c.past-at.ensures.value _ c.is_first.ensures c.if-not-is_first.false _ c.read.ensures _ c.in_err-said.was)

pub returns-in_err-head : goal.returns-in_err-head
returns-in_err-head c =
    let p = err_from_is_err_and c.from_residual-in_err-head.result c.from_residual-in_err-head.ensures.1 in
    rw (p.1, p.2)
    (c.in_err-head.ensures ∙ sym (header_right _ _ _ _ _ c.past-at.ensures.value _ c.is_first.ensures c.if-not-is_first.false _ c.read.ensures _ _ c.in_ok-said.was c.lines_end-start.ensures.value))

pub returns : goal.returns
returns c = c.in_ok-head.ensures ∙ sym (header_right _ _ _ _ _ c.past-at.ensures.value _ c.is_first.ensures c.if-not-is_first.false _ c.read.ensures _ _ c.in_ok-said.was c.lines_end-start.ensures.value)
