-- `reader::step` meets its contract: a row is read, and where it is not at fault its samples are put in their places.
use Rattle.std.proofs.lemmas.Result.{err_from_is_err_and}
use Rattle.reader.proofs.Laws.Frame.{step_done, step_fault}
use Rattle.reader.proofs.step.Goals as goal

pub returns-in_err-next : goal.returns-in_err-next
returns-in_err-next c =
    let p = err_from_is_err_and c.from_residual.result c.from_residual.ensures.1 in
    rw (p.1, p.2) (search (step_fault, c.in_err-next.was))

pub returns : goal.returns
returns c = search (step_done, c.in_ok-next.was)
