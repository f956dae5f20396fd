-- `writer::worst` meets its contract: the checks, and then the number.
use Rattle.std.proofs.lemmas.Result.{err_from_is_err_and}
use Rattle.writer.proofs.Laws.Write.{sizes_ok, sizes_within, worst_refused, worst_done}
use Rattle.writer.proofs.worst.Goals as goal

pub returns-in_err-sizes : goal.returns-in_err-sizes
returns-in_err-sizes c =
    let p = err_from_is_err_and c.from_residual.result c.from_residual.ensures.1 in
    rw (p.1, p.2) (worst_refused _ _ _ c.in_err-sizes.ensures)

pub worst_length-requires : goal.worst_length-requires
worst_length-requires c = sizes_within _ _ (sizes_ok _ _ c.in_ok-sizes.ensures)

pub returns : goal.returns
returns c = worst_done _ _ _ (sizes_ok _ _ c.in_ok-sizes.ensures) c.worst_length.ensures
