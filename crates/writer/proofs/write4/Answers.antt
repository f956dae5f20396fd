-- `writer::write4` meets its contract: the checks, and then the file is stored.
use Rattle.std.proofs.lemmas.Result.{err_from_is_err_and}
use native.Mathlib.Omega.{arith}
use Rattle.writer.proofs.Laws.Write.{frame_ok, frame_passed, write4_refused, write4_done}
use Rattle.writer.proofs.write4.Goals as goal

pub returns-in_err-frame : goal.returns-in_err-frame
returns-in_err-frame c =
    let p = err_from_is_err_and c.from_residual.result c.from_residual.ensures.1 in
    rw (p.1, p.2) (write4_refused _ _ _ _ c.in_err-frame.ensures _)

pub store-requires : goal.store-requires
store-requires c =
    let within = frame_passed _ _ _ _ (frame_ok _ _ _ _ c.in_ok-frame.ensures) in
    record { limits = (within.0, within.1); can = omega (arith, within.2) }

pub returns : goal.returns
returns c = write4_done _ _ _ (frame_ok _ _ _ _ c.in_ok-frame.ensures) _ _ c.store.ensures
