-- `writer::checks::samples` meets its contract: the checks of the frame, and then check 12.
use Rattle.std.proofs.lemmas.Result.{err_from_is_err_and}
use native.Mathlib.Omega.{arith}
use lib.ListN.{length}
use Rattle.writer.proofs.Laws.Write.{frame_ok, frame_passed, samples_refused, samples_bright, samples_good}
use Rattle.writer.proofs.checks.samples.Goals as goal

pub returns-in_err-frame : goal.returns-in_err-frame
returns-in_err-frame c =
    let p = err_from_is_err_and c.from_residual.result c.from_residual.ensures.1 in
    rw (p.1, p.2) (samples_refused _ _ _ _ c.in_err-frame.ensures)

pub first_bright-requires : goal.first_bright-requires
first_bright-requires c = let a = c.args in let within = frame_passed a.width a.height (length a.samples.now) 3 (frame_ok _ _ _ _ c.in_ok-frame.ensures) in omega (arith, within.2)

pub returns-in-Some : goal.returns-in-Some
returns-in-Some c = samples_bright _ _ _ (frame_ok _ _ _ _ c.in_ok-frame.ensures) _ c.in-Some.ensures

pub returns-in-None : goal.returns-in-None
returns-in-None c = samples_good _ _ _ (frame_ok _ _ _ _ c.in_ok-frame.ensures) c.in-None.ensures
