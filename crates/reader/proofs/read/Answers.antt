-- `reader::read` meets its contract: the header is read, and then the frame.
use mathlib.Core.Path.{ap}
use Rattle.std.proofs.lemmas.Result.{err_from_is_err_and}
use Rattle.steps.specs.Answer.{paper_of}
use Rattle.reader.proofs.Laws.Read.{read_refused, read_frame, read_limits}
use Rattle.reader.proofs.read.Goals as goal

pub read_frame-requires : goal.read_frame-requires
read_frame-requires c = read_limits _ _ _ _ _ _ c.read.ensures (c.in_ok-head.was)

pub returns-in_err-head : goal.returns-in_err-head
returns-in_err-head c =
    let p = err_from_is_err_and c.from_residual.result c.from_residual.ensures.1 in
    rw (p.1, p.2) (read_refused _ _ _ _ _ _ _ _ (paper_of c.read.result) c.read.ensures _ _ (ap paper_of (c.in_err-head.was)))

pub returns : goal.returns
returns c = read_frame _ _ _ _ _ _ _ _ (paper_of c.read.result) c.read.ensures _ _ (ap paper_of (c.in_ok-head.was)) c.read_frame.ensures
