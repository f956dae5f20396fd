-- `writer::length` meets its contract: the checks, and then the length.
use native.Mathlib.Omega.{arith}
use Rattle.writer.proofs.Laws.Write.{samples_within, length_done}
use Rattle.writer.proofs.length.Goals as goal

pub frame_length-requires : goal.frame_length-requires
frame_length-requires c =
    let a = c.args in
    let within = samples_within a.width a.height a.samples.now c.in_ok-samples.ensures in
    rw c.new.ensures.samples (record { limits = (within.0, within.1); can = (omega (arith, within.2), c.in_ok-samples.ensures.1) })

pub returns : goal.returns
returns c = length_done _ _ _ c.in_ok-samples.ensures _ (rw c.new.ensures.samples at c.frame_length.ensures.value)
