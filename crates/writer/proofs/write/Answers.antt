-- `writer::write` meets its contract: the checks, and then the file is stored.
use native.Mathlib.Omega.{arith}
use Rattle.writer.proofs.Laws.Write.{samples_within, write_done}
use Rattle.writer.proofs.write.Goals as goal

pub store-requires : goal.store-requires
store-requires c =
    let a = c.args in
    let within = samples_within a.width a.height a.samples.now c.in_ok-samples.ensures in
    rw c.new.ensures.samples (record { limits = (within.0, within.1); can = (omega (arith, within.2), c.in_ok-samples.ensures.1) })

pub returns : goal.returns
returns c = write_done _ _ _ c.in_ok-samples.ensures _ _ (rw c.new.ensures.samples at c.store.ensures)
