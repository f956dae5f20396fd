-- The document reading's pixel 1, 1, 1, n meets the rule's contract.
use Rattle.flat_read.proofs.Laws.Pixels.{ones_copies}
use Rattle.flat_read.proofs.document.DocumentPixelsPixels.ones.Goals as goal

pub returns-clause-store_after : goal.returns-clause-store_after
returns-clause-store_after c = search ones_copies
