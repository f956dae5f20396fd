-- `frames_written::samples::pack_row` meets its contract. The invariant: the first k pixels are stored.
use mathlib.Core.Path.{ap, ◌∙◌}
use Rattle.pixel.specs.Rgbe.{too_bright}
use Rattle.frames_written.proofs.Laws.Samples.{none_each}
use Rattle.frames_written.proofs.samples.pack_row.Goals as goal

pub pack-requires : goal.pack-requires
pack-requires c = ap too_bright c.pixel_at.ensures ∙ none_each _ _ _ c.requires.2 _ c.loop-k-test.true
