-- `channels_written::part_of` meets its contract: the test on the way says which case it is.
use mathlib.Core.Path.{sym, ◌∙◌}
use Rattle.channels_written.proofs.Laws.Places.{length_channel}
use Rattle.channels_written.proofs.part_of.Goals as goal

pub returns-then-is_one_run : goal.returns-then-is_one_run
returns-then-is_one_run c = simp (sym c.is_one_run.ensures ∙ c.if-is_one_run.true, length_channel)

pub returns-else-is_one_run : goal.returns-else-is_one_run
returns-else-is_one_run c = simp (sym c.is_one_run.ensures ∙ c.if-is_one_run.false, length_channel)
