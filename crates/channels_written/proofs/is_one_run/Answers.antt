-- `channels_written::is_one_run` meets its contract: 0, 1 or 4 bytes and more are no run of 2 or 3.
use Rattle.channels_written.proofs.Laws.OneRun.{none_of}
use Rattle.channels_written.proofs.is_one_run.Goals as goal

pub returns-in_default : goal.returns-in_default
returns-in_default c = search none_of
