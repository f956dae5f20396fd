-- `channels_read::document::put_lacking` meets its contract: literals that are there.
use Rattle.channels_read.proofs.Laws.Channel.{put_some}
use Rattle.channels_read.proofs.document.put_lacking.Goals as goal

pub returns : goal.returns
returns c = search put_some
