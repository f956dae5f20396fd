-- `channels_read::read_channels` meets its contract. The invariant: the definition gives from here what it gives from the start.
use Rattle.std.proofs.lemmas.Result.{err_from_is_err_and}
use Rattle.channels_read.proofs.Laws.Channels.{chans_starts, chans_done, chans_fault, chans_again}
use Rattle.channels_read.proofs.read_channels.Goals as goal

pub loop-channel-init : goal.loop-channel-init
loop-channel-init c = search chans_starts

pub returns-in_err-p : goal.returns-in_err-p
returns-in_err-p c =
    let p = err_from_is_err_and c.from_residual.result c.from_residual.ensures.1 in
    rw (p.1, p.2) (search (chans_fault, c.in_err-p.was))

pub loop-channel-preserved : goal.loop-channel-preserved
loop-channel-preserved c = search (chans_again, c.in_ok-p.was)

pub returns : goal.returns
returns c = search chans_done
