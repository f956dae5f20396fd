-- `channels_read::read_channels` meets its contract. The invariant: the definition gives from here what it gives from the start.
use Prim.Native.Nat.{◌-◌}
use Rattle.steps.proofs.Laws.Loop.{Runs}
use Rattle.channels_read.specs.Channel.{count_rule}
use Rattle.channels_read.specs.Channels.{chans, chans_turn, chans_out, channels_of}
use Rattle.channels_read.proofs.read_channels.Given as goal

abbrev pub invariant-loop-channel : goal.invariant-loop-channel
invariant-loop-channel l =
    Runs (chans_turn (count_rule l.reading) l.src l.width) chans_out (4 - l.channel) (chans l.p l.channel l.store) (channels_of (count_rule l.reading) l.src l.at l.initial.store l.width)
