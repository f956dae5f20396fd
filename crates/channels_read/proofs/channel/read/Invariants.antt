-- `channels_read::channel::read` meets its contract, by any rule. The invariant: the definition gives from here what it gives from the start.
use Prim.Native.Nat.{◌-◌}
use lib.ListN.{length}
use Rattle.steps.proofs.Laws.Loop.{Runs}
use Rattle.channels_read.specs.Channel.{chan, channel_of, channel_turn, channel_out}
use Rattle.channels_read.proofs.channel.read.Given as goal

abbrev pub invariant-loop-done : goal.invariant-loop-done
invariant-loop-done g l =
    Runs (channel_turn g.C.Counts.rule l.src l.channel l.width) channel_out (length l.src - l.p) (chan l.p l.done l.store) (channel_of g.C.Counts.rule l.src l.at l.initial.store l.channel l.width)

abbrev pub decreases-loop-done : goal.decreases-loop-done
decreases-loop-done g l = length l.src - l.p
