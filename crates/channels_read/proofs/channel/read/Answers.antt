-- `channels_read::channel::read` meets its contract, by any rule.
use Rattle.std.proofs.lemmas.Result.{err_from_is_err_and}
use Rattle.steps.proofs.Laws.Loop.{runs_halt}
use Rattle.channels_read.proofs.Laws.Channel.{channel_starts, turn_done, turn_short}
use Rattle.channels_read.proofs.Laws.Counts.{put_err, put_less, put_again}
use Rattle.channels_read.proofs.channel.read.Goals as goal

pub loop-done-init : goal.loop-done-init
loop-done-init g c = search channel_starts

pub returns-then-src-p : goal.returns-then-src-p
returns-then-src-p g c = search (runs_halt, turn_short)

pub returns-in_err-span : goal.returns-in_err-span
returns-in_err-span g c =
    let p = err_from_is_err_and c.from_residual.result c.from_residual.ensures.1 in
    rw (p.1, p.2) (search (put_err, c.in_err-span.was))

pub loop-done-smaller : goal.loop-done-smaller
loop-done-smaller g c = search (put_less, c.in_ok-span.was)

pub loop-done-preserved : goal.loop-done-preserved
loop-done-preserved g c = search (put_again, c.in_ok-span.was)

pub returns : goal.returns
returns g c = search (runs_halt, turn_done)
