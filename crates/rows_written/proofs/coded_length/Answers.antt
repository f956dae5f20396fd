-- `rows_written::coded_length` meets its contract: no channel is longer than its worst, so the sums fit.
use Prim.Native.Nat.{ℕ, ◌+◌, ◌*◌, ◌≤◌}
use native.Mathlib.Omega.{arith}
use lib.ListN.{length}
use Rattle.channels_written.specs.Channel.{code, channel}
use Rattle.rows_written.specs.Row.{worst_channel}
use Rattle.rows_written.proofs.Laws.Worst.{channel_worst}
use Rattle.rows_written.proofs.Laws.Row.{coded_size}
use Rattle.rows_written.proofs.coded_length.Goals as goal

-- none is longer than twice the width
small : (c : goal.After-channel_length-d) → let w = c.args.w in
    (c.channel_length-d.result ≤ 2 * w)
    × (c.channel_length-c.result ≤ 2 * w)
    × (c.channel_length-b.result ≤ 2 * w)
    × (c.channel_length-a.result ≤ 2 * w)
small c =
    let a = c.args in
    let worst : (i : ℕ) → length (code (channel a.px.now i a.w)) ≤ worst_channel a.w = λ i. channel_worst a.px.now i a.w in
    omega (arith, worst a.at, worst (a.at + 1), worst (a.at + 2), worst (a.at + 3))

pub overflow_add-result : goal.overflow_add-result
overflow_add-result c = omega (arith, small c)

pub overflow_add-result-2 : goal.overflow_add-result-2
overflow_add-result-2 c = omega (arith, small c)

pub overflow_add-result-3 : goal.overflow_add-result-3
overflow_add-result-3 c = omega (arith, small c)

pub overflow_add-result-4 : goal.overflow_add-result-4
overflow_add-result-4 c = omega (arith, small c)

pub returns : goal.returns
returns c =
    let a = c.args in
    omega (arith, coded_size a.px.now a.at a.w)
