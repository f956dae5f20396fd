-- `channels_written::part_at` meets its contract: what gathers and the long run after it, or the end, are the part.
use Prim.Native.Nat.{◌+◌, ◌*◌, ◌≤◌}
use native.Mathlib.Omega.{arith}
use Rattle.channels_written.specs.Inner.{FourEqual}
use Rattle.channels_written.proofs.Laws.Part.{first_end, first_long, parted_end, parted_long, long_follows}
use Rattle.channels_written.proofs.part_at.Goals as goal

-- where the channel does not end, four equal bytes follow
follows : (c : goal.Else-h-left) → let a = c.args in let h = c.gathered-h.result in
    (h + 4 ≤ a.left) × FourEqual a.px.now (a.at + 4 * h)
follows c =
    let a = c.args in
    long_follows a.px.now a.at a.left c.gathered-h.result c.gathered-h.ensures.1 c.if-h-left.false

pub returns-then-h-left-clause-value : goal.returns-then-h-left-clause-value
returns-then-h-left-clause-value c = search first_end

pub returns-then-h-left-clause-parted : goal.returns-then-h-left-clause-parted
returns-then-h-left-clause-parted c = search parted_end

pub overflow_mul-h : goal.overflow_mul-h
overflow_mul-h c = omega (arith, (follows c).0)

pub overflow_add-at : goal.overflow_add-at
overflow_add-at c = omega (arith, (follows c).0)

pub overflow_sub-left : goal.overflow_sub-left
overflow_sub-left c = omega (arith, (follows c).0)

pub run_at-n-requires : goal.run_at-n-requires
run_at-n-requires c =
    let f = follows c in
    (omega (arith, f.0), omega (arith, f.0), f.1)

pub returns-clause-value : goal.returns-clause-value
returns-clause-value c = search first_long

pub returns-clause-parted : goal.returns-clause-parted
returns-clause-parted c = search parted_long
