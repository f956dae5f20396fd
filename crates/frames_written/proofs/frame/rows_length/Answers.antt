-- `frames_written::frame::rows_length` meets its contract. The invariant: the rows before row k are counted.
use mathlib.Core.Path.{◌≡◌, ap, ◌∙◌}
use mathlib.Core.List.{List}
use Prim.Native.Nat.{ℕ}
use native.Mathlib.Omega.{arith}
use lib.ListN.{length}
use Rattle.rows_written.specs.Row.{written_row}
use Rattle.frames_written.specs.Frame.{rows_by}
use Rattle.frames_written.proofs.Laws.Rows.{count_start, count_fits, count_next, kept_same, kept_again}
use Rattle.frames_written.proofs.Laws.Frame.{by_rows_fit}
use Rattle.frames_written.proofs.frame.rows_length.Given.{Over}
use Rattle.frames_written.proofs.frame.rows_length.Goals as goal

-- row k is counted as it lay when the loop began
counted : (g : Over) (c : goal.After-row_length-n g) → c.row_length-n.result ≡ length (written_row (g.R.Rows.line c.args.rows.now c.args.width c.loop-k.k) 0 c.args.width)
counted g c =
    let w = c.args.width in
    c.row_length-n.ensures.value ∙ ap (λ (l : List ℕ). length (written_row l 0 w)) (c.loop-k.invariant.1.same w c.loop-k.k)

pub loop-k-init : goal.loop-k-init
loop-k-init g c = (count_start _ _, kept_same _ _ _ _)

pub row_length-n-requires : goal.row_length-n-requires
row_length-n-requires g c = (c.args.height, c.loop-k-test.true, c.loop-k.invariant.1.can _ _ c.requires.can)

pub overflow_add-n : goal.overflow_add-n
overflow_add-n g c =
    record { fits = count_fits _ _ _ _ c.loop-k-test.true _ _ c.loop-k.invariant.0 (counted g c) (by_rows_fit _ _ _ c.requires.limits.0 c.requires.limits.1) }

pub loop-k-preserved : goal.loop-k-preserved
loop-k-preserved g c =
    (count_next _ _ _ _ c.loop-k-test.true _ _ c.loop-k.invariant.0 (counted g c), kept_again _ _ _ _ _ _ c.loop-k.invariant.1 c.row_length-n.ensures.kept)

pub returns : goal.returns
returns g c =
    let w = c.args.width in
    let end : c.loop-k.k ≡ c.args.height = omega arith in
    record { value = c.loop-k.invariant.0 ∙ ap (λ (k : ℕ). length (rows_by (g.R.Rows.line c.args.rows.now w) w k)) end; kept = c.loop-k.invariant.1 }
