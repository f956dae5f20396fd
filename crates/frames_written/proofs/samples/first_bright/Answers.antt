-- `frames_written::samples::first_bright` meets its contract.
use mathlib.Core.Path.{◌≡◌, refl, sym, subst, ◌∙◌}
use native.Mathlib.Omega.{arith}
use Prim.Native.Nat.{ℕ, ◌*◌}
use Rattle.frames_written.specs.Samples.{first_bright}
use Rattle.frames_written.proofs.Laws.Samples.{none_start, bright_next, bright_found, rows_start, rows_next, rows_found}
use Rattle.frames_written.proofs.Laws.Near.{dim_row}
use Rattle.frames_written.proofs.samples.first_bright.Goals as goal

pub rows-init : goal.rows-init
rows-init c = (rows_start _ _, refl)

pub rows-preserved-then-not-any_near : goal.rows-preserved-then-not-any_near
rows-preserved-then-not-any_near c = (rows_next _ _ _ c.rows.invariant.0 (dim_row _ _ _ (sym c.any_near.ensures ∙ c.if-not-any_near.true)), c.rows.invariant.1)

pub loop-column-init : goal.loop-column-init
loop-column-init c = (none_start _ _, c.rows.invariant.1)

pub loop-column-preserved : goal.loop-column-preserved
loop-column-preserved c = (bright_next _ _ _ _ _ c.loop-column.invariant.0 c.pixel_at.ensures c.is_too_bright.ensures c.if-is_too_bright.false, c.loop-column.invariant.1)

pub rows-preserved : goal.rows-preserved
rows-preserved c =
    let all : c.loop-column.column ≡ c.args.width = omega (arith, c.loop-column.auto.column-end, c.loop-column-test.false) in
    let none = subst (λ (n : ℕ). first_bright c.args.samples.now (3 * (c.args.width * c.rows.row)) n ≡ n) all c.loop-column.invariant.0 in
    (rows_next _ _ _ c.rows.invariant.0 none, c.loop-column.invariant.1)

pub returns-then-is_too_bright : goal.returns-then-is_too_bright
returns-then-is_too_bright c =
    rows_found _ _ _ _ _ c.rows-test.true c.rows.invariant.0
    (bright_found _ _ _ _ _ _ c.loop-column-test.true c.loop-column.invariant.0 c.pixel_at.ensures c.is_too_bright.ensures c.if-is_too_bright.true)
