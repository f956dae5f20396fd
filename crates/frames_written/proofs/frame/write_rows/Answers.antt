-- `frames_written::frame::write_rows` meets its contract. The invariant: the rows before row k are stored.
use mathlib.Core.Path.{◌≡◌, ap, ◌∙◌}
use mathlib.Core.List.{List}
use Prim.Native.Nat.{ℕ, ◌+◌}
use native.Mathlib.Omega.{arith}
use lib.ListN.{length}
use Rattle.steps.specs.Place.{spread}
use Rattle.rows_written.specs.Row.{written_row}
use Rattle.frames_written.specs.Frame.{rows_by}
use Rattle.frames_written.proofs.Laws.Rows.{store_start, row_fits, place_next, store_next, kept_same, kept_again}
use Rattle.frames_written.proofs.frame.write_rows.Goals as goal

pub loop-k-init : goal.loop-k-init
loop-k-init g c =
    let start = store_start (g.R.Rows.line c.args.rows.now c.args.width) c.args.width c.args.out.now c.args.to in
    (start.0, start.1, kept_same _ _ _ _)

pub write_row-o-requires-clause-row : goal.write_row-o-requires-clause-row
write_row-o-requires-clause-row g c = (c.args.height, c.loop-k-test.true, c.loop-k.invariant.2.can _ _ c.requires.can)

pub write_row-o-requires-clause-room : goal.write_row-o-requires-clause-room
write_row-o-requires-clause-room g c =
    let w = c.args.width in
    let same = ap (λ (l : List ℕ). length (written_row l 0 w)) (c.loop-k.invariant.2.same w c.loop-k.k) in
    omega (arith, row_fits _ _ _ _ c.loop-k-test.true _ _ _ _ c.loop-k.invariant.0 c.loop-k.invariant.1 c.requires.room)

pub loop-k-preserved : goal.loop-k-preserved
loop-k-preserved g c =
    let w = c.args.width in
    let same = c.loop-k.invariant.2.same w c.loop-k.k in
    let e = c.write_row-o.ensures in (
      place_next _ _ _ _ c.loop-k-test.true _ _ _ _ c.loop-k.invariant.0 c.loop-k.invariant.1 _ (e.next ∙ ap (λ (l : List ℕ). c.loop-k.o + length (written_row l 0 w)) same),
      store_next _ _ _ _ c.loop-k-test.true _ _ _ _ c.loop-k.invariant.0 c.loop-k.invariant.1 _ (e.stored ∙ ap (λ (l : List ℕ). spread 1 c.loop-k.out c.loop-k.o (written_row l 0 w)) same),
      kept_again _ _ _ _ _ _ c.loop-k.invariant.2 e.kept,
    )

pub returns : goal.returns
returns g c =
    let w = c.args.width in
    let end : c.loop-k.k ≡ c.args.height = omega arith in
    record {
      next = c.loop-k.invariant.0 ∙ ap (λ (k : ℕ). c.args.to + length (rows_by (g.R.Rows.line c.args.rows.now w) w k)) end;
      stored = c.loop-k.invariant.1 ∙ ap (λ (k : ℕ). spread 1 c.args.out.now c.args.to (rows_by (g.R.Rows.line c.args.rows.now w) w k)) end;
      kept = c.loop-k.invariant.2;
    }
