-- `writer::store` meets its contract: there is room, or not.
use mathlib.Core.Path.{ap, ◌∙◌}
use lib.ListN.{length}
use Rattle.steps.specs.Place.{spread}
use Rattle.frames_written.proofs.Laws.Rows.{frame_same}
use Rattle.writer.proofs.Laws.Write.{room_told, store_short, store_done}
use Rattle.writer.proofs.store.Goals as goal

pub returns-then-not-fits : goal.returns-then-not-fits
returns-then-not-fits g c = rw c.into.ensures (store_short _ _ _ c.fits.ensures.value c.if-not-fits.true)

pub write_frame-requires : goal.write_frame-requires
write_frame-requires g c =
    let kept = c.fits.ensures.kept in
    let same = frame_same (g.R.Rows.line c.fits.new.rows c.args.width) (g.R.Rows.line c.args.rows.now c.args.width) c.args.width c.args.height (kept.same c.args.width) in
    record {
      can = kept.can _ _ c.requires.can;
      room = rw same (room_told _ _ _ c.fits.ensures.value c.if-not-fits.false);
    }

pub returns : goal.returns
returns g c =
    let same = frame_same (g.R.Rows.line c.fits.new.rows c.args.width) (g.R.Rows.line c.args.rows.now c.args.width) c.args.width c.args.height (c.fits.ensures.kept.same c.args.width) in
    let e = c.write_frame.ensures in
    store_done _ _ _ _ _ c.fits.ensures.value c.if-not-fits.false (e.value ∙ ap length same) (e.stored ∙ ap (spread 1 c.args.out.now 0) same)
