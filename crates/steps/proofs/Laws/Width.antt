-- The laws of `specs/Width.antt`.
use Prim.Native.Nat.{ℕ, ◌≤◌, ◌<◌}
use mathlib.Core.Bool.{true, false}
use mathlib.Core.Path.{◌≡◌}
use lib.Dec.{leb}
use borrow.Author.Tests.{le-leb, lt-leb, leb-true}
use Rattle.steps.specs.Width.{is_coded}
use Rattle.steps.proofs.Laws.Turns.{and_left, and_right}

pub coded_widths : (w : ℕ) → is_coded w ≡ true → (8 ≤ w) × (w ≤ 32767)
unfolding is_coded
coded_widths w e = (leb-true 8 w (and_left (leb 8 w) (leb w 32767) e), leb-true w 32767 (and_right (leb 8 w) (leb w 32767) e))

pub width_coded : (w : ℕ) → 8 ≤ w → w ≤ 32767 → is_coded w ≡ true
unfolding is_coded
width_coded w l h = simp (le-leb 8 w l, le-leb w 32767 h)

pub width_narrow : (w : ℕ) → w < 8 → is_coded w ≡ false
unfolding is_coded
width_narrow w h = simp (lt-leb 8 w h)

pub width_wide : (w : ℕ) → 8 ≤ w → 32767 < w → is_coded w ≡ false
unfolding is_coded
width_wide w l h = simp (le-leb 8 w l, lt-leb w 32767 h)
