-- No written frame is longer than the worst length, and at each width and height some frame reaches it.
use Prim.Native.Nat.{ℕ, ◌+◌, ◌*◌, ◌<◌, ◌≤◌}
use mathlib.Core.Bool.{Bool, true, false}
use mathlib.Core.List.{List}
use mathlib.Core.Logic.{◌⊎◌, ⊎_elim}
use mathlib.Core.Path.{◌≡◌, sym, ap, subst, ◌∙◌}
use native.Mathlib.Nat.{mul_comm, mul_assoc}
use native.Mathlib.Omega.{arith}
use borrow.Author.Tests.{le-leb, lt-leb}
use lib.ListN.{length}
use lib.Dec.{ltb, leb}
use lib.Ieee.{Float}
use Rattle.steps.specs.Loop.{pick}
use Rattle.steps.specs.Answer.{Answer, done, refused, refuse, Check, checked}
use Rattle.steps.proofs.Laws.Answer.{differ, passed_by}
use Rattle.header.specs.Written.{written}
use Rattle.rows_written.specs.Row.{worst_row}
use Rattle.steps.specs.Width.{is_coded}
use Rattle.channels_written.proofs.Laws.Channel.{and_no}
use Rattle.frames_written.proofs.Laws.Frame.{frame_worst}
use Rattle.frames_written.specs.Samples.{packed, first_bright}
use Rattle.frames_written.specs.Frame.{worst_of}
use Rattle.writer.specs.Write.{frame_checks, bright_checked, length_of, length4_of}
use Rattle.kept.specs.Longest.{flat_worst, coded_worst}

-- ---- The worst length is the mission's

pub worst_flat : (w h : ℕ) → (w ≤ 7) ⊎ (32767 < w) → worst_of w h ≡ flat_worst w h
unfolding worst_of worst_row is_coded
worst_flat w h k =
    let flat : is_coded w ≡ false = ⊎_elim (λ l. simp (lt-leb 8 w (omega arith))) (λ l. simp (lt-leb w 32767 l) (and_no (leb 8 w))) k in
    let area : h * (4 * w) ≡ 4 * (w * h) = mul_comm h (4 * w) ∙ mul_assoc 4 w h in
    simp flat (ap (λ (n : ℕ). length (written w h) + n) area)

pub worst_coded : (w h : ℕ) → 8 ≤ w → w ≤ 32767 → worst_of w h ≡ coded_worst w h
unfolding worst_of worst_row is_coded
worst_coded w h l g = simp (le-leb 8 w l, le-leb w 32767 g)

-- ---- No frame is longer

-- what is answered past the checks is the frame's own length
bright_done : (samples : List Float) (k n : ℕ) (rest : Answer ℕ) → bright_checked (λ a. a) samples k rest ≡ done n → rest ≡ done n
unfolding bright_checked
bright_done samples k n rest e = by (ltb (first_bright samples 0 k) k) e
  where
    by : (t : Bool) → pick t (refused 12 (first_bright samples 0 k)) rest ≡ done n → rest ≡ done n
    by true f = absurd (differ n 12 (first_bright samples 0 k) (sym f))
    by false f = f

checked_done : (checks : List Check) (n : ℕ) (rest : Answer ℕ) → checked refuse checks rest ≡ done n → rest ≡ done n
checked_done checks n rest e = (passed_by refuse checks rest (done n) (λ m k. differ n m 0 (sym k)) e).1

is_length : (n m : ℕ) → ◌≡◌ {A = Answer ℕ} (done m) (done n) → m ≡ n
is_length n m e = cc

-- `writer::length`: a frame of samples that is not refused
pub never_longer : (w h : ℕ) (samples : List Float) (n : ℕ) → length_of w h samples ≡ done n → n ≤ worst_of w h
unfolding length_of
never_longer w h samples n e =
    subst (λ (m : ℕ). m ≤ worst_of w h)
    (is_length n _ (bright_done samples (w * h) n _ (checked_done (frame_checks w h (length samples) 3) n _ e))) (frame_worst (packed samples 0 (w * h)) w h)

-- `writer::length4`: a frame of four-byte pixels that is not refused
pub never_longer_4 : (w h : ℕ) (px : List ℕ) (n : ℕ) → length4_of w h px ≡ done n → n ≤ worst_of w h
unfolding length4_of
never_longer_4 w h px n e = subst (λ (m : ℕ). m ≤ worst_of w h) (is_length n _ (checked_done (frame_checks w h (length px) 4) n _ e)) (frame_worst px w h)
