-- Demand 3 over what the calls promise: the file is what the writer left, and the reader's answer is that of its definition.
use Prim.Native.Nat.{ℕ, ◌*◌, ◌^◌, ◌<◌}
use mathlib.Core.Bool.{Bool, true, false, ◌||◌, false≢true}
use mathlib.Core.List.{List, ◌++◌}
use mathlib.Core.Logic.{⊎_elim}
use mathlib.Core.Path.{◌≡◌, refl, sym, ap, subst, ◌∙◌}
use native.Mathlib.Nat.{pos_of_ne-zero, lt_of_lt_of_le, zero-add}
use native.Mathlib.Omega.{arith}
use borrow.Author.Tests.{le-ltb, eq-eqb, ne_eqb, eqb-false, ltb-false}
use lib.Dec.{ltb, lit<, lit≤}
use lib.Ieee.{Float}
use lib.ListN.{length, take, drop}
use lib.Seq.{take_at}
use Rattle.std.specs.Prelude.{Result}
use Rattle.steps.specs.declared.refusal.Refusal.{Refusal}
use Rattle.steps.specs.Answer.{paper_of}
use Rattle.steps.specs.Answer.{Answer}
use Rattle.steps.proofs.Laws.Answer.{Passed}
use Rattle.pixel.specs.Rgbe.{peak, too_bright}
use Rattle.steps.specs.declared.Reading.{Reading}
use Rattle.steps.specs.declared.Reading.TheVariants.{Crate, Document}
use Rattle.loss.specs.Kept.{range_of, near_of}
use Rattle.loss.proofs.Laws.Written.{not_bright}
use Rattle.header.specs.declared.Head.{Head}
use Rattle.rows_read.specs.Row.{RowRule, row_of}
use Rattle.back.proofs.Laws.Row.{RowsBack, reading_row_back}
use Rattle.reader.specs.Samples.{SampleRule}
use Rattle.reader.specs.Read.{pixel_by, read_by, ReadPromiseBy}
use Rattle.frames_written.specs.Samples.{first_bright}
use Rattle.frames_written.specs.Frame.{frame_of, file_of}
use Rattle.frames_written.proofs.Laws.Samples.{each_none}
use Rattle.writer.specs.Write.{frame_checks, bright_checked, stored, write_of}
use Rattle.writer.proofs.Laws.Told.{Stored, write_told, write4_told}
use Rattle.kept.specs.Back.{pixel, Sizes, AllInRange, NoOnes, ReadBack, ReadBack4, CallsComeBack, CallsComeBack4, IsWritten}
use Rattle.kept.proofs.Laws.Back.{PixelsBack, reading_pixels, read_back_by, read_back4_by}

-- ---- The sizes of a frame that was written

neither : (a b : Bool) → (a || b) ≡ false → (a ≡ false) × (b ≡ false)
neither true b e = absurd (false≢true (sym e))
neither false b e = (refl, e)

pub sizes_passed : (w h got each : ℕ) → Passed (frame_checks w h got each) → Sizes w h
sizes_passed w h got each p =
    let both = neither (ltb 65535 w) (ltb 65535 h) p.1.0 in
    record { some = pos_of_ne-zero (eqb-false w 0 p.0); wide = ltb-false 65535 w both.0; high = ltb-false 65535 h both.1 }

-- ---- A reader on the bytes that the writer left: what holds of its definition on the file holds of the call

module _ (reading : Reading) (row_rule : RowRule) (rule : SampleRule) where
  module _ (file lent left : List ℕ) (n : ℕ) (wrote : Stored file lent n left) (rest : List ℕ) (widest highest : ℕ) (out out' : List Float) (store store' : List ℕ) (answer : Result Head Refusal)
      (read : ReadPromiseBy reading row_rule rule (take n left ++ rest) widest highest out store answer out' store') where
    pub by_calls : (P : ℕ → Answer Head × List Float × List ℕ → Type 0) → P (length file) (read_by reading row_rule rule (file ++ rest) widest highest out store) → P n (paper_of answer, out', store')
    by_calls P p =
        let bytes : take n left ≡ file = ap (take n) wrote.bytes ∙ take_at file (drop n lent) n (sym wrote.size) in
        subst (P n) (sym (read ∙ ap (λ (l : List ℕ). read_by reading row_rule rule (l ++ rest) widest highest out store) bytes))
        (subst (λ (m : ℕ). P m (read_by reading row_rule rule (file ++ rest) widest highest out store)) (sym wrote.size) p)

  module _ (rows : RowsBack row_rule) where
    pub calls_back_by : (range : ℕ → Type 0) (near : ℕ → ℕ → ℕ → Type 0) → PixelsBack range near rule → (w h : ℕ) (samples : List Float) → AllInRange range samples (w * h)
        → CallsComeBack near reading row_rule rule w h samples
    calls_back_by range near pixels w h samples all lent left n wrote rest widest highest out out' store store' answer enough read =
        let told = write_told w h n samples lent left (sym wrote) in
        by_calls (file_of samples w h) lent left n told.2 rest widest highest out out' store store' answer read (λ m z. ReadBack near reading w h m samples out z.0 z.1)
        (read_back_by reading row_rule rule rows range near pixels w h samples (sizes_passed w h (length samples) 3 told.0) all rest widest highest out store enough)

    pub calls_back4_by : (w h : ℕ) (px : List ℕ) → NoOnes px w (w * h) → CallsComeBack4 reading row_rule rule w h px
    calls_back4_by w h px none lent left n wrote rest widest highest out out' store store' answer enough read =
        let told = write4_told w h n px lent left (sym wrote) in
        by_calls (frame_of px w h) lent left n told.2 rest widest highest out out' store store' answer read (λ m z. ReadBack4 reading rule w h m px out z.0 z.1)
        (read_back4_by reading row_rule rule rows w h px (sizes_passed w h (length px) 4 told.0) none rest widest highest out store enough)

-- by either reading: `reader::read`
pub calls_back : (reading : Reading) (w h : ℕ) (samples : List Float) → AllInRange (range_of reading) samples (w * h) → CallsComeBack (near_of reading) reading (row_of reading) (pixel_by reading) w h samples
calls_back reading = calls_back_by reading (row_of reading) (pixel_by reading) (reading_row_back reading) (range_of reading) (near_of reading) (reading_pixels reading)

pub calls_back4 : (reading : Reading) (w h : ℕ) (px : List ℕ) → NoOnes px w (w * h) → CallsComeBack4 reading (row_of reading) (pixel_by reading) w h px
calls_back4 reading = calls_back4_by reading (row_of reading) (pixel_by reading) (reading_row_back reading)

-- ---- A frame of which no pixel is too bright is written; so is one in range

pub passing_written : (w h : ℕ) (samples : List Float) → Sizes w h → length samples ≡ 3 * (w * h) → ((k : ℕ) → k < w * h → too_bright (pixel samples k) ≡ false) → IsWritten w h samples
unfolding write_of bright_checked stored
passing_written w h samples sizes count each out room =
    simp (
      ne_eqb w 0 (λ e. omega arith),
      le-ltb 65535 w sizes.wide,
      le-ltb 65535 h sizes.high,
      eq-eqb (length samples) (3 * (w * h)) count,
      le-ltb (first_bright samples 0 (w * h)) (w * h) (omega (arith, each_none samples 0 (w * h) (λ k l. rw (zero-add (3 * k)) (each k l)))),
      le-ltb (length out) (length (file_of samples w h)) room,
    )

range_below : (reading : Reading) (v : ℕ) → range_of reading v → v < 2 ^ 276
range_below Crate v = ⊎_elim (λ z. subst (λ (v : ℕ). v < 2 ^ 276) (sym z) (lit< tt)) (λ l. lt_of_lt_of_le l.1 (lit≤ {m = 2 ^ 180} {n = 2 ^ 276} tt))
range_below Document v = ⊎_elim (λ z. subst (λ (v : ℕ). v < 2 ^ 276) (sym z) (lit< tt)) (λ l. l.1)

pub in_range_written : (reading : Reading) (w h : ℕ) (samples : List Float) → Sizes w h → length samples ≡ 3 * (w * h) → AllInRange (range_of reading) samples (w * h) → IsWritten w h samples
in_range_written reading w h samples sizes count all =
    passing_written w h samples sizes count (λ k l. not_bright (pixel samples k) (range_below reading (peak (pixel samples k)) (all k l).largest))
