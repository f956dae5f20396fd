-- Demand 3, read back, for the whole frame, over the definitions of writer and reader, by any rule for a row and for a pixel that keeps what is asked of it.
use Prim.Native.Nat.{ℕ, ◌+◌, ◌*◌, ◌<◌, ◌≤◌, zero-le}
use mathlib.Core.Bool.{Bool, true, false}
use mathlib.Core.List.{List, ◌++◌}
use mathlib.Core.Path.{◌≡◌, refl, sym, ap, subst, ◌∙◌}
use native.Mathlib.Nat.{mul_comm, mul_left_comm, zero-add}
use native.Mathlib.Omega.{arith}
use borrow.Author.Tests.{eqb-true}
use lib.Dec.{eqb}
use lib.Ieee.{Float}
use lib.ListN.{length, drop}
use lib.Seq.{drop_at}
use Rattle.steps.specs.Place.{spread}
use Rattle.steps.proofs.Laws.Place.{length_spread, spread_front}
use Rattle.pixel.specs.declared.Pixel.{Pixel}
use Rattle.pixel.specs.declared.Rgbe.{Rgbe}
use Rattle.steps.specs.declared.Reading.{Reading}
use Rattle.pixel.specs.Rgbe.{units_of, pixel_of, peak, dark, bytes_of, rgbe_at}
use Rattle.loss.specs.Written.{Ones}
use Rattle.loss.specs.Kept.{range_of, InRange, Lies, near_of, KeptAll, zeros}
use Rattle.loss.proofs.Laws.Kept.{kept_at_a_pixel, black_back}
use Rattle.loss.proofs.Laws.Written.{written_no_ones}
use Rattle.flat_read.specs.Flat.{is_repeat}
use Rattle.rows_read.specs.Row.{RowRule, row_of}
use Rattle.back.proofs.Laws.Row.{RowsBack, reading_row_back}
use Rattle.reader.specs.Samples.{SampleRule}
use Rattle.reader.specs.Inner.{samples_from}
use Rattle.reader.specs.Read.{pixel_by, read_by, read_of}
use Rattle.frames_written.specs.Samples.{pixel_at, packed}
use Rattle.frames_written.specs.Frame.{file_of}
use Rattle.kept.specs.Radiance.{is_old_run}
use Rattle.kept.specs.Back.{pixel, Sizes, AllInRange, Enough, Beyond, NoOnes, ComesBack, ComesBack4}
use Rattle.kept.proofs.Laws.Samples.{length_samples, pixel_of_samples, bytes_of_pixel}
use Rattle.kept.proofs.Laws.Frame.{frame_back}

-- ---- A frame of four-byte pixels

module _ (rule : SampleRule) (w h : ℕ) (px : List ℕ) (lent out : List Float) (room : 3 * (w * h) ≤ length lent) (is : out ≡ spread 1 lent 0 (samples_from rule px 0 (w * h))) where
  abbrev back : List Float
  back = samples_from rule px 0 (w * h)

  front : out ≡ back ++ drop (3 * (w * h)) lent
  front =
      let size = length_samples rule px 0 (w * h) in
      is ∙ spread_front lent back (omega arith) ∙ ap (λ (n : ℕ). back ++ drop n lent) size

  pixels_there : (k : ℕ) → k < w * h → pixel out k ≡ rule (rgbe_at px (4 * k))
  pixels_there k l =
      let here : 0 + 4 * k ≡ 4 * k = omega arith in
      ap (λ (o : List Float). pixel o k) front ∙ pixel_of_samples rule px (drop (3 * (w * h)) lent) 0 (w * h) k l ∙ ap (λ (i : ℕ). rule (rgbe_at px i)) here

  beyond_there : Beyond (3 * (w * h)) lent out
  beyond_there = record {
    long = ap length is ∙ length_spread 1 lent 0 back;
    rest = ap (drop (3 * (w * h))) front ∙ drop_at back (drop (3 * (w * h)) lent) (3 * (w * h)) (length_samples rule px 0 (w * h));
  }

pub read_back4_by : (reading : Reading) (row_rule : RowRule) (rule : SampleRule) → RowsBack row_rule → (w h : ℕ) (px : List ℕ) → Sizes w h → NoOnes px w (w * h) → ComesBack4 reading row_rule rule w h px
read_back4_by reading row_rule rule rows w h px sizes none rest widest highest out store enough =
    let room : h * (3 * w) ≤ length out = rw (mul_left_comm, mul_comm h w) enough.room in
    let both = frame_back reading row_rule rule rows px w h rest widest highest out store sizes.some (omega arith) (omega arith) room enough.row
    (λ flat k l. ap (is_repeat px) (zero-add (4 * k)) ∙ none flat k (rw mul_comm l)) in
    let is = both.1 ∙ ap (λ (n : ℕ). spread 1 out 0 (samples_from rule px 0 n)) (mul_comm h w) in
    record {
      answered = both.0;
      pixels = pixels_there rule w h px out _ enough.room is;
      beyond = beyond_there rule w h px out _ enough.room is;
    }

-- ---- No pixel that is packed is taken for a repeat: none starts 1,1,1

not_old_run : (q : Rgbe) → (Ones q → ⊥) → is_old_run q ≡ false
unfolding is_old_run
not_old_run q none = go (eqb q.r 1) (eqb q.g 1) (eqb q.b 1) refl refl refl
  where
    go : (r g b : Bool) → eqb q.r 1 ≡ r → eqb q.g 1 ≡ g → eqb q.b 1 ≡ b → is_old_run q ≡ false
    go false g b er eg eb = rw er
    go true false b er eg eb = rw (er, eg)
    go true true false er eg eb = rw (er, eg, eb)
    go true true true er eg eb = absurd (none (record { r = eqb-true q.r 1 er; g = eqb-true q.g 1 eg; b = eqb-true q.b 1 eb }))

packed_bytes : (samples : List Float) (n k : ℕ) → k < n → rgbe_at (packed samples 0 n) (4 * k) ≡ bytes_of (pixel samples k)
packed_bytes samples n k h = bytes_of_pixel samples 0 n k h ∙ ap (λ (i : ℕ). bytes_of (pixel_at samples i)) (zero-add (3 * k))

pub packed_no_ones : (samples : List Float) (n k : ℕ) → k < n → is_repeat (packed samples 0 n) (4 * k) ≡ false
unfolding is_repeat is_old_run
packed_no_ones samples n k h = ap is_old_run (packed_bytes samples n k h) ∙ not_old_run (bytes_of (pixel samples k)) (written_no_ones (pixel samples k))

-- ---- What is asked of a rule for a pixel

-- each pixel in range comes back as near as the demand says, and a black one as zeros
pub record PixelsBack (range : ℕ → Type 0) (near : ℕ → ℕ → ℕ → Type 0) (rule : SampleRule) : Type 0 where
  pub kept : (p : Pixel) (n : ℕ) → InRange range p → Lies p n → KeptAll (near n) p (rule (bytes_of p))
  pub black : (p : Pixel) → peak p ≡ 0 → rule (bytes_of p) ≡ zeros

-- ---- Demand 3, by any rules of which that holds

module _ (reading : Reading) (row_rule : RowRule) (rule : SampleRule) (rows : RowsBack row_rule) where
  -- the four-byte pixels of a frame come back, in range or not
  packed_back_by : (w h : ℕ) (samples : List Float) → Sizes w h → ComesBack4 reading row_rule rule w h (packed samples 0 (w * h))
  packed_back_by w h samples sizes = read_back4_by reading row_rule rule rows w h (packed samples 0 (w * h)) sizes (λ flat. packed_no_ones samples (w * h))

  -- each pixel comes back as what its four bytes stand for, in range or not
  pub pixels_back_by : (w h : ℕ) (samples : List Float) → Sizes w h → (rest : List ℕ) (widest highest : ℕ) (out : List Float) (store : List ℕ) → Enough w h widest highest out store
      → (k : ℕ) → k < w * h → pixel (read_by reading row_rule rule (file_of samples w h ++ rest) widest highest out store).1 k ≡ rule (bytes_of (pixel samples k))
  pixels_back_by w h samples sizes rest widest highest out store enough k l =
      (packed_back_by w h samples sizes rest widest highest out store enough).pixels k l
      ∙ ap rule (packed_bytes samples (w * h) k l)

  pub read_back_by : (range : ℕ → Type 0) (near : ℕ → ℕ → ℕ → Type 0) → PixelsBack range near rule → (w h : ℕ) (samples : List Float) → Sizes w h → AllInRange range samples (w * h)
      → ComesBack near reading row_rule rule w h samples
  read_back_by range near pixels w h samples sizes all rest widest highest out store enough =
      let back = packed_back_by w h samples sizes rest widest highest out store enough in
      let is = pixels_back_by w h samples sizes rest widest highest out store enough in
      record {
        answered = back.answered;
        kept = λ k n l lies. subst (KeptAll (near n) (pixel samples k)) (sym (is k l)) (pixels.kept (pixel samples k) n (all k l) lies);
        black = λ k l none. is k l ∙ pixels.black (pixel samples k) none;
        beyond = back.beyond;
      }

-- ---- Either reading

pub reading_pixels : (reading : Reading) → PixelsBack (range_of reading) (near_of reading) (pixel_by reading)
unfolding pixel_by
reading_pixels reading = record {
  kept = λ p n range lies. kept_at_a_pixel reading p n range lies;
  black = λ p e. black_back reading p (subst (λ (v : ℕ). v ≤ dark) (sym e) zero-le);
}

pub read_back4 : (reading : Reading) (w h : ℕ) (px : List ℕ) → Sizes w h → NoOnes px w (w * h) → ComesBack4 reading (row_of reading) (pixel_by reading) w h px
read_back4 reading = read_back4_by reading (row_of reading) (pixel_by reading) (reading_row_back reading)

pub packed_back : (reading : Reading) (w h : ℕ) (samples : List Float) → Sizes w h → ComesBack4 reading (row_of reading) (pixel_by reading) w h (packed samples 0 (w * h))
packed_back reading = packed_back_by reading (row_of reading) (pixel_by reading) (reading_row_back reading)

pub pixels_back : (reading : Reading) (w h : ℕ) (samples : List Float) → Sizes w h → (rest : List ℕ) (widest highest : ℕ) (out : List Float) (store : List ℕ) → Enough w h widest highest out store
    → (k : ℕ) → k < w * h → pixel (read_of reading (file_of samples w h ++ rest) widest highest out store).1 k ≡ pixel_of (units_of reading) (bytes_of (pixel samples k))
unfolding pixel_by
pixels_back reading = pixels_back_by reading (row_of reading) (pixel_by reading) (reading_row_back reading)

pub read_back : (reading : Reading) (w h : ℕ) (samples : List Float) → Sizes w h → AllInRange (range_of reading) samples (w * h) → ComesBack (near_of reading) reading (row_of reading) (pixel_by reading) w h samples
read_back reading = read_back_by reading (row_of reading) (pixel_by reading) (reading_row_back reading) (range_of reading) (near_of reading) (reading_pixels reading)
