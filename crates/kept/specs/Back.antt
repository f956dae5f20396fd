-- Demand 3, read back: a frame that is written, and then read. Over whole numbers of 2^-149: 2^-32 is 2^117 of them, and 2^31 is 2^180.
use Rattle.std.specs.Prelude.{Result, Ok}
use Rattle.steps.specs.declared.refusal.Refusal.{Refusal}
use Rattle.steps.specs.Answer.{paper_of}
use Rattle.std.specs.Prelude.{ℕ, ◌-◌, ◌*◌, ◌^◌, ◌<◌, ◌≤◌, false, List, [], ◌∷◌, ◌++◌, ◌≡◌, pos, negsuc, Float, length, take, drop}
use Rattle.std.specs.Float.{fin}
use Rattle.steps.specs.Place.{spread}
use Rattle.steps.specs.Answer.{Answer, done}
use Rattle.steps.specs.declared.Reading.{Reading}
use Rattle.steps.specs.declared.Reading.TheVariants.{Crate}
use Rattle.pixel.specs.declared.Pixel.{Pixel}
use Rattle.pixel.specs.Rgbe.{peak, rgbe_at}
use Rattle.loss.specs.Kept.{Numbers, Between, InRange, Lies, Below, KeptAll, zeros}
use Rattle.words.specs.Axes.{upright}
use Rattle.header.specs.declared.Head.{Head}
use Rattle.header.specs.Head.{head}
use Rattle.header.specs.Written.{written_said}
use Rattle.flat_read.specs.Flat.{is_repeat}
use Rattle.rows_read.specs.Row.{RowRule, crate_row}
use Rattle.steps.specs.Width.{is_coded}
use Rattle.reader.specs.Samples.{SampleRule}
use Rattle.reader.specs.Read.{crate_pixel, read_by, ReadPromiseBy}
use Rattle.frames_written.specs.Samples.{pixel_at}
use Rattle.frames_written.specs.Frame.{frame_of, file_of}
use Rattle.writer.specs.Write.{write_of, WritePromise, Write4Promise}

-- the pixel k of a frame, of three samples to a pixel
abbrev pub pixel : List Float → ℕ → Pixel
pixel samples k = pixel_at samples (3 * k)

-- ---- What is asked of a frame

-- a width from 1 to 65,535 and a height up to that: what the writer takes
pub record Sizes (w h : ℕ) : Type 0 where
  pub some : 0 < w
  pub wide : w ≤ 65535
  pub high : h ≤ 65535

-- "all samples are finite, none is negative and each pixel's largest is" in the range of the reading (`range_of` of loss), of n pixels
abbrev pub AllInRange : (ℕ → Type 0) → List Float → ℕ → Type 0
AllInRange range samples n = (k : ℕ) → k < n → InRange range (pixel samples k)

-- "room and limits enough": the limits, and the output and row store that are lent
pub record Enough (w h widest highest : ℕ) (out : List Float) (store : List ℕ) : Type 0 where
  pub wide : w ≤ widest
  pub high : h ≤ highest
  pub room : 3 * (w * h) ≤ length out
  pub row : 4 * w ≤ length store

-- ---- What comes back

-- the reader is done, answers width, height and what a written header says, and takes so many bytes
abbrev pub done_with : Reading → ℕ → ℕ → ℕ → Answer Head
done_with reading w h taken = done (head (written_said reading) upright w h taken)

-- beyond its first n samples the output is as lent
pub record Beyond (n : ℕ) (lent out : List Float) : Type 0 where
  pub long : length out ≡ length lent
  pub rest : drop n out ≡ drop n lent

-- the reader's answer, and the output that it made of the lent one, for a file of `size` bytes; `near` is how near a sample comes back (`near_of` of loss), at so many digits of the pixel's largest
pub record ReadBack (near : ℕ → ℕ → ℕ → Type 0) (reading : Reading) (w h size : ℕ) (samples lent : List Float) (answer : Answer Head) (out : List Float) : Type 0 where
  -- "takes exactly the bytes written"
  pub answered : answer ≡ done_with reading w h size
  -- "each sample comes back": by the crate reading "at most its value and less than one step below it", by the document reading "at most half a step from the sample, on either side"
  pub kept : (k n : ℕ) → k < w * h → Lies (pixel samples k) n → KeptAll (near n) (pixel samples k) (pixel out k)
  -- "a black pixel comes back as zeros"
  pub black : (k : ℕ) → k < w * h → peak (pixel samples k) ≡ 0 → pixel out k ≡ zeros
  pub beyond : Beyond (3 * (w * h)) lent out

-- the same for a frame of four-byte pixels, of which nothing is lost: each comes back as what its bytes stand for by the rule
pub record ReadBack4 (reading : Reading) (rule : SampleRule) (w h size : ℕ) (px : List ℕ) (lent : List Float) (answer : Answer Head) (out : List Float) : Type 0 where
  pub answered : answer ≡ done_with reading w h size
  pub pixels : (k : ℕ) → k < w * h → pixel out k ≡ rule (rgbe_at px (4 * k))
  pub beyond : Beyond (3 * (w * h)) lent out

-- where rows of w are flat, none of n pixels starts 1, 1, 1, which would be taken for a repeat
abbrev pub NoOnes : List ℕ → ℕ → ℕ → Type 0
NoOnes px w n = is_coded w ≡ false → (k : ℕ) → k < n → is_repeat px (4 * k) ≡ false

-- ---- The claims, over the definitions, with the header by a reading and by any rule for a row and for a pixel: the reader on the file that is written, with any bytes after it

abbrev pub ComesBack : (ℕ → ℕ → ℕ → Type 0) → Reading → RowRule → SampleRule → ℕ → ℕ → List Float → Type 0
ComesBack near reading row_rule rule w h samples =
    (rest : List ℕ) (widest highest : ℕ) (out : List Float) (store : List ℕ) → Enough w h widest highest out store
    → let left = read_by reading row_rule rule (file_of samples w h ++ rest) widest highest out store in
    ReadBack near reading w h (length (file_of samples w h)) samples out left.0 left.1

abbrev pub ComesBack4 : Reading → RowRule → SampleRule → ℕ → ℕ → List ℕ → Type 0
ComesBack4 reading row_rule rule w h px =
    (rest : List ℕ) (widest highest : ℕ) (out : List Float) (store : List ℕ) → Enough w h widest highest out store
    → let left = read_by reading row_rule rule (frame_of px w h ++ rest) widest highest out store in
    ReadBack4 reading rule w h (length (frame_of px w h)) px out left.0 left.1

-- ---- The claims, over the calls: a call of the writer was done and left n bytes in its output, and a reader by the rules is called on them, with any bytes after

abbrev pub CallsComeBack : (ℕ → ℕ → ℕ → Type 0) → Reading → RowRule → SampleRule → ℕ → ℕ → List Float → Type 0
CallsComeBack near reading row_rule rule w h samples =
    (lent left : List ℕ) (n : ℕ) → WritePromise w h samples lent (Ok n) left
    → (rest : List ℕ) (widest highest : ℕ) (out out' : List Float) (store store' : List ℕ) (answer : Result Head Refusal) → Enough w h widest highest out store
    → ReadPromiseBy reading row_rule rule (take n left ++ rest) widest highest out store answer out' store'
    → ReadBack near reading w h n samples out (paper_of answer) out'

abbrev pub CallsComeBack4 : Reading → RowRule → SampleRule → ℕ → ℕ → List ℕ → Type 0
CallsComeBack4 reading row_rule rule w h px =
    (lent left : List ℕ) (n : ℕ) → Write4Promise w h px lent (Ok n) left
    → (rest : List ℕ) (widest highest : ℕ) (out out' : List Float) (store store' : List ℕ) (answer : Result Head Refusal) → Enough w h widest highest out store
    → ReadPromiseBy reading row_rule rule (take n left ++ rest) widest highest out store answer out' store'
    → ReadBack4 reading rule w h n px out (paper_of answer) out'

-- ---- A frame in range is written: into every output that is long enough

abbrev pub IsWritten : ℕ → ℕ → List Float → Type 0
IsWritten w h samples = (out : List ℕ) → length (file_of samples w h) ≤ length out → write_of w h samples out ≡ (done (length (file_of samples w h)), spread 1 out 0 (file_of samples w h))

-- ---- By the crate reading the range can be no wider: one red pixel of the f32 next below 2^-32, which is 2^-32 - 2^-56, and one of 2^31

abbrev pub next_below : Float
next_below = fin false (2 ^ 24 - 1) (negsuc 55)

abbrev pub first_above : Float
first_above = fin false 1 (pos 31)

abbrev pub one_red : Float → List Float
one_red x = x ∷ fin false 0 (pos 0) ∷ fin false 0 (pos 0) ∷ []

-- a frame of numbers that is not in range, and does not come back
pub record Lost (x : Float) : Type 0 where
  pub numbers : Numbers (pixel (one_red x) 0)
  pub outside : Between (peak (pixel (one_red x) 0)) → ⊥
  pub lost : ComesBack Below Crate crate_row crate_pixel 1 1 (one_red x) → ⊥
