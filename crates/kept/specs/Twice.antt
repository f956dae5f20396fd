-- Saving twice (RULES 8.5): a file that was written, read and written again gives the same bytes.
use Rattle.std.specs.Prelude.{Result, Ok}
use Rattle.steps.specs.declared.refusal.Refusal.{Refusal}
use Rattle.steps.specs.Answer.{paper_of}
use Rattle.std.specs.Prelude.{ℕ, ◌*◌, ◌<◌, ◌≤◌, List, ◌++◌, ◌≡◌, Float, length, take, drop}
use Rattle.steps.specs.Answer.{Answer}
use Rattle.steps.specs.declared.Reading.{Reading}
use Rattle.pixel.specs.Rgbe.{peak}
use Rattle.loss.specs.Kept.{Numbers}
use Rattle.loss.specs.Twice.{twice_range}
use Rattle.header.specs.declared.Head.{Head}
use Rattle.reader.specs.Read.{read_of, ReadPromise}
use Rattle.frames_written.specs.Frame.{file_of}
use Rattle.writer.specs.Write.{WritePromise}
use Rattle.kept.specs.Back.{pixel, Enough, done_with, one_red}

-- ---- What is asked of a frame of n pixels: where the largest of each lies. Any sample may be negative or no number.
abbrev pub AllTwice : Reading → List Float → ℕ → Type 0
AllTwice reading samples n = (k : ℕ) → k < n → twice_range reading (peak (pixel samples k))

-- the frame that a reader left in its output: the first 3wh samples
abbrev pub frame_in : ℕ → ℕ → List Float → List Float
frame_in w h out = take (3 * (w * h)) out

-- ---- The claim, over the definitions: the file of what is read of a frame's file, with any bytes after it, is that file
abbrev pub SavedTwice : Reading → ℕ → ℕ → List Float → Type 0
SavedTwice reading w h samples =
    (rest : List ℕ) (widest highest : ℕ) (out : List Float) (store : List ℕ) → Enough w h widest highest out store
    → let left = read_of reading (file_of samples w h ++ rest) widest highest out store in
    file_of (frame_in w h left.1) w h ≡ file_of samples w h

-- ---- The claim, over the calls

-- the reader's answer, and of the second call of the writer, to which `lent` was lent, its answer and what it left
pub record SameFile (reading : Reading) (w h n : ℕ) (first : List ℕ) (told : Answer Head) (lent : List ℕ) (answer : Result ℕ Refusal) (left : List ℕ) : Type 0 where
  -- the reader took the n bytes of the first file, and told the sizes with which it is written again
  pub read : told ≡ done_with reading w h n
  -- n bytes were written again, the same ones, and nothing behind them
  pub answered : answer ≡ Ok n
  pub bytes : take n left ≡ take n first
  pub beyond : drop n left ≡ drop n lent

-- the writer was done and left n bytes in its output; a reader was called on them, with any bytes after; and the writer was called on what it left, with room for n bytes
abbrev pub CallsSaveTwice : Reading → ℕ → ℕ → List Float → Type 0
CallsSaveTwice reading w h samples =
    (lent left : List ℕ) (n : ℕ) → WritePromise w h samples lent (Ok n) left
    → (rest : List ℕ) (widest highest : ℕ) (out out' : List Float) (store store' : List ℕ) (answer : Result Head Refusal) → Enough w h widest highest out store
    → ReadPromise reading (take n left ++ rest) widest highest out store answer out' store'
    → (lent' left' : List ℕ) (again : Result ℕ Refusal) → n ≤ length lent' → WritePromise w h (frame_in w h out') lent' again left'
    → SameFile reading w h n left (paper_of answer) lent' again left'

-- ---- Outside its range a frame may change: one red pixel, of a number that lies outside, is not the same when it is saved twice
pub record Changed (reading : Reading) (x : Float) : Type 0 where
  pub numbers : Numbers (pixel (one_red x) 0)
  pub outside : twice_range reading (peak (pixel (one_red x) 0)) → ⊥
  pub changed : SavedTwice reading 1 1 (one_red x) → ⊥
