-- Saving twice, for the whole frame: over the definitions, and over what the calls promise.
use Prim.Native.Nat.{ℕ, zero, suc, ◌+◌, ◌*◌, ◌<◌, ◌≤◌}
use mathlib.Core.Bool.{false}
use mathlib.Core.List.{List, ◌++◌}
use mathlib.Core.Path.{◌≡◌, refl, sym, ap, subst, ◌∙◌}
use native.Mathlib.Omega.{arith}
use lib.Dec.{ltb}
use lib.Ieee.{Float, nan}
use lib.ListN.{length, get_or, take, drop}
use lib.Seq.{get_or-take, length-take-le, take_at, drop_at}
use Rattle.std.specs.Prelude.{Result, Ok}
use Rattle.steps.specs.declared.refusal.Refusal.{Refusal}
use Rattle.steps.specs.Answer.{Answer, done}
use Rattle.steps.specs.Place.{spread}
use Rattle.steps.proofs.Laws.Place.{spread_front}
use Rattle.steps.specs.declared.Reading.{Reading}
use Rattle.pixel.specs.declared.Rgbe.{Rgbe}
use Rattle.pixel.specs.Rgbe.{too_bright, bytes_of}
use Rattle.loss.specs.Twice.{comes_back}
use Rattle.loss.proofs.Laws.Written.{bright_is_over, not_bright}
use Rattle.loss.proofs.Laws.Twice.{twice_below, written_twice}
use Rattle.header.specs.declared.Head.{Head}
use Rattle.reader.specs.Read.{read_of, pixel_by}
use Rattle.rows_read.specs.Row.{row_of}
use Rattle.frames_written.specs.Samples.{pixel_at, four, packed}
use Rattle.frames_written.specs.Frame.{frame_of, file_of}
use Rattle.writer.specs.Write.{WritePromise, write_of}
use Rattle.writer.proofs.Laws.Told.{write_told, write_once}
use Rattle.kept.specs.Back.{pixel, Sizes, Enough, IsWritten}
use Rattle.kept.specs.Twice.{AllTwice, frame_in, SavedTwice, SameFile, CallsSaveTwice}
use Rattle.kept.proofs.Laws.Back.{packed_back, pixels_back}
use Rattle.kept.proofs.Laws.Calls.{sizes_passed, by_calls, passing_written}

-- ---- Pixels that are written alike, one by one, are packed alike

packed_same : (xs ys : List Float) (i n : ℕ) → ((k : ℕ) → k < n → bytes_of (pixel_at xs (i + 3 * k)) ≡ bytes_of (pixel_at ys (i + 3 * k))) → packed xs i n ≡ packed ys i n
unfolding packed
packed_same xs ys i zero same = refl
packed_same xs ys i (suc n) same =
    let here : i + 3 * 0 ≡ i = omega arith in
    let first = rw here at (same 0 (omega arith)) in
    let others = packed_same xs ys (i + 3) n (λ k l. let next : i + 3 * suc k ≡ i + 3 + 3 * k = omega arith in rw next at (same (suc k) (omega arith))) in
    λ t. four (first t) (others t)

-- ---- What is read of a frame's file is written as the frame is

-- a pixel of the frame that a reader left is that of its output
pixel_in : (w h : ℕ) (out : List Float) (k : ℕ) → k < w * h → pixel (frame_in w h out) k ≡ pixel out k
pixel_in w h out k l = λ t. record { r = at (3 * k) (omega arith) t; g = at (3 * k + 1) (omega arith) t; b = at (3 * k + 2) (omega arith) t }
  where
    at : (i : ℕ) → i < 3 * (w * h) → get_or (take (3 * (w * h)) out) i nan ≡ get_or out i nan
    at i l = get_or-take (3 * (w * h)) out i nan l

module _ (reading : Reading) (w h : ℕ) (samples : List Float) (sizes : Sizes w h) (rest : List ℕ) (widest highest : ℕ) (out : List Float) (store : List ℕ) (enough : Enough w h widest highest out store) where
  abbrev left : Answer Head × List Float × List ℕ
  left = read_of reading (file_of samples w h ++ rest) widest highest out store

  abbrev frame : List Float
  frame = frame_in w h left.1

  -- each pixel of it is what the bytes of the frame's pixel show
  pub frame_pixel : (k : ℕ) → k < w * h → pixel frame k ≡ comes_back reading (pixel samples k)
  frame_pixel k l = pixel_in w h _ k l ∙ pixels_back reading w h samples sizes rest widest highest out store enough k l

  frame_length : length frame ≡ 3 * (w * h)
  frame_length = length-take-le (3 * (w * h)) _ (omega (arith, (packed_back reading w h samples sizes rest widest highest out store enough).beyond.long, enough.room))

  module _ (all : AllTwice reading samples (w * h)) where
    same_bytes : (k : ℕ) → k < w * h → bytes_of (pixel frame k) ≡ bytes_of (pixel samples k)
    same_bytes k l = ap bytes_of (frame_pixel k l) ∙ (written_twice reading (pixel samples k) (all k l)).bytes

    same_file : file_of frame w h ≡ file_of samples w h
    same_file =
        let from : (k : ℕ) → 0 + 3 * k ≡ 3 * k = λ k. omega arith in
        ap (λ (px : List ℕ). frame_of px w h) (packed_same frame samples 0 (w * h) (λ k l. rw (from k) (same_bytes k l)))

    -- check 12 passes of it too, since it is a test of the last byte
    same_passes : (k : ℕ) → k < w * h → too_bright (pixel frame k) ≡ false
    same_passes k l =
        bright_is_over (pixel frame k) ∙ ap (λ (q : Rgbe). ltb 255 q.e) (same_bytes k l) ∙ sym (bright_is_over (pixel samples k)) ∙ not_bright (pixel samples k) (twice_below reading _ (all k l))

    -- so a call of the writer with room for the file leaves that file
    same_call : (first tail lent' left' : List ℕ) (again : Result ℕ Refusal) → first ≡ file_of samples w h ++ tail → WritePromise w h frame lent' again left' → length (file_of samples w h) ≤ length lent'
        → SameFile reading w h (length (file_of samples w h)) first left.0 lent' again left'
    same_call first tail lent' left' again is wrote room =
        let file : List ℕ = file_of samples w h in
        let due : write_of w h frame lent' ≡ (done (length file), spread 1 lent' 0 file) =
        passing_written w h frame sizes frame_length same_passes lent' (subst (λ (f : List ℕ). length f ≤ length lent') (sym same_file) room)
        ∙ ap (λ (f : List ℕ). (done (length f), spread 1 lent' 0 f)) same_file in
        let once = write_once w h again (Ok (length file)) frame lent' left' (spread 1 lent' 0 file) wrote (sym due) in
        let stands = once.1 ∙ spread_front lent' file room in
        record {
          read = (packed_back reading w h samples sizes rest widest highest out store enough).answered;
          answered = once.0;
          bytes = ap (take (length file)) stands ∙ take_at file _ _ refl ∙ sym (ap (take (length file)) is ∙ take_at file _ _ refl);
          beyond = ap (drop (length file)) stands ∙ drop_at file _ _ refl;
        }

-- by either reading
pub saved_twice : (reading : Reading) (w h : ℕ) (samples : List Float) → Sizes w h → AllTwice reading samples (w * h) → SavedTwice reading w h samples
saved_twice reading w h samples sizes all rest widest highest out store enough = same_file reading w h samples sizes rest widest highest out store enough all

-- and over what the calls promise
pub calls_save_twice : (reading : Reading) (w h : ℕ) (samples : List Float) → AllTwice reading samples (w * h) → CallsSaveTwice reading w h samples
calls_save_twice reading w h samples all lent left n wrote rest widest highest out out' store store' answer enough read lent' left' again room wrote' =
    let told = write_told w h n samples lent left (sym wrote) in
    by_calls reading (row_of reading) (pixel_by reading) (file_of samples w h) lent left n told.2 rest widest highest out out' store store' answer read
    (λ m z. WritePromise w h (frame_in w h z.1) lent' again left' → m ≤ length lent' → SameFile reading w h m left z.0 lent' again left')
    (same_call reading w h samples (sizes_passed w h (length samples) 3 told.0) rest widest highest out store enough all left (drop n lent) lent' left' again told.2.bytes)
    wrote' room

-- a frame in range is written
pub twice_written : (reading : Reading) (w h : ℕ) (samples : List Float) → Sizes w h → length samples ≡ 3 * (w * h) → AllTwice reading samples (w * h) → IsWritten w h samples
twice_written reading w h samples sizes count all =
    passing_written w h samples sizes count (λ k l. not_bright (pixel samples k) (twice_below reading _ (all k l)))
