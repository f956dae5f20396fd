-- A frame of four-byte pixels that is written is read back: exactly its bytes are taken, and the output has the samples of its pixels.
use Prim.Native.Nat.{ℕ, zero, suc, ◌+◌, ◌-◌, ◌*◌, ◌<◌, ◌≤◌}
use mathlib.Core.Bool.{false}
use mathlib.Core.List.{List, ◌++◌, append_assoc}
use mathlib.Core.Path.{◌≡◌, refl, sym, ap, subst, ◌∙◌}
use native.Mathlib.Nat.{suc-mul, zero-mul}
use native.Mathlib.Numerals.{add-one}
use native.Mathlib.Omega.{arith}
use lib.Ieee.{Float}
use lib.ListN.{length, replicate, length-append}
use Rattle.std.specs.Prelude.{Ok}
use Rattle.steps.specs.Place.{bytes_from, spread}
use Rattle.steps.specs.Answer.{Answer, done}
use Rattle.steps.specs.declared.Reading.{Reading}
use Rattle.std.specs.Prelude.{Ok}
use Rattle.steps.proofs.Laws.Loop.{Runs}
use Rattle.steps.proofs.Laws.Place.{length_spread, spread_then}
use Rattle.words.specs.Axes.{upright}
use Rattle.header.specs.declared.Head.{Head}
use Rattle.header.specs.Head.{limit, head, header_of}
use Rattle.header.specs.Written.{written, written_said}
use Rattle.back.proofs.Laws.Header.{header_back}
use Rattle.flat_read.specs.Flat.{is_repeat}
use Rattle.rows_read.specs.Row.{RowRule}
use Rattle.rows_written.specs.Row.{written_row}
use Rattle.steps.specs.Width.{is_coded}
use Rattle.flat_read.proofs.Laws.Flat.{NoRepeat}
use Rattle.back.proofs.Laws.Row.{RowsBack}
use Rattle.reader.specs.Samples.{SampleRule}
use Rattle.reader.specs.Frame as reader
use Rattle.reader.specs.Inner.{samples_from}
use Rattle.reader.specs.Read.{answer_of, framed, read_by}
use Rattle.reader.proofs.Laws.Frame.{step_done, rows_start, rows_done, rows_again}
use Rattle.reader.proofs.Laws.Samples.{placed_on}
use Rattle.reader.proofs.Laws.Read.{frame_rows, read_frame}
use Rattle.frames_written.specs.Frame.{written_rows, frame_of}
use Rattle.kept.proofs.Laws.Samples.{samples_stored, length_samples, samples_append}

-- none of n pixels is taken for a repeat where rows of w are flat
abbrev pub Ordinary : List ℕ → ℕ → ℕ → ℕ → Type 0
Ordinary px at w n = is_coded w ≡ false → NoRepeat px at n

module _ (px : List ℕ) (at w n : ℕ) (none : Ordinary px at w (w + n)) where
  this_row : Ordinary px at w w
  this_row flat i h = none flat i (omega arith)

  later_rows : Ordinary px (at + 4 * w) w n
  later_rows flat i h =
      let place : at + 4 * w + 4 * i ≡ at + 4 * (w + i) = omega arith in
      ap (is_repeat px) place ∙ none flat (w + i) (omega arith)

-- ---- The samples of rows

module _ (rule : SampleRule) where
  no_samples : (px : List ℕ) (at w place : ℕ) (out : List Float) → out ≡ spread 1 out place (samples_from rule px at (0 * w))
  unfolding samples_from spread
  no_samples px at w place out = rw zero-mul

  -- a row's samples, and then those of n rows more
  row_samples : (px : List ℕ) (at w n row : ℕ) (out : List Float)
      → spread 1 (spread 1 out (3 * (row * w)) (samples_from rule px at w)) (3 * ((row + 1) * w)) (samples_from rule px (at + 4 * w) (n * w))
      ≡ spread 1 out (3 * (row * w)) (samples_from rule px at (w + n * w))
  row_samples px at w n row out =
      let first : List Float = samples_from rule px at w in
      let row_next : (row + 1) * w ≡ row * w + w = rw (add-one, suc-mul) in
      let place : 3 * ((row + 1) * w) ≡ 3 * (row * w) + length first = omega (arith, row_next, length_samples rule px at w) in
      sym (ap (spread 1 out (3 * (row * w))) (samples_append rule px at w (n * w)) ∙ spread_then out _ (3 * (row * w)) (3 * ((row + 1) * w)) first _ refl place)

-- ---- The rows, by such a rule and any rule for a pixel

-- what the header of a frame says
abbrev said : Reading → ℕ → ℕ → Head
said reading w h = head (written_said reading) upright w h (length (written w h))

module _ (reading : Reading) (row_rule : RowRule) (rule : SampleRule) (back : RowsBack row_rule) where
  module _ (bytes px : List ℕ) (w h : ℕ) where
    -- the rows from a place and a row on give a
    abbrev Gives : ℕ → ℕ → List ℕ → List Float → reader.Left → Type 0
    Gives at row store out a = Runs (reader.row_turn row_rule rule bytes (reader.stored_of (said reading w h))) reader.no_rows (h - row) (reader.rows at row store out) a

    row_read : (pre store others : List ℕ) (at : ℕ) → Ordinary px at w w → bytes ≡ pre ++ (written_row px at w ++ others)
        → (Ok (length pre + length (written_row px at w)), spread 1 store 0 (bytes_from px at (4 * w))) ≡ row_rule bytes (length pre) store w
    row_read pre store others at none e = sym (ap (λ (l : List ℕ). row_rule l (length pre) store w) e ∙ back px pre others store at w none)

    -- one row, whose bytes stand after `pre`
    row_there : (row at : ℕ) (pre store others : List ℕ) (out : List Float) (a : reader.Left)
        → bytes ≡ pre ++ (written_row px at w ++ others) → Ordinary px at w w → 4 * w ≤ length store → row < h → Gives (length pre) row store out a
        → Gives (length (pre ++ written_row px at w)) (row + 1) (spread 1 store 0 (bytes_from px at (4 * w))) (spread 1 out (3 * (row * w)) (samples_from rule px at w)) a
    row_there row at pre store others out a e none room more r =
        let next : ℕ = length pre + length (written_row px at w) in
        let step = step_done row_rule rule w (λ i. row * w + i) bytes (length pre) out store (Ok next) _ (row_read pre store others at none e) next _ refl
        (ap (spread 1 out (3 * (row * w))) (sym (samples_stored rule px store at w room)) ∙ sym (placed_on rule (row * w) _ out w)) in
        rw (length-append pre (written_row px at w))
        (rows_again row_rule rule bytes (reader.stored_of (said reading w h)) (length pre) row store out a r more (Ok next) _ _ step next refl)

    -- n rows, whose bytes stand after `pre`
    rows_there : (rest : List ℕ) (n row at : ℕ) (pre store : List ℕ) (out : List Float) (a : reader.Left)
        → bytes ≡ pre ++ (written_rows px at w n ++ rest) → Ordinary px at w (n * w) → 4 * w ≤ length store → row + n ≡ h → Gives (length pre) row store out a
        → (a.0 ≡ done (length pre + length (written_rows px at w n))) × (a.1 ≡ spread 1 out (3 * (row * w)) (samples_from rule px at (n * w)))
    unfolding written_rows
    rows_there rest zero row at pre store out a e none room count r =
        let end = rows_done row_rule rule bytes (reader.stored_of (said reading w h)) (length pre) row store out a r (omega arith) in
        let size : length pre ≡ length pre + 0 = omega arith in
        (sym (ap (λ (z : reader.Left). z.0) end) ∙ ap done size, sym (ap (λ (z : reader.Left). z.1) end) ∙ no_samples rule px at w (3 * (row * w)) out)
    rows_there rest (suc n) row at pre store out a e none room count r =
        let this : List ℕ = written_row px at w in
        let others : List ℕ = written_rows px (at + 4 * w) w n in
        let pixels : suc n * w ≡ w + n * w = omega (arith, suc-mul n w) in
        let none' : Ordinary px at w (w + n * w) = subst (Ordinary px at w) pixels none in
        let here : bytes ≡ pre ++ (this ++ (others ++ rest)) = e ∙ ap (λ (l : List ℕ). pre ++ l) (append_assoc this others rest) in
        let after : bytes ≡ (pre ++ this) ++ (others ++ rest) = here ∙ sym (append_assoc pre this (others ++ rest)) in
        let room' : 4 * w ≤ length (spread 1 store 0 (bytes_from px at (4 * w))) = omega (arith, length_spread 1 store 0 (bytes_from px at (4 * w))) in
        let later = rows_there rest n (row + 1) (at + 4 * w) (pre ++ this) _ _ a after (later_rows px at w (n * w) none') room' (omega arith)
        (row_there row at pre store (others ++ rest) out a here (this_row px at w (n * w) none') room (omega arith) r) in
        let size : length (pre ++ this) + length others ≡ length pre + length (this ++ others) = omega (arith, length-append pre this, length-append this others) in
        (later.0 ∙ ap done size, later.1 ∙ row_samples rule px at w n row out ∙ ap (λ (m : ℕ). spread 1 out (3 * (row * w)) (samples_from rule px at m)) (sym pixels))

  -- ---- The whole file, with any bytes after it

  module _ (px : List ℕ) (w h : ℕ) (rest : List ℕ) (widest highest : ℕ) (out : List Float) (store : List ℕ) where
    abbrev bytes : List ℕ
    bytes = frame_of px w h ++ rest

    split : bytes ≡ written w h ++ (written_rows px 0 w h ++ rest)
    unfolding frame_of
    split = append_assoc (written w h) (written_rows px 0 w h) rest

    frame_size : length (written w h) + length (written_rows px 0 w h) ≡ length (frame_of px w h)
    unfolding frame_of
    frame_size = sym (length-append (written w h) (written_rows px 0 w h))

    module _ (some : 0 < w) (wide : w ≤ limit widest) (high : h ≤ limit highest) (room : h * (3 * w) ≤ length out) (row : 4 * w ≤ length store) where
      by_rows : framed (said reading w h) (reader.rows_of row_rule rule bytes (reader.stored_of (said reading w h)) (length (written w h)) out (reader.cleared w store)) ≡ read_by reading row_rule rule bytes widest highest out store
      by_rows =
          let header : header_of reading bytes widest highest ≡ done (said reading w h) =
          ap (λ (l : List ℕ). header_of reading l widest highest) split ∙ header_back w h (written_rows px 0 w h ++ rest) reading widest highest wide high in
          read_frame reading row_rule rule bytes widest highest out store (done (said reading w h)) (sym header) (said reading w h) _ refl
          (frame_rows row_rule rule bytes (said reading w h) out store room (λ e. omega arith) w refl (reader.cleared w store) _ row refl refl)

      pub frame_back : Ordinary px 0 w (h * w)
          → ((read_by reading row_rule rule bytes widest highest out store).0 ≡ done (head (written_said reading) upright w h (length (frame_of px w h))))
          × ((read_by reading row_rule rule bytes widest highest out store).1 ≡ spread 1 out 0 (samples_from rule px 0 (h * w)))
      frame_back none =
          let room' : 4 * w ≤ length (reader.cleared w store) = omega (arith, length_spread 1 store 0 (replicate (4 * w) 0)) in
          let there = rows_there bytes px w h rest h 0 0 (written w h) (reader.cleared w store) out _ split none room' (omega arith)
          (rows_start row_rule rule bytes (reader.stored_of (said reading w h)) (length (written w h)) out (reader.cleared w store)) in
          let start : 3 * (0 * w) ≡ 0 = omega (arith, zero-mul w) in (
            sym (ap (λ (z : Answer Head × List Float × List ℕ). z.0) by_rows) ∙ ap (answer_of (said reading w h)) there.0 ∙ ap (λ (n : ℕ). done (head (written_said reading) upright w h n)) frame_size,
            sym (ap (λ (z : Answer Head × List Float × List ℕ). z.1) by_rows) ∙ there.1 ∙ ap (λ (p : ℕ). spread 1 out p (samples_from rule px 0 (h * w))) start,
          )
