-- Rows one after another, of four-byte pixels and of samples, and a loop over them.
use Prim.Native.Nat.{ℕ, zero, suc, ◌+◌, ◌*◌, ◌^◌, ◌<◌, ◌≤◌}
use mathlib.Core.Logic.{⊎_elim}
use mathlib.Core.List.{List, ◌++◌, append-nil, append_assoc}
use mathlib.Core.Path.{◌≡◌, refl, sym, ap, ◌∙◌}
use native.Mathlib.Nat.{mul-suc, mul-zero}
use native.Mathlib.Numerals.{add-one}
use native.Mathlib.Omega.{arith}
use lib.ListN.{length, get_or, length-append, get_or-append}
use lib.Seq.{get_or-append-add}
use lib.Ieee.{Float}
use Rattle.steps.specs.Place.{spread, bytes_from}
use Rattle.steps.proofs.Laws.Order.{lt_or_ge}
use Rattle.steps.proofs.Laws.Place.{length_spread, spread_then, get_or_bytes}
use Rattle.header.specs.Written.{written}
use Rattle.rows_written.specs.Row.{written_row}
use Rattle.rows_written.proofs.Laws.Row.{row_same}
use Rattle.frames_written.specs.Samples.{packed, first_bright}
use Rattle.frames_written.specs.Frame.{written_rows, rows_by, frame_of, frame_by, file_of}
use Rattle.frames_written.specs.Inner.{RowOf, Kept}
use Rattle.frames_written.proofs.Laws.Samples.{row_within, length_packed, packed_append, none_part}

-- ---- Rows one after another

-- some rows, and the one after them
rows_snoc : (px : List ℕ) (at w h : ℕ) → written_rows px at w (suc h) ≡ written_rows px at w h ++ written_row px (at + 4 * (w * h)) w
unfolding written_rows
rows_snoc px at w zero =
    let here : at ≡ at + 4 * (w * 0) = omega (arith, mul-zero w) in
    append-nil (written_row px at w) ∙ ap (λ (i : ℕ). written_row px i w) here
rows_snoc px at w (suc h) =
    let next : at + 4 * w + 4 * (w * h) ≡ at + 4 * (w * suc h) = omega (arith, mul-suc w h) in
    ap (λ (l : List ℕ). written_row px at w ++ l) (rows_snoc px (at + 4 * w) w h ∙ ap (λ (i : ℕ). written_rows px (at + 4 * w) w h ++ written_row px i w) next)
    ∙ sym (append_assoc (written_row px at w) (written_rows px (at + 4 * w) w h) (written_row px (at + 4 * (w * suc h)) w))

-- what stands behind some rows does not matter to them
rows_front : (p q : List ℕ) (at w h : ℕ) → at + 4 * (w * h) ≤ length p → written_rows (p ++ q) at w h ≡ written_rows p at w h
unfolding written_rows
rows_front p q at w zero l = refl
rows_front p q at w (suc h) l =
    let row : written_row (p ++ q) at w ≡ written_row p at w = row_same (p ++ q) p at at w (λ k m. get_or-append p q 0 (at + k) (omega (arith, mul-suc w h))) in
    let rest : written_rows (p ++ q) (at + 4 * w) w h ≡ written_rows p (at + 4 * w) w h = rows_front p q (at + 4 * w) w h (omega (arith, mul-suc w h)) in
    cc

-- a row after a front is written as if it stood alone
row_after : (p q : List ℕ) (at w : ℕ) → at ≡ length p → written_row (p ++ q) at w ≡ written_row q 0 w
row_after p q at w e =
    row_same (p ++ q) q at 0 w (λ k l. ap (λ (i : ℕ). get_or (p ++ q) i 0) (omega arith) ∙ get_or-append-add p q k 0 ∙ ap (λ (i : ℕ). get_or q i 0) (omega arith))

-- what stands after a front is written as if it stood alone
pub rows_after : (p q : List ℕ) (at w h : ℕ) → written_rows (p ++ q) (length p + at) w h ≡ written_rows q at w h
unfolding written_rows
rows_after p q at w zero = refl
rows_after p q at w (suc h) =
    let row : written_row (p ++ q) (length p + at) w ≡ written_row q at w = row_same (p ++ q) q (length p + at) at w
    (λ k l. ap (λ (i : ℕ). get_or (p ++ q) i 0) (omega arith) ∙ get_or-append-add p q (at + k) 0) in
    let next : length p + at + 4 * w ≡ length p + (at + 4 * w) = omega arith in
    let rest : written_rows (p ++ q) (length p + at + 4 * w) w h ≡ written_rows q (at + 4 * w) w h = ap (λ (i : ℕ). written_rows (p ++ q) i w h) next ∙ rows_after p q (at + 4 * w) w h in
    cc

-- what follows a row does not matter to it
pub row_front : (p q : List ℕ) (w : ℕ) → length p ≡ 4 * w → written_row (p ++ q) 0 w ≡ written_row p 0 w
row_front p q w e = row_same (p ++ q) p 0 0 w (λ k l. get_or-append p q 0 (0 + k) (omega arith))

-- ---- The rows of four-byte pixels, and of samples

-- a row by its place is the row of its own bytes
pub line_same : (px : List ℕ) (at w : ℕ) → written_row (bytes_from px at (4 * w)) 0 w ≡ written_row px at w
line_same px at w =
    row_same (bytes_from px at (4 * w)) px 0 at w
    (λ k l. let here : 0 + k ≡ k = omega arith in rw here (get_or_bytes px at (4 * w) k l))

pub pixels_rows : (px : List ℕ) (w h : ℕ) → rows_by (λ k. bytes_from px (4 * (w * k)) (4 * w)) w h ≡ written_rows px 0 w h
unfolding rows_by written_rows
pixels_rows px w zero = refl
pixels_rows px w (suc h) =
    let here : 4 * (w * h) ≡ 0 + 4 * (w * h) = omega arith in
    ap (λ (l : List ℕ). l ++ written_row (bytes_from px (4 * (w * h)) (4 * w)) 0 w) (pixels_rows px w h)
    ∙ ap (λ (l : List ℕ). written_rows px 0 w h ++ l) (line_same px (4 * (w * h)) w ∙ ap (λ (i : ℕ). written_row px i w) here) ∙ sym (rows_snoc px 0 w h)

pub samples_rows : (samples : List Float) (w h : ℕ) → rows_by (λ k. packed samples (3 * (w * k)) w) w h ≡ written_rows (packed samples 0 (w * h)) 0 w h
unfolding rows_by written_rows
samples_rows samples w zero = refl
samples_rows samples w (suc h) =
    let p : List ℕ = packed samples 0 (w * h) in
    let q : List ℕ = packed samples (3 * (w * h)) w in
    let size : length p ≡ 4 * (w * h) = length_packed samples 0 (w * h) in
    let more : w * suc h ≡ w * h + w = omega (arith, mul-suc w h) in
    let here : 0 + 3 * (w * h) ≡ 3 * (w * h) = omega arith in
    let both : packed samples 0 (w * suc h) ≡ p ++ q = ap (packed samples 0) more ∙ packed_append samples 0 (w * h) w ∙ ap (λ (i : ℕ). p ++ packed samples i w) here in
    ap (λ (l : List ℕ). l ++ written_row q 0 w) (samples_rows samples w h ∙ sym (rows_front p q 0 w h (omega arith)))
    ∙ ap (λ (l : List ℕ). written_rows (p ++ q) 0 w h ++ l) (sym (row_after p q (0 + 4 * (w * h)) w (omega arith)))
    ∙ sym (rows_snoc (p ++ q) 0 w h)
    ∙ ap (λ (l : List ℕ). written_rows l 0 w (suc h)) (sym both)

-- the frames are those of the paper
pub pixels_frame : (px : List ℕ) (w h : ℕ) → frame_by (λ k. bytes_from px (4 * (w * k)) (4 * w)) w h ≡ frame_of px w h
unfolding frame_by frame_of
pixels_frame px w h = ap (λ (l : List ℕ). written w h ++ l) (pixels_rows px w h)

pub samples_frame : (samples : List Float) (w h : ℕ) → frame_by (λ k. packed samples (3 * (w * k)) w) w h ≡ file_of samples w h
unfolding frame_by frame_of
samples_frame samples w h = ap (λ (l : List ℕ). written w h ++ l) (samples_rows samples w h)

-- ---- One row of a frame

-- row k of four-byte pixels is there
pub pixels_row : (px : List ℕ) (w k : ℕ) → RowOf (λ h. 4 * (w * h) ≤ length px) k → 4 * (w * k) + 4 * w ≤ length px
pixels_row px w k r = omega (arith, row_within w r.0 k r.1, r.2)

-- row k of samples is there, and can be written
module _ (samples : List Float) (w k : ℕ) (r : RowOf (λ h. (3 * (w * h) ≤ length samples) × (first_bright samples 0 (w * h) ≡ w * h)) k) where
  pub samples_row : 3 * (w * k) + 3 * w ≤ length samples
  samples_row = omega (arith, row_within w r.0 k r.1, r.2.0)

  pub samples_none : first_bright samples (3 * (w * k)) w ≡ w
  samples_none =
      let here : 0 + 3 * (w * k) ≡ 3 * (w * k) = omega arith in
      rw here at (none_part samples 0 (w * r.0) (w * k) w r.2.1 (row_within w r.0 k r.1))

-- ---- A loop over rows: those before row k are counted or stored

module _ (line : ℕ → List ℕ) (w : ℕ) where
  more_length : (k : ℕ) → length (rows_by line w (k + 1)) ≡ length (rows_by line w k) + length (written_row (line k) 0 w)
  unfolding rows_by
  more_length k = rw (add-one k) (length-append (rows_by line w k) (written_row (line k) 0 w))

  pub first_length : (k h : ℕ) → k ≤ h → length (rows_by line w k) ≤ length (rows_by line w h)
  first_length k zero l = let e : k ≡ 0 = omega arith in omega (arith, ap (λ (n : ℕ). length (rows_by line w n)) e)
  first_length k (suc h) l =
      ⊎_elim
      (λ m. omega (arith, first_length k h (omega arith), ap (λ (n : ℕ). length (rows_by line w n)) (add-one h), more_length h))
      (λ m. let e : k ≡ suc h = omega arith in omega (arith, ap (λ (n : ℕ). length (rows_by line w n)) e))
      (lt_or_ge k (suc h))

  pub count_start : 0 ≡ length (rows_by line w 0)
  unfolding rows_by
  count_start = refl

  pub store_start : (s : List ℕ) (to : ℕ) → (to ≡ to + length (rows_by line w 0)) × (s ≡ spread 1 s to (rows_by line w 0))
  unfolding rows_by spread
  store_start s to = (omega arith, refl)

  module _ (k h : ℕ) (l : k < h) where
    fit : length (rows_by line w k) + length (written_row (line k) 0 w) ≤ length (rows_by line w h)
    fit = omega (arith, more_length k, first_length (k + 1) h (omega arith))

    pub count_fits : (n r : ℕ) → n ≡ length (rows_by line w k) → r ≡ length (written_row (line k) 0 w) → length (rows_by line w h) ≤ 2 ^ 35 → n + r < 2 ^ 64
    count_fits n r en er most = omega (arith, fit)

    pub count_next : (n r : ℕ) → n ≡ length (rows_by line w k) → r ≡ length (written_row (line k) 0 w) → n + r ≡ length (rows_by line w (k + 1))
    count_next n r en er = omega (arith, more_length k)

    module _ (out out₀ : List ℕ) (o to : ℕ) (eo : o ≡ to + length (rows_by line w k)) (es : out ≡ spread 1 out₀ to (rows_by line w k)) where
      pub row_fits : to + length (rows_by line w h) ≤ length out₀ → o + length (written_row (line k) 0 w) ≤ length out
      row_fits room = omega (arith, fit, ap length es, length_spread 1 out₀ to (rows_by line w k))

      pub place_next : (o' : ℕ) → o' ≡ o + length (written_row (line k) 0 w) → o' ≡ to + length (rows_by line w (k + 1))
      place_next o' e = omega (arith, more_length k)

      pub store_next : (out' : List ℕ) → out' ≡ spread 1 out o (written_row (line k) 0 w) → out' ≡ spread 1 out₀ to (rows_by line w (k + 1))
      unfolding rows_by
      store_next out' e =
          e ∙ sym (spread_then out₀ out to o (rows_by line w k) (written_row (line k) 0 w) es eo) ∙ ap (λ (n : ℕ). spread 1 out₀ to (rows_by line w n)) (sym (add-one k))

-- ---- The same pixels, with another line

module _ {A B : Type 0} (C : A → ℕ → ℕ → Type 0) (r : A → ℕ → ℕ → List ℕ) (f : A → B) where
  pub kept_same : (x : A) → Kept C r f x x
  kept_same x = record { can = λ w h c. c; same = λ w k. refl; as_lent = refl }

  pub kept_again : (x y z : A) → Kept C r f x y → Kept C r f y z → Kept C r f x z
  kept_again x y z p q = record { can = λ w h c. q.can w h (p.can w h c); same = λ w k. q.same w k ∙ p.same w k; as_lent = q.as_lent ∙ p.as_lent }

rows_same : (line line' : ℕ → List ℕ) (w h : ℕ) → ((k : ℕ) → line k ≡ line' k) → rows_by line w h ≡ rows_by line' w h
unfolding rows_by
rows_same line line' w zero e = refl
rows_same line line' w (suc h) e = let rest = rows_same line line' w h e in let last = e h in cc

pub frame_same : (line line' : ℕ → List ℕ) (w h : ℕ) → ((k : ℕ) → line k ≡ line' k) → frame_by line w h ≡ frame_by line' w h
unfolding frame_by
frame_same line line' w h e = ap (λ (l : List ℕ). written w h ++ l) (rows_same line line' w h e)
