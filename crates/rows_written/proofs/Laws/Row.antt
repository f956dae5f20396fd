-- The laws of `specs/Row.antt`: the two kinds of row, and their sizes.
use mathlib.Core.Path.{◌≡◌, refl, ap, ◌∙◌}
use mathlib.Core.Bool.{true, false}
use mathlib.Core.List.{List}
use Prim.Native.Nat.{ℕ, zero, suc, ◌+◌, ◌*◌, ◌<◌}
use native.Mathlib.Omega.{arith}
use lib.ListN.{length, get_or, length-append}
use Rattle.steps.specs.Place.{bytes_from}
use Rattle.steps.proofs.Laws.Place.{length_bytes}
use Rattle.channels_written.specs.Channel.{code, channel}
use Rattle.rows_written.specs.Row.{coded_row, written_row}
use Rattle.steps.specs.Width.{is_coded}

-- ---- the two kinds of row

pub row_coded : (px : List ℕ) (at w : ℕ) → is_coded w ≡ true → written_row px at w ≡ coded_row px at w
unfolding written_row
row_coded px at w e = rw (e, written_row)

pub row_flat : (px : List ℕ) (at w : ℕ) → is_coded w ≡ false → written_row px at w ≡ bytes_from px at (4 * w)
unfolding written_row
row_flat px at w e = rw (e, written_row)

pub flat_size : (px : List ℕ) (at w : ℕ) → is_coded w ≡ false → length (written_row px at w) ≡ 4 * w
flat_size px at w e = ap length (row_flat px at w e) ∙ length_bytes px at (4 * w)

pub coded_size : (px : List ℕ) (at w : ℕ)
    → length (coded_row px at w) ≡ 4 + (length (code (channel px at w)) + (length (code (channel px (at + 1) w)) + (length (code (channel px (at + 2) w)) + length (code (channel px (at + 3) w)))))
unfolding coded_row
coded_size px at w = simp length-append (omega arith)

-- ---- a row depends on its own bytes alone

channel_same : (px qx : List ℕ) (i j n : ℕ) → ((k : ℕ) → k < n → get_or px (i + 4 * k) 0 ≡ get_or qx (j + 4 * k) 0) → channel px i n ≡ channel qx j n
channel_same px qx i j zero same = refl
channel_same px qx i j (suc n) same =
    let head : get_or px i 0 ≡ get_or qx j 0 = ap (λ (a : ℕ). get_or px a 0) (omega arith) ∙ same 0 (omega arith) ∙ ap (λ (a : ℕ). get_or qx a 0) (omega arith) in
    let rest : channel px (i + 4) n ≡ channel qx (j + 4) n = channel_same px qx (i + 4) (j + 4) n
    (λ k h. ap (λ (a : ℕ). get_or px a 0) (omega arith) ∙ same (suc k) (omega arith) ∙ ap (λ (a : ℕ). get_or qx a 0) (omega arith)) in
    cc

bytes_same : (px qx : List ℕ) (i j n : ℕ) → ((k : ℕ) → k < n → get_or px (i + k) 0 ≡ get_or qx (j + k) 0) → bytes_from px i n ≡ bytes_from qx j n
unfolding bytes_from
bytes_same px qx i j zero same = refl
bytes_same px qx i j (suc n) same =
    let head : get_or px i 0 ≡ get_or qx j 0 = ap (λ (a : ℕ). get_or px a 0) (omega arith) ∙ same 0 (omega arith) ∙ ap (λ (a : ℕ). get_or qx a 0) (omega arith) in
    let rest : bytes_from px (i + 1) n ≡ bytes_from qx (j + 1) n = bytes_same px qx (i + 1) (j + 1) n
    (λ k h. ap (λ (a : ℕ). get_or px a 0) (omega arith) ∙ same (suc k) (omega arith) ∙ ap (λ (a : ℕ). get_or qx a 0) (omega arith)) in
    cc

module _ (px qx : List ℕ) (i j w : ℕ) (same : (k : ℕ) → k < 4 * w → get_or px (i + k) 0 ≡ get_or qx (j + k) 0) where
  code_same : (c : ℕ) → c < 4 → code (channel px (i + c) w) ≡ code (channel qx (j + c) w)
  code_same c l =
      ap code (channel_same px qx (i + c) (j + c) w
      (λ k h. ap (λ (a : ℕ). get_or px a 0) (omega arith) ∙ same (c + 4 * k) (omega arith) ∙ ap (λ (a : ℕ). get_or qx a 0) (omega arith)))

  first_same : code (channel px i w) ≡ code (channel qx j w)
  first_same = ap (λ (a : ℕ). code (channel px a w)) (omega arith) ∙ code_same 0 (omega arith) ∙ ap (λ (a : ℕ). code (channel qx a w)) (omega arith)

  pub row_same : written_row px i w ≡ written_row qx j w
  unfolding written_row coded_row
  row_same = cc (bytes_same px qx i j (4 * w) same, first_same, code_same 1 (omega arith), code_same 2 (omega arith), code_same 3 (omega arith))
