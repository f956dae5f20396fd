-- The worst length is reached: by pixels 1,1,1 and 2.5,2.5,2.5 in turn, at every width and height.
use Prim.Native.Nat.{ℕ, zero, suc, ◌+◌, ◌*◌, ◌<◌, ◌≤◌}
use mathlib.Core.Bool.{false, ◌||◌}
use mathlib.Core.List.{List, [], ◌∷◌, ◌++◌, append_assoc}
use mathlib.Core.Path.{◌≡◌, refl, sym, ap, ◌∙◌}
use native.Mathlib.Nat.{mul_comm, suc-mul, zero-mul, add-zero, zero-add, suc-add, add_comm}
use native.Mathlib.Omega.{arith}
use borrow.Author.Tests.{ne_eqb, le-ltb, eq-eqb}
use lib.ListN.{length, get_or, length-append}
use lib.Seq.{get_or-append-add}
use lib.Dec.{ltb}
use lib.Ieee.{Float, nan, size}
use Rattle.steps.specs.Answer.{done, refuse}
use Rattle.steps.proofs.Laws.Answer.{Passed, pass}
use Rattle.pixel.specs.declared.Pixel.{Pixel}
use Rattle.pixel.specs.Units.{mag}
use Rattle.pixel.specs.Rgbe.{peak, too_bright, bytes_of}
use Rattle.header.specs.Written.{written}
use Rattle.rows_written.specs.Row.{written_row, worst_row}
use Rattle.rows_written.proofs.Laws.Worst.{pixels, row_reached}
use Rattle.frames_written.specs.Samples.{pixel_at, four, packed, first_bright}
use Rattle.frames_written.specs.Frame.{written_rows, frame_of, worst_of, file_of}
use Rattle.writer.specs.Write.{frame_checks, bright_checked, length_of}
use Rattle.kept.specs.Longest.{one, two_and_a_half, in_turn, checkered}

-- ---- Pixels in turn

-- p and q change places n times
after : {A : Type 0} → ℕ → A → A → A
after zero p q = p
after (suc n) p q = after n q p

length_pixels : (p q : List ℕ) (n : ℕ) → length p ≡ 4 → length q ≡ 4 → length (pixels p q n) ≡ 4 * n
length_pixels p q zero a b = refl
length_pixels p q (suc n) a b = omega (arith, length-append p (pixels q p n), length_pixels q p n b a)

pixels_split : (p q : List ℕ) (n m : ℕ) → pixels p q (n + m) ≡ pixels p q n ++ pixels (after n p q) (after n q p) m
unfolding after
pixels_split p q zero m = ap (pixels p q) (zero-add m)
pixels_split p q (suc n) m =
    ap (pixels p q) (suc-add n m) ∙ ap (λ (l : List ℕ). p ++ l) (pixels_split q p n m) ∙ sym (append_assoc p (pixels q p n) (pixels (after n q p) (after n p q) m))

-- two lists of four bytes, all of which differ
record Unlike (p q : List ℕ) : Type 0 where
  first : length p ≡ 4
  second : length q ≡ 4
  differ : (k : ℕ) → k < 4 → get_or p k 0 ≡ get_or q k 0 → ⊥

swapped : (p q : List ℕ) → Unlike p q → Unlike q p
swapped p q u = record { first = u.second; second = u.first; differ = λ k l e. u.differ k l (sym e) }

unlike_after : (n : ℕ) (p q : List ℕ) → Unlike p q → Unlike (after n p q) (after n q p)
unfolding after
unlike_after zero p q u = u
unlike_after (suc n) p q u = unlike_after n q p (swapped p q u)

-- ---- Every row is as long as a row can be

rows_reached : (h w : ℕ) (p q pre : List ℕ) → Unlike p q → length (written_rows (pre ++ pixels p q (h * w)) (length pre) w h) ≡ h * worst_row w
unfolding written_rows
rows_reached zero w p q pre u = sym (zero-mul (worst_row w))
rows_reached (suc h) w p q pre u =
    let row : List ℕ = pixels p q w in
    let rest : List ℕ = pixels (after w p q) (after w q p) (h * w) in
    let split : pre ++ pixels p q (suc h * w) ≡ pre ++ (row ++ rest) =
    ap (λ (l : List ℕ). pre ++ l) (ap (pixels p q) (suc-mul h w ∙ add_comm (h * w) w) ∙ pixels_split p q w (h * w)) in
    let place : length pre + 4 * w ≡ length (pre ++ row) = omega (arith, length-append pre row, length_pixels p q w u.first u.second) in
    let next : length (written_rows ((pre ++ row) ++ rest) (length (pre ++ row)) w h) ≡ h * worst_row w = rows_reached h w (after w p q) (after w q p) (pre ++ row) (unlike_after w p q u) in
    let moved : length (written_rows (pre ++ (row ++ rest)) (length pre + 4 * w) w h) ≡ h * worst_row w = rw (place, ← append_assoc pre row rest) next in
    let here : length (written_row (pre ++ (row ++ rest)) (length pre) w) ≡ worst_row w = row_reached p q pre rest w u.first u.second u.differ in
    ap (λ (l : List ℕ). length (written_row l (length pre) w ++ written_rows l (length pre + 4 * w) w h)) split
    ∙ length-append (written_row (pre ++ (row ++ rest)) (length pre) w) (written_rows (pre ++ (row ++ rest)) (length pre + 4 * w) w h)
    ∙ omega (arith, here, moved, suc-mul h (worst_row w))

-- ---- The samples as four-byte pixels

abbrev trio : Float → Pixel
trio x = record { r = x; g = x; b = x }

pixel_there : (x y : Float) (pre : List Float) (n : ℕ) → pixel_at (pre ++ in_turn x y (suc n)) (length pre) ≡ trio x
unfolding in_turn
pixel_there x y pre n =
    let at : (k : ℕ) → get_or (pre ++ in_turn x y (suc n)) (length pre + k) nan ≡ get_or (in_turn x y (suc n)) k nan = λ k. get_or-append-add pre (in_turn x y (suc n)) k nan in
    let zeroth : get_or (pre ++ in_turn x y (suc n)) (length pre) nan ≡ x = ap (λ (i : ℕ). get_or (pre ++ in_turn x y (suc n)) i nan) (sym (add-zero (length pre))) ∙ at 0 in
    λ i. record { r = zeroth i; g = at 1 i; b = at 2 i }

shifted : (x y : Float) (pre : List Float) (n : ℕ) → pre ++ in_turn x y (suc n) ≡ (pre ++ (x ∷ x ∷ x ∷ [])) ++ in_turn y x n
unfolding in_turn
shifted x y pre n = sym (append_assoc pre (x ∷ x ∷ x ∷ []) (in_turn y x n))

longer : (x : Float) (pre : List Float) → length pre + 3 ≡ length (pre ++ (x ∷ x ∷ x ∷ []))
longer x pre = sym (length-append pre (x ∷ x ∷ x ∷ []))

abbrev bytes : Float → List ℕ
bytes x = four (bytes_of (trio x)) []

packed_turn : (n : ℕ) (x y : Float) (pre : List Float) → packed (pre ++ in_turn x y n) (length pre) n ≡ pixels (bytes x) (bytes y) n
unfolding packed
packed_turn zero x y pre = refl
packed_turn (suc n) x y pre =
    let rest : packed (pre ++ in_turn x y (suc n)) (length pre + 3) n ≡ pixels (bytes y) (bytes x) n = rw (longer x pre, shifted x y pre n) (packed_turn n y x (pre ++ (x ∷ x ∷ x ∷ []))) in
    ap (λ (p : Pixel). four (bytes_of p) (packed (pre ++ in_turn x y (suc n)) (length pre + 3) n)) (pixel_there x y pre n) ∙ ap (λ (l : List ℕ). bytes x ++ l) rest

none_bright : (n : ℕ) (x y : Float) (pre : List Float) → too_bright (trio x) ≡ false → too_bright (trio y) ≡ false → first_bright (pre ++ in_turn x y n) (length pre) n ≡ n
unfolding first_bright
none_bright zero x y pre ex ey = refl
none_bright (suc n) x y pre ex ey =
    let not : too_bright (pixel_at (pre ++ in_turn x y (suc n)) (length pre)) ≡ false = ap too_bright (pixel_there x y pre n) ∙ ex in
    let rest : first_bright (pre ++ in_turn x y (suc n)) (length pre + 3) n ≡ n = rw (longer x pre, shifted x y pre n) (none_bright n y x (pre ++ (x ∷ x ∷ x ∷ [])) ey ex) in
    rw (first_bright, not) (ap suc rest)

length_turn : (n : ℕ) (x y : Float) → length (in_turn x y n) ≡ 3 * n
unfolding in_turn
length_turn zero x y = refl
length_turn (suc n) x y = omega (arith, length_turn n y x)

-- ---- The frame

-- the bytes of 1,1,1 and of 2.5,2.5,2.5
abbrev dim : List ℕ
dim = 128 ∷ 128 ∷ 128 ∷ 129 ∷ []

abbrev lit : List ℕ
lit = 160 ∷ 160 ∷ 160 ∷ 130 ∷ []

dim_bytes : bytes one ≡ dim
unfolding bytes_of peak mag size
dim_bytes = refl

lit_bytes : bytes two_and_a_half ≡ lit
unfolding bytes_of peak mag size
lit_bytes = refl

dim_fits : too_bright (trio one) ≡ false
unfolding too_bright peak mag
dim_fits = refl

lit_fits : too_bright (trio two_and_a_half) ≡ false
unfolding too_bright peak mag
lit_fits = refl

unlike : Unlike dim lit
unlike = record { first = refl; second = refl; differ = apart }
  where
    apart : (k : ℕ) → k < 4 → get_or dim k 0 ≡ get_or lit k 0 → ⊥
    apart zero l e = omega arith
    apart (suc zero) l e = omega arith
    apart (suc (suc zero)) l e = omega arith
    apart (suc (suc (suc zero))) l e = omega arith
    apart (suc (suc (suc (suc k)))) l e = omega arith

module _ (w h : ℕ) (some : 0 < w) (wide : w ≤ 65535) (high : h ≤ 65535) where
  file_reached : length (file_of (checkered w h) w h) ≡ worst_of w h
  unfolding frame_of worst_of
  file_reached =
      let bytes-are : packed (checkered w h) 0 (w * h) ≡ pixels dim lit (h * w) =
      packed_turn (w * h) one two_and_a_half [] ∙ rw (dim_bytes, lit_bytes) (ap (pixels dim lit) (mul_comm w h)) in
      length-append (written w h) (written_rows (packed (checkered w h) 0 (w * h)) 0 w h)
      ∙ ap (λ (n : ℕ). length (written w h) + n) (rw bytes-are (rows_reached h w dim lit [] unlike))

  checks_pass : Passed (frame_checks w h (length (checkered w h)) 3)
  checks_pass =
      let no : w ≡ 0 → ⊥ = λ e. omega arith in
      let over : (ltb 65535 w || ltb 65535 h) ≡ false = simp (le-ltb 65535 w wide, le-ltb 65535 h high) in
      (ne_eqb w 0 no, (over, (simp (eq-eqb (length (checkered w h)) (3 * (w * h)) (length_turn (w * h) one two_and_a_half)), tt)))

  -- at every width from 1 and every height some frame reaches the worst length
  pub reached : length_of w h (checkered w h) ≡ done (worst_of w h)
  unfolding length_of bright_checked
  reached =
      let none : first_bright (checkered w h) 0 (w * h) ≡ w * h = none_bright (w * h) one two_and_a_half [] dim_fits lit_fits in
      pass refuse (frame_checks w h (length (checkered w h)) 3) _ checks_pass
      ∙ simp (none, le-ltb (w * h) (w * h) (omega arith)) (ap done file_reached)
