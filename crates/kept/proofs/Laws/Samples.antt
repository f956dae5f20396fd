-- The samples of bytes that are packed or stored, and the bytes of samples: pixel k of the one is pixel k of the other.
use Prim.Native.Nat.{ℕ, zero, suc, ◌+◌, ◌*◌, ◌<◌, ◌≤◌}
use mathlib.Core.List.{List, [], ◌++◌}
use mathlib.Core.Path.{◌≡◌, refl, sym, ap, ◌∙◌}
use native.Mathlib.Nat.{not-suc-le-zero, add-zero}
use native.Mathlib.Omega.{arith}
use lib.Dec.{lit<}
use lib.Ieee.{Float, nan}
use lib.ListN.{length, get_or, drop, get_or-append}
use lib.Seq.{get_or-append-add}
use Rattle.steps.specs.Place.{bytes_from, spread}
use Rattle.steps.proofs.Laws.Place.{spread_front, get_or_bytes, length_bytes}
use Rattle.pixel.specs.declared.Pixel.{Pixel}
use Rattle.pixel.specs.declared.Rgbe.{Rgbe}
use Rattle.pixel.specs.Rgbe.{bytes_of, rgbe_at}
use Rattle.reader.specs.Samples.{SampleRule, three}
use Rattle.reader.specs.Inner.{samples_from}
use Rattle.frames_written.specs.Samples.{pixel_at, four, packed}

-- ---- Bytes that agree

rgbe_same : (xs ys : List ℕ) (i j : ℕ) → ((k : ℕ) → k < 4 → get_or xs (i + k) 0 ≡ get_or ys (j + k) 0) → rgbe_at xs i ≡ rgbe_at ys j
rgbe_same xs ys i j same =
    let r : get_or xs i 0 ≡ get_or ys j 0 = simp add-zero at (same 0 (lit< tt)) in
    λ t. record { r = r t; g = same 1 (lit< tt) t; b = same 2 (lit< tt) t; e = same 3 (lit< tt) t }

module _ (rule : SampleRule) where
  samples_same : (xs ys : List ℕ) (i j n : ℕ) → ((k : ℕ) → k < 4 * n → get_or xs (i + k) 0 ≡ get_or ys (j + k) 0) → samples_from rule xs i n ≡ samples_from rule ys j n
  unfolding samples_from
  samples_same xs ys i j zero same = refl
  samples_same xs ys i j (suc n) same =
      let first = rgbe_same xs ys i j (λ k l. same k (omega arith)) in
      let past : (a k : ℕ) → a + 4 + k ≡ a + (4 + k) = λ a k. omega arith in
      let others = samples_same xs ys (i + 4) (j + 4) n
      (λ k l. ap (λ (p : ℕ). get_or xs p 0) (past i k) ∙ same (4 + k) (omega arith) ∙ ap (λ (p : ℕ). get_or ys p 0) (sym (past j k))) in
      λ t. three (rule (first t)) (others t)

  -- the samples of a row store into which a row was stored are those of the row
  pub samples_stored : (px store : List ℕ) (p w : ℕ) → 4 * w ≤ length store → samples_from rule (spread 1 store 0 (bytes_from px p (4 * w))) 0 w ≡ samples_from rule px p w
  samples_stored px store p w room =
      let row : List ℕ = bytes_from px p (4 * w) in
      let long = length_bytes px p (4 * w) in
      let front = spread_front store row (omega arith) in
      let there : (k : ℕ) → k < 4 * w → get_or (spread 1 store 0 row) (0 + k) 0 ≡ get_or px (p + k) 0 =
      λ k l. ap (λ (s : List ℕ). get_or s (0 + k) 0) front ∙ get_or-append row (drop (length row) store) 0 (0 + k) (omega arith)
      ∙ ap (λ (i : ℕ). get_or row i 0) (omega arith) ∙ get_or_bytes px p (4 * w) k l in
      samples_same (spread 1 store 0 row) px 0 p w there

  pub length_samples : (xs : List ℕ) (i n : ℕ) → length (samples_from rule xs i n) ≡ 3 * n
  unfolding samples_from
  length_samples xs i zero = refl
  length_samples xs i (suc n) = let others = length_samples xs (i + 4) n in omega arith

  -- those of m pixels, and then those of n
  pub samples_append : (xs : List ℕ) (i m n : ℕ) → samples_from rule xs i (m + n) ≡ samples_from rule xs i m ++ samples_from rule xs (i + 4 * m) n
  unfolding samples_from
  samples_append xs i zero n =
      let none : 0 + n ≡ n = omega arith in
      let here : i + 4 * 0 ≡ i = omega arith in
      rw (none, here)
  samples_append xs i (suc m) n =
      let one : suc m + n ≡ suc (m + n) = omega arith in
      let past : i + 4 + 4 * m ≡ i + 4 * suc m = omega arith in
      ap (samples_from rule xs i) one
      ∙ ap (three (rule (rgbe_at xs i))) (samples_append xs (i + 4) m n ∙ ap (λ (k : ℕ). samples_from rule xs (i + 4) m ++ samples_from rule xs k n) past)

-- ---- Pixel k

-- a pixel stands before the others
pixel_next : (p : Pixel) (rest : List Float) (k : ℕ) → pixel_at (three p rest) (3 * suc k) ≡ pixel_at rest (3 * k)
pixel_next p rest k = λ t. record { r = at (3 * suc k) (3 * k) (omega arith) t; g = at (3 * suc k + 1) (3 * k + 1) (omega arith) t; b = at (3 * suc k + 2) (3 * k + 2) (omega arith) t }
  where
    at : (i j : ℕ) → i ≡ 3 + j → get_or (three p rest) i nan ≡ get_or rest j nan
    at i j e = ap (λ (n : ℕ). get_or (three p rest) n nan) e ∙ get_or-append-add (three p []) rest j nan

rgbe_next : (q : Rgbe) (rest : List ℕ) (k : ℕ) → rgbe_at (four q rest) (4 * suc k) ≡ rgbe_at rest (4 * k)
rgbe_next q rest k =
    let past : (i : ℕ) → 4 * suc k + i ≡ 4 + (4 * k + i) = λ i. omega arith in
    rgbe_same (four q rest) rest (4 * suc k) (4 * k) (λ i l. ap (λ (n : ℕ). get_or (four q rest) n 0) (past i) ∙ get_or-append-add (four q []) rest (4 * k + i) 0)

module _ (rule : SampleRule) (xs : List ℕ) (tail : List Float) where
  -- of the samples of n pixels
  pub pixel_of_samples : (i n k : ℕ) → k < n → pixel_at (samples_from rule xs i n ++ tail) (3 * k) ≡ rule (rgbe_at xs (i + 4 * k))
  unfolding samples_from
  pixel_of_samples i zero k h = absurd (not-suc-le-zero h)
  pixel_of_samples i (suc n) zero h = ap (λ (j : ℕ). rule (rgbe_at xs j)) (omega arith)
  pixel_of_samples i (suc n) (suc k) h =
      let past : i + 4 + 4 * k ≡ i + 4 * suc k = omega arith in
      pixel_next (rule (rgbe_at xs i)) (samples_from rule xs (i + 4) n ++ tail) k
      ∙ pixel_of_samples (i + 4) n k (omega arith) ∙ ap (λ (j : ℕ). rule (rgbe_at xs j)) past

-- of the bytes of n pixels
pub bytes_of_pixel : (samples : List Float) (i n k : ℕ) → k < n → rgbe_at (packed samples i n) (4 * k) ≡ bytes_of (pixel_at samples (i + 3 * k))
unfolding packed
bytes_of_pixel samples i zero k h = absurd (not-suc-le-zero h)
bytes_of_pixel samples i (suc n) zero h = ap (λ (j : ℕ). bytes_of (pixel_at samples j)) (omega arith)
bytes_of_pixel samples i (suc n) (suc k) h =
    let past : i + 3 + 3 * k ≡ i + 3 * suc k = omega arith in
    rgbe_next (bytes_of (pixel_at samples i)) (packed samples (i + 3) n) k
    ∙ bytes_of_pixel samples (i + 3) n k (omega arith) ∙ ap (λ (j : ℕ). bytes_of (pixel_at samples j)) past
