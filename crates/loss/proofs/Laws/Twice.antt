-- RULES 8.5 at one pixel: four bytes as they are written, that a reading gives back in their own steps, are written again as the same bytes.
use mathlib.Core.Path.{◌≡◌, refl, sym, ap, ◌∙◌, subst}
use mathlib.Core.Logic.{◌⊎◌, inl, inr, ⊎_elim}
use Prim.Native.Nat.{ℕ, ◌+◌, ◌-◌, ◌*◌, ◌/◌, ◌^◌, ◌≤◌, ◌<◌}
use native.Mathlib.Nat.{add-mul, one-mul, zero-mul, zero-div, le_trans, lt_of_le_of_lt, lt_of_lt_of_le, mul-le-mul_right, div-eq_of_lt-le}
use native.Mathlib.Omega.{arith}
use lib.Dec.{lit<, lit≤}
use lib.Pow.{pow_pos, pow_mono}
use lib.Ieee.{Float, size}
use lib.Ieee.Digits.{size-le}
use Rattle.steps.proofs.Laws.Order.{lt_or_ge}
use Rattle.steps.specs.declared.Reading.{Reading}
use Rattle.steps.specs.declared.Reading.TheVariants.{Crate, Document}
use Rattle.pixel.specs.declared.Pixel.{Pixel}
use Rattle.pixel.specs.declared.Rgbe.{Rgbe}
use Rattle.pixel.specs.Units.{of_units, mag}
use Rattle.pixel.specs.Rgbe.{units_of, pixel_of, peak, dark, black, byte_of, coded, bytes_of}
use Rattle.pixel.proofs.Laws.Numbers.{pow_pow}
use Rattle.pixel.proofs.Laws.Units.{exact_plain, mag_is, zero_exact}
use Rattle.pixel.proofs.Laws.Digits.{size_gt, size_is}
use Rattle.pixel.proofs.Laws.Bytes.{r_peak, g_peak, b_peak, peak_is, coded_bytes, black_bytes, by_step}
use Rattle.loss.specs.Kept.{step, half_step, zeros}
use Rattle.loss.specs.Written.{Fits}
use Rattle.loss.specs.Twice.{twice_range, comes_back, from_none, Shows, Twice}
use Rattle.loss.proofs.Laws.Scales.{doubled, halves, step_halves, crate_worth, doc_worth}
use Rattle.loss.proofs.Laws.Values.{sample_exact}
use Rattle.loss.proofs.Laws.Written.{last_byte, not_bright, written_fits, written_bytes}
use Rattle.loss.proofs.Laws.Kept.{Gives, black_back}

-- ---- A sample that is read lies in the step that its byte names: at the lower edge or in the middle

-- y lies in step m of those that are s long
record In (s m y : ℕ) : Type 0 where
  from : m * s ≤ y
  below : y < m * s + s

at_the_edge : (s m y : ℕ) → 0 < s → y ≡ m * s → In s m y
at_the_edge s m y h e = record { from = omega arith; below = omega arith }

in_the_middle : (s t m y : ℕ) → 0 < t → s ≡ 2 * t → y ≡ (2 * m + 1) * t → In s m y
in_the_middle s t m y h e is =
    let whole : m * s ≡ 2 * m * t = ap (λ (z : ℕ). m * z) e ∙ doubled m t in
    let odd : y ≡ 2 * m * t + t = is ∙ halves m t in
    record { from = omega arith; below = omega arith }

in_step : (reading : Reading) (m N : ℕ) → 22 ≤ N → Gives reading N → In (step N) m (units_of reading m (N - 21))
in_step Crate m N l g = at_the_edge (step N) m _ (pow_pos (N - 8)) (crate_worth m N g.0 g.1)
in_step Document m N l g = in_the_middle (step N) (half_step N) m _ (pow_pos (N - 9)) (step_halves N (omega arith)) (doc_worth m N l)

-- ---- What lies in step m has the byte m, and as many digits as the step has

module _ (N m y : ℕ) (l : 8 ≤ N) (i : In (step N) m y) where
  next : (m + 1) * step N ≡ m * step N + step N
  next = add-mul m 1 (step N) ∙ ap (λ (z : ℕ). m * step N + z) (one-mul (step N))

  in_byte : byte_of N y ≡ m
  in_byte = by_step y N l ∙ div-eq_of_lt-le (step N) i.from (subst (λ (z : ℕ). y < z) (sym next) i.below)

  in_below : m < 256 → y < 2 ^ N
  in_below h =
      lt_of_lt_of_le (subst (λ (z : ℕ). y < z) (sym next) i.below)
      (subst (λ (z : ℕ). (m + 1) * step N ≤ z) (pow_pow 8 (N - 8) N (omega arith)) (mul-le-mul_right (step N) (omega arith)))

  in_from : 128 ≤ m → 2 ^ (N - 1) ≤ y
  in_from h =
      le_trans (subst (λ (z : ℕ). z ≤ m * step N) (pow_pow 7 (N - 8) (N - 1) (omega arith)) (mul-le-mul_right (step N) h)) i.from

-- ---- Four bytes of which one is at least 128 are written again as they are

-- one of the first three is at least 128
abbrev Some : Rgbe → Type 0
Some q = (128 ≤ q.r) ⊎ ((128 ≤ q.g) ⊎ (128 ≤ q.b))

module _ (reading : Reading) (q : Rgbe) (N : ℕ) (l : 44 ≤ N) (gives : Gives reading N) (fits : Fits q) (last : q.e ≡ N - 21) where
  abbrev back : Pixel
  back = pixel_of (units_of reading) q

  lies : (m : ℕ) → m ≤ 255 → In (step N) m (mag (of_units (units_of reading m q.e)))
  lies m h =
      let exact = sample_exact reading m q.e (omega arith) (omega (arith, fits.e)) in
      subst (In (step N) m) (sym (mag_is _ _ exact ∙ ap (units_of reading m) last)) (in_step reading m N (omega arith) gives)

  back_below : peak back < 2 ^ N
  back_below = ⊎_elim (λ is. by _ fits.r is) (λ o. ⊎_elim (λ is. by _ fits.g is) (λ is. by _ fits.b is) o) (peak_is back)
    where
      by : (m : ℕ) → m ≤ 255 → peak back ≡ mag (of_units (units_of reading m q.e)) → peak back < 2 ^ N
      by m h is = subst (λ (v : ℕ). v < 2 ^ N) (sym is) (in_below N m _ (omega arith) (lies m h) (omega arith))

  back_from : Some q → 2 ^ (N - 1) ≤ peak back
  back_from =
      ⊎_elim (λ k. le_trans (by _ fits.r k) (r_peak back))
      (λ o. ⊎_elim (λ k. le_trans (by _ fits.g k) (g_peak back)) (λ k. le_trans (by _ fits.b k) (b_peak back)) o)
    where
      by : (m : ℕ) → m ≤ 255 → 128 ≤ m → 2 ^ (N - 1) ≤ mag (of_units (units_of reading m q.e))
      by m h k = in_from N m _ (omega arith) (lies m h) k

  same_byte : (m : ℕ) → m ≤ 255 → byte_of N (mag (of_units (units_of reading m q.e))) ≡ m
  same_byte m h = in_byte N m _ (omega arith) (lies m h)

  bytes_again : Some q → bytes_of back ≡ q
  bytes_again some =
      let from = back_from some in
      let light : dark < peak back = lt_of_lt_of_le (lit< {m = dark} {n = 2 ^ 43} tt) (le_trans (pow_mono {i = 43} {j = N - 1} (omega arith)) from) in
      coded_bytes back light ∙ ap (λ (d : ℕ). coded d back) (size_is (peak back) N from back_below)
      ∙ (λ i. record { r = same_byte q.r fits.r i; g = same_byte q.g fits.g i; b = same_byte q.b fits.b i; e = sym last i })

-- ---- A pixel whose largest lies in a reading's range

-- the part of it that is not written black
record Reach (reading : Reading) (v : ℕ) : Type 0 where
  low : 2 ^ 43 ≤ v
  high : v < 2 ^ 276
  gives : Gives reading (size v)

reach : (reading : Reading) (v : ℕ) → twice_range reading v → (v ≤ dark) ⊎ Reach reading v
reach Crate v =
    ⊎_elim inl (λ h. inr (record {
      low = le_trans (lit≤ {m = 2 ^ 43} {n = 2 ^ 117} tt) h.0;
      high = lt_of_lt_of_le h.1 (lit≤ {m = 2 ^ 180} {n = 2 ^ 276} tt);
      gives = (size_gt v 117 h.0, size-le v 180 h.1);
    }))
reach Document v = ⊎_elim inl (λ h. inr (record { low = h.0; high = h.1; gives = tt }))

-- such a pixel is not too bright
pub twice_below : (reading : Reading) (v : ℕ) → twice_range reading v → v < 2 ^ 276
twice_below reading v range = ⊎_elim (λ h. lt_of_le_of_lt h (lit< {m = dark} {n = 2 ^ 276} tt)) (λ r. r.high) (reach reading v range)

module _ (reading : Reading) (p : Pixel) where
  black_again : peak p ≤ dark → bytes_of (comes_back reading p) ≡ bytes_of p
  unfolding peak
  black_again h =
      let none : mag (of_units 0) ≡ 0 = mag_is _ _ zero_exact in
      ap bytes_of (black_back reading p h) ∙ black_bytes zeros (rw none (lit≤ tt)) ∙ sym (black_bytes p h)

  light_again : Reach reading (peak p) → bytes_of (comes_back reading p) ≡ bytes_of p
  light_again reaches =
      let N = size (peak p) in
      let low : 44 ≤ N = size_gt (peak p) 43 reaches.low in
      let light : dark < peak p = lt_of_lt_of_le (lit< {m = dark} {n = 2 ^ 43} tt) reaches.low in
      let last = last_byte p light in
      bytes_again reading (bytes_of p) N low reaches.gives (written_fits p (not_bright p reaches.high)) last
      (⊎_elim (λ is. absurd (not_black N (bytes_of p).e low last (ap (λ (q : Rgbe). q.e) is))) (λ w. w.0) (written_bytes p))
    where
      not_black : (N e : ℕ) → 44 ≤ N → e ≡ N - 21 → e ≡ 0 → ⊥
      not_black N e l is none = omega arith

  -- a sample that counts as 0 has the byte 0
  no_byte : (x : Float) (part : Rgbe → ℕ) → part black ≡ 0 → ((N : ℕ) → part (coded N p) ≡ byte_of N (mag x)) → mag x ≡ 0 → part (bytes_of p) ≡ 0
  no_byte x part dim lit is =
      ⊎_elim
      (λ l. let N = size (peak p) in ap part (coded_bytes p l) ∙ lit N ∙ ap (byte_of N) is ∙ ap (λ (n : ℕ). n / 2 ^ N) (zero-mul 256) ∙ zero-div (2 ^ N))
      (λ h. ap part (black_bytes p h) ∙ dim)
      (lt_or_ge dark (peak p))

  shows : Fits (bytes_of p) → (x : Float) (m : ℕ) → m ≤ 255 → (mag x ≡ 0 → m ≡ 0) → Shows (from_none reading (bytes_of p).e) x (of_units (units_of reading m (bytes_of p).e))
  shows fits x m h none =
      let n : ℕ = units_of reading m (bytes_of p).e in
      record {
        number = exact_plain (of_units n) n (sample_exact reading m (bytes_of p).e (omega arith) (omega (arith, fits.e)));
        nothing = λ is. ap (λ (k : ℕ). of_units (units_of reading k (bytes_of p).e)) (none is);
      }

  -- RULES 8.5 at a pixel
  pub written_twice : twice_range reading (peak p) → Twice reading p
  written_twice range =
      let fits = written_fits p (not_bright p (twice_below reading (peak p) range)) in
      record {
        bytes = ⊎_elim black_again light_again (reach reading (peak p) range);
        r = shows fits p.r (bytes_of p).r fits.r (no_byte p.r (λ q. q.r) refl (λ N. refl));
        g = shows fits p.g (bytes_of p).g fits.g (no_byte p.g (λ q. q.g) refl (λ N. refl));
        b = shows fits p.b (bytes_of p).b fits.b (no_byte p.b (λ q. q.b) refl (λ N. refl));
      }
