-- The four bytes of a pixel, over any three samples: none is over 255 where check 12 passes; black, or one of three is at least 128 and the last at least 22; and not 1,1,1.
use mathlib.Core.Bool.{false}
use mathlib.Core.Path.{◌≡◌, sym, ap, ◌∙◌, subst}
use mathlib.Core.Logic.{⊎_elim, inl, inr}
use Prim.Native.Nat.{ℕ, ◌+◌, ◌-◌, ◌^◌, ◌≤◌, ◌<◌}
use native.Mathlib.Nat.{le_trans, lt_of_le_of_lt, le-div_iff_mul-le}
use native.Mathlib.Omega.{arith}
use borrow.Author.Tests.{le-leb, lt-leb, lt-ltb, le-ltb, ltb-false}
use lib.Dec.{ltb, lit<, lit≤}
use lib.Pow.{pow_pos, pow-add}
use lib.Ieee.{size}
use lib.Ieee.Digits.{size-lt, size-le, size_reaches}
use Rattle.steps.proofs.Laws.Order.{lt_or_ge}
use Rattle.pixel.specs.declared.Pixel.{Pixel}
use Rattle.pixel.specs.declared.Rgbe.{Rgbe}
use Rattle.pixel.specs.Rgbe.{peak, dark, byte_of, coded, too_bright, bytes_of}
use Rattle.loss.specs.Written.{Fits, Written, Ones}
use Rattle.pixel.proofs.Laws.Digits.{size_gt, size_low}
use Rattle.pixel.proofs.Laws.Bytes.{r_peak, g_peak, b_peak, peak_is, coded_bytes, black_bytes, by_step, byte_lt}

-- ---- The last byte

pub last_byte : (p : Pixel) → dark < peak p → (bytes_of p).e ≡ size (peak p) - 21
last_byte p l = ap (λ (q : Rgbe). q.e) (coded_bytes p l)

-- check 12 is that it would be over 255
pub bright_is_over : (p : Pixel) → too_bright p ≡ ltb 255 (bytes_of p).e
unfolding too_bright
bright_is_over p =
    ⊎_elim
    (λ l. ⊎_elim
    (λ h. lt-leb (2 ^ 276) (peak p) h ∙ sym (le-ltb 255 (bytes_of p).e (omega (arith, last_byte p l, size-le (peak p) 276 h))))
    (λ h. le-leb (2 ^ 276) (peak p) h ∙ sym (lt-ltb 255 (bytes_of p).e (omega (arith, last_byte p l, size_gt (peak p) 276 h))))
    (lt_or_ge (peak p) (2 ^ 276)))
    (λ l. lt-leb (2 ^ 276) (peak p) (lt_of_le_of_lt l (lit< tt)) ∙ sym (le-ltb 255 (bytes_of p).e (omega (arith, ap (λ (q : Rgbe). q.e) (black_bytes p l)))))
    (lt_or_ge dark (peak p))

pub not_bright : (p : Pixel) → peak p < 2 ^ 276 → too_bright p ≡ false
unfolding too_bright
not_bright p h = lt-leb (2 ^ 276) (peak p) h

-- ---- No byte is over 255

coded_byte : (p : Pixel) (n : ℕ) → n ≤ peak p → byte_of (size (peak p)) n ≤ 255
coded_byte p n h = omega (arith, byte_lt n (size (peak p)) (lt_of_le_of_lt h (size-lt (peak p))))

pub written_fits : (p : Pixel) → too_bright p ≡ false → Fits (bytes_of p)
written_fits p e =
    ⊎_elim
    (λ l. let is = sym (coded_bytes p l) in record {
      r = subst (λ (q : Rgbe). q.r ≤ 255) is (coded_byte p _ (r_peak p));
      g = subst (λ (q : Rgbe). q.g ≤ 255) is (coded_byte p _ (g_peak p));
      b = subst (λ (q : Rgbe). q.b ≤ 255) is (coded_byte p _ (b_peak p));
      e = last;
    })
    (λ l. subst Fits (sym (black_bytes p l)) (record { r = lit≤ tt; g = lit≤ tt; b = lit≤ tt; e = lit≤ tt }))
    (lt_or_ge dark (peak p))
  where
    last : (bytes_of p).e ≤ 255
    last = ltb-false 255 (bytes_of p).e (sym (bright_is_over p) ∙ e)

-- ---- Black, or one of the three is at least 128

-- the byte of the largest
peak_byte : (n : ℕ) → 8 ≤ size n → 128 ≤ byte_of (size n) n
peak_byte n h =
    subst (λ (z : ℕ). 128 ≤ z) (sym (by_step n (size n) h))
    ((le-div_iff_mul-le (pow_pos (size n - 8))).1 (subst (λ (z : ℕ). z ≤ n) (pow-add 2 7 (size n - 8)) (size_reaches n (7 + (size n - 8)) (omega arith))))

coded_written : (p : Pixel) (N : ℕ) → 43 ≤ N → 128 ≤ byte_of N (peak p) → Written (coded N p)
coded_written p N l top =
    let high : (n : ℕ) → peak p ≡ n → 128 ≤ byte_of N n = λ n e. subst (λ (z : ℕ). 128 ≤ byte_of N z) e top in
    inr (⊎_elim (λ e. inl (high _ e)) (λ w. inr (⊎_elim (λ e. inl (high _ e)) (λ e. inr (high _ e)) w)) (peak_is p), omega arith)

pub written_bytes : (p : Pixel) → Written (bytes_of p)
written_bytes p = ⊎_elim (λ l. subst Written (sym (coded_bytes p l)) (light l)) (λ l. inl (black_bytes p l)) (lt_or_ge dark (peak p))
  where
    light : dark < peak p → Written (coded (size (peak p)) p)
    light l =
        let low = size_low (peak p) l in
        coded_written p (size (peak p)) low (peak_byte (peak p) (le_trans (lit≤ {m = 8} {n = 43} tt) low))

-- ---- No pixel starts 1,1,1: black is 0,0,0, and of any other one byte is at least 128

no_ones : (q : Rgbe) → Written q → Ones q → ⊥
no_ones q w o =
    ⊎_elim (λ e. none _ o.r (ap (λ (q : Rgbe). q.r) e))
    (λ h. ⊎_elim (λ r. high _ r o.r) (λ w. ⊎_elim (λ g. high _ g o.g) (λ b. high _ b o.b) w) h.0) w
  where
    none : (x : ℕ) → x ≡ 1 → x ≡ 0 → ⊥
    none x e f = omega arith

    high : (x : ℕ) → 128 ≤ x → x ≡ 1 → ⊥
    high x l e = omega arith

pub written_no_ones : (p : Pixel) → Ones (bytes_of p) → ⊥
written_no_ones p = no_ones (bytes_of p) (written_bytes p)
