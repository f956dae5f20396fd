-- `pixel::word_of` meets its contract: where the largest is coded, its count of binary digits keeps every byte in range.
use mathlib.Core.Path.{◌≡◌, refl, sym, ap, ◌∙◌, subst}
use Prim.Native.Nat.{ℕ, ◌+◌, ◌-◌, ◌*◌, ◌^◌, ◌≤◌, ◌<◌}
use native.Mathlib.Nat.{lt_of_le_of_lt}
use native.Mathlib.Omega.{arith}
use lib.Dec.{T, ltb, lit<}
use lib.Ieee.{Float, binary32, of_bits, lt, fits, size}
use lib.Ieee.Digits.{size-lt, size-le}
use denote.Floats.{passes}
use borrow.Author.Tests.{ltb-true, ltb-false}
use Rattle.pixel.specs.declared.Pixel.{Pixel}
use Rattle.pixel.specs.declared.Rgbe.{Rgbe}
use Rattle.pixel.specs.Units.{mag}
use Rattle.pixel.specs.Rgbe.{peak, dark, coded}
use Rattle.pixel.specs.Inner.{AsWord}
use Rattle.pixel.proofs.Laws.Digits.{size_low}
use Rattle.pixel.proofs.Laws.Limits.{above_dark}
use Rattle.pixel.proofs.Laws.Bytes.{r_peak, g_peak, b_peak, coded_bytes, black_bytes}
use Rattle.pixel.proofs.word_of.Goals as goal

-- what is known where the pixel is not black
record Known (p : Pixel) (digits : ℕ) : Type 0 where
  is : digits ≡ size (peak p)
  low : 43 ≤ digits
  high : digits ≤ 276
  under : (n : ℕ) → n ≤ peak p → n < 2 ^ digits

known : (p : Pixel) (d : ℕ) → d ≡ size (peak p) → dark < peak p → peak p < 2 ^ 276 → Known p d
known p d is l h = record {
  is = is;
  low = subst (λ (z : ℕ). 43 ≤ z) (sym is) (size_low (peak p) l);
  high = subst (λ (z : ℕ). z ≤ 276) (sym is) (size-le (peak p) 276 h);
  under = λ n k. subst (λ (z : ℕ). n < 2 ^ z) (sym is) (lt_of_le_of_lt k (size-lt (peak p)));
}

-- the test of the code, of the largest
tested : (v : Float) (p : Pixel) → T (fits binary32 v) → mag v ≡ peak p → lt (of_bits binary32 0x0a4f_b11f) v ≡ ltb dark (peak p)
tested v p number is = above_dark v number ∙ ap (ltb dark) is

above : (c : goal.Then-v) → dark < peak c.args.p
above c = ltb-true dark (peak c.args.p) (sym (tested c.largest-v.result c.args.p (passes _ c.largest-v.type_inv) c.largest-v.ensures.1) ∙ c.if-v.true)

here : (c : goal.After-digits_of-digits) → Known c.args.p c.digits_of-digits.result
here c = known c.args.p c.digits_of-digits.result (c.digits_of-digits.ensures ∙ ap size c.largest-v.ensures.1) (above c.before) c.requires

-- the last byte
last : (c : goal.After-byte_of-b) → (21 ≤ c.digits_of-digits.result) × (c.digits_of-digits.result - 21 < 256)
last c = let k = here c.before.before.before in (enough _ k.low, a_byte _ k.high)
  where
    enough : (d : ℕ) → 43 ≤ d → 21 ≤ d
    enough d h = omega arith

    a_byte : (d : ℕ) → d ≤ 276 → d - 21 < 256
    a_byte d h = omega arith

pub digits_of-digits-requires : goal.digits_of-digits-requires
digits_of-digits-requires c =
    let is = sym c.largest-v.ensures.1 in
    record { fact_1 = c.largest-v.ensures.0; fact_2 = subst (λ (n : ℕ). dark < n) is (above c); fact_3 = subst (λ (n : ℕ). n < 2 ^ 276) is c.requires }

pub byte_of-r-requires : goal.byte_of-r-requires
byte_of-r-requires c = let k = here c in record { fact_1 = k.low; fact_2 = k.high; fact_3 = k.under _ (r_peak _) }

pub byte_of-g-requires : goal.byte_of-g-requires
byte_of-g-requires c = let k = here c.before in record { fact_1 = k.low; fact_2 = k.high; fact_3 = k.under _ (g_peak _) }

pub byte_of-b-requires : goal.byte_of-b-requires
byte_of-b-requires c = let k = here c.before.before in record { fact_1 = k.low; fact_2 = k.high; fact_3 = k.under _ (b_peak _) }

pub overflow_sub-result : goal.overflow_sub-result
overflow_sub-result c = (last c).0

pub overflow_mul-result-then-v-2 : goal.overflow_mul-result-then-v-2
overflow_mul-result-then-v-2 c = record { fits = short _ (last c).1 }
  where
    short : (e : ℕ) → e < 256 → e * 16777216 < 2 ^ 32
    short e h = omega arith

pub overflow_add-result-then-v-2 : goal.overflow_add-result-then-v-2
overflow_add-result-then-v-2 c = record { fits = short _ _ _ _ c.byte_of-r.ensures.0 c.byte_of-g.ensures.0 c.byte_of-b.ensures.0 (last c).1 }
  where
    short : (r g b e : ℕ) → r < 256 → g < 256 → b < 256 → e < 256 → r + g * 256 + b * 65536 + e * 16777216 < 2 ^ 32
    short r g b e hr hg hb he = omega arith

pub returns-then-v : goal.returns-then-v
returns-then-v c =
    let p = c.args.p in
    let d = c.digits_of-digits.result in
    let r = c.byte_of-r in
    let g = c.byte_of-g in
    let b = c.byte_of-b in
    subst (λ (q : Rgbe). AsWord q (r.result + g.result * 256 + b.result * 65536 + (d - 21) * 16777216))
    ((λ i. record { r = r.ensures.1 i; g = g.ensures.1 i; b = b.ensures.1 i; e = d - 21 })
    ∙ ap (λ (d : ℕ). coded d p) (here c.before.before.before).is
    ∙ sym (coded_bytes p (above c.before.before.before.before)))
    (r.ensures.0, g.ensures.0, b.ensures.0, (last c).1, refl)

pub returns-else-v : goal.returns-else-v
returns-else-v c =
    let p = c.args.p in
    subst (λ (q : Rgbe). AsWord q 0) (sym (black_bytes p (ltb-false dark (peak p) (sym (tested c.largest-v.result p (passes _ c.largest-v.type_inv) c.largest-v.ensures.1) ∙ c.if-v.false))))
    (lit< tt, lit< tt, lit< tt, lit< tt, refl)
