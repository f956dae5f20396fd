-- The laws of `specs/Stops.antt`.
use Rattle.std.proofs.Common.{◌≡◌, ℕ, zero, suc, ◌+◌, ◌-◌, ◌*◌, ◌%◌, ◌^◌, ◌<◌, ◌≤◌, max, Bool, true, false, ◌&&◌, ltb, leb, List, get_or, set, sym, refl, ◌∙◌, ⊎_elim, not-suc-le-zero, mul-le-mul_right, mul-lt-mul_of_pos_right, arith, pow_pos, eqb, eqb-true, ltb-true, leb-true}
use lib.Count.{count_leading_zeros}
use mathlib.Core.Bool.{false≢true}
use Rattle.steps.proofs.Laws.Order.{lt_or_ge}
use Rattle.steps.proofs.Laws.Turns.{and_left, and_right}
use Rattle.steps.specs.declared.Reading.TheVariants.{Document}
use Rattle.pixel.proofs.Laws.Numbers.{pow_pow}
use Rattle.pixel.specs.declared.Rgbe.{Rgbe}
use Rattle.pixel.specs.Rgbe.{rgbe_at}
use Rattle.light.specs.Light.{light_of, top_of, is_black}
use Rattle.light.proofs.Laws.Light.{top_none, top_some, light_is, black_test}
use Rattle.survey.specs.Stops.{digits, stop_of, stops_of}

-- ---- What holds of each byte, looked up

all : (ℕ → Bool) → ℕ → Bool
all p zero = true
all p (suc n) = p n && all p n

each : (p : ℕ → Bool) (n m : ℕ) → all p n ≡ true → m < n → p m ≡ true
unfolding all
each p zero m e h = absurd (not-suc-le-zero h)
each p (suc n) m e h = ⊎_elim (λ (less : m < n). each p n m (and_right (p n) (all p n) e) less) (λ (not-less : n ≤ m). here (omega arith)) (lt_or_ge m n)
  where
    here : m ≡ n → p m ≡ true
    here z = rw z (and_left (p n) (all p n) e)

abbrev counted : ℕ → Bool
counted m = eqb (8 - count_leading_zeros 8 m) (digits m)

all_counted : all counted 256 ≡ true
unfolding all digits count_leading_zeros
all_counted = refl

-- a byte has eight digits but for its leading zeros
pub digits_counted : (m : ℕ) → m < 256 → 8 - count_leading_zeros 8 m ≡ digits m
digits_counted m h = eqb-true (8 - count_leading_zeros 8 m) (digits m) (each counted 256 m all_counted h)

-- ---- One pixel more, and the rest

pub stops_next : (store counts w : List ℕ) (i n k : ℕ) (q : Rgbe) → stops_of store (4 * i) (n - i) counts ≡ w → i < n → q ≡ rgbe_at store (4 * i) → k ≡ stop_of q
    → stops_of store (4 * (i + 1)) (n - (i + 1)) (set counts k ((get_or counts k 0 + 1) % 2 ^ 64)) ≡ w
unfolding stops_of
stops_next store counts w i n k q e h eq ek =
    let left : n - i ≡ suc (n - (i + 1)) = omega arith in
    let place : 4 * (i + 1) ≡ 4 * i + 4 = omega arith in
    rw (place, ek, eq) (rw left at e)

pub stops_end : (store counts w : List ℕ) (i n : ℕ) → stops_of store (4 * i) (n - i) counts ≡ w → n ≤ i → counts ≡ w
unfolding stops_of
stops_end store counts w i n e h = let none : n - i ≡ 0 = omega arith in rw none at e

-- ---- The stop of light that is shown

pub stop_light : (q : Rgbe) → is_black Document q ≡ false → q.e + digits (max (max q.r q.g) q.b) ≡ stop_of q
unfolding stop_of
stop_light q t = simp t

-- ---- A stop is a power of two of the document's light

-- 2m + 1 has one binary digit more than m
abbrev fits : ℕ → Bool
fits m = leb (2 ^ digits m) (2 * m + 1) && ltb (2 * m + 1) (2 ^ (digits m + 1))

all_fit : all fits 256 ≡ true
unfolding all digits
all_fit = refl

-- light that is shown lies in the power of two of its stop: from 2^(stop - 137), which is 2^(stop + 12) times 2^-149, to below twice that
pub stop_power : (q : Rgbe) → is_black Document q ≡ false → q.r < 256 → q.g < 256 → q.b < 256 → (2 ^ (stop_of q + 12) ≤ light_of Document q) × (light_of Document q < 2 ^ (stop_of q + 13))
stop_power q t hr hg hb =
    let m : ℕ = max (max q.r q.g) q.b in
    let f = each fits 256 m all_fit (omega arith) in
    let low : 2 ^ digits m ≤ 2 * m + 1 = leb-true (2 ^ digits m) (2 * m + 1) (and_left (leb (2 ^ digits m) (2 * m + 1)) (ltb (2 * m + 1) (2 ^ (digits m + 1))) f) in
    let high : 2 * m + 1 < 2 ^ (digits m + 1) = ltb-true (2 * m + 1) (2 ^ (digits m + 1)) (and_right (leb (2 ^ digits m) (2 * m + 1)) (ltb (2 * m + 1) (2 ^ (digits m + 1))) f) in
    let stop : q.e + digits m ≡ stop_of q = stop_light q t in
    let one : digits m + (q.e + 12) ≡ stop_of q + 12 = omega arith in
    let two : digits m + 1 + (q.e + 12) ≡ stop_of q + 13 = omega arith in
    let dark : q.e ≡ 0 → ⊥ = λ z. false≢true (sym t ∙ sym (black_test Document q 0 (top_none Document q z))) in
    let top : 2 * m + 1 ≡ top_of Document q = top_some Document q (max q.r q.g) m (2 * m + 1) dark refl refl refl in
    let light : (2 * m + 1) * 2 ^ (q.e + 12) ≡ light_of Document q = rw top (light_is Document q) in
    rw (← light) (rw (← pow_pow (digits m) (q.e + 12) (stop_of q + 12) one) (mul-le-mul_right (2 ^ (q.e + 12)) low), rw (← pow_pow (digits m + 1) (q.e + 12) (stop_of q + 13) two) (mul-lt-mul_of_pos_right high (pow_pos (q.e + 12))))
