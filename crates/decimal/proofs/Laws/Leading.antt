-- The laws of `specs/Leading.antt` and `specs/Inner.antt`.
use Prim.Native.Nat.{ℕ, zero, suc, ◌+◌, ◌-◌, ◌*◌, ◌/◌, ◌%◌, ◌^◌, ◌<◌, ◌≤◌}
use mathlib.Core.List.{List, [], ◌∷◌, ◌++◌, append-nil, append_assoc}
use mathlib.Core.Path.{◌≡◌, refl, sym, ap, ◌∙◌}
use native.Mathlib.Nat.{not-suc-le-zero, zero-add, add-zero, mul-zero, mul-one, mul_assoc, pow-zero, pow-suc, pow-succ', div-div-eq-div-mul, div-eq_of_lt, lt_of_le_of_lt, le_trans, le_of_lt, mul-le-mul_left, mul-le-mul_right, pow-le-pow_right}
use native.Mathlib.Numerals.{add-one}
use native.Mathlib.Omega.{arith}
use lib.Dec.{lit<}
use lib.ListN.{length, get_or, take, drop, set, drop_of_length-le}
use lib.Seq.{drop-cons, drop-set-lt, drop-length, take-length, take-suc-set}
use Rattle.steps.specs.Place.{spread}
use Rattle.steps.proofs.Laws.Place.{spread_front}
use Rattle.decimal.specs.Leading.{Short}
use Rattle.decimal.specs.Inner.{digits_of, carried}

-- ---- Digits times b, and c more

-- of the digits of n they are those of n times b, and c more
split : (b c q r n : ℕ) → n ≡ 10 * q + r → n * b + c ≡ 10 * (q * b) + (r * b + c)
split b c q r n e = rw e (omega arith)

pub carried_digits : (b c k n : ℕ) → carried b c (digits_of k n) ≡ digits_of k (n * b + c)
unfolding carried digits_of
carried_digits b c zero n = refl
carried_digits b c (suc k) n =
    let s = split b c (n / 10) (n % 10) n (omega arith) in
    let x : ℕ = n / 10 * b in
    let y : ℕ = n % 10 * b + c in
    let low : y % 10 ≡ (n * b + c) % 10 = rw s (omega arith) in
    let high : x + y / 10 ≡ (n * b + c) / 10 = rw s (omega arith) in
    rw (carried_digits b (y / 10) k (n / 10)) (rw (low, high))

-- nothing times, and c more
pub carried_none : (c : ℕ) (ds : List ℕ) → carried 0 c ds ≡ digits_of (length ds) c
unfolding carried digits_of
carried_none c [] = refl
carried_none c (d ∷ ds) = rw (mul-zero, zero-add) (rw (carried_none (c / 10) ds))

-- ---- Stored one by one

length_carried : (b c : ℕ) (ds : List ℕ) → length (carried b c ds) ≡ length ds
unfolding carried
length_carried b c [] = refl
length_carried b c (d ∷ ds) = ap suc (length_carried b ((d * b + c) / 10) ds)

pub carry_start : (b c : ℕ) (ds : List ℕ) → spread 1 ds 0 (carried b c (drop 0 ds)) ≡ carried b c ds
carry_start b c ds =
    let n = length_carried b c ds in
    spread_front ds (carried b c ds) (omega arith) ∙ ap (λ (k : ℕ). carried b c ds ++ drop k ds) n ∙ ap (λ (l : List ℕ). carried b c ds ++ l) (drop-length ds) ∙ append-nil (carried b c ds)

pub carry_next : (ds w : List ℕ) (i b c d L : ℕ) → take i ds ++ carried b c (drop i ds) ≡ w → length ds ≡ L → i < L → d ≡ get_or ds i 0
    → take (i + 1) (set ds i ((d * b + c) % 10)) ++ carried b ((d * b + c) / 10) (drop (i + 1) (set ds i ((d * b + c) % 10))) ≡ w
unfolding carried
carry_next ds w i b c d L e l h ed =
    let within : i < length ds = omega arith in
    let below : i < suc i = omega arith in
    rw (add-one, take-suc-set, append_assoc, drop-set-lt) (rw ed (rw (drop-cons ds i 0) at e))

pub carry_end : (ds w : List ℕ) (i b c L : ℕ) → take i ds ++ carried b c (drop i ds) ≡ w → length ds ≡ L → i ≤ L → L ≤ i → ds ≡ w
unfolding carried
carry_end ds w i b c L e l h g =
    let all : i ≡ length ds = omega arith in
    let past : length ds ≤ i = omega arith in
    rw (drop_of_length-le ds past, append-nil, all, take-length) at e

-- ---- A power

pub power_none : (m b : ℕ) (lent ds : List ℕ) → length lent ≡ 112 → ds ≡ carried 0 m lent → ds ≡ digits_of 112 (m * b ^ 0)
power_none m b lent ds len e = rw (pow-zero, mul-one) (e ∙ carried_none m lent ∙ ap (λ (L : ℕ). digits_of L m) len)

pub power_more : (m b k : ℕ) (ds ds' : List ℕ) → ds ≡ digits_of 112 (m * b ^ k) → ds' ≡ carried b 0 ds → ds' ≡ digits_of 112 (m * b ^ (k + 1))
power_more m b k ds ds' e es = rw (es, e) (carried_digits b 0 112 (m * b ^ k) ∙ ap (digits_of 112) (rw (add-zero, add-one, pow-suc, mul_assoc) refl))

-- ---- The first digits, from the highest down

digit_at : (k n i : ℕ) → i < k → get_or (digits_of k n) i 0 ≡ n / 10 ^ i % 10
unfolding digits_of
digit_at zero n i h = absurd (not-suc-le-zero h)
digit_at (suc k) n zero h = omega arith
digit_at (suc k) n (suc i) h = digit_at k (n / 10) i (omega arith) ∙ ap (λ (z : ℕ). z % 10) (div-div-eq-div-mul n 10 (10 ^ i) ∙ rw pow-succ')

-- the number of 112 digits from place i on
pub record From (ds : List ℕ) (lead i : ℕ) : Type 0 where
  pub each : (n : ℕ) → ds ≡ digits_of 112 n → Short n → (lead ≡ n / 10 ^ i) × (lead < 1000000000)

none_above : (n : ℕ) → Short n → n / 10 ^ 112 ≡ 0
unfolding Short
none_above n h = div-eq_of_lt h

pub from_none : (ds : List ℕ) → From ds 0 112
from_none ds = record { each = λ n e h. (sym (none_above n h), lit< tt) }

pub from_more : (ds : List ℕ) (lead lead' i : ℕ) → From ds lead i → 0 < i → i ≤ 112 → lead < 100000000 → lead' ≡ lead * 10 + get_or ds (i - 1) 0 → From ds lead' (i - 1)
from_more ds lead lead' zero f h l few is = absurd (not-suc-le-zero h)
from_more ds lead lead' (suc i) f h l few is = record { each = λ n e b. this n e (f.each n e b) }
  where
    step : (q d : ℕ) → lead ≡ q / 10 → d ≡ q % 10 → lead' ≡ lead * 10 + d → (lead' ≡ q) × (lead' < 1000000000)
    step q d a b c = (omega arith, omega arith)

    this : (n : ℕ) → ds ≡ digits_of 112 n → (lead ≡ n / 10 ^ suc i) × (lead < 1000000000) → (lead' ≡ n / 10 ^ (suc i - 1)) × (lead' < 1000000000)
    this n e a =
        let z : suc i - 1 ≡ i = omega arith in
        let digit : get_or ds i 0 ≡ n / 10 ^ i % 10 = ap (λ (l : List ℕ). get_or l i 0) e ∙ digit_at 112 n i l in
        let high : lead ≡ n / 10 ^ i / 10 = a.0 ∙ rw pow-suc (sym (div-div-eq-div-mul n (10 ^ i) 10)) in
        rw z (step (n / 10 ^ i) (get_or ds i 0) high digit (rw z at is))

-- ---- What has at most 112 digits

short : (m b j most : ℕ) → 0 < b → m < 16777216 → j ≤ most → 16777216 * b ^ most < 10 ^ 112 → Short (m * b ^ j)
unfolding Short
short m b j most some h k low = lt_of_le_of_lt (le_trans (mul-le-mul_right (b ^ j) (le_of_lt h)) (mul-le-mul_left 16777216 (pow-le-pow_right some k))) low

pub short_fifths : (m j : ℕ) → m < 16777216 → j ≤ 149 → Short (m * 5 ^ j)
short_fifths m j h k = short m 5 j 149 (lit< tt) h k (lit< tt)

pub short_doubles : (m j : ℕ) → m < 16777216 → j ≤ 118 → Short (m * 2 ^ j)
short_doubles m j h k = short m 2 j 118 (lit< tt) h k (lit< tt)
