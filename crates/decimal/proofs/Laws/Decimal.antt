-- The laws of `specs/Decimal.antt`.
use Prim.Native.Nat.{ℕ, zero, suc, ◌+◌, ◌-◌, ◌*◌, ◌/◌, ◌%◌, ◌^◌, ◌<◌, ◌≤◌, min}
use mathlib.Core.List.{List, ◌++◌, append-nil, append_assoc}
use mathlib.Core.Logic.{◌⊎◌, inl, inr, ⊎_elim}
use mathlib.Core.Path.{◌≡◌, refl, sym, ap, ◌∙◌}
use native.Mathlib.Nat.{pow-succ', mul_assoc, mul_comm, eq_of_mul-eq-mul_right, div-lt_iff_lt-mul, zero-mul}
use native.Mathlib.Numerals.{add-one}
use native.Mathlib.Omega.{arith}
use lib.ListN.{length, take, set}
use lib.Seq.{take-suc-set, take-length}
use lib.Pow.{pow_pos, pow-add}
use Rattle.std.specs.Int.{w64, trailing_zeros, bit_at}
use Rattle.std.proofs.lemmas.Nat.{mod-pow-add, shr_split}
use Rattle.std.proofs.lemmas.Nat.Bits.{bit_at-trailing_zeros}
use Rattle.steps.proofs.Laws.Order.{lt_or_ge}
use Rattle.decimal.specs.Decimal.{Reduced, decimals_of}

-- a power taken from both
pub reduced_by : (m j t : ℕ) → t ≤ j → (j - t ≡ 0) ⊎ (m / 2 ^ t % 2 ≡ 1) → m / 2 ^ t * 2 ^ t ≡ m → Reduced m j (m / 2 ^ t) (j - t)
reduced_by m j t h l e =
    let d : ℕ = j - t in
    let power : j ≡ t + d = omega arith in
    record {
      same = ap (λ (i : ℕ). m / 2 ^ t * 2 ^ i) power ∙ ap (λ (p : ℕ). m / 2 ^ t * p) (pow-add 2 t d) ∙ sym (mul_assoc (m / 2 ^ t) (2 ^ t) (2 ^ d)) ∙ ap (λ (x : ℕ). x * 2 ^ d) e;
      within = omega arith;
      least = l;
    }

-- below its lowest 1 a number has nothing
zeros_below : (m t : ℕ) → ((i : ℕ) → i < t → bit_at m i ≡ 0) → m % 2 ^ t ≡ 0
zeros_below m zero h = omega arith
zeros_below m (suc t) h =
    let here : m / 2 ^ t % 2 ≡ 0 = h t (omega arith) in
    let rest = zeros_below m t (λ i l. h i (omega arith)) in
    let one : suc t ≡ 1 + t = omega arith in
    ap (λ (k : ℕ). m % 2 ^ k) one ∙ mod-pow-add m 1 t ∙ rw (here, rest, zero-mul) refl

pub reduced_twos : (m j t : ℕ) → 0 < m → m < 2 ^ 64 → t ≡ min (trailing_zeros w64 m) j → Reduced m j (m / 2 ^ t) (j - t)
reduced_twos m j t some fits e =
    let z = bit_at-trailing_zeros w64 m some fits in
    let below : m % 2 ^ t ≡ 0 = zeros_below m t (λ i l. z.2 i (omega arith)) in
    reduced_by m j t (omega arith)
    (⊎_elim (λ l. inr (lowest l)) (λ l. inl (omega arith)) (lt_or_ge t j))
    (let s = shr_split m t in omega arith)
  where
    lowest : t < j → m / 2 ^ t % 2 ≡ 1
    lowest l =
        let whole : t ≡ trailing_zeros w64 m = omega arith in
        rw whole (bit_at-trailing_zeros w64 m some fits).1

-- ---- There is one answer

-- where another answer has a greater power, its number is even
greater_even : (m j n k n' k' : ℕ) → n * 2 ^ j ≡ m * 2 ^ k → n' * 2 ^ j ≡ m * 2 ^ k' → k < k' → n' % 2 ≡ 0
greater_even m j n k n' k' e e' h =
    let d : ℕ = k' - (k + 1) in
    let power : k' ≡ k + suc d = omega arith in
    let more : n' * 2 ^ j ≡ n * 2 ^ j * (2 * 2 ^ d) = e' ∙ ap (λ (i : ℕ). m * 2 ^ i) power ∙ ap (λ (p : ℕ). m * p) (pow-add 2 k (suc d)) ∙ sym (mul_assoc m (2 ^ k) (2 ^ suc d)) ∙ ap (λ (x : ℕ). x * 2 ^ suc d) (sym e) ∙ ap (λ (p : ℕ). n * 2 ^ j * p) (pow-succ' 2 d) in
    let twice : n' ≡ 2 * (n * 2 ^ d) = eq_of_mul-eq-mul_right (2 ^ j) (pow_pos j) n' (2 * (n * 2 ^ d)) (more ∙ turned n (2 ^ j) (2 ^ d)) in
    omega (arith, twice)
  where
    turned : (a p q : ℕ) → a * p * (2 * q) ≡ 2 * (a * q) * p
    turned a p q =
        let two : a * (2 * q) ≡ 2 * (a * q) = omega arith in
        mul_assoc a p (2 * q) ∙ ap (λ (x : ℕ). a * x) (mul_comm p (2 * q)) ∙ sym (mul_assoc a (2 * q) p) ∙ ap (λ (x : ℕ). x * p) two

-- an answer has no greater power than another
not_greater : (m j n k n' k' : ℕ) → Reduced m j n k → Reduced m j n' k' → k < k' → ⊥
not_greater m j n k n' k' R R' h =
    let even = greater_even m j n k n' k' R.same R'.same h in
    ⊎_elim (λ z. omega arith) (λ odd. omega arith) R'.least

-- two answers that meet the promise are equal
pub reduced_once : (m j n k n' k' : ℕ) → Reduced m j n k → Reduced m j n' k' → (n ≡ n') × (k ≡ k')
reduced_once m j n k n' k' R R' =
    let least : k' < k → ⊥ = not_greater m j n' k' n k R' R in
    let most : k < k' → ⊥ = not_greater m j n k n' k' R R' in
    let power : k ≡ k' = omega arith in
    (eq_of_mul-eq-mul_right (2 ^ j) (pow_pos j) n n' (R.same ∙ ap (λ (i : ℕ). m * 2 ^ i) power ∙ sym R'.same), power)

-- ---- Decimals

-- a decimal is a digit
pub digit_most : (rest unit : ℕ) → rest < unit → 10 * rest / unit ≤ 9
digit_most rest unit h =
    let k : 0 < unit = omega arith in
    let l : 10 * rest < 10 * unit = omega arith in
    omega (arith, (div-lt_iff_lt-mul k).1 l)

-- one decimal more, and the rest
pub decimal_next : (out w : List ℕ) (i n rest unit : ℕ) → take i out ++ decimals_of rest unit (n - i) ≡ w → length out ≡ n → i < n
    → take (i + 1) (set out i (48 + 10 * rest / unit)) ++ decimals_of (10 * rest % unit) unit (n - (i + 1)) ≡ w
unfolding decimals_of
decimal_next out w i n rest unit e l h =
    let k : n - i ≡ suc (n - suc i) = omega arith in
    let within : i < length out = omega arith in
    rw (add-one, take-suc-set, append_assoc) (rw k at e)

pub decimal_end : (out w : List ℕ) (i n rest unit : ℕ) → take i out ++ decimals_of rest unit (n - i) ≡ w → length out ≡ n → i ≤ n → n ≤ i → out ≡ w
unfolding decimals_of
decimal_end out w i n rest unit e l h g =
    let k : n - i ≡ 0 = omega arith in
    let all : i ≡ length out = omega arith in
    rw (k, append-nil, all, take-length) at e
