-- The laws that proofs use of `specs/Hex.antt`.
use Prim.Native.Nat.{ℕ, suc, ◌+◌, ◌-◌, ◌*◌, ◌/◌, ◌%◌, ◌^◌, ◌<◌, ◌≤◌}
use mathlib.Core.Bool.{Bool, true, false, not, ◌||◌, false≢true}
use mathlib.Core.List.{List, [], ◌∷◌}
use mathlib.Core.Path.{◌≡◌, refl, sym, ap, subst, ◌∙◌}
use native.Mathlib.Nat.{lt_of_lt_of_le, le_trans, le_of_eq, mul-le-mul_left, mul-le-mul_right, mul_assoc, mul-div-le, mul-zero, mul-one, mul-add, sub-zero, min-le_left, add-sub_cancel_left, pow-le-pow_right, pow-succ'}
use native.Mathlib.Omega.{arith}
use borrow.Author.Tests.{eq-eqb, ne_eqb, le-ltb, lt-ltb}
use lib.Dec.{T, eqb}
use lib.Ieee.{Float, nan, inf, fin, binary32, of_bits, nan_bits, is_nan, div}
use lib.Ieee.Bits.{nan_bits_above, nan_bits_is}
use lib.ListN.{length, set, take, drop, length-take}
use lib.Seq.{drop-drop}
use Rattle.std.proofs.Common.{Option, Some, None}
use Rattle.steps.specs.Loop.{pick}
use Rattle.steps.specs.Place.{spread}
use Rattle.hexadecimal.specs.Digits.{worth, numeral_from}
use Rattle.hexadecimal.specs.Hex.{is_dash, count_of, first_then, values_of, stored, read_by}
use Rattle.hexadecimal.proofs.Laws.Digits.{worth_small}

-- ---- How large a value is

-- one digit more, of a number whose rest is below its own bound
step : (n w p v : ℕ) → w < 16 → v < (n * 16 + w + 1) * p → v < (n + 1) * (16 * p)
step n w p v h l =
    let more : n * 16 + w + 1 ≤ (n + 1) * 16 = omega arith in
    lt_of_lt_of_le l (le_trans (mul-le-mul_right p more) (le_of_eq (mul_assoc (n + 1) 16 p)))

bound : (n : ℕ) (bs : List ℕ) (b : ℕ) → numeral_from n bs ≡ Some b → b < (n + 1) * 16 ^ length bs
unfolding numeral_from
bound n [] b e = let is : n ≡ b = cc in omega arith
bound n (c ∷ bs) b e = rw pow-succ' (by (worth c) refl e (λ w. bound (n * 16 + w) bs b))
  where
    by : (t : Option ℕ) → worth c ≡ t → elim t [ Some w ↦ numeral_from (n * 16 + w) bs | None ↦ None ] ≡ Some b → ((w : ℕ) → numeral_from (n * 16 + w) bs ≡ Some b → b < (n * 16 + w + 1) * 16 ^ length bs) → b < (n + 1) * (16 * 16 ^ length bs)
    by (Some w) t e rest = step n w (16 ^ length bs) b (worth_small c w t) (rest w e)
    by None t e rest = absurd (let y : ◌≡◌ {A = ℕ} 0 1 = cc in omega arith)

-- at most so many bytes are taken
short : (n : ℕ) (bs : List ℕ) → length (take n bs) ≤ n
short n bs = le_trans (le_of_eq (length-take n bs)) (min-le_left n (length bs))

-- the value of the digits that the code takes for the k-th
module _ (digits : ℕ) (field : List ℕ) (k : ℕ) (r : Option ℕ) (e : r ≡ numeral_from 0 (take (digits * k + digits - digits * k) (drop (digits * k) field))) where
  value_is : numeral_from 0 (take digits (drop (digits * k) field)) ≡ r
  value_is = ap (λ (n : ℕ). numeral_from 0 (take n (drop (digits * k) field))) (sym (add-sub_cancel_left (digits * k) digits)) ∙ sym e

  pub value_small : (b : ℕ) → r ≡ Some b → b < 16 ^ digits
  value_small b is =
      let part = take digits (drop (digits * k) field) in
      let under : b < 16 ^ length part = omega (arith, bound 0 part b (value_is ∙ is)) in
      lt_of_lt_of_le under (pow-le-pow_right {n = 16} (omega arith) {i = length part} {j = digits} (short digits (drop (digits * k) field)))

-- ---- Value after value

-- there is room for what a field counts
module _ (digits : ℕ) (field : List ℕ) (r : Option ℕ) (e : r ≡ count_of digits field) (n : ℕ) (is : r ≡ Some n) where
  pub count_room : digits * n ≤ length field
  unfolding count_of
  count_room = by (is_dash field) (eqb (length field) 0 || not (eqb (length field % digits) 0)) (sym e ∙ is)
    where
      by : (t u : Bool) → pick t (Some 0) (pick u None (Some (length field / digits))) ≡ Some n → digits * n ≤ length field
      by true u h = let z : 0 ≡ n = cc in rw (← z) (omega arith)
      by false true h = absurd (let y : ◌≡◌ {A = ℕ} 0 1 = cc in omega arith)
      by false false h = let z : length field / digits ≡ n = cc in rw (← z) (mul-div-le (length field) digits)

-- and for the digits of each
pub turn_room : (digits n k : ℕ) → k < n → digits * k + digits ≤ digits * n
turn_room digits n k h =
    let next : k + 1 ≤ n = omega arith in
    le_trans (le_of_eq (rw (mul-add, mul-one))) (mul-le-mul_left digits next)

-- after k of n values, what is left, stored, gives what was to be stored, and makes up its number
abbrev pub left_of : {A : Type 0} → (ℕ → A) → ℕ → List ℕ → ℕ → ℕ → List A
left_of value digits field n k = values_of value digits (n - k) (drop (digits * k) field)

abbrev pub Reads : {A : Type 0} → (ℕ → A) → ℕ → List ℕ → ℕ → List A → ℕ → List A → Type 0
Reads value digits field n lent₀ k lent =
    (spread 1 lent k (left_of value digits field n k) ≡ spread 1 lent₀ 0 (values_of value digits n field))
    × (k + length (left_of value digits field n k) ≡ length (values_of value digits n field))

module _ {A : Type 0} (value : ℕ → A) (digits : ℕ) (field : List ℕ) where
  pub reads_first : (n : ℕ) (lent : List A) → Reads value digits field n lent 0 lent
  reads_first n lent = rw (sub-zero, mul-zero) (refl, omega arith)

  -- the next value, by its digits
  module _ (n : ℕ) (lent lent₀ : List A) (k : ℕ) (h : k < n) (R : Reads value digits field n lent₀ k lent) (r : Option ℕ)
      (e : r ≡ numeral_from 0 (take (digits * k + digits - digits * k) (drop (digits * k) field))) where
    next : left_of value digits field n k ≡ first_then value r (left_of value digits field n (k + 1))
    unfolding values_of
    next =
        let turn : n - k ≡ suc (n - (k + 1)) = omega arith in
        let place : drop digits (drop (digits * k) field) ≡ drop (digits * (k + 1)) field = drop-drop digits (digits * k) field ∙ rw (mul-add, mul-one) in
        rw turn (rw (value_is digits field k r e, place))

    pub reads_more : (b : ℕ) (v : A) → r ≡ Some b → v ≡ value b → Reads value digits field n lent₀ (k + 1) (set lent k v)
    unfolding spread
    reads_more b v is ev =
        let here : left_of value digits field n k ≡ value b ∷ left_of value digits field n (k + 1) = next ∙ rw is in
        (rw ev (sym (ap (spread 1 lent k) here) ∙ R.0), omega (arith, ap length here, R.1))

    pub reads_none : r ≡ None → n ≤ length lent₀ → (None, lent) ≡ stored n (values_of value digits n field) lent₀
    unfolding spread stored
    reads_none is room =
        let here : left_of value digits field n k ≡ [] = next ∙ rw is in
        let fewer : length (values_of value digits n field) ≡ n → ⊥ = λ z. omega (arith, ap length here, R.1, z) in
        simp (le-ltb (length lent₀) n room, ne_eqb (length (values_of value digits n field)) n fewer)
        (ap (λ (s : List A). (None, s)) (sym (ap (spread 1 lent k) here) ∙ R.0))

  pub reads_all : (n : ℕ) (lent lent₀ : List A) (k : ℕ) → Reads value digits field n lent₀ k lent → n ≤ k → k ≤ n → n ≤ length lent₀ → (Some n, lent) ≡ stored n (values_of value digits n field) lent₀
  unfolding spread stored values_of
  reads_all n lent lent₀ k R h l room =
      let none : n - k ≡ 0 = omega arith in
      let here : left_of value digits field n k ≡ [] = rw none in
      let all : length (values_of value digits n field) ≡ n = omega (arith, ap length here, R.1) in
      simp (le-ltb (length lent₀) n room, eq-eqb (length (values_of value digits n field)) n all)
      (ap (λ (s : List A). (Some n, s)) (sym (ap (spread 1 lent k) here) ∙ R.0))

  -- the count says which case it is
  module _ (lent : List A) (s : Option ℕ) (e : s ≡ count_of digits field) (n : ℕ) (is : s ≡ Some n) where
    pub read_short : length lent < n → (None, lent) ≡ read_by value digits field lent (count_of digits field)
    unfolding stored
    read_short h = simp (lt-ltb (length lent) n h) at (ap (read_by value digits field lent) (sym is ∙ e))

    pub read_counted : (a : Option ℕ × List A) → a ≡ stored n (values_of value digits n field) lent → a ≡ read_by value digits field lent (count_of digits field)
    read_counted a h = h ∙ ap (read_by value digits field lent) (sym is ∙ e)

-- ---- Samples

is_nan_lem : (x : Float) → is_nan x ≡ true → nan ≡ x
unfolding is_nan
is_nan_lem nan e = refl
is_nan_lem (inf s) e = absurd (false≢true e)
is_nan_lem (fin s m d) e = absurd (false≢true e)

zeros : div binary32 (of_bits binary32 0) (of_bits binary32 0) ≡ nan
unfolding div of_bits
zeros = refl

-- a pattern above that of infinity is no number's, and 0 / 0 is none
pub pattern_nan : (b : ℕ) → 2139095040 < b % 2147483648 → div binary32 (of_bits binary32 0) (of_bits binary32 0) ≡ of_bits binary32 b
pattern_nan b h = zeros ∙ is_nan_lem (of_bits binary32 b) (sym (nan_bits_is binary32 b) ∙ nan_bits_above binary32 b ∙ lt-ltb 2139095040 (b % 2147483648) h)

pub pattern_number : (b : ℕ) → b % 2147483648 ≤ 2139095040 → T (not (nan_bits binary32 b))
pattern_number b h = subst (λ (t : Bool). T (not t)) (sym (nan_bits_above binary32 b ∙ le-ltb 2139095040 (b % 2147483648) h)) tt
