-- The laws that proofs use of `specs/Exposure.antt`.
use mathlib.Core.Path.{◌≡◌, refl, sym, ap, ◌∙◌, subst}
use mathlib.Core.Bool.{Bool, true, false, cond, ◌&&◌, ◌||◌}
use mathlib.Core.List.{List, [], ◌∷◌, ◌++◌}
use Prim.Native.Nat.pow
use Prim.Native.Nat.{ℕ, zero, suc, ◌+◌, ◌-◌, ◌*◌, ◌^◌, ◌≤◌, ◌<◌}
use native.Mathlib.Nat.{mul-one, zero-mul, one-mul, lt_of_lt_of_le, lt_of_le_of_lt, le_trans, le_of_eq, mul-le-mul_left, mul-lt-mul_of_pos_right}
use native.Mathlib.Omega.{arith}
use borrow.Author.Tests.{eq-eqb, ne_eqb, le-leb, lt-leb, lt-ltb, leb-true}
use lib.Dec.{eqb, leb, ltb, lit<, lit≤}
use lib.Pow.{pow-add, pow_pos}
use lib.Ieee.{Float, size}
use lib.ListN.{length, get_or, take, drop, length-append, length-drop}
use lib.Seq.{take_all}
use Rattle.std.specs.Prelude.{Option, Some, None, unwrap_or, position}
use Rattle.std.specs.List.{position_from}
use Rattle.std.proofs.lemmas.Iterator.Adapters.{position_from-zero}
use Rattle.steps.specs.Loop.{pick}
use Rattle.steps.proofs.Laws.Turns.{by_test, and_left, and_right}
use Rattle.pixel.specs.Units.{of_units}
use Rattle.pixel.proofs.Laws.Numbers.{mul_pow_pow}
use Rattle.words.specs.Sizes.{all_digits, value_from, is_number, number_from}
use Rattle.words.proofs.Laws.Sizes.{no_number, append_number, append_none, digits_below}
use Rattle.stated.specs.Rounded.{nearest_whole, nearest_units, usable}
use Rattle.stated.specs.Exposure.{ahead, is_few, power_by, power_of, units, unread, scaled_units, digit_units, point_units, exposure_of}
use Rattle.stated.specs.Inner.{few_number, usable_factor, factor_of}
use Rattle.stated.specs.declared.number.Power.{Power}
use Rattle.stated.specs.declared.number.Power.TheVariants.{Raised, Lowered}
use Rattle.stated.proofs.Laws.Rounded.{nearest_same}

-- ---- Ahead of the first of two bytes

-- what the library's search tells
ahead_from : (x y i : ℕ) (part : List ℕ) → unwrap_or (position_from (λ b. eqb b x || eqb b y) i part) (i + length part) ≡ i + ahead x y part
unfolding ahead
ahead_from x y i [] = refl
ahead_from x y i (b ∷ bs) = go (eqb b x || eqb b y) (position_from (λ b. eqb b x || eqb b y) (i + 1) bs) (ahead_from x y (i + 1) bs)
  where
    go : (t : Bool) (r : Option ℕ) → unwrap_or r (i + 1 + length bs) ≡ i + 1 + ahead x y bs → unwrap_or (cond t (Some i) r) (i + suc (length bs)) ≡ i + pick t 0 (1 + ahead x y bs)
    go true r h = omega arith
    go false None h = omega (arith, h)
    go false (Some n) h = omega (arith, h)

pub ahead_told : (x y : ℕ) (part : List ℕ) (r : Option ℕ) (n : ℕ) → r ≡ position (λ b. eqb b x || eqb b y) part → n ≡ unwrap_or r (length part) → n ≡ ahead x y part
ahead_told x y part r n e h =
    let none : 0 + length part ≡ length part = omega arith in
    let same : 0 + ahead x y part ≡ ahead x y part = omega arith in
    h
    ∙ ap (λ (o : Option ℕ). unwrap_or o (length part)) (e ∙ position_from-zero (λ b. eqb b x || eqb b y) part)
    ∙ ap (unwrap_or (position_from (λ b. eqb b x || eqb b y) 0 part)) (sym none)
    ∙ ahead_from x y 0 part
    ∙ same

-- ---- Behind a place

-- what stands from a place on
from_place : (part : List ℕ) (at : ℕ) → take (length part - at) (drop at part) ≡ drop at part
from_place part at = take_all (length part - at) (drop at part) (le_of_eq (length-drop at part))

-- ---- Powers of ten

pub ten_least : (k : ℕ) → 1 ≤ 10 ^ k
ten_least zero = lit≤ tt
ten_least (suc k) = subst (λ (z : ℕ). 1 ≤ z) (sym (pow.suc 10 k)) (more (10 ^ k) (ten_least k))
  where
    more : (n : ℕ) → 1 ≤ n → 1 ≤ n * 10
    more n h = omega arith

-- n is at most n times m, where m is 1 at least
grown : (n m : ℕ) → 1 ≤ m → n ≤ n * m
grown n m h = subst (λ (z : ℕ). z ≤ n * m) (mul-one n) (mul-le-mul_left n h)

ten_mono : (j k : ℕ) → j ≤ k → 10 ^ j ≤ 10 ^ k
ten_mono j k h = subst (λ (z : ℕ). 10 ^ j ≤ z) (sym (pow-add 10 j (k - j)) ∙ ap (λ (z : ℕ). 10 ^ z) (rest j k h)) (grown (10 ^ j) (10 ^ (k - j)) (ten_least (k - j)))
  where
    rest : (j k : ℕ) → j ≤ k → j + (k - j) ≡ k
    rest j k h = omega arith

pub ten_fits : (k : ℕ) → k ≤ 10 → 10 ^ k < 2 ^ 64
ten_fits k h = lt_of_le_of_lt (ten_mono k 10 h) (lit< {m = 10 ^ 10} {n = 2 ^ 64} tt)

-- ---- 1 to so many digits

-- what few digits stand for is a number below 2^64
module _ (most : ℕ) (zs : List ℕ) (M : most ≤ 7) where
  value_below : all_digits zs ≡ true → length zs ≤ most → value_from 0 zs < 2 ^ 24
  value_below d h = lt_of_lt_of_le (digits_below 0 zs d) (le_trans (le_of_eq (one-mul (10 ^ length zs))) (le_trans (ten_mono (length zs) 7 (le_trans h M)) (lit≤ {m = 10 ^ 7} {n = 2 ^ 24} tt)))

  few_number_lem : (leb 1 (length zs) && leb (length zs) most) ≡ true → number_from 0 zs ≡ few_number most zs
  unfolding number_from is_number few_number is_few
  few_number_lem e = rw e (go (all_digits zs) refl)
    where
      go : (t : Bool) → all_digits zs ≡ t → pick (t && ltb (value_from 0 zs) (2 ^ 64)) (Some (value_from 0 zs)) None ≡ pick t (Some (value_from 0 zs)) None
      go true d = rw (lt-ltb (value_from 0 zs) (2 ^ 64) (lt_of_lt_of_le (value_below d (leb-true (length zs) most (and_right (leb 1 (length zs)) (leb (length zs) most) e))) (lit≤ {m = 2 ^ 24} {n = 2 ^ 64} tt)))
      go false d = refl

few_not : (most : ℕ) (zs : List ℕ) → (leb 1 (length zs) && leb (length zs) most) ≡ false → None ≡ few_number most zs
unfolding few_number is_few
few_not most zs e = rw e

few_by : (most : ℕ) (zs : List ℕ) (t : Bool) → is_few most zs ≡ t → few_number most zs ≡ pick t (Some (value_from 0 zs)) None
unfolding few_number
few_by most zs t e = rw e

few_is : (most : ℕ) (zs : List ℕ) (n : ℕ) → few_number most zs ≡ Some n → (is_few most zs ≡ true) × (value_from 0 zs ≡ n)
few_is most zs n e = go (is_few most zs) refl
  where
    go : (t : Bool) → is_few most zs ≡ t → (is_few most zs ≡ true) × (value_from 0 zs ≡ n)
    go true h = let is : Some (value_from 0 zs) ≡ Some n = sym (few_by most zs true h) ∙ e in (h, cc)
    go false h = absurd (no_number n (sym e ∙ few_by most zs false h))

few_none : (most : ℕ) (zs : List ℕ) → few_number most zs ≡ None → is_few most zs ≡ false
few_none most zs e = go (is_few most zs) refl
  where
    go : (t : Bool) → is_few most zs ≡ t → is_few most zs ≡ false
    go true h = absurd (no_number (value_from 0 zs) (sym (few_by most zs true h) ∙ e))
    go false h = h

-- digits in two parts, counted together
module _ (whole after : List ℕ) (most : ℕ) (r : Bool) (er : r ≡ (leb 1 (length whole + length after) && leb (length whole + length after) most)) where
  counted : (t : Bool) → r ≡ t → (leb 1 (length (whole ++ after)) && leb (length (whole ++ after)) most) ≡ t
  counted t e = ap (λ (n : ℕ). leb 1 n && leb n most) (length-append whole after) ∙ sym er ∙ e

  pub number_many : r ≡ false → None ≡ few_number most (whole ++ after)
  number_many e = few_not most (whole ++ after) (counted false e)

  module _ (M : most ≤ 7) (e : r ≡ true) where
    pub number_none : number_from 0 whole ≡ None → None ≡ few_number most (whole ++ after)
    number_none h = sym (append_none 0 whole after h) ∙ few_number_lem most (whole ++ after) M (counted true e)

    pub number_some : (n : ℕ) → number_from 0 whole ≡ Some n → number_from n after ≡ few_number most (whole ++ after)
    number_some n h = sym (append_number 0 whole after n h) ∙ few_number_lem most (whole ++ after) M (counted true e)

-- ---- The power of ten

module _ (minus : Bool) (digits : List ℕ) where
  by_few : (t : Bool) → is_few 2 digits ≡ t → power_by minus digits ≡ pick t (Some (pick minus (Lowered (value_from 0 digits)) (Raised (value_from 0 digits)))) None
  unfolding power_by
  by_few t e = rw e

  pub power_none : few_number 2 digits ≡ None → power_by minus digits ≡ None
  power_none h = by_few false (few_none 2 digits h)

  value : (p : ℕ) → few_number 2 digits ≡ Some p → power_by minus digits ≡ Some (pick minus (Lowered p) (Raised p))
  value p h = let f = few_is 2 digits p h in by_few true f.0 ∙ ap (λ (n : ℕ). Some (pick minus (Lowered n) (Raised n))) f.1

  pub power_lowered : (p : ℕ) → few_number 2 digits ≡ Some p → minus ≡ true → power_by minus digits ≡ Some (Lowered p)
  power_lowered p h e = value p h ∙ ap (λ (t : Bool). Some (pick t (Lowered p) (Raised p))) e

  pub power_raised : (p : ℕ) → few_number 2 digits ≡ Some p → minus ≡ false → power_by minus digits ≡ Some (Raised p)
  power_raised p h e = value p h ∙ ap (λ (t : Bool). Some (pick t (Lowered p) (Raised p))) e

pub power_zero : (part : List ℕ) → length part < 1 → power_of part ≡ Some (Raised 0)
unfolding power_of
power_zero [] h = refl
power_zero (x ∷ xs) h = absurd (omega arith)

pub power_bare : (part : List ℕ) → length part ≡ 1 → power_of part ≡ None
unfolding power_of
power_bare [] h = absurd (omega arith)
power_bare (x ∷ []) h = refl
power_bare (x ∷ y ∷ ys) h = absurd (let z : suc (suc (length ys)) ≡ 1 = h in omega arith)

signed : (e s : ℕ) (xs : List ℕ) (t u : Bool) → eqb s 45 ≡ t → eqb s 43 ≡ u → power_of (e ∷ s ∷ xs) ≡ pick t (power_by true xs) (pick u (power_by false xs) (power_by false (s ∷ xs)))
unfolding power_of
signed e s xs t u et eu = simp (et, eu)

-- a part from the e on, with a byte at least behind it
pub power_minus : (part : List ℕ) → 2 ≤ length part → get_or part 1 0 ≡ 45 → power_of part ≡ power_by true (take (length part - 2) (drop 2 part))
power_minus [] n h = absurd (omega arith)
power_minus (x ∷ []) n h = absurd (omega arith)
power_minus (x ∷ s ∷ xs) n h = signed x s xs true (eqb s 43) (eq-eqb s 45 h) refl ∙ ap (power_by true) (sym (take_all (suc (suc (length xs)) - 2) xs (omega arith)))

pub power_plus : (part : List ℕ) → 2 ≤ length part → get_or part 1 0 ≡ 43 → power_of part ≡ power_by false (take (length part - 2) (drop 2 part))
power_plus [] n h = absurd (omega arith)
power_plus (x ∷ []) n h = absurd (omega arith)
power_plus (x ∷ s ∷ xs) n h =
    let other : s ≡ 45 → ⊥ = λ e. omega arith in
    signed x s xs false true (ne_eqb s 45 other) (eq-eqb s 43 h) ∙ ap (power_by false) (sym (take_all (suc (suc (length xs)) - 2) xs (omega arith)))

pub power_plain : (part : List ℕ) → 2 ≤ length part → (get_or part 1 0 ≡ 45 → ⊥) → (get_or part 1 0 ≡ 43 → ⊥) → power_of part ≡ power_by false (take (length part - 1) (drop 1 part))
power_plain [] n m p = absurd (omega arith)
power_plain (x ∷ []) n m p = absurd (omega arith)
power_plain (x ∷ s ∷ xs) n m p = signed x s xs false false (ne_eqb s 45 m) (ne_eqb s 43 p) ∙ ap (power_by false) (sym (take_all (suc (suc (length xs)) - 1) (s ∷ xs) (omega arith)))

-- ---- The number, rounded once

zero_units : nearest_units 0 1 ≡ 0
unfolding nearest_units nearest_whole size
zero_units = refl

nearest_zero : (d : ℕ) → 0 < d → nearest_units 0 d ≡ 0
nearest_zero d h = nearest_same 0 d 0 1 h (lit< tt) (zero-mul 1 ∙ sym (zero-mul d)) ∙ zero_units

zero_unread : usable_factor 0 ≡ None
unfolding usable_factor usable
zero_unread = refl

-- zero is no exposure
pub scaled_zero : (n d k : ℕ) → n ≡ 0 → n < d * 2 ^ 24 → None ≡ usable_factor (nearest_units (n * 2 ^ (k + 149)) d)
scaled_zero n d k e h =
    sym (ap (λ (z : ℕ). usable_factor (nearest_units (z * 2 ^ (k + 149)) d)) e ∙ ap (λ (z : ℕ). usable_factor (nearest_units z d)) (zero-mul (2 ^ (k + 149))) ∙ ap usable_factor (nearest_zero d (some n d h)) ∙ zero_unread)
  where
    some : (n d : ℕ) → n < d * 2 ^ 24 → 0 < d
    some n d h = omega arith

pub scaled_some : (r : Float) (n : ℕ) → r ≡ of_units n → usable n ≡ true → Some r ≡ usable_factor n
unfolding usable_factor
scaled_some r n e h = ap Some e ∙ ap (λ (t : Bool). pick t (Some (of_units n)) None) (sym h)

-- what `scaled` asks for
pub over_ten : (n t k : ℕ) → n < 2 ^ 24 → t ≡ 10 ^ k → n < t * 2 ^ 24
over_ten n t k h e = reach n t h (subst (λ (z : ℕ). 1 ≤ z) (sym e) (ten_least k))
  where
    reach : (n t : ℕ) → n < 2 ^ 24 → 1 ≤ t → n < t * 2 ^ 24
    reach n t h k = omega arith

ten_under : (t k : ℕ) → t ≡ 10 ^ k → k ≤ 10 → t ≤ 2 ^ 34
ten_under t k e h = le_trans (subst (λ (z : ℕ). z ≤ 10 ^ 10) (sym e) (ten_mono k 10 h)) (lit≤ {m = 10 ^ 10} {n = 2 ^ 34} tt)

pub raised_under : (t p after : ℕ) → t ≡ 10 ^ (after - p) → after ≤ 7 → t ≤ 2 ^ 34
raised_under t p after e h = ten_under t (after - p) e (omega arith)

pub lowered_under : (t p after : ℕ) → t ≡ 10 ^ (p + after) → after ≤ 7 → p ≤ 10 - after → t ≤ 2 ^ 34
lowered_under t p after e h k = ten_under t (p + after) e (omega arith)

times_ten : (n t k : ℕ) → n < 2 ^ 24 → t ≡ 10 ^ k → k ≤ 10 → n * t < 2 ^ 24 * 2 ^ 34
times_ten n t k h e l = lt_of_le_of_lt (mul-le-mul_left n (ten_under t k e l)) (mul-lt-mul_of_pos_right h (pow_pos 34))

pub times_under : (n t k : ℕ) → n < 2 ^ 24 → t ≡ 10 ^ k → k ≤ 10 → n * t < 17179869184 * 2 ^ 24
times_under n t k h e l = turn (n * t) (times_ten n t k h e l)
  where
    turn : (m : ℕ) → m < 2 ^ 24 * 2 ^ 34 → m < 17179869184 * 2 ^ 24
    turn m h = omega arith

pub times_fits : (n t k : ℕ) → n < 2 ^ 24 → t ≡ 10 ^ k → k ≤ 10 → n * t < 2 ^ 64
times_fits n t k h e l = wide (n * t) (times_ten n t k h e l)
  where
    wide : (m : ℕ) → m < 2 ^ 24 * 2 ^ 34 → m < 2 ^ 64
    wide m h = omega arith

raised_by : (n p after : ℕ) (t : Bool) → leb (p - after) 10 ≡ t → scaled_units n (Some (Raised p)) after ≡ pick t (units (nearest_units (n * 10 ^ (p - after) * 2 ^ 149) (10 ^ (after - p)))) unread
unfolding scaled_units
raised_by n p after t e = rw e

lowered_by : (n p after : ℕ) (t : Bool) → leb (p + after) 10 ≡ t → scaled_units n (Some (Lowered p)) after ≡ pick t (units (nearest_units (n * 2 ^ 149) (10 ^ (p + after)))) unread
unfolding scaled_units
lowered_by n p after t e = rw e

module _ (n p after : ℕ) where
  pub raised_over : 10 < p - after → None ≡ factor_of (scaled_units n (Some (Raised p)) after)
  raised_over h = sym (ap factor_of (raised_by n p after false (lt-leb (p - after) 10 h)))

  pub raised_down : (t : ℕ) (r : Option Float) → p < after → t ≡ 10 ^ (after - p) → r ≡ usable_factor (nearest_units (n * 2 ^ (0 + 149)) t) → r ≡ factor_of (scaled_units n (Some (Raised p)) after)
  raised_down t r h e k =
      let none : 0 ≡ p - after = omega arith in
      k
      ∙ ap (λ (z : ℕ). usable_factor (nearest_units (n * 2 ^ 149) z)) e
      ∙ ap (λ (z : ℕ). usable_factor (nearest_units (z * 2 ^ 149) (10 ^ (after - p)))) (sym (mul-one n) ∙ ap (λ (z : ℕ). n * 10 ^ z) none)
      ∙ sym (ap factor_of (raised_by n p after true (le-leb (p - after) 10 (omega arith))))

  pub raised_up : (t : ℕ) (r : Option Float) → after ≤ p → p - after ≤ 10 → t ≡ 10 ^ (p - after) → r ≡ usable_factor (nearest_units (n * t * 2 ^ (34 + 149)) 17179869184) → r ≡ factor_of (scaled_units n (Some (Raised p)) after)
  raised_up t r h l e k =
      let none : 0 ≡ after - p = omega arith in
      k
      ∙ ap usable_factor (nearest_same (n * t * 2 ^ 183) (2 ^ 34) (n * t * 2 ^ 149) 1 (pow_pos 34) (lit< tt) (mul-one (n * t * 2 ^ 183) ∙ sym (mul_pow_pow (n * t) 149 34 183 refl)))
      ∙ ap (λ (z : ℕ). usable_factor (nearest_units (n * z * 2 ^ 149) 1)) e
      ∙ ap (λ (z : ℕ). usable_factor (nearest_units (n * 10 ^ (p - after) * 2 ^ 149) (10 ^ z))) none
      ∙ sym (ap factor_of (raised_by n p after true (le-leb (p - after) 10 l)))

  pub lowered_over : 10 - after < p → None ≡ factor_of (scaled_units n (Some (Lowered p)) after)
  lowered_over h = sym (ap factor_of (lowered_by n p after false (lt-leb (p + after) 10 (omega arith))))

  pub lowered_down : (t : ℕ) (r : Option Float) → after ≤ 7 → p ≤ 10 - after → t ≡ 10 ^ (p + after) → r ≡ usable_factor (nearest_units (n * 2 ^ (0 + 149)) t) → r ≡ factor_of (scaled_units n (Some (Lowered p)) after)
  lowered_down t r a h e k =
      k
      ∙ ap (λ (z : ℕ). usable_factor (nearest_units (n * 2 ^ 149) z)) e
      ∙ sym (ap factor_of (lowered_by n p after true (le-leb (p + after) 10 (omega arith))))

-- ---- The digits, the point and the e

by_digits : (whole after : List ℕ) (power : Option Power) (t : Bool) → is_few 7 (whole ++ after) ≡ t → digit_units whole after power ≡ pick t (scaled_units (value_from 0 (whole ++ after)) power (length after)) unread
unfolding digit_units
by_digits whole after power t e = rw e

few_parts : (most : ℕ) (zs : List ℕ) → is_few most zs ≡ true → (length zs ≤ most) × (all_digits zs ≡ true)
unfolding is_few
few_parts most zs e =
    let counts = leb 1 (length zs) && leb (length zs) most in
    (leb-true (length zs) most (and_right (leb 1 (length zs)) (leb (length zs) most) (and_left counts (all_digits zs) e)), and_right counts (all_digits zs) e)

module _ (whole after : List ℕ) (power : Option Power) where
  pub digits_unread : few_number 7 (whole ++ after) ≡ None → factor_of (digit_units whole after power) ≡ None
  digits_unread h = ap factor_of (by_digits whole after power false (few_none 7 (whole ++ after) h))

  module _ (n : ℕ) (h : few_number 7 (whole ++ after) ≡ Some n) where
    is : (is_few 7 (whole ++ after) ≡ true) × (value_from 0 (whole ++ after) ≡ n)
    is = few_is 7 (whole ++ after) n h

    pub digits_few : n < 2 ^ 24
    digits_few = let f = few_parts 7 (whole ++ after) is.0 in subst (λ (z : ℕ). z < 2 ^ 24) is.1 (value_below 7 (whole ++ after) (lit≤ tt) f.1 f.0)

    pub after_few : length after ≤ 7
    after_few = le_trans (le_trans (more (length whole) (length after)) (le_of_eq (sym (length-append whole after)))) (few_parts 7 (whole ++ after) is.0).0
      where
        more : (m n : ℕ) → n ≤ m + n
        more m n = omega arith

    pub digits_read : factor_of (digit_units whole after power) ≡ factor_of (scaled_units n power (length after))
    digits_read = ap factor_of (by_digits whole after power true is.0) ∙ ap (λ (z : ℕ). factor_of (scaled_units z power (length after))) is.1

-- without a power that can be read there is no number
no_power : (digits : List ℕ) → point_units digits None ≡ unread
unfolding point_units digit_units scaled_units
no_power digits = by_test (λ u. u ≡ unread) (is_few 7 _) (λ _. refl) (λ _. refl)

pub point_read :
    (digits after : List ℕ) (power : Power) (point : ℕ) (r : Option Float) →
    point ≡ ahead 46 46 digits → after ≡ drop (point + 1) digits → r ≡ factor_of (digit_units (take point digits) after (Some power)) → r ≡ factor_of (point_units digits (Some power))
unfolding point_units
point_read digits after power point r e a h =
    h
    ∙ ap (λ (xs : List ℕ). factor_of (digit_units (take point digits) xs (Some power))) a
    ∙ ap (λ (z : ℕ). factor_of (digit_units (take z digits) (drop (z + 1) digits) (Some power))) e

module _ (rest : List ℕ) (e : ℕ) (is : e ≡ ahead 101 69 rest) (power : Option Power) (p : power ≡ power_of (take (length rest - e) (drop e rest))) where
  powered : factor_of (exposure_of rest) ≡ factor_of (point_units (take e rest) power)
  unfolding exposure_of
  powered =
      ap (λ (z : ℕ). factor_of (point_units (take z rest) (power_of (drop z rest)))) (sym is)
      ∙ ap (λ (z : Option Power). factor_of (point_units (take e rest) z)) (sym (p ∙ ap power_of (from_place rest e)))

  pub exposure_bare : power ≡ None → None ≡ factor_of (exposure_of rest)
  exposure_bare h = sym (powered ∙ ap (λ (z : Option Power). factor_of (point_units (take e rest) z)) h ∙ ap factor_of (no_power (take e rest)))

  pub exposure_powered : (q : Power) (r : Option Float) → power ≡ Some q → r ≡ factor_of (point_units (take e rest) (Some q)) → r ≡ factor_of (exposure_of rest)
  exposure_powered q r h k = k ∙ sym (powered ∙ ap (λ (z : Option Power). factor_of (point_units (take e rest) z)) h)
